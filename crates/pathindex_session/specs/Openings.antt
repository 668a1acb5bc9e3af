-- The engine of a session that is opened with a text.
use Rattle.std.specs.Prelude.{ℕ, ⊤, List, [], ◌∷◌, ◌++◌, ◌≡◌, if◌then◌else◌}
use Rattle.graph_spec.specs.ProgramLimits.{program_limits}
use Rattle.graph_spec.specs.Graphs.{Graph}
use Rattle.bisim_spec.specs.declared.kind.Kind.{Kind}
use Rattle.bisim_spec.specs.declared.kind.Kind.TheVariants.{A, One, Fb, B}
use Rattle.triple_names.specs.Names.{Names}
use Rattle.graph_load.specs.Loads.{Loads, LoadsNamed, loaded, syntax, limit}
use Rattle.pathindex_core.specs.Engines.{EngineOf}
use Rattle.pathindex_core.specs.EngineTerms.{IsOpenedWith, engine_kinds}
use Rattle.any_index.specs.declared.any.AnyIndex.{AnyIndex}
use Rattle.any_index.specs.AnyMeanings.{meaning_of}
use Rattle.pathindex_session.specs.declared.errors.OpenError.{OpenError}
use Rattle.pathindex_session.specs.declared.errors.OpenError.TheVariants as error
use Rattle.pathindex_session.specs.declared.opening.Indexes.{Indexes}

-- the kinds of indexes that are kept
abbrev pub kinds_kept : Indexes → List Kind
kinds_kept kept = A ∷ (if kept.one then One ∷ [] else []) ++ (if kept.fb then Fb ∷ [] else []) ++ (if kept.bk then B ∷ [] else [])

-- the engine has this graph and keeps these indexes
pub record OpensGraph (g : Graph) (kept : Indexes) (e : EngineOf AnyIndex) : Type 0 where
  -- the engine is open with this graph, the limits of the program and this highest level
  pub opened : IsOpenedWith e g program_limits kept.k
  -- it keeps indexes of just the kinds that were asked for
  pub kinds : engine_kinds meaning_of e ≡ kinds_kept kept

-- the same with the graph of the triples in a text, and with the numbers that the load gave its terms and triples
pub record OpensText (text : List ℕ) (kept : Indexes) (e : EngineOf AnyIndex) (n : Names) : Type 0 where
  -- the graph of the text
  pub graph : Graph
  -- the text loads to it
  pub loads : Loads program_limits text (loaded graph)
  -- its terms and triples have these numbers
  pub named : LoadsNamed program_limits text graph n
  -- the engine is open on it
  pub opens : OpensGraph graph kept e

-- the line that an error names is the one at which the text is refused, and for that reason
abbrev pub TellsLine : List ℕ → OpenError → Type 0
TellsLine text (error.Syntax l) = Loads program_limits text (syntax l)
TellsLine text (error.Limit l) = Loads program_limits text (limit l)
TellsLine text error.Memory = ⊤
