-- A session as it is seen.
use Rattle.std.specs.Prelude.{ℕ, List, refl, ◌≡◌}
use Rattle.std.specs.Coded.{Coded, code_by, coded×, coded_list, coded_ℕ}
use Rattle.graph_spec.specs.Graphs.{Graph}
use Rattle.triple_names.specs.Names.{Names, ReservedNames}
use Rattle.triple_names.specs.NameCodes.{names_code}
use Rattle.pathindex_core.specs.Engines.{EngineOf, EngineSeen, engine_code, by_meaning, IsSound}
use Rattle.pathindex_core.specs.EngineTerms.{IsOpened, engine_graph}
use Rattle.any_index.specs.declared.any.AnyIndex.{AnyIndex}
use Rattle.any_index.specs.contracts.any.AnyIndex.{the_row as index_row}
use Rattle.any_index.specs.AnyMeanings.{meaning_of}

-- a session as its callers see it
pub record SessionOf : Type 0 where
  -- the engine, with its graph and its indexes
  pub engine : EngineOf AnyIndex
  -- the numbers of terms and of triples
  pub names : ReservedNames
  -- the answers that were found last, rising
  pub nodes : List ℕ
  -- the walk that was found last
  pub walk : List ℕ
  -- the list of blocks or of sizes, or the index file, that was made last
  pub text : List ℕ

-- the code of a session is that of its parts
abbrev pub session_code : Coded SessionOf
session_code =
    code_by (EngineOf AnyIndex × (ReservedNames × (List ℕ × (List ℕ × List ℕ))))
    (coded× (engine_code index_row.coded) (coded× names_code (coded× (coded_list coded_ℕ) (coded× (coded_list coded_ℕ) (coded_list coded_ℕ)))))
    (λ s. (s.engine, (s.names, (s.nodes, (s.walk, s.text)))))
    (λ p. record { engine = p.0; names = p.1.0; nodes = p.1.1.0; walk = p.1.1.1.0; text = p.1.1.1.1 }) (λ _. refl)

-- the engine of a session, by what its indexes mean
abbrev pub engine_in : SessionOf → EngineSeen
engine_in s = by_meaning meaning_of s.engine

-- the graph of a session
abbrev pub graph_of : SessionOf → Graph
graph_of s = engine_graph s.engine

-- the numbers of its terms and triples
abbrev pub names_of : SessionOf → Names
names_of s = s.names.names

-- What holds of a session's engine between two calls.
pub record IsOpenAndSound (e : EngineOf AnyIndex) : Type 0 where
  -- the engine is open
  pub is_open : IsOpened e
  -- each index fits the graph
  pub sound : IsSound (by_meaning meaning_of e)

-- what was found last stays
pub record KeepsFound (s t : SessionOf) : Type 0 where
  -- the nodes found last
  pub nodes : t.nodes ≡ s.nodes
  -- the walk found last
  pub walk : t.walk ≡ s.walk
  -- the text made last
  pub text : t.text ≡ s.text
