-- What the lines of a graph file load to.
use Rattle.std.specs.Prelude.{ℕ, ◌+◌, ◌≡◌, ◌≤◌, ◌⊎◌, ◌↔◌, IsTrue, List, [], ◌∷◌, length, Ok, Err}
use Rattle.px_base.specs.declared.lines.TheConstants.{LINE_BYTES, GRAPH_BYTES}
use Rattle.graph_spec.specs.declared.limits.Limits.{Limits}
use Rattle.graph_spec.specs.declared.refusal.Refusal.{Refusal}
use Rattle.graph_spec.specs.Lines.{Line, cut}
use Rattle.graph_spec.specs.Graphs.{Graph}
use Rattle.graph_spec.specs.Shapes.{shape_of}
use Rattle.triples_read.specs.declared.term.Triple.{Triple}
use Rattle.triples_read.specs.Lines.{SpellsTriple, Empty}
use Rattle.triple_names.specs.Names.{Names, AreSameNames}
use Rattle.triple_names.specs.Represented.{Represents, is_among}
use Rattle.triple_names.specs.Histories.{Edit, EditsAll, edited_all}
use Rattle.triple_names.specs.Isomorphic.{IsIsomorphism, Paired}
use Rattle.graph_load.specs.TripleGraphs.{LoadState, nothing_loaded, names_of, with_triple}

-- what a load comes to, where this is what it leaves of a whole file
pub data OutcomeOf (X : Type 0) : Type 0 where
  -- what is left of all triples
  loaded : X → OutcomeOf X
  -- the line of that number is neither spelled nor empty
  syntax : ℕ → OutcomeOf X
  -- the line of that number passes a limit on lines or on the text, or needs a node, an edge or a label past its limit
  limit : ℕ → OutcomeOf X

-- the graph of all triples
abbrev pub Outcome : Type 0
Outcome = OutcomeOf Graph

-- the same with the numbers of their terms and of the triples
abbrev pub Ending : Type 0
Ending = OutcomeOf LoadState

-- the outcome, without the numbers of terms and triples
abbrev pub outcome_of : Ending → Outcome
outcome_of (loaded l) = loaded l.graph
outcome_of (syntax n) = syntax n
outcome_of (limit n) = limit n

-- how far a file is loaded
pub record Place : Type 0 where
  -- what is loaded
  pub state : LoadState
  -- the lines that were taken, and their bytes with their ends
  pub lines : ℕ
  pub bytes : ℕ

-- nothing is loaded, and no line was taken
abbrev pub at_start : Place
at_start = record { state = nothing_loaded; lines = 0; bytes = 0 }

-- past the line, with this loaded
abbrev pub past : Place → Line → LoadState → Place
past p l state = record { state = state; lines = p.lines + 1; bytes = p.bytes + length l.text + length l.end }

-- the line is within the limit on a line, and the bytes up to its end are within the limit on a graph file
abbrev pub IsWithinFile : Place → Line → Type 0
IsWithinFile p l = (length l.text ≤ LINE_BYTES) × (p.bytes + length l.text + length l.end ≤ GRAPH_BYTES)

-- What becomes of a line that is within the limits on lines: it is empty, or spells a triple, which is loaded or refused,
-- or neither. What follows is said of the place behind it.
pub data LoadsLine (limits : Limits) (p : Place) (l : Line) (rest : Place → Ending → Type 0) : Ending → Type 0 where
  empty : Empty l.text → (e : Ending) → rest (past p l p.state) e → LoadsLine limits p l rest e
  takes : (t : Triple) → SpellsTriple l.text t → (m : LoadState) → with_triple limits t p.state ≡ Ok m
      → (e : Ending) → rest (past p l m) e → LoadsLine limits p l rest e
  refuses : (t : Triple) → SpellsTriple l.text t → (r : Refusal) → with_triple limits t p.state ≡ Err r → LoadsLine limits p l rest (limit (p.lines + 1))
  neither : ((t : Triple) → SpellsTriple l.text t → ⊥) → (Empty l.text → ⊥) → LoadsLine limits p l rest (syntax (p.lines + 1))

-- The load of the lines from the place on ends so. The first line that is refused decides.
abbrev pub LoadsFrom : Limits → List Line → Place → Ending → Type 0
LoadsFrom limits [] p e = e ≡ loaded p.state
LoadsFrom limits (l ∷ ls) p e =
    ((¬ IsWithinFile p l) × (e ≡ limit (p.lines + 1)))
    ⊎ (IsWithinFile p l × LoadsLine limits p l (LoadsFrom limits ls) e)

-- the text loads to this
pub record Loads (limits : Limits) (text : List ℕ) (o : Outcome) : Type 0 where
  -- how the load ends
  pub ending : Ending
  -- the lines of the text lead to it
  pub ends : LoadsFrom limits (cut text) at_start ending
  -- the outcome tells it
  pub is : o ≡ outcome_of ending

-- the text loads to this graph, and its terms and triples get these numbers
pub record LoadsNamed (limits : Limits) (text : List ℕ) (g : Graph) (n : Names) : Type 0 where
  -- what the load has in the end
  pub state : LoadState
  -- the lines of the text lead to it
  pub ends : LoadsFrom limits (cut text) at_start (loaded state)
  -- the graph is the one that was loaded
  pub graph : g ≡ state.graph
  -- terms and triples have the numbers that the load gave them
  pub names : AreSameNames n (names_of state)

-- one of the lines spells the triple
abbrev pub SpelledIn : List Line → Triple → Type 0
SpelledIn [] t = ⊥
SpelledIn (l ∷ ls) t = SpellsTriple l.text t ⊎ SpelledIn ls t

-- The graph with the names represents the triples that the lines of the text spell.
abbrev pub RepresentsText : List ℕ → Graph → Names → Type 0
RepresentsText text g n = (s : List Triple) × Represents g n s × ((t : Triple) → IsTrue (is_among s t) ↔ SpelledIn (cut text) t)

-- Up to the numbers of nodes the graph, which represents the triples by the names, is that to which any text of these triples loads.
abbrev pub IsAsLoaded : Graph → Names → List Triple → Type 0
IsAsLoaded g n s = (limits : Limits) (text : List ℕ) (h : Graph) (k : Names) → LoadsNamed limits text h k
    → ((t : Triple) → IsTrue (is_among s t) ↔ SpelledIn (cut text) t) → IsIsomorphism (shape_of g) (shape_of h) (Paired n k s)

-- The text has triples, and accepted inserts and deletes leave a graph that is as loaded from those that are present then.
abbrev pub StaysAsLoaded : List ℕ → Graph → Names → Type 0
StaysAsLoaded text g n = (s : List Triple) × ((t : Triple) → IsTrue (is_among s t) ↔ SpelledIn (cut text) t)
    × ((limits : Limits) (es : List Edit) (h : Graph) (k : Names) → EditsAll limits es g n h k → IsAsLoaded h k (edited_all es s))
