-- What a loader keeps of what is loaded.
use Rattle.std.specs.Prelude.{◌≡◌, ℕ, ◌≤◌, Bool, List, length, position, bytes_eq, Option, Some, Result, Ok, Err}
use Rattle.std.specs.List.{list_any}
use Rattle.std.specs.Map.{keys_of, lookup}
use Rattle.graph_spec.specs.declared.limits.Limits.{Limits}
use Rattle.graph_spec.specs.declared.refusal.Refusal.{Refusal}
use Rattle.label_graph.specs.ReservedGraphs.{none_reserved}
use Rattle.triples_read.specs.declared.term.Term.{Term}
use Rattle.triples_read.specs.declared.term.Triple.{Triple}
use Rattle.term_table.specs.Terms.{number_of}
use Rattle.graph_load.specs.declared.loader.Loader.{Loader}
use Rattle.graph_load.specs.declared.loader.Places.{Places}
use Rattle.term_table.specs.Entries.{Begins}
use Rattle.term_table.specs.FoundTerms.{IsFoundAs}
use Rattle.graph_load.specs.TripleGraphs.{LoadState, with_triple}
use Rattle.triple_names.specs.Names.{triple_number}
use Rattle.triple_names.specs.TableIndexes.{is_key_of, AreKeysIn}

-- what is loaded, where these are the triples
abbrev pub load_state : Loader → List (Triple × ℕ) → LoadState
load_state r triples = record { graph = r.graph.graph; terms = r.terms; triples = triples }

-- whether one of the known keys is that of the triple
abbrev pub is_known : Loader → Triple → Bool
is_known r t = list_any (is_key_of r.terms r.predicates t) (keys_of r.known)

-- the number of a triple's node
abbrev pub number_known : Loader → Triple → Option ℕ
number_known r t = lookup (is_key_of r.terms r.predicates t) r.known

-- where the parts of a triple stand
pub record ArePlaces (r : Loader) (t : Triple) (p : Places) : Type 0 where
  -- the place and the number of the subject
  pub subject : IsFoundAs r.terms t.subject p.subject
  -- the place of the predicate
  pub predicate : p.predicate ≡ position (bytes_eq t.predicate) r.predicates
  -- the place and the number of the object
  pub object : IsFoundAs r.terms t.object p.object

-- the node of the term has this number
abbrev pub IsNodeOf : Loader → Term → ℕ → Type 0
IsNodeOf r t n = number_of r.terms t ≡ Some n

-- the loader knows just these triples, with their numbers
abbrev pub Holds : Loader → List (Triple × ℕ) → Type 0
Holds r triples = (t : Triple) → triple_number triples t ≡ number_known r t

-- what each loader keeps
pub record IsSoundLoader (r : Loader) : Type 0 where
  -- nothing is reserved in the graph
  pub reserved : r.graph.reserved ≡ none_reserved
  -- there are no more terms than nodes
  pub terms : length r.terms ≤ length r.graph.graph.allocated
  -- nor predicates
  pub predicates : length r.predicates ≤ length r.graph.graph.allocated
  -- the places of each known triple are those of a term, a predicate and a term
  pub known : AreKeysIn r.terms r.predicates r.known

-- nothing is taken out of a table, and no triple is known that wasn't
pub record Grows (old new : Loader) : Type 0 where
  -- new terms stand behind the others
  pub terms : Begins old.terms new.terms
  -- new predicates stand behind the others
  pub predicates : Begins old.predicates new.predicates
  -- the known triples are the same
  pub known : new.known ≡ old.known

-- a step leads from the one loader to the other
pub record LoaderStep (step : LoadState → Result LoadState Refusal) (old new : Loader) : Type 0 where
  -- the step makes of the one state the other, whatever the triples
  pub does : (triples : List (Triple × ℕ)) → step (load_state old triples) ≡ Ok (load_state new triples)
  -- what holds of each loader holds of this one
  pub sound : IsSoundLoader new
  -- its tables have what they had, and no further triple is known
  pub grows : Grows old new

-- a step is refused
abbrev pub IsStopped : (LoadState → Result LoadState Refusal) → Loader → Type 0
IsStopped step r = (triples : List (Triple × ℕ)) → (refusal : Refusal) × (step (load_state r triples) ≡ Err refusal)

-- the triple is loaded: it was, or its nodes and edges are added
pub record IsTaken (limits : Limits) (t : Triple) (old new : Loader) : Type 0 where
  -- what holds of each loader holds of this one
  pub sound : IsSoundLoader new
  -- by the definition of the load, what the loader knew and this triple lead to what it knows now
  pub does : (triples : List (Triple × ℕ)) → Holds old triples
      → (more : List (Triple × ℕ)) × Holds new more × (with_triple limits t (load_state old triples) ≡ Ok (load_state new more))

-- the triple is refused
abbrev pub IsUntaken : Limits → Triple → Loader → Type 0
IsUntaken limits t r = (triples : List (Triple × ℕ)) → Holds r triples → (refusal : Refusal) × (with_triple limits t (load_state r triples) ≡ Err refusal)
