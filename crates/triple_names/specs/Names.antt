-- The numbers of terms and of triples.
use Rattle.std.specs.Prelude.{◌≡◌, ℕ, Bool, List, [], ◌∷◌, Option, Some, None, if◌then◌else◌}
use Rattle.std.specs.Map.{lookup}
use Rattle.graph_spec.specs.Graphs.{Graph, is_live}
use Rattle.triples_read.specs.declared.term.Term.{Term}
use Rattle.triples_read.specs.declared.term.Triple.{Triple}
use Rattle.term_table.specs.Terms.{number_of}
use Rattle.triple_names.specs.Items.{Item, of_term, of_triple, same_triple}

-- each term, and each triple, that was ever given a number, with the last one
pub record Names : Type 0 where
  -- the number of each term
  pub terms : List (Term × ℕ)
  -- the number of each triple
  pub triples : List (Triple × ℕ)

-- no term and no triple was ever given a number
abbrev pub no_names : Names
no_names = record { terms = []; triples = [] }

-- the number of a triple
abbrev pub triple_number : List (Triple × ℕ) → Triple → Option ℕ
triple_number triples t = lookup (same_triple t) triples

-- the number of a term, or of a triple; none where it was never given one
abbrev pub number_in : Names → Item → Option ℕ
number_in n (of_term x) = number_of n.terms x
number_in n (of_triple t) = triple_number n.triples t

-- each term and each triple has the same number, or none, in both
abbrev pub AreSameNames : Names → Names → Type 0
AreSameNames n k = (p : Item) → number_in n p ≡ number_in k p

-- the number, where it is that of a live node
abbrev pub if_live : Graph → Option ℕ → Option ℕ
if_live g None = None
if_live g (Some m) = if is_live g m then Some m else None

-- the node of an item that is there
abbrev pub node_there : Names → Graph → Item → Option ℕ
node_there n g p = if_live g (number_in n p)

-- the entry with this key gets the number; it is put behind the others where there is none
abbrev pub with_number : {X : Type 0} → (X → Bool) → X → ℕ → List (X × ℕ) → List (X × ℕ)
with_number same x n [] = (x, n) ∷ []
with_number same x n (e ∷ es) = if same e.0 then ((e.0, n) ∷ es) else (e ∷ with_number same x n es)

-- the names, and the triples whose numbers can be noted with no more memory
pub record ReservedNames : Type 0 where
  -- the numbers of terms and triples
  pub names : Names
  -- the triples whose numbers need no more memory
  pub reserved : List Triple
