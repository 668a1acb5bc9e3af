-- Where terms and predicates stand in their tables, and the triples whose parts stand there.
use Rattle.std.specs.Prelude.{◌≡◌, ℕ, zero, suc, Bool, false, not, ◌&&◌, List, [], ◌∷◌, ◌++◌, slice_get, unwrap_or, position, bytes_eq, nat_eq, Some, if◌then◌else◌}
use Rattle.std.specs.List.{list_any, AllByRecursion}
use Rattle.std.specs.Map.{keys_of}
use Rattle.change_spec.specs.Steps.{Step, node}
use Rattle.triples_read.specs.declared.term.Term.{Term}
use Rattle.triples_read.specs.declared.term.Term.TheVariants.{Iri}
use Rattle.triples_read.specs.declared.term.Triple.{Triple}
use Rattle.triple_names.specs.declared.triple_table.Key.{Key}
use Rattle.triple_names.specs.Items.{predicate_label}
use Rattle.term_table.specs.Terms.{same_term, place_in}

-- the term at the place; an empty IRI past the end
abbrev pub term_at : List (Term × ℕ) → ℕ → Term
term_at terms place = unwrap_or (slice_get (keys_of terms) place) (Iri [])

-- the predicate at the place; an empty one past the end
abbrev pub predicate_at : List (List ℕ) → ℕ → List ℕ
predicate_at predicates place = unwrap_or (slice_get predicates place) []

-- the predicates, and this one behind them where it is new
abbrev pub with_predicate : List (List ℕ) → List ℕ → List (List ℕ)
with_predicate predicates iri = if list_any (bytes_eq iri) predicates then predicates else predicates ++ iri ∷ []

-- beside each predicate stands the change that adds the node of a triple with it
abbrev pub AddLabels : List (List ℕ × List Step) → Type 0
AddLabels entries = AllByRecursion (λ e. e.1 ≡ node (predicate_label e.0) ∷ []) entries

-- the three places are the same
abbrev pub same_key : Key → Key → Bool
same_key k l = nat_eq k.subject l.subject && (nat_eq k.predicate l.predicate && nat_eq k.object l.object)

-- whether the first that passes has this place
abbrev pub stands : {X : Type 0} → (X → Bool) → List X → ℕ → Bool
stands p [] k = false
stands p (x ∷ xs) zero = p x
stands p (x ∷ xs) (suc k) = not (p x) && stands p xs k

-- whether the key is that of the triple
abbrev pub is_key_of : List (Term × ℕ) → List (List ℕ) → Triple → Key → Bool
is_key_of terms predicates t k =
    stands (same_term t.subject) (keys_of terms) k.subject
    && (stands (bytes_eq t.predicate) predicates k.predicate && stands (same_term t.object) (keys_of terms) k.object)

-- the triple whose parts stand there
abbrev pub triple_at : List (Term × ℕ) → List (List ℕ) → Key → Triple
triple_at terms predicates k = record { subject = term_at terms k.subject; predicate = predicate_at predicates k.predicate; object = term_at terms k.object }

-- what stands at the places of the key stands nowhere before them
pub record IsKeyIn (terms : List (Term × ℕ)) (predicates : List (List ℕ)) (k : Key) : Type 0 where
  -- what stands at each of the three places stands nowhere before it
  pub subject : place_in terms (term_at terms k.subject) ≡ Some k.subject
  pub predicate : position (bytes_eq (predicate_at predicates k.predicate)) predicates ≡ Some k.predicate
  pub object : place_in terms (term_at terms k.object) ≡ Some k.object

-- what stands at the places of each entry's key stands nowhere before them
abbrev pub AreKeysIn : {V : Type 0} → List (Term × ℕ) → List (List ℕ) → List (Key × V) → Type 0
AreKeysIn terms predicates entries = AllByRecursion (λ e. IsKeyIn terms predicates e.0) entries

-- the parts of the triple stand at the places of the key
pub record HasKey (terms : List (Term × ℕ)) (predicates : List (List ℕ)) (t : Triple) (k : Key) : Type 0 where
  -- the subject, the predicate and the object each stand at their place
  pub subject : place_in terms t.subject ≡ Some k.subject
  pub predicate : position (bytes_eq t.predicate) predicates ≡ Some k.predicate
  pub object : place_in terms t.object ≡ Some k.object

-- no key is that of the triple
abbrev pub LacksKey : List (Term × ℕ) → List (List ℕ) → Triple → Type 0
LacksKey terms predicates t = (ks : List Key) → list_any (is_key_of terms predicates t) ks ≡ false
