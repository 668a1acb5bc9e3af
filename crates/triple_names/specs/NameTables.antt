-- The tables of names: those of a load, and what was staged and noted since, which is in front of them.
use Rattle.std.specs.Prelude.{◌≡◌, ℕ, Bool, ◌++◌, List, [], ◌∷◌, map, Option, None, Some, nat_eq, is_some, IsSome, if◌then◌else◌}
use Rattle.std.specs.List.{AllByRecursion}
use Rattle.std.specs.Map.{keys_of, lookup}
use Rattle.triples_read.specs.declared.term.Term.{Term}
use Rattle.triples_read.specs.declared.term.Triple.{Triple}
use Rattle.term_table.specs.Entries.{Begins}
use Rattle.term_table.specs.Terms.{number_of, place_in}
use Rattle.triple_names.specs.declared.triple_table.Key.{Key}
use Rattle.triple_names.specs.Names.{ReservedNames}
use Rattle.triple_names.specs.TableIndexes.{is_key_of, same_key, triple_at, AreKeysIn}

-- what was noted, else the number of the table; what is staged and has no number is noted as having none
abbrev pub later_or : Option (Option ℕ) → Option ℕ → Option ℕ
later_or None n = n
later_or (Some n) old = n

-- what was noted of the term at the place
abbrev pub later_at : List (ℕ × Option ℕ) → Option ℕ → Option (Option ℕ)
later_at later None = None
later_at later (Some place) = lookup (nat_eq place) later

-- the number of a term: what was noted of its place, else that of the table
abbrev pub term_number : List (Term × ℕ) → List (ℕ × Option ℕ) → Term → Option ℕ
term_number terms later x = later_or (later_at later (place_in terms x)) (number_of terms x)

-- the number of a triple: what was noted of its key, else that of its entry
abbrev pub number_by_key : List (Term × ℕ) → List (List ℕ) → List (Key × ℕ) → List (Key × Option ℕ) → Triple → Option ℕ
number_by_key terms predicates entries later t = later_or (lookup (is_key_of terms predicates t) later) (lookup (is_key_of terms predicates t) entries)

-- the item in front of the others, with its number where it has one
abbrev pub with_item : {X : Type 0} → X → Option ℕ → List (X × ℕ) → List (X × ℕ)
with_item x None es = es
with_item x (Some n) es = (x, n) ∷ es

-- those that have a number, with it
abbrev pub numbered : {X : Type 0} → (X → Option ℕ) → List X → List (X × ℕ)
numbered f [] = []
numbered f (x ∷ xs) = with_item x (f x) (numbered f xs)

-- the triples with these keys
abbrev pub triples_at : List (Term × ℕ) → List (List ℕ) → List Key → List Triple
triples_at terms predicates ks = map (triple_at terms predicates) ks

-- What the tables say: each term and each triple that has a number, and the triples that were staged.
abbrev pub names_by : List (Term × ℕ) → List (List ℕ) → List (Key × ℕ) → List (ℕ × Option ℕ) → List (Key × Option ℕ) → ReservedNames
names_by terms predicates entries later_terms later_triples = record {
  names = record {
    terms = numbered (term_number terms later_terms) (keys_of terms);
    triples = numbered (number_by_key terms predicates entries later_triples) (triples_at terms predicates (keys_of entries ++ keys_of later_triples));
  };
  reserved = triples_at terms predicates (keys_of later_triples);
}

-- the entries, and this one behind them where its key is new
abbrev pub with_entry : {K V : Type 0} → (K → Bool) → K × V → List (K × V) → List (K × V)
with_entry same e es = if is_some (lookup same es) then es else es ++ e ∷ []

-- the number is noted of this place
abbrev pub IsSetAt : ℕ → Option ℕ → List (ℕ × Option ℕ) → List (ℕ × Option ℕ) → Type 0
IsSetAt place number later new = (n : ℕ) → lookup (nat_eq n) new ≡ (if nat_eq place n then Some number else lookup (nat_eq n) later)

-- the number is noted of this key
abbrev pub IsSetAtKey : Key → ℕ → List (Key × Option ℕ) → List (Key × Option ℕ) → Type 0
IsSetAtKey k number later new = (q : Key) → lookup (same_key q) new ≡ (if same_key k q then Some (Some number) else lookup (same_key q) later)

-- the term stands there, and a number of its own can be noted
pub record HasPlace (terms : List (Term × ℕ)) (later : List (ℕ × Option ℕ)) (x : Term) (n : ℕ) : Type 0 where
  -- the term stands at place n
  pub place : place_in terms x ≡ Some n
  -- a later number of its own can be noted there
  pub reserved : IsSome (lookup (nat_eq n) later)

-- numbers of the terms of the key can be noted
pub record HasPlaces (later : List (ℕ × Option ℕ)) (k : Key) : Type 0 where
  -- a later number can be noted for the subject
  pub subject : IsSome (lookup (nat_eq k.subject) later)
  -- and for the object
  pub object : IsSome (lookup (nat_eq k.object) later)

-- there may be more terms and more places for numbers, and the numbers are as they were
pub record NumbersStay (terms : List (Term × ℕ)) (later : List (ℕ × Option ℕ)) (terms2 : List (Term × ℕ)) (later2 : List (ℕ × Option ℕ)) : Type 0 where
  -- new terms stand behind the others
  pub grows : Begins terms terms2
  -- each term has the number that it had
  pub numbers : (x : Term) → term_number terms2 later2 x ≡ term_number terms later x
  -- each place for a later number is there still
  pub places : (n : ℕ) → IsSome (lookup (nat_eq n) later) → IsSome (lookup (nat_eq n) later2)

-- what the tables of names keep
pub record AreNameTables (terms : List (Term × ℕ)) (predicates : List (List ℕ)) (entries : List (Key × ℕ)) (later_terms : List (ℕ × Option ℕ))
    (later_triples : List (Key × Option ℕ)) : Type 0 where
  -- the places of each triple are those of a term, a predicate and a term
  pub known : AreKeysIn terms predicates entries
  -- so are those of the triples with later numbers
  pub later : AreKeysIn terms predicates later_triples
  -- and later numbers of their terms can be noted
  pub places : AllByRecursion (λ e. HasPlaces later_terms e.0) later_triples
