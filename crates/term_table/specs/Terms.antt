-- Terms, and where they stand in a list of terms with numbers.
use Rattle.std.specs.Prelude.{ℕ, Bool, true, false, ◌&&◌, List, bytes_eq, Option, None, Some, position}
use Rattle.std.specs.Map.{keys_of, lookup}
use Rattle.triples_read.specs.declared.term.Term.{Term}
use Rattle.triples_read.specs.declared.term.Term.TheVariants.{Iri, Blank, Literal}

-- both have no tag, or the same
abbrev pub same_tag : Option (List ℕ) → Option (List ℕ) → Bool
same_tag None None = true
same_tag (Some s) (Some t) = bytes_eq s t
same_tag a b = false

-- the kind and all characters are equal
abbrev pub same_term : Term → Term → Bool
same_term (Iri x) (Iri y) = bytes_eq x y
same_term (Blank x) (Blank y) = bytes_eq x y
same_term (Literal x d s) (Literal y e t) = bytes_eq x y && (bytes_eq d e && same_tag s t)
same_term a b = false

-- the number of a term
abbrev pub number_of : List (Term × ℕ) → Term → Option ℕ
number_of terms x = lookup (same_term x) terms

-- the place of a term: how many terms stand before it
abbrev pub place_in : List (Term × ℕ) → Term → Option ℕ
place_in terms x = position (same_term x) (keys_of terms)
