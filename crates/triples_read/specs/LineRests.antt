-- What is left of a line behind each of its parts.
use Rattle.std.specs.Prelude.{ℕ, List, Option, ◌∷◌, ◌++◌, ◌≡◌}
use Rattle.triples_read.specs.Terminals.{Blanks, Comment}
use Rattle.triples_read.specs.Lines.{IsIri, IsSubject, IsObject, IsLiteral, Suffix}
use Rattle.triples_read.specs.SpelledPrefixes.{IsText}
use Rattle.triples_read.specs.declared.term.Term.{Term}
use Rattle.triples_read.specs.declared.term.Term.TheVariants.{Literal}
use Rattle.triples_read.specs.declared.term.Triple.{Triple}

-- '^^' WS* IRIREF
abbrev pub IsDatatype : List ℕ → List ℕ → Type 0
IsDatatype s datatype = (after : List ℕ) × (name : List ℕ) × (s ≡ 94 ∷ 94 ∷ (after ++ name)) × Blanks after × IsIri name datatype

-- WS* '.' WS* comment?
abbrev pub AfterObject : List ℕ → Type 0
AfterObject cs = (gap : List ℕ) × (after : List ℕ) × (comment : List ℕ) × (cs ≡ gap ++ 46 ∷ (after ++ comment)) × Blanks gap × Blanks after × Comment comment

-- wherever the bytes are those of a literal, before what may follow an object, P holds of the literal and of what follows it
abbrev pub EachLiteral : List ℕ → (Term → List ℕ → Type 0) → Type 0
EachLiteral bytes P =
    (s r string datatype : List ℕ) (tag : Option (List ℕ)) → IsText bytes (s ++ r) → IsLiteral s string datatype tag → AfterObject r
    → P (Literal string datatype tag) r

-- wherever the bytes are those of what follows the string of a literal, before what may follow an object, P holds of
-- its datatype, its tag and of what follows
abbrev pub EachSuffix : List ℕ → (List ℕ → Option (List ℕ) → List ℕ → Type 0) → Type 0
EachSuffix bytes P = (s r datatype : List ℕ) (tag : Option (List ℕ)) → IsText bytes (s ++ r) → Suffix s datatype tag → AfterObject r → P datatype tag r

-- WS* object, and what follows it
abbrev pub AfterPredicate : List ℕ → Term → Type 0
AfterPredicate cs object = (gap : List ℕ) × (s : List ℕ) × (rest : List ℕ) × (cs ≡ gap ++ (s ++ rest)) × Blanks gap × IsObject s object × AfterObject rest

-- WS* predicate, and what follows it
abbrev pub AfterSubject : List ℕ → List ℕ → Term → Type 0
AfterSubject cs predicate object = (gap : List ℕ) × (s : List ℕ) × (rest : List ℕ) × (cs ≡ gap ++ (s ++ rest)) × Blanks gap × IsIri s predicate
    × AfterPredicate rest object

-- wherever the bytes are those of what follows a subject, P holds of the predicate and of the object
abbrev pub EachRest : List ℕ → (List ℕ → Term → Type 0) → Type 0
EachRest bytes P = (cs predicate : List ℕ) (object : Term) → IsText bytes cs → AfterSubject cs predicate object → P predicate object

-- triple WS* comment?
abbrev pub FromSubject : List ℕ → Triple → Type 0
FromSubject cs t = (s : List ℕ) × (rest : List ℕ) × (cs ≡ s ++ rest) × IsSubject s t.subject × AfterSubject rest t.predicate t.object
