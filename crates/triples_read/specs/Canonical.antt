-- The one canonical spelling of a triple, as characters.
use Rattle.std.specs.Prelude.{ℕ, List, [], ◌∷◌, ◌++◌, ◌+◌, ◌/◌, ◌%◌, ◌==◌, ◌≡◌, nat_lt, Option, Some, None, bytes_eq, String, string_bytes, encode_utf8_all, if◌then◌else◌}
use Rattle.std.specs.List.{flat_map}
use Rattle.std.specs.Str.{chars}
use Rattle.triples_read.specs.Characters.{is_iri_char}
use Rattle.triples_read.specs.Lines.{xsd_string, SpellsTriple}
use Rattle.triples_read.specs.declared.term.Term.{Term}
use Rattle.triples_read.specs.declared.term.Term.TheVariants.{Iri, Blank, Literal}
use Rattle.triples_read.specs.declared.term.Triple.{Triple}

-- the digit of a number below 16: 0 to 9, A to F
abbrev pub upper_hex : ℕ → ℕ
upper_hex d = if nat_lt d 10 then 48 + d else 55 + d

-- as it is, or as \u with four upper-case digits
abbrev pub iri_char : ℕ → List ℕ
iri_char c = if is_iri_char c then c ∷ [] else 92 ∷ 117 ∷ 48 ∷ 48 ∷ upper_hex (c / 16) ∷ upper_hex (c % 16) ∷ []

-- \", \\, \n, \r, or as it is
abbrev pub string_char : ℕ → List ℕ
string_char c = if c == 34 then 92 ∷ 34 ∷ [] else if c == 92 then 92 ∷ 92 ∷ [] else if c == 10 then 92 ∷ 110 ∷ [] else if c == 13 then 92 ∷ 114 ∷ [] else c ∷ []

-- '<', the characters of an IRI, '>'
abbrev pub iri_text : List ℕ → List ℕ
iri_text cs = 60 ∷ (flat_map iri_char cs ++ 62 ∷ [])

-- '"', the characters of a string, '"'
abbrev pub string_text : List ℕ → List ℕ
string_text cs = 34 ∷ (flat_map string_char cs ++ 34 ∷ [])

-- the tag where there is one; else nothing for the string datatype; else the datatype
abbrev pub suffix_text : List ℕ → Option (List ℕ) → List ℕ
suffix_text datatype None = if bytes_eq datatype xsd_string then [] else 94 ∷ 94 ∷ iri_text (chars datatype)
suffix_text datatype (Some tag) = 64 ∷ chars tag

-- an IRI, '_:' and a label, or a string and what follows it
abbrev pub term_text : Term → List ℕ
term_text (Iri iri) = iri_text (chars iri)
term_text (Blank label) = 95 ∷ 58 ∷ chars label
term_text (Literal text datatype tag) = string_text (chars text) ++ suffix_text datatype tag

-- the bytes of an IRI in its one spelling, brackets included
abbrev pub iri_spelling : List ℕ → List ℕ
iri_spelling iri = encode_utf8_all (term_text (Iri iri))

-- the three parts, each followed by one space, and a dot
abbrev pub triple_text : Triple → List ℕ
triple_text t = term_text t.subject ++ (32 ∷ (iri_text (chars t.predicate) ++ (32 ∷ (term_text t.object ++ (32 ∷ 46 ∷ [])))))

-- the UTF-8 of the characters is put behind the text
abbrev pub IsAppended : {Z : Type 0} → String Z → String Z → List ℕ → Type 0
IsAppended old new cs = string_bytes new ≡ string_bytes old ++ encode_utf8_all cs

-- some line spells the triple
abbrev pub IsSpelled : Triple → Type 0
IsSpelled t = (line : List ℕ) × SpellsTriple line t
