-- The terminals of the grammar of RDF 1.1 N-Triples (W3C Recommendation, 25 February 2014), section 7: which characters
-- spell what. In brackets stand the numbers that its productions have there.
use Rattle.std.specs.Prelude.{ℕ, Bool, ◌==◌, List, [], ◌∷◌, ◌++◌, ◌≡◌, ◌≢◌, ◌⊎◌, ◌+◌, ◌*◌, length, IsTrue, map, if◌then◌else◌, Option, Some, None}
use Rattle.std.specs.Char.{IsScalar, digit_value, to_ascii_lowercase}
use Rattle.std.specs.List.{flat_map, AllByRecursion}
use Rattle.graph_spec.specs.Words.{is_letter, is_blank}
use Rattle.triples_read.specs.Characters.{is_hex, is_iri_char, is_string_char, is_letter_or_digit, label_first, label_inner, pn_chars}

-- ( .. )*: one piece spells each character
abbrev pub Many : (List ℕ → ℕ → Type 0) → List ℕ → List ℕ → Type 0
Many P s [] = s ≡ []
Many P s (c ∷ cs) = (piece : List ℕ) × (rest : List ℕ) × (s ≡ piece ++ rest) × P piece c × Many P rest cs

-- a character of the class, as it is
abbrev pub OneOf : (ℕ → Bool) → List ℕ → ℕ → Type 0
OneOf class s c = (s ≡ c ∷ []) × IsScalar c × IsTrue (class c)

-- [162s] HEX
abbrev pub HEX : ℕ → Type 0
HEX h = IsTrue (is_hex h)

-- the number that hexadecimal digits write behind those of n
abbrev pub hex_number : ℕ → List ℕ → ℕ
hex_number n [] = n
hex_number n (h ∷ hs) = hex_number (16 * n + digit_value h) hs

-- [10] UCHAR: '\u' HEX HEX HEX HEX | '\U' HEX HEX HEX HEX HEX HEX HEX HEX, and no surrogate
abbrev pub UCHAR : List ℕ → ℕ → Type 0
UCHAR s c = (u : ℕ) × (hs : List ℕ) × (s ≡ 92 ∷ u ∷ hs) × (((u ≡ 117) × (length hs ≡ 4)) ⊎ ((u ≡ 85) × (length hs ≡ 8))) × AllByRecursion HEX hs
    × (c ≡ hex_number 0 hs) × IsScalar c

-- what an ECHAR stands for: \t, \b, \n, \r, \f, \", \', \\
abbrev pub escape_of : ℕ → Option ℕ
escape_of e = if e == 116 then Some 9 else if e == 98 then Some 8 else if e == 110 then Some 10 else if e == 114 then Some 13 else if e == 102 then Some 12
    else if e == 34 then Some 34 else if e == 39 then Some 39 else if e == 92 then Some 92 else None

-- [153s] ECHAR: '\' [tbnrf"'\]
abbrev pub ECHAR : List ℕ → ℕ → Type 0
ECHAR s c = (e : ℕ) × (s ≡ 92 ∷ e ∷ []) × (escape_of e ≡ Some c)

-- [^#x00-#x20<>"{}|^`\] | UCHAR
abbrev pub IriPiece : List ℕ → ℕ → Type 0
IriPiece s c = OneOf is_iri_char s c ⊎ UCHAR s c

-- [8] IRIREF: '<' ([^#x00-#x20<>"{}|^`\] | UCHAR)* '>'
abbrev pub IRIREF : List ℕ → List ℕ → Type 0
IRIREF s v = (body : List ℕ) × (s ≡ 60 ∷ (body ++ 62 ∷ [])) × Many IriPiece body v

-- [^#x22#x5C#xA#xD] | ECHAR | UCHAR
abbrev pub StringPiece : List ℕ → ℕ → Type 0
StringPiece s c = OneOf is_string_char s c ⊎ (ECHAR s c ⊎ UCHAR s c)

-- [9] STRING_LITERAL_QUOTE: '"' ([^#x22#x5C#xA#xD] | ECHAR | UCHAR)* '"'
abbrev pub STRING_LITERAL_QUOTE : List ℕ → List ℕ → Type 0
STRING_LITERAL_QUOTE s v = (body : List ℕ) × (s ≡ 34 ∷ (body ++ 34 ∷ [])) × Many StringPiece body v

-- characters of a class
abbrev pub AllOf : (ℕ → Bool) → List ℕ → Type 0
AllOf class cs = AllByRecursion (λ c. IsScalar c × IsTrue (class c)) cs

-- nothing, or one or more characters of the first class, the last of which is of the second
abbrev pub EndsIn : (ℕ → Bool) → (ℕ → Bool) → List ℕ → Type 0
EndsIn inner final cs = (cs ≡ []) ⊎ ((more : List ℕ) × (c : ℕ) × (cs ≡ more ++ c ∷ []) × AllOf inner more × IsScalar c × IsTrue (final c))

-- (PN_CHARS_U | [0-9]) ((PN_CHARS | '.')* PN_CHARS)?
abbrev pub IsLabel : List ℕ → Type 0
IsLabel v = (first : ℕ) × (more : List ℕ) × (v ≡ first ∷ more) × IsScalar first × IsTrue (label_first first) × EndsIn label_inner pn_chars more

-- [141s] BLANK_NODE_LABEL: '_:' and a label
abbrev pub BLANK_NODE_LABEL : List ℕ → List ℕ → Type 0
BLANK_NODE_LABEL s v = (s ≡ 95 ∷ 58 ∷ v) × IsLabel v

-- one or more characters of the class
abbrev pub OneOrMore : (ℕ → Bool) → List ℕ → Type 0
OneOrMore class cs = (cs ≢ []) × AllOf class cs

-- [144s] LANGTAG: '@' [a-zA-Z]+ ('-' [a-zA-Z0-9]+)*, read in lower case
abbrev pub LANGTAG : List ℕ → List ℕ → Type 0
LANGTAG s v = (main : List ℕ) × (subs : List (List ℕ)) × OneOrMore is_letter main × AllByRecursion (OneOrMore is_letter_or_digit) subs
    × (s ≡ 64 ∷ (main ++ flat_map (λ sub. 45 ∷ sub) subs)) × (64 ∷ v ≡ map to_ascii_lowercase s)

-- white space between terminals
abbrev pub Blanks : List ℕ → Type 0
Blanks s = AllOf is_blank s

-- nothing, or a comment: '#' and any characters, to the end of the line
abbrev pub Comment : List ℕ → Type 0
Comment s = (s ≡ []) ⊎ ((text : List ℕ) × (s ≡ 35 ∷ text))
