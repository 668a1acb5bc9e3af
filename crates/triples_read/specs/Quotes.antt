-- The two kinds of quotes, and what may stand between them: what private readers and writers say.
use Rattle.std.specs.Prelude.{◌≡◌, ℕ, List, [], ◌∷◌, ◌++◌, Bool, ◌⊎◌, Option, String, string_bytes}
use Rattle.std.specs.List.{flat_map}
use Rattle.std.proofs.Math.Utf8.{encodes}
use Rattle.triples_read.specs.Characters.{is_iri_char, is_string_char}
use Rattle.triples_read.specs.Terminals.{ECHAR, UCHAR, Many}
use Rattle.triples_read.specs.ByteReaders.{uchar_at, string_escape_at}
use Rattle.triples_read.specs.Bodies.{PieceOf, Body, Adds}
use Rattle.triples_read.specs.Canonical.{iri_char, string_char}
use Rattle.triples_read.specs.declared.quoted.Quote.{Quote}
use Rattle.triples_read.specs.declared.quoted.Quote.TheVariants.{Angle, Double}

-- ECHAR | UCHAR
abbrev pub StringEscape : List ℕ → ℕ → Type 0
StringEscape s c = ECHAR s c ⊎ UCHAR s c

-- '<' before an IRI, '"' before a string
abbrev pub opening : Quote → ℕ
opening Angle = 60
opening Double = 34

-- '>' behind an IRI, '"' behind a string
abbrev pub closing : Quote → ℕ
closing Angle = 62
closing Double = 34

-- what stands for itself
abbrev pub inner : Quote → ℕ → Bool
inner Angle = is_iri_char
inner Double = is_string_char

-- how characters are escaped between these quotes
abbrev pub Escape : Quote → List ℕ → ℕ → Type 0
Escape Angle = UCHAR
Escape Double = StringEscape

-- behind the backslash between these quotes: the character, and how many bytes it took with the backslash
abbrev pub escape_at : Quote → List ℕ → Option (ℕ × ℕ)
escape_at Angle = uchar_at
escape_at Double = string_escape_at

-- a character that stands for itself between these quotes, or an escape
abbrev pub PieceIn : Quote → List ℕ → ℕ → Type 0
PieceIn q = PieceOf (inner q) (Escape q)

-- pieces that spell v, then the closing quote, then the tail
abbrev pub BodyIn : Quote → List ℕ → List ℕ → List ℕ → Type 0
BodyIn q rest v tail = Body (PieceIn q) (closing q) rest v tail

-- pieces are read from the one rest to the other, and what they spell joins the text
abbrev pub AddsPieces : {Z : Type 0} → Quote → String Z → String Z → List ℕ → List ℕ → Type 0
AddsPieces q old new rest after = Adds (PieceIn q) (closing q) (string_bytes old) (string_bytes new) rest after

-- quotes around pieces that spell the text stand before the tail
abbrev pub IsQuoted : Quote → List ℕ → List ℕ → List ℕ → Type 0
IsQuoted q bytes v tail = (body : List ℕ) × (bytes ≡ opening q ∷ (encodes body ++ closing q ∷ tail)) × Many (PieceIn q) body v

-- how a character is written between quotes
abbrev pub quoted_char : Quote → ℕ → List ℕ
quoted_char Angle = iri_char
quoted_char Double = string_char

-- how characters are written between quotes
abbrev pub quoted_chars : Quote → List ℕ → List ℕ
quoted_chars q cs = flat_map (quoted_char q) cs

-- how a text is written with its quotes
abbrev pub quoted_text : Quote → List ℕ → List ℕ
quoted_text q cs = opening q ∷ (quoted_chars q cs ++ closing q ∷ [])
