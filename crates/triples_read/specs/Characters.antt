-- The classes of characters of the grammar of RDF 1.1 N-Triples (W3C Recommendation, 25 February 2014), section 7, as
-- tests of a code point. In brackets stand the numbers that its productions have there.
use Rattle.std.specs.Prelude.{ℕ, Bool, ◌==◌, ◌&&◌, ◌||◌, nat_le, nat_lt}
use Rattle.std.specs.Char.{digit_value}
use Rattle.std.proofs.Common.{not}
use Rattle.graph_spec.specs.Words.{is_letter}

-- from low to high, both of them included
abbrev pub from_to : ℕ → ℕ → ℕ → Bool
from_to low high c = nat_le low c && nat_le c high

-- [0-9]
abbrev pub is_digit : ℕ → Bool
is_digit c = from_to 48 57 c

-- [157s] PN_CHARS_BASE
abbrev pub pn_chars_base : ℕ → Bool
pn_chars_base c = is_letter c || from_to 0xC0 0xD6 c || from_to 0xD8 0xF6 c || from_to 0xF8 0x2FF c || from_to 0x370 0x37D c || from_to 0x37F 0x1FFF c
    || from_to 0x200C 0x200D c || from_to 0x2070 0x218F c || from_to 0x2C00 0x2FEF c || from_to 0x3001 0xD7FF c || from_to 0xF900 0xFDCF c
    || from_to 0xFDF0 0xFFFD c || from_to 0x10000 0xEFFFF c

-- [158s] PN_CHARS_U: with the underscore, and with the colon by this project's choice
abbrev pub pn_chars_u : ℕ → Bool
pn_chars_u c = pn_chars_base c || c == 95 || c == 58

-- [160s] PN_CHARS
abbrev pub pn_chars : ℕ → Bool
pn_chars c = pn_chars_u c || c == 45 || is_digit c || c == 0xB7 || from_to 0x300 0x36F c || from_to 0x203F 0x2040 c

-- [162s] HEX: [0-9] | [A-F] | [a-f]
abbrev pub is_hex : ℕ → Bool
is_hex c = nat_lt (digit_value c) 16

-- what [8] IRIREF holds as it is: none of 0 to 20 (hexadecimal) and of <>"{}|^`\
abbrev pub is_iri_char : ℕ → Bool
is_iri_char c = nat_lt 32 c && not (c == 60 || c == 62 || c == 34 || c == 123 || c == 125 || c == 124 || c == 94 || c == 96 || c == 92)

-- what [9] STRING_LITERAL_QUOTE holds as it is: none of " \ LF CR
abbrev pub is_string_char : ℕ → Bool
is_string_char c = not (c == 34 || c == 92 || c == 10 || c == 13)

-- what [144s] LANGTAG holds behind a '-': [a-zA-Z0-9]
abbrev pub is_letter_or_digit : ℕ → Bool
is_letter_or_digit c = is_letter c || is_digit c

-- how the label of [141s] BLANK_NODE_LABEL begins: PN_CHARS_U | [0-9]
abbrev pub label_first : ℕ → Bool
label_first c = pn_chars_u c || is_digit c

-- and what stands inside it: PN_CHARS | '.'
abbrev pub label_inner : ℕ → Bool
label_inner c = pn_chars c || c == 46
