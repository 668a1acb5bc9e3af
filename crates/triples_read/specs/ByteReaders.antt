-- Reading as functions on lists of bytes.
use Rattle.std.specs.Prelude.{ℕ, zero, suc, Bool, true, false, List, [], ◌∷◌, ◌+◌, ◌*◌, ◌==◌, Option, Some, None, if◌then◌else◌}
use Rattle.std.specs.Char.{digit_value}
use Rattle.std.proofs.Math.Utf8.{scalar}
use Rattle.graph_spec.specs.Words.{is_blank, is_letter}
use Rattle.triples_read.specs.Characters.{is_hex, pn_chars, is_letter_or_digit}
use Rattle.triples_read.specs.Terminals.{escape_of}

-- the number that k hexadecimal digits at the front write behind those of n; none if they aren't all there
abbrev pub hex_at : ℕ → ℕ → List ℕ → Option ℕ
hex_at zero n bytes = Some n
hex_at (suc k) n [] = None
hex_at (suc k) n (b ∷ bs) = if is_hex b then hex_at k (16 * n + digit_value b) bs else None

-- the number, where it is a Unicode scalar value
abbrev pub scalar_of : Option ℕ → Option ℕ
scalar_of None = None
scalar_of (Some n) = if scalar n then Some n else None

-- the character, with the number n of bytes that it took
abbrev pub with_len : ℕ → Option ℕ → Option (ℕ × ℕ)
with_len n None = None
with_len n (Some c) = Some (c, n)

-- behind the backslash: the character, and how many bytes it took with the backslash
abbrev pub uchar_at : List ℕ → Option (ℕ × ℕ)
uchar_at [] = None
uchar_at (u ∷ bs) = if u == 117 then with_len 6 (scalar_of (hex_at 4 0 bs)) else if u == 85 then with_len 10 (scalar_of (hex_at 8 0 bs)) else None

-- What follows a label whose rest is still to be read; the tail follows its last character other than a dot.
abbrev pub past_label : List ℕ → List ℕ → List ℕ
past_label tail [] = tail
past_label tail (c ∷ cs) = if pn_chars c then past_label cs cs else if c == 46 then past_label tail cs else tail

-- an ECHAR, else a UCHAR
abbrev pub escape_or : Option ℕ → Option (ℕ × ℕ) → Option (ℕ × ℕ)
escape_or (Some c) other = Some (c, 2)
escape_or None other = other

-- behind the backslash in a string
abbrev pub string_escape_at : List ℕ → Option (ℕ × ℕ)
string_escape_at [] = None
string_escape_at (x ∷ bs) = escape_or (escape_of x) (uchar_at (x ∷ bs))

-- what follows the leading blanks
abbrev pub past_blanks : List ℕ → List ℕ
past_blanks [] = []
past_blanks (b ∷ bs) = if is_blank b then past_blanks bs else b ∷ bs

-- what the first part of a language tag holds, and what the others hold
abbrev pub tag_part : Bool → ℕ → Bool
tag_part true = is_letter
tag_part false = is_letter_or_digit

-- What follows a language tag whose rest is still to be read: whether that is in its first part, and whether nothing of
-- the part was read yet. None where a part is empty.
abbrev pub past_tag : Bool → Bool → List ℕ → Option (List ℕ)
past_tag main fresh [] = if fresh then None else Some []
past_tag main fresh (c ∷ cs) = if tag_part main c then past_tag main false cs else if fresh then None
    else if c == 45 then past_tag false true cs else Some (c ∷ cs)

-- nothing or a comment is left
abbrev pub is_over : List ℕ → Bool
is_over [] = true
is_over (b ∷ bs) = b == 35

-- there is a first byte, and it is c
abbrev pub starts_with : ℕ → List ℕ → Bool
starts_with c [] = false
starts_with c (b ∷ bs) = b == c
