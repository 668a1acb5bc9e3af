-- The token at the front of a text.
use Rattle.std.specs.Prelude.{ℕ, ◌+◌, ◌==◌, List, [], ◌∷◌, length, take, drop, codes, nat_eq, nat_lt, bytes_eq, Option, None, Some, option_map, if◌then◌else◌}
use Rattle.std.specs.List.{prefix_len, position_or_len}
use Rattle.graph_spec.specs.Words.{is_name_byte}
use Rattle.branch_spec.specs.Trees.{Axis, child, below, parent, above}
use Rattle.branch_spec.specs.Tokens.{Token, underscore, axis, left, right, opening, closing, not_word, and_word, or_word}
use Rattle.branch_spec.specs.Spelling.{EndsToken, SpellsToken}
use Rattle.triples_read.specs.ByteReaders.{starts_with}
use Rattle.path_query.specs.Labels.{SpellsLabel}
use Rattle.path_query.specs.Languages as languages

-- a token stands at the front, as long as it can be
abbrev pub IsTokenPrefix : List ℕ → Token → List ℕ → Type 0
IsTokenPrefix text t rest = languages.IsTokenPrefix (SpellsToken SpellsLabel) EndsToken text t rest

-- the token of one byte, but for those of axes
abbrev pub mark_at : ℕ → Option Token
mark_at b =
    if b == 95 then Some underscore else (if b == 91 then Some left else (if b == 93 then Some right
    else (if b == 40 then Some opening else (if b == 41 then Some closing else None))))

-- behind the first byte of an axis: the far axis where that byte comes twice
abbrev pub axis_prefix : ℕ → Axis → Axis → List ℕ → Token × List ℕ
axis_prefix k single double [] = (axis single, [])
axis_prefix k single double (b ∷ bs) = if b == k then (axis double, bs) else (axis single, b ∷ bs)

-- the token at the front that is no word
abbrev pub sign_prefix : List ℕ → Option (Token × List ℕ)
sign_prefix [] = None
sign_prefix (b ∷ bs) =
    if b == 47 then Some (axis_prefix 47 child below bs) else (if b == 92 then Some (axis_prefix 92 parent above bs)
    else option_map (λ t. (t, bs)) (mark_at b))

-- the token of a word that is no label
abbrev pub word_token : List ℕ → Option Token
word_token w =
    if bytes_eq w (codes "not") then Some not_word else (if bytes_eq w (codes "and") then Some and_word
    else (if bytes_eq w (codes "or") then Some or_word else None))

-- the word at the front that is no label
abbrev pub word_prefix : List ℕ → Option (Token × List ℕ)
word_prefix text = option_map (λ t. (t, drop (prefix_len is_name_byte text) text)) (word_token (take (prefix_len is_name_byte text) text))

-- the first if there is one, and else the second
abbrev pub or_else : Option (Token × List ℕ) → Option (Token × List ℕ) → Option (Token × List ℕ)
or_else None o = o
or_else (Some p) o = Some p

-- the token at the front that is no label
abbrev pub mark_prefix : List ℕ → Option (Token × List ℕ)
mark_prefix text = or_else (sign_prefix text) (word_prefix text)

-- how many bytes stand up to the first '>', with it; all of them where there is none
abbrev pub iri_len : List ℕ → ℕ
iri_len text =
    if nat_lt (position_or_len (λ b. nat_eq b 62) text) (length text) then position_or_len (λ b. nat_eq b 62) text + 1
    else position_or_len (λ b. nat_eq b 62) text

-- how many bytes a label at the front has, where one stands there
abbrev pub label_len : List ℕ → ℕ
label_len text = if starts_with 60 text then iri_len text else prefix_len is_name_byte text
