-- The token at the front of a text.
use Rattle.std.specs.Prelude.{ℕ, ◌==◌, List, [], ◌∷◌, Option, None, Some, option_map, if◌then◌else◌}
use Rattle.path_spec.specs.Trees.{star, plus, opt}
use Rattle.path_spec.specs.Tokens.{Token, underscore, slash, slashes, bar, opening, closing, sign}
use Rattle.path_spec.specs.Spelling.{EndsToken, SpellsToken}
use Rattle.path_query.specs.Labels.{SpellsLabel}
use Rattle.path_query.specs.Languages as languages

-- a token stands at the front, as long as it can be
abbrev pub IsTokenPrefix : List ℕ → Token → List ℕ → Type 0
IsTokenPrefix text t rest = languages.IsTokenPrefix (SpellsToken SpellsLabel) EndsToken text t rest

-- the token of one byte, but for '/'
abbrev pub mark_at : ℕ → Option Token
mark_at b =
    if b == 95 then Some underscore else (if b == 124 then Some bar else (if b == 40 then Some opening else (if b == 41 then Some closing
    else (if b == 42 then Some (sign star) else (if b == 43 then Some (sign plus) else (if b == 63 then Some (sign opt) else None))))))

-- behind a '/'
abbrev pub slash_prefix : List ℕ → Token × List ℕ
slash_prefix [] = (slash, [])
slash_prefix (b ∷ bs) = if b == 47 then (slashes, bs) else (slash, b ∷ bs)

-- the token at the front that is no label
abbrev pub mark_prefix : List ℕ → Option (Token × List ℕ)
mark_prefix [] = None
mark_prefix (b ∷ bs) = if b == 47 then Some (slash_prefix bs) else option_map (λ t. (t, bs)) (mark_at b)
