-- What a text spells, and which trees have a text.
use Rattle.std.specs.Prelude.{ℕ, ◌≤◌, ◌^◌, Bool, true, false, List, [], ◌∷◌, length}
use Rattle.std.specs.List.{list_all}
use Rattle.branch_spec.specs.Trees.{Branch}
use Rattle.branch_spec.specs.Tokens.{Token, lab, underscore, axis, left, right, opening, closing, not_word, and_word, or_word, nothing, tokens}
use Rattle.branch_spec.specs.Spelling as spelling
use Rattle.path_query.specs.Labels.{SpellsLabel}

-- the text spells the query, with labels as `SpellsLabel` has them
abbrev pub SpellsBranch : List ℕ → Branch → Type 0
SpellsBranch text q = spelling.Spells SpellsLabel text q

-- whether the token has a text; `nothing` has none
abbrev pub is_spelled : Token → Bool
is_spelled (lab t) = true
is_spelled underscore = true
is_spelled (axis a) = true
is_spelled left = true
is_spelled right = true
is_spelled opening = true
is_spelled closing = true
is_spelled not_word = true
is_spelled and_word = true
is_spelled or_word = true
is_spelled nothing = false

-- no part holds everywhere, which has no text
abbrev pub has_text : Branch → Bool
has_text q = list_all is_spelled (tokens q)

-- each label is spelled by its own text
abbrev pub AreLabels : List Token → Type 0
AreLabels [] = Unit {0}
AreLabels (lab t ∷ r) = SpellsLabel t t × AreLabels r
AreLabels (underscore ∷ r) = AreLabels r
AreLabels (axis a ∷ r) = AreLabels r
AreLabels (left ∷ r) = AreLabels r
AreLabels (right ∷ r) = AreLabels r
AreLabels (opening ∷ r) = AreLabels r
AreLabels (closing ∷ r) = AreLabels r
AreLabels (not_word ∷ r) = AreLabels r
AreLabels (and_word ∷ r) = AreLabels r
AreLabels (or_word ∷ r) = AreLabels r
AreLabels (nothing ∷ r) = AreLabels r

-- it has at most 2^30 tokens, as a text within the limits does; so its depth and that of its relaxed form fit into 32
-- bits
abbrev pub HasFewTokens : Branch → Type 0
HasFewTokens q = length (tokens q) ≤ 2 ^ 30
