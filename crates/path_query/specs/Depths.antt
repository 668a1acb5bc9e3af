-- How deep the brackets of a text nest.
use Rattle.std.specs.Prelude.{ℕ, ◌+◌, ◌-◌, ◌==◌, ◌||◌, not, max, Bool, true, false, List, [], ◌∷◌, if◌then◌else◌}
use Rattle.path_query.specs.declared.depth.Nesting.{Nesting}

-- '(' or '[', and ')' or ']'
abbrev pub opens : ℕ → Bool
opens b = b == 40 || b == 91

-- ')' or ']'
abbrev pub closes : ℕ → Bool
closes b = b == 41 || b == 93

-- one byte more: between '<' and the next '>' brackets don't count
abbrev pub next : Nesting → ℕ → Nesting
next n b =
    if n.quoted then record n { quoted = not (b == 62) } else (if b == 60 then record n { quoted = true }
    else (if opens b then record n { opened = n.opened + 1 } else (if closes b then record n { closed = n.closed + 1 } else n)))

-- the most brackets that are open at one place from here on
abbrev pub nesting_from : Nesting → List ℕ → ℕ
nesting_from n [] = n.opened - n.closed
nesting_from n (b ∷ bs) = max (n.opened - n.closed) (nesting_from (next n b) bs)

-- the most brackets that are open at one place of the text
abbrev pub nesting : List ℕ → ℕ
nesting text = nesting_from (record { opened = 0; closed = 0; quoted = false }) text
