-- An expression whose front is trimmed. A walk may begin at any node, so the answers stay the same.
use Rattle.std.specs.Prelude.{[], cond}
use Rattle.path_spec.specs.Trees.{star, plus, opt, Expr, only, or, Seq, last, then, Item, once, signed}
use Rattle.path_spec.specs.Tests.{seq_matches, item_matches}

-- a first item comes once at most: of several matches all but the last are left out, since a walk may begin behind them
abbrev pub trimmed_item : Item → Item
trimmed_item (once a) = once a
trimmed_item (signed a star) = signed a opt
trimmed_item (signed a plus) = once a
trimmed_item (signed a opt) = signed a opt

-- the sequence with its first item trimmed
abbrev pub first_trimmed : Seq → Seq
first_trimmed (last i) = last (trimmed_item i)
first_trimmed (then i p s) = then (trimmed_item i) p s

-- the sequence from the first item on that the empty word doesn't match
abbrev pub from_required : Seq → Seq
from_required (last i) = last i
from_required (then i p s) = cond (item_matches i []) (from_required s) (then i p s)

-- where there is such an item, those before it are left out
abbrev pub trimmed_seq : Seq → Seq
trimmed_seq s = first_trimmed (cond (seq_matches s []) s (from_required s))

-- each alternative by itself; nothing is left out inside parentheses
abbrev pub trimmed : Expr → Expr
trimmed (only s) = only (trimmed_seq s)
trimmed (or s e) = or (trimmed_seq s) (trimmed e)
