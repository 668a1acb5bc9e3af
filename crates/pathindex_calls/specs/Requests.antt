-- What a call asks for, by its number and the two numbers that come with it.
use Rattle.std.specs.Prelude.{ℕ, ⊤, ◌≤◌, ◌-◌, ◌/◌, ◌%◌, ◌&&◌, nat_eq, nat_lt, nat_le, Option, Some, None, if◌then◌else◌}
use Rattle.bisim_spec.specs.declared.kind.Kind.{Kind}
use Rattle.bisim_spec.specs.declared.kind.Kind.TheVariants as kind
use Rattle.index_api.specs.declared.kinds.Via.{Via}
use Rattle.index_api.specs.declared.kinds.Via.TheVariants as via
use Rattle.pathindex_session.specs.declared.opening.Indexes.{Indexes}
use Rattle.pathindex_calls.specs.declared.requests.Call.{Call}
use Rattle.pathindex_calls.specs.declared.requests.Call.TheVariants.{Node, Link, Unlink, Drop, Relabel, Begin, End, Cancel, Insert, Delete, Path, Branch, Why, Extents, Sizes, Save, Forget}
use Rattle.pathindex_calls.specs.declared.requests.Request.{Request}
use Rattle.pathindex_calls.specs.declared.requests.Request.TheVariants.{Open, Ask}

-- Below 16 the A(k)-index of that level, from 16 on the bounded forward and backward one, and then the graph itself, the 1-index,
-- and the forward and backward index.
abbrev pub via_at : ℕ → Option Via
via_at n =
    if nat_lt n 16 then Some (via.A n)
    else if nat_lt n 32 then Some (via.B (n - 16))
    else if nat_eq n 32 then Some via.Data
    else if nat_eq n 33 then Some via.One
    else if nat_eq n 34 then Some via.Fb
    else None

-- the kind of the index that the number names, where its level is 0
abbrev pub kind_at : ℕ → Option Kind
kind_at n =
    if nat_eq n 0 then Some kind.A
    else if nat_eq n 16 then Some kind.B
    else if nat_eq n 33 then Some kind.One
    else if nat_eq n 34 then Some kind.Fb
    else None

-- Levels up to k, which is at most 8. The bits of the flags: the 1-index is left out, the forward and backward index is left out,
-- the bounded ones are kept too.
abbrev pub indexes_at : ℕ → ℕ → Option Indexes
indexes_at k flags =
    if nat_le k 8 && nat_le flags 7
    then Some (record { k = k; one = nat_eq (flags % 2) 0; fb = nat_eq (flags / 2 % 2) 0; bk = nat_eq (flags / 4) 1 })
    else None

-- a session that is opened has levels up to 8 at most
abbrev pub LevelsAreFew : Option Request → Type 0
LevelsAreFew None = ⊤
LevelsAreFew (Some (Open kept)) = kept.k ≤ 8
LevelsAreFew (Some (Ask call)) = ⊤

abbrev opens : Option Indexes → Option Request
opens None = None
opens (Some kept) = Some (Open kept)

abbrev asks_via : (Via → Call) → Option Via → Option Request
asks_via call None = None
asks_via call (Some v) = Some (Ask (call v))

abbrev forgets : Option Kind → Option Request
forgets None = None
forgets (Some k) = Some (Ask (Forget k))

-- a session is opened with the indexes of these numbers
abbrev pub open_at : ℕ → ℕ → Option Request
open_at k flags = opens (indexes_at k flags)

-- a path expression is asked through what the number names
abbrev pub path_at : ℕ → Option Request
path_at n = asks_via (λ v. Path v) (via_at n)

-- a branching query is asked through what the number names
abbrev pub branch_at : ℕ → Option Request
branch_at n = asks_via (λ v. Branch v) (via_at n)

-- the blocks of what the number names are listed
abbrev pub extents_at : ℕ → Option Request
extents_at n = asks_via (λ v. Extents v) (via_at n)

-- the index whose kind the number names is forgotten
abbrev pub forget_at : ℕ → Option Request
forget_at n = forgets (kind_at n)

-- a change, or a part of one
abbrev pub change_at : ℕ → ℕ → ℕ → Option Request
change_at call a b =
    if nat_eq call 1 then Some (Ask Node)
    else if nat_eq call 2 then Some (Ask (Link a b))
    else if nat_eq call 3 then Some (Ask (Unlink a b))
    else if nat_eq call 4 then Some (Ask (Drop a))
    else if nat_eq call 5 then Some (Ask (Relabel a))
    else if nat_eq call 6 then Some (Ask Begin)
    else if nat_eq call 7 then Some (Ask End)
    else if nat_eq call 8 then Some (Ask Cancel)
    else if nat_eq call 9 then Some (Ask Insert)
    else if nat_eq call 10 then Some (Ask Delete)
    else None

-- what a call asks for; none, where its numbers name nothing
abbrev pub request_at : ℕ → ℕ → ℕ → Option Request
request_at call a b =
    if nat_eq call 0 then open_at a b
    else if nat_eq call 11 then path_at a
    else if nat_eq call 12 then branch_at a
    else if nat_eq call 13 then Some (Ask (Why a))
    else if nat_eq call 14 then extents_at a
    else if nat_eq call 15 then Some (Ask Sizes)
    else if nat_eq call 16 then forget_at a
    else if nat_eq call 17 then Some (Ask Save)
    else change_at call a b
