-- What settling a draft needs, and what it leaves.
use Rattle.std.proofs.Common.{◌≡◌, ℕ, zero, suc, ◌+◌, ◌<◌, ◌≤◌, ◌^◌, List, [], ◌∷◌, ◌++◌, length, Option, Some, None, IsSome, is_some, refl, sym, ◌∙◌, ap, subst, arith, inl, inr, true, false, Bool, ◌&&◌, cond, count_by, true≢false}
use Rattle.std.specs.Prelude.{nat_eq, not, ◌||◌, slice_get}
use Rattle.std.specs.Map.{lookup, keys_of}
use Rattle.std.proofs.lemmas.Bool.{cases_lt}
use Rattle.std.proofs.lemmas.Bool.Decides.{eqb_tells}
use Rattle.std.proofs.lemmas.List.{get_or_past}
use Rattle.std.proofs.lemmas.List.Folds.{list_any-append}
use Rattle.graph_spec.specs.Members.{at, has}
use Rattle.block_partition.specs.LabelledPartitions.{put}
use Rattle.quotient.specs.Quotients.{Quotient, view_of}
use Rattle.quotient_draft.specs.Drafts.{Drafted, has_member, inhabited_from, with_added, is_pair, shown_blocks, shown_labels, shown_supports, settled_view}
use Rattle.quotient_draft.specs.Basis.{AreLeastFree, IsOver}
use Rattle.quotient_draft.specs.Scans.{from_after}
use Rattle.quotient_draft.specs.Retired.{IsRetired}
use Rattle.quotient_draft.proofs.Scanned.{count_some, count_none, from_few, added_absent}
use Rattle.quotient_draft.proofs.AppliedDrafts.{all_below, none_yet, added_length}
use Rattle.quotient_draft.proofs.DraftedMoves.{moves_absent}
use Rattle.quotient_draft.proofs.Gone.{member_at, member_there, retired_both}

-- ---- reserved capacity

count_free : (xs : List (Option ℕ)) (b l : ℕ) → at xs b ≡ None → count_by is_some (put xs b l) ≡ count_by is_some xs + 1
count_free [] zero l e = (let more = count_some [] l in omega (arith, more))
count_free [] (suc b) l e =
    let rest = count_free [] b l refl in
    let more = count_none (put [] b l) in
    omega (arith, rest, more)
count_free (None ∷ xs) zero l e =
    let more = count_some xs l in
    let old = count_none xs in
    omega (arith, more, old)
count_free (Some x ∷ xs) zero l e = absurd (cc)
count_free (None ∷ xs) (suc b) l e =
    let rest = count_free xs b l e in
    let more = count_none (put xs b l) in
    let old = count_none xs in
    omega (arith, rest, more, old)
count_free (Some x ∷ xs) (suc b) l e =
    let rest = count_free xs b l e in
    let more = count_some (put xs b l) x in
    let old = count_some xs x in
    omega (arith, rest, more, old)

pub added_count : (labels : List (Option ℕ)) (es : List (ℕ × ℕ)) → AreLeastFree labels es → count_by is_some (with_added labels es) ≡ count_by is_some labels + length es
added_count labels [] h = omega arith
added_count labels (e ∷ es) h =
    let rest = added_count (put labels e.0 e.1) es h.1 in
    let one = count_free labels e.0 e.1 h.0.free in
    omega (arith, rest, one)

pub added_fit : (block labels : List (Option ℕ)) (d : Drafted) → IsOver block labels d → count_by is_some labels ≤ 2 ^ 31 → count_by is_some labels + length d.added ≤ 2 ^ 31
added_fit block labels d o few = elim (cases_lt 0 (length d.added)) [
  | inl some ↦ (
      let all = added_count labels d.added o.least in
      let most = o.few some in
      omega (arith, all, most))
  | inr none ↦ omega (arith, none, few)
]

from_none : (es : List (ℕ × ℕ)) → length es ≤ 0 → from_after 0 es ≡ 0
from_none [] h = refl
from_none (e ∷ es) h = absurd (omega (arith, h))

pub from_fit : (block labels : List (Option ℕ)) (d : Drafted) → IsOver block labels d → from_after 0 d.added ≤ 2 ^ 31
from_fit block labels d o = elim (cases_lt 0 (length d.added)) [
  | inl some ↦ (
      let below = from_few labels d.added o.least in
      let most = o.few some in
      omega (arith, below, most))
  | inr none ↦ (let zero_is = from_none d.added none in omega (arith, zero_is))
]

some_below : (xs : List (Option ℕ)) (n : ℕ) → IsSome (at xs n) → n < length xs
some_below xs n h = elim (cases_lt n (length xs)) [ inl l ↦ l | inr past ↦ absurd (true≢false (sym h ∙ ap is_some (get_or_past xs n None past))) ]

pub number_below : (block labels : List (Option ℕ)) (d : Drafted) (span i : ℕ) (e : ℕ × ℕ) → IsOver block labels d → from_after 0 d.added ≤ span → slice_get d.added i ≡ Some e → e.0 < span
number_below block labels d span i e o from h =
    let below = all_below 0 labels d.added i e (none_yet labels) o.least h in
    omega (arith, below, from)

pub ends_below : (block labels : List (Option ℕ)) (d : Drafted) (span : ℕ) → IsOver block labels d → length labels ≤ span → from_after 0 d.added ≤ span
    → (p : ℕ × ℕ) (n : ℕ) → lookup (is_pair p) d.supports ≡ Some n → (p.0 < span) × (p.1 < span)
ends_below block labels d span o few from p n e =
    let both = o.ends p n e in
    let all = added_length labels d.added span few (λ i f h. number_below block labels d span i f o from h) in
    let first = some_below (with_added labels d.added) p.0 both.0 in
    let second = some_below (with_added labels d.added) p.1 both.1 in
    (omega (arith, all, first), omega (arith, all, second))

-- ---- the end

lists_same : (xs ys : List (Option ℕ)) → length xs ≡ length ys → ((i : ℕ) → at xs i ≡ at ys i) → xs ≡ ys
lists_same [] [] l h = refl
lists_same [] (y ∷ ys) l h = absurd (omega (arith, l))
lists_same (x ∷ xs) [] l h = absurd (omega (arith, l))
lists_same (x ∷ xs) (y ∷ ys) l h =
    let first : x ≡ y = h 0 in
    let rest = lists_same xs ys (omega (arith, l)) (λ i. h (suc i)) in
    λ j. first j ∷ rest j

abbrev none_label : Option ℕ
none_label = None

no_label : (t : Bool) → cond t none_label none_label ≡ none_label
no_label true = refl
no_label false = refl

inhabited_length : (block : List (Option ℕ)) (b : ℕ) (labels : List (Option ℕ)) → length (inhabited_from block b labels) ≡ length labels
inhabited_length block b [] = refl
inhabited_length block b (x ∷ xs) = ap suc (inhabited_length block (b + 1) xs)

inhabited_at : (block : List (Option ℕ)) (b : ℕ) (labels : List (Option ℕ)) (i : ℕ) → at (inhabited_from block b labels) i ≡ cond (has_member block (b + i)) (at labels i) None
inhabited_at block b [] i = sym (no_label (has_member block (b + i)))
inhabited_at block b (x ∷ xs) zero = (let same : b ≡ b + 0 = omega arith in ap (λ n. cond (has_member block n) x None) same)
inhabited_at block b (x ∷ xs) (suc i) = (let same : b + 1 + i ≡ b + suc i = omega arith in inhabited_at block (b + 1) xs i ∙ ap (λ n. cond (has_member block n) (at xs i) None) same)

inhabited_whole : (block labels : List (Option ℕ)) (b : ℕ) → at (inhabited_from block 0 labels) b ≡ cond (has_member block b) (at labels b) None
inhabited_whole block labels b = (let same : 0 + b ≡ b = omega arith in inhabited_at block 0 labels b ∙ ap (λ n. cond (has_member block n) (at labels b) None) same)

key_there : (es : List (ℕ × ℕ)) (b l : ℕ) → lookup (nat_eq b) es ≡ Some l → has (keys_of es) b ≡ true
key_there [] b l e = absurd (cc)
key_there (f ∷ es) b l e = elim (eqb_tells b f.0) [
  | inl s ↦ ap (λ t. t || has (keys_of es) b) s.0
  | inr d ↦ ap (λ t. t || has (keys_of es) b) d.0 ∙ key_there es b l (sym (ap (λ c. cond c (Some f.1) (lookup (nat_eq b) es)) d.0) ∙ e)
]

left_or : (s t : Bool) → s ≡ true → (s || t) ≡ true
left_or s t e = ap (λ u. u || t) e

right_or : (s t : Bool) → t ≡ true → (s || t) ≡ true
right_or true t e = refl
right_or false t e = e

-- a block without members as shown is a further one, or nodes were taken from it
among : (q : Quotient) (d : Drafted) (b : ℕ) → IsOver q.blocks.block_of q.blocks.labels d → ((c : ℕ) → IsSome (at q.blocks.labels c) → has_member q.blocks.block_of c ≡ true)
    → IsSome (at (shown_labels q d) b) → has_member (shown_blocks q d) b ≡ false → (has (keys_of d.added) b || has d.left b) ≡ true
among q d b o inhabited block none = by (lookup (nat_eq b) d.added) refl
  where
    moved : (n : ℕ) → at q.blocks.block_of n ≡ Some b → (u : Option (Option ℕ)) → lookup (nat_eq n) d.moves ≡ u → has d.left b ≡ true
    moved n e None f = absurd (true≢false (sym (member_there (shown_blocks q d) b n (moves_absent q.blocks.block_of d.moves n f ∙ e)) ∙ none))
    moved n e (Some u) f = o.left n b e (ap is_some f)

    by : (u : Option ℕ) → lookup (nat_eq b) d.added ≡ u → (has (keys_of d.added) b || has d.left b) ≡ true
    by None e = (
        let some = subst IsSome (added_absent q.blocks.labels d.added b e) block in
        let member = member_at q.blocks.block_of b (inhabited b some) in
        right_or (has (keys_of d.added) b) (has d.left b) (moved member.0 member.1 (lookup (nat_eq member.0) d.moves) refl))
    by (Some l) e = left_or (has (keys_of d.added) b) (has d.left b) (key_there d.added b l e)

kept_label : (all member : Bool) (label : Option ℕ) → (IsSome label → member ≡ false → all ≡ true) → cond (all && not member) None label ≡ cond member label None
kept_label true true label h = refl
kept_label true false label h = refl
kept_label false true label h = refl
kept_label false false None h = refl
kept_label false false (Some l) h = absurd (true≢false (sym (h refl refl)))

pub settled_is : (q made middle end : Quotient) (d : Drafted) → IsOver q.blocks.block_of q.blocks.labels d → ((c : ℕ) → IsSome (at q.blocks.labels c) → has_member q.blocks.block_of c ≡ true)
    → made.blocks.block_of ≡ shown_blocks q d → made.blocks.labels ≡ shown_labels q d → made.supports ≡ shown_supports q d
    → IsRetired (keys_of d.added) made middle → IsRetired d.left middle end → view_of end ≡ settled_view q d
settled_is q made middle end d o inhabited blocks labels supports first second =
    let all = retired_both (keys_of d.added) d.left (keys_of d.added ++ d.left) made middle end (λ b. list_any-append (nat_eq b) (keys_of d.added) d.left) first second in
    let each : (b : ℕ) → at end.blocks.labels b ≡ at (inhabited_from (shown_blocks q d) 0 (shown_labels q d)) b = λ b.
    all.labels b ∙ ap (λ (bs : List (Option ℕ)). cond (has (keys_of d.added ++ d.left) b && not (has_member bs b)) None (at made.blocks.labels b)) blocks
    ∙ ap (λ (ls : List (Option ℕ)). cond (has (keys_of d.added ++ d.left) b && not (has_member (shown_blocks q d) b)) None (at ls b)) labels
    ∙ kept_label (has (keys_of d.added ++ d.left) b) (has_member (shown_blocks q d) b) (at (shown_labels q d) b)
    (λ some none. list_any-append (nat_eq b) (keys_of d.added) d.left ∙ among q d b o inhabited some none)
    ∙ sym (inhabited_whole (shown_blocks q d) (shown_labels q d) b) in
    let len : length end.blocks.labels ≡ length (inhabited_from (shown_blocks q d) 0 (shown_labels q d)) =
    all.len ∙ ap (λ (ls : List (Option ℕ)). length ls) labels ∙ sym (inhabited_length (shown_blocks q d) 0 (shown_labels q d)) in
    let list = lists_same end.blocks.labels (inhabited_from (shown_blocks q d) 0 (shown_labels q d)) len each in
    let nodes = all.block_of ∙ blocks in
    let pairs = all.supports ∙ supports in
    λ j. record { block_of = nodes j; labels = list j; supports = pairs j }
