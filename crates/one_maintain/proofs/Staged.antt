-- What is staged, and what is in force once it is committed.
use Rattle.std.proofs.Common.{◌≡◌, ℕ, zero, suc, ◌+◌, cond, List, [], ◌∷◌, Option, Some, None, IsSome, refl, sym, ◌∙◌, ap, subst, arith, true, false, Bool, true≢false}
use Rattle.graph_spec.specs.Graphs.{Graph}
use Rattle.change_spec.specs.Steps.{Step, after}
use Rattle.std.specs.Prelude.{unwrap_or}
use Rattle.graph_spec.specs.Members.{at}
use Rattle.graph_spec.specs.Shapes.{shape_of}
use Rattle.bisim_spec.specs.declared.kind.Kind.TheVariants.{One}
use Rattle.bisim_spec.specs.IndexGraphs.{View, support_at}
use Rattle.bisim_spec.specs.Fits.{FitsOne, view_at}
use Rattle.bisim_spec.specs.Bisimilarity.{Bisim}
use Rattle.bisim_spec.specs.Partitions.{Agrees}
use Rattle.change_spec.specs.NextOne.{OneStep}
use Rattle.quotient.specs.Quotients.{Quotient, view_of}
use Rattle.quotient_draft.specs.Drafts.{Drafted, no_changes, has_member, shown_labels, shown_blocks, shown_support, settled_view, inhabited_from, with_moves, with_added, with_supports}
use Rattle.quotient_draft.specs.Basis.{IsOver}
use Rattle.quotient_draft.specs.ReservedCapacity.{HasReservedFor}
use Rattle.quotient_draft.proofs.Gone.{member_there}
use Rattle.one_merge.specs.ParentlessBlocks.{ParentlessLists, CoversParentless, CoversBase, CoversShown}
use Rattle.index_api.specs.Meanings.{IsReady, IsBuilt, IsPrepared, IsCommitted, unstaged}
use Rattle.one_maintain.specs.KeptQuotients.{KeptQuotient, CanSettle, meaning_of, staged_views}
use Rattle.one_update.specs.OneDrafts.{IsSupported}
use Rattle.one_maintain.proofs.OneView.{one_fits}

-- the view that a draft will leave, from the view that it is over
abbrev pub settled_by : View → Drafted → View
settled_by v d = record {
  block_of = with_moves v.block_of d.moves;
  labels = inhabited_from (with_moves v.block_of d.moves) 0 (with_added v.labels d.added);
  supports = with_supports v.supports d.supports;
}

pub settled_same : (q q2 : Quotient) (d : Drafted) → view_of q2 ≡ view_of q → settled_view q2 d ≡ settled_view q d
settled_same q q2 d same = ap (λ v. settled_by v d) same

abbrev from_by : View → Drafted → Type 0
from_by v d = (b c : ℕ) → has_member (with_moves v.block_of d.moves) b ≡ false → support_at (with_supports v.supports d.supports) b c ≡ 0

abbrev onto_by : View → Drafted → Type 0
onto_by v d = (b c : ℕ) → has_member (with_moves v.block_of d.moves) b ≡ false → support_at (with_supports v.supports d.supports) c b ≡ 0

pub can_settle : (g : Graph) (q q2 : Quotient) (d : Drafted) → view_of q2 ≡ view_of q → FitsOne g (view_of q) → IsOver q.blocks.block_of q.blocks.labels d → HasReservedFor q2 d
    → ((b c : ℕ) → has_member (shown_blocks q d) b ≡ false → shown_support q d b c ≡ 0) → ((b c : ℕ) → has_member (shown_blocks q d) b ≡ false → shown_support q d c b ≡ 0)
    → CanSettle q2 d
can_settle g q q2 d same fits over reserved from onto =
    let fits2 = subst (FitsOne g) (sym same) fits in
    record {
      over = subst (λ (v : View). IsOver v.block_of v.labels d) (sym same) over;
      reserved = reserved;
      inhabited = λ b h. let m = fits2.view.inhabited b h in member_there q2.blocks.block_of b m.0 m.1;
      from = subst (λ v. from_by v d) (sym same) from;
      onto = subst (λ v. onto_by v d) (sym same) onto;
    }

-- ---- the index as it is seen

abbrev one_list : View → List (Option View)
one_list v = Some v ∷ []

-- an index that is ready has a quotient, with nothing staged
pub record IsReadyKept (k : KeptQuotient) (g : Graph) : Type 0 where
  pub fits : FitsOne g (view_of k.base)
  pub unstaged : k.staged ≡ false

none_staged : (q : Quotient) (d : Drafted) (t : Bool) → staged_views q d t ≡ None → t ≡ false
none_staged q d false h = refl
none_staged q d true h = absurd (cc)

pub ready_kept : (k : KeptQuotient) (g : Graph) → IsReady (meaning_of (Some k)) g → IsReadyKept k g
ready_kept k g ready = record { fits = ready.fits.each 0 (omega arith); unstaged = none_staged k.base k.draft k.staged ready.unstaged }

pub some_staged : (q : Quotient) (d : Drafted) (t : Bool) → IsSome (staged_views q d t) → t ≡ true
some_staged q d true h = refl
some_staged q d false h = absurd (true≢false (sym h))

pub prepared : (k k2 : KeptQuotient) (g : Graph) (c : List Step) → view_of k2.base ≡ view_of k.base → k2.staged ≡ true
    → OneStep g k.base.blocks.block_of c (after c g) (settled_view k2.base k2.draft).block_of → FitsOne (after c g) (settled_view k2.base k2.draft)
    → IsPrepared (meaning_of (Some k)) (meaning_of (Some k2)) c g
prepared k k2 g c same staged step fits = record {
  kind = refl;
  views = ap one_list same;
  next = Some (settled_view k2.base k2.draft) ∷ [];
  staged = ap (staged_views k2.base k2.draft) staged;
  are_next = record { count = refl; fits = one_fits (after c g) (settled_view k2.base k2.draft) fits; step = step };
}

-- nothing is staged after as before
pub kept_meaning : (k k2 : KeptQuotient) → view_of k2.base ≡ view_of k.base → k.staged ≡ false → k2.staged ≡ false → meaning_of (Some k2) ≡ meaning_of (Some k)
kept_meaning k k2 same was is =
    let views = ap (λ v. one_list v) same in
    let staged = ap (staged_views k2.base k2.draft) is ∙ sym (ap (staged_views k.base k.draft) was) in
    λ j. record { kind = One; views = views j; staged = staged j }

pub committed : (k k2 : KeptQuotient) → k.staged ≡ true → view_of k2.base ≡ settled_view k.base k.draft → k2.staged ≡ false
    → IsCommitted (meaning_of (Some k)) (meaning_of (Some k2))
committed k k2 was view is = record {
  kind = refl;
  views = ap (staged_views k.base k.draft) was ∙ sym (ap (λ v. Some (one_list v)) view);
  unstaged = ap (staged_views k2.base k2.draft) is;
}

pub cancelled : (k k2 : KeptQuotient) → k2.base ≡ k.base → k2.staged ≡ false → meaning_of (Some k2) ≡ unstaged (meaning_of (Some k))
cancelled k k2 base is =
    let views = ap (λ q. one_list (view_of q)) base in
    let staged = ap (staged_views k2.base k2.draft) is in
    λ j. record { kind = One; views = views j; staged = staged j }

-- the one view of an index that has a quotient
pub same_view : (k : KeptQuotient) (w : View) (u v : ℕ) → view_at (meaning_of (Some k)).views 0 ≡ Some w → IsSupported w u v → IsSupported (view_of k.base) u v
same_view k w u v there supported = subst (λ x. IsSupported x u v) (sym (ap (λ x. unwrap_or x w) there)) supported

ready_new : (k : KeptQuotient) (q : Quotient) (g : Graph) → k.base ≡ q → k.staged ≡ false → FitsOne g (view_of q) → IsReady (meaning_of (Some k)) g
ready_new k q g base is fits = record {
  fits = one_fits g (view_of k.base) (subst (λ x. FitsOne g (view_of x)) (sym base) fits);
  unstaged = ap (staged_views k.base k.draft) is;
}

full_new : (k : KeptQuotient) (q : Quotient) (g : Graph) → k.base ≡ q → Agrees (shape_of g) q.blocks.block_of (Bisim (shape_of g))
    → Agrees (shape_of g) k.base.blocks.block_of (Bisim (shape_of g))
full_new k q g base full = subst (λ (x : Quotient). Agrees (shape_of g) x.blocks.block_of (Bisim (shape_of g))) (sym base) full

-- the view of a quotient that is built
pub built : (k : KeptQuotient) (q : Quotient) (g : Graph) (n : ℕ) → k.base ≡ q → k.staged ≡ false → FitsOne g (view_of q) → Agrees (shape_of g) q.blocks.block_of (Bisim (shape_of g))
    → IsBuilt (meaning_of None) (meaning_of (Some k)) g n
built k q g n base is fits full = record { kind = refl; ready = ready_new k q g base is fits; count = refl; full = full_new k q g base full }

-- ---- the blocks to which no other has support

labels_kept : (block : List (Option ℕ)) (n : ℕ) (labels : List (Option ℕ)) (b l : ℕ) → at (inhabited_from block n labels) b ≡ Some l → at labels b ≡ Some l
labels_kept block n [] b l h = absurd (cc)
labels_kept block n (x ∷ xs) zero l h = by (has_member block n) h
  where
    by : (t : Bool) → cond t x None ≡ Some l → x ≡ Some l
    by true e = e
    by false e = absurd (cc)
labels_kept block n (x ∷ xs) (suc b) l h = labels_kept block (n + 1) xs b l h

-- those that the base has once a draft is settled
pub covers_settled : (q q2 : Quotient) (d : Drafted) (parentless : ParentlessLists) → view_of q2 ≡ settled_view q d → CoversShown q d parentless → CoversBase q2 parentless
covers_settled q q2 d parentless view covers = subst (λ (v : View). CoversParentless (at v.labels) (support_at v.supports) parentless) (sym view) covers

-- and they are the same over a base that is seen the same
pub covers_same : (q q2 : Quotient) (parentless : ParentlessLists) → view_of q2 ≡ view_of q → CoversBase q parentless → CoversBase q2 parentless
covers_same q q2 parentless same covers = subst (λ (v : View). CoversParentless (at v.labels) (support_at v.supports) parentless) (sym same) covers

pub shown_same : (q q2 : Quotient) (d : Drafted) (parentless : ParentlessLists) → view_of q2 ≡ view_of q → CoversShown q d parentless → CoversShown q2 d parentless
shown_same q q2 d parentless same covers = subst (λ (v : View). CoversParentless (at (settled_by v d).labels) (support_at (with_supports v.supports d.supports)) parentless) (sym same) covers

-- where nothing is drafted
pub covers_cleared : (q : Quotient) (d : Drafted) (parentless : ParentlessLists) → d ≡ no_changes → CoversBase q parentless → CoversShown q d parentless
covers_cleared q d parentless empty covers =
    subst (λ x. CoversShown q x parentless) (sym empty) (record { each = λ b l h k. covers.each b l (labels_kept (shown_blocks q no_changes) 0 (shown_labels q no_changes) b l h) k })
