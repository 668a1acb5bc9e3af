use Rattle.std.proofs.Common.{◌≡◌, ◌++◌, ◌∷◌, [], ℕ, Bool, Option, is_some, ap, sym, ◌∙◌, inl, inr, arith, subst, cond, refl}
use Rattle.std.specs.List.{IsDistinct, filter}
use Rattle.std.specs.Prelude.{slice_index, nat_eq}
use Rattle.std.proofs.lemmas.List.{take_all}
use Rattle.graph_spec.specs.Members.{at, has}
use Rattle.quotient_draft.specs.Drafts.{shown_blocks, shown_labels}
use Rattle.one_split.proofs.Present.{filter_more, has_filter, filter_once, first_cases, live_at}
use Rattle.one_split.proofs.targets.with_blocks.Goals as goal

pub loop-t-preserved : goal.loop-t-preserved
loop-t-preserved c =
    let p = shown_blocks c.args.base.now c.args.draft.now in
    let labels : ℕ → Option ℕ = at (shown_labels c.args.base.now c.args.draft.now) in
    let targets = c.args.targets.now in
    let x = slice_index targets c.loop-t.t-index in
    let before = c.loop-t.list.items in
    record {
      kept = filter_more (λ n. is_some (at p n)) targets before c.push_if.new.list.items c.loop-t.t-index 0 x c.loop-t-test.true c.loop-t.invariant.kept refl
          (c.in_ok-push_if.ensures ∙ ap (λ b. cond b (before ++ x ∷ []) before) (c.is_some.ensures ∙ ap is_some c.block_of.ensures.block));
      live = λ n b h e. elim (first_cases targets c.loop-t.t-index 0 n c.loop-t-test.true h) [
        | inl earlier ↦ c.loop-t.invariant.live n b earlier e
        | inr last ↦ live_at c.block_of.result labels b c.block_of.ensures.live (c.block_of.ensures.block ∙ ap (at p) (sym last) ∙ e)
      ];
    }

pub returns-clause-once : goal.returns-clause-once
returns-clause-once c =
    let q : ℕ → Bool = λ n. is_some (at (shown_blocks c.args.base.now c.args.draft.now) n) in
    let all : c.loop-t.list.items ≡ filter q c.args.targets.now = c.loop-t.invariant.kept ∙ ap (filter q) (take_all c.loop-t.t-index c.args.targets.now (omega arith)) in
    subst (IsDistinct nat_eq) (sym all) (filter_once q c.args.targets.now c.requires.once)

pub returns-clause-those : goal.returns-clause-those
returns-clause-those c = λ n.
    let q : ℕ → Bool = λ n. is_some (at (shown_blocks c.args.base.now c.args.draft.now) n) in
    let all : c.loop-t.list.items ≡ filter q c.args.targets.now = c.loop-t.invariant.kept ∙ ap (filter q) (take_all c.loop-t.t-index c.args.targets.now (omega arith)) in
    ap (λ xs. has xs n) all ∙ has_filter q c.args.targets.now n
