use Rattle.std.proofs.Common.{ℕ, List, Bool, ◌||◌, false, nat_lt, ap, subst}
use Rattle.graph_spec.specs.Members.{has}
use Rattle.bisim_spec.specs.IndexGraphs.{support_at}
use Rattle.quotient_draft.specs.Drafts.{Drafted, with_supports}
use Rattle.quotient_draft.specs.Nexts.{IsNext}
use Rattle.quotient_draft.proofs.NextBlocks.{next_none, next_of_both}
use Rattle.quotient_draft.proofs.draft.Draft.next_child.Goals as goal

pub returns : goal.returns
returns c =
    let t = c.args.base.now.supports in
    let a = c.args.a in
    let from = c.args.from in
    let shown : ℕ → Bool = λ b. nat_lt 0 (support_at (with_supports t c.self.inside.changed) a b) in
    let base = c.base_children.result.now in
    record {
      next =
          subst (λ (s : List ((ℕ × ℕ) × ℕ)). IsNext (λ b. nat_lt 0 (support_at (with_supports t s) a b)) from c.next_child_in.result) (ap (λ (d : Drafted). d.supports) c.self.view_is)
          (next_of_both shown (λ b. nat_lt 0 (support_at t a b)) base c.children.result.now from c.next_child_in.result c.base_children.ensures
          (λ b h. ap (nat_lt 0) (c.children.ensures t b h))
          (c.next_child_in.ensures (λ b. false || has base b) (c.next_child_in-first.ensures (λ _. false) (next_none shown from))));
    }
