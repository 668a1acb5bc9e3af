use Rattle.std.proofs.Common.{◌∙◌, ℕ, List, sym, ap}
use Rattle.graph_spec.specs.Members.{has}
use Rattle.bisim_spec.specs.IndexGraphs.{support_at}
use Rattle.quotient_draft.specs.Drafts.{with_supports}
use Rattle.quotient_draft.proofs.Noted.{unlisted_from}
use Rattle.quotient_draft.proofs.DraftedMoves.{supports_absent}
use Rattle.quotient_draft.proofs.changed.Changed.children.Goals as goal

pub returns : goal.returns
returns c = λ t b h.
    let es = c.self.inside.pairs.entries in
    let none = unlisted_from es c.args.a b (ap (λ xs. has xs b) (sym (c.ends_of.ensures ∙ c.self.invariant.from_are c.args.a)) ∙ h) in
    ap (λ (fs : List ((ℕ × ℕ) × ℕ)). support_at (with_supports t fs) c.args.a b) (sym c.self.view_is) ∙ supports_absent t es c.args.a b none
