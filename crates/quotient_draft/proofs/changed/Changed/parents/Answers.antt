use Rattle.std.proofs.Common.{◌∙◌, ℕ, List, sym, ap}
use Rattle.graph_spec.specs.Members.{has}
use Rattle.bisim_spec.specs.IndexGraphs.{support_at}
use Rattle.quotient_draft.specs.Drafts.{with_supports}
use Rattle.quotient_draft.proofs.Noted.{unlisted_onto}
use Rattle.quotient_draft.proofs.DraftedMoves.{supports_absent}
use Rattle.quotient_draft.proofs.changed.Changed.parents.Goals as goal

pub returns : goal.returns
returns c = λ t a h.
    let es = c.self.inside.pairs.entries in
    let none = unlisted_onto es a c.args.b (ap (λ xs. has xs a) (sym (c.ends_of.ensures ∙ c.self.invariant.onto_are c.args.b)) ∙ h) in
    ap (λ (fs : List ((ℕ × ℕ) × ℕ)). support_at (with_supports t fs) a c.args.b) (sym c.self.view_is) ∙ supports_absent t es a c.args.b none
