use Rattle.std.proofs.Common.{◌∙◌, ℕ, List, sym, ap, unwrap_or}
use Rattle.bisim_spec.specs.IndexGraphs.{support_at}
use Rattle.quotient_draft.specs.Drafts.{with_supports}
use Rattle.quotient_draft.proofs.DraftedMoves.{at_supports}
use Rattle.quotient_draft.proofs.changed.Changed.find.Goals as goal

pub returns-in-Some-clause-support : goal.returns-in-Some-clause-support
returns-in-Some-clause-support c =
    let t = c.args.base.now.supports in
    let es = c.self.inside.pairs.entries in
    ap (λ o. unwrap_or o (support_at t c.args.a c.args.b)) c.in-Some.ensures.value ∙ sym (at_supports t es c.args.a c.args.b c.self.invariant.once)
    ∙ ap (λ (fs : List ((ℕ × ℕ) × ℕ)). support_at (with_supports t fs) c.args.a c.args.b) c.self.view_is

pub returns-in-None-clause-support : goal.returns-in-None-clause-support
returns-in-None-clause-support c =
    let t = c.args.base.now.supports in
    let es = c.self.inside.pairs.entries in
    c.support.ensures ∙ ap (λ o. unwrap_or o (support_at t c.args.a c.args.b)) c.in-None.ensures.value ∙ sym (at_supports t es c.args.a c.args.b c.self.invariant.once)
    ∙ ap (λ (fs : List ((ℕ × ℕ) × ℕ)). support_at (with_supports t fs) c.args.a c.args.b) c.self.view_is
