use Rattle.std.proofs.Common.{◌≡◌, false, refl, subst}
use Rattle.quotient.specs.Quotients.{view_of}
use Rattle.quotient_draft.specs.Drafts.{settled_view}
use Rattle.one_maintain.specs.KeptQuotients.{KeptQuotient}
use Rattle.one_maintain.proofs.Staged.{some_staged, committed, covers_settled, covers_cleared}
use Rattle.one_maintain.proofs.summary.KeptSummaryKeptViews.commit.Goals as goal

pub invariant_of-self : goal.invariant_of-self
invariant_of-self c =
    let parentless = covers_settled c.self.inside.base c.settle.new.base c.self.inside.draft c.self.inside.parentless c.settle.ensures.settled c.self.invariant.shown in
    record { kept = c.settle.ensures.empty; parentless = parentless; shown = covers_cleared c.settle.new.base c.settle.new.self c.self.inside.parentless c.settle.ensures.empty parentless }

pub returns : goal.returns
returns c =
    let k2 : KeptQuotient = record { base = c.settle.new.base; draft = c.settle.new.self; staged = false } in
    let view = subst (λ (k : KeptQuotient). view_of k2.base ≡ settled_view k.base k.draft) c.self.view_is c.settle.ensures.settled in
    committed c.args.self.now k2 (some_staged c.args.self.now.base c.args.self.now.draft c.args.self.now.staged c.requires.staged) view refl
