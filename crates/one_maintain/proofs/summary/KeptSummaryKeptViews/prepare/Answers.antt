use Rattle.std.proofs.Common.{◌≡◌, true, false, refl, sym, subst, ap, ◌∙◌}
use Rattle.bisim_spec.specs.Fits.{FitsOne}
use Rattle.quotient.specs.Quotients.{view_of}
use Rattle.quotient_draft.specs.Drafts.{settled_view}
use Rattle.one_update.specs.OneDrafts.{IsSupported}
use Rattle.one_maintain.specs.KeptQuotients.{KeptQuotient, IsKeptDraft, MovesByOneStep}
use Rattle.one_maintain.proofs.Staged.{ready_kept, prepared, kept_meaning, same_view, covers_cleared}
use Rattle.one_maintain.proofs.summary.KeptSummaryKeptViews.prepare.Goals as goal

pub fill-requires-clause-fits : goal.fill-requires-clause-fits
fill-requires-clause-fits g c =
    subst (λ (k : KeptQuotient). FitsOne c.args.graph.now.graph (view_of k.base)) (sym c.self.view_is) (ready_kept c.args.self.now c.args.graph.now.graph c.requires.ready).fits

pub returns-in-Ok-clause-free : goal.returns-in-Ok-clause-free
returns-in-Ok-clause-free g c = λ u v w e there s.
    c.fill.ensures.free u v e (subst (λ (k : KeptQuotient). IsSupported (view_of k.base) u v) (sym c.self.view_is) (same_view c.args.self.now w u v there s))

pub returns-in-Err-clause-free : goal.returns-in-Err-clause-free
returns-in-Err-clause-free g c = λ u v w e there s.
    c.fill.ensures.free u v e (subst (λ (k : KeptQuotient). IsSupported (view_of k.base) u v) (sym c.self.view_is) (same_view c.args.self.now w u v there s))

pub invariant_of-self-in-Err : goal.invariant_of-self-in-Err
invariant_of-self-in-Err g c =
    let unstaged : c.self.inside.staged ≡ false =
    ap (λ (k : KeptQuotient). k.staged) c.self.view_is ∙ (ready_kept c.args.self.now c.args.graph.now.graph c.requires.ready).unstaged in
    record {
      kept = subst (IsKeptDraft c.fill.new.base c.clear.new.self) (sym unstaged) c.clear.ensures.empty;
      parentless = c.fill.ensures.covers;
      shown = covers_cleared c.fill.new.base c.clear.new.self c.fill.new.parentless c.clear.ensures.empty c.fill.ensures.covers;
    }

pub returns-in-Ok-clause-staged : goal.returns-in-Ok-clause-staged
returns-in-Ok-clause-staged g c =
    let graph = c.args.graph.now.graph in
    let change = c.args.change.now in
    let k2 : KeptQuotient = record { base = c.fill.new.base; draft = c.fill.new.draft; staged = true } in
    let same = subst (λ (k : KeptQuotient). view_of k2.base ≡ view_of k.base) c.self.view_is c.fill.ensures.same in
    let step = subst (λ (k : KeptQuotient). MovesByOneStep graph change k.base (settled_view k2.base k2.draft)) c.self.view_is c.in-Ok.ensures.step in
    prepared c.args.self.now k2 graph change same refl step c.in-Ok.ensures.fits

pub returns-in-Err-clause-err : goal.returns-in-Err-clause-err
returns-in-Err-clause-err g c =
    let k2 : KeptQuotient = record { base = c.fill.new.base; draft = c.clear.new.self; staged = c.self.inside.staged } in
    let was = (ready_kept c.args.self.now c.args.graph.now.graph c.requires.ready).unstaged in
    let same = subst (λ (k : KeptQuotient). view_of k2.base ≡ view_of k.base) c.self.view_is c.fill.ensures.same in
    kept_meaning c.args.self.now k2 same was (ap (λ (k : KeptQuotient). k.staged) c.self.view_is ∙ was)
