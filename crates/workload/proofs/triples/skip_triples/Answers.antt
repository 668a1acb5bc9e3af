use Rattle.std.proofs.Common.{◌-◌, ◌+◌, ◌∙◌, ap, sym}
use Rattle.workload.specs.MadeTexts.{after_lines}
use Rattle.workload.proofs.Steps.{after_next}
use Rattle.workload.proofs.triples.skip_triples.Goals as goal

pub loop-preserved : goal.loop-preserved
loop-preserved c =
    ap (λ x. after_lines (c.args.count - (c.loop.counter + 1)) x) c.draw_triple.ensures.state
    ∙ sym (after_next c.args.count c.loop.counter c.loop.generator.state c.loop-test.true)
    ∙ c.loop.invariant
