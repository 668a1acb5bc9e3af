use Rattle.std.proofs.Common.{arith, ◌∙◌, ap, [], ◌++◌, ◌∷◌}
use Rattle.ak_family.proofs.Built.{built_supported, built_lowest, built_above, built_top, built_family}
use Rattle.ak_family.proofs.family.AkFamily.build.Goals as goal

pub loop-init : goal.loop-init
loop-init c =
    built_lowest c.args.sides c.args.view.now c.in_ok-level.level c.in_ok-below.below.block.items c.in_ok-below.below.labels.items c.in_ok-below.keys c.push.new.self.items
    c.in_ok-below.ensures.agrees c.in_ok-below.ensures.labelled c.in_ok-below.ensures.numbered c.in_ok-level.ensures.blocks c.in_ok-level.ensures.fits c.in_ok-level.ensures.keys
    c.in_ok-level.ensures.labels c.in_ok-level.ensures.keyed (c.in_ok-push.ensures.items ∙ ap (λ xs. xs ++ c.in_ok-level.level ∷ []) c.in_ok-levels.ensures.items)

pub keyed_summary-requires-in-loop-clause-partition : goal.keyed_summary-requires-in-loop-clause-partition
keyed_summary-requires-in-loop-clause-partition c =
    (c.in_ok-next.ensures.agrees c.loop.counter (built_top c.args.sides c.args.view.now c.loop.counter c.loop.levels.items c.loop.below.block.items c.loop.below.labels.items c.loop.invariant)).partition

pub loop-preserved : goal.loop-preserved
loop-preserved c =
    built_above c.args.sides c.args.view.now c.loop.counter c.loop.levels.items c.push-in-loop.new.self.items c.in_ok-upper.upper c.loop.below.block.items c.in_ok-next.next.block.items
    c.loop.below.labels.items c.in_ok-next.next.labels.items c.in_ok-next.keys c.loop.invariant c.in_ok-next.ensures.agrees c.in_ok-next.ensures.labelled
    c.in_ok-next.ensures.numbered c.in_ok-upper.ensures.blocks c.in_ok-upper.ensures.fits c.in_ok-upper.ensures.keys c.in_ok-upper.ensures.keyed c.in_ok-push-2.ensures.items

pub returns-clause-agrees : goal.returns-clause-agrees
returns-clause-agrees c =
    λ j h. c.loop.invariant.agrees j (let end = c.loop-test.false in omega (arith, h, end))

pub invariant_of-result : goal.invariant_of-result
invariant_of-result c =
    let count = c.loop.invariant.count in
    let end = c.loop.auto.counter-end in
    let few = c.requires.few in
    record {
      some = omega (arith, count);
      few = omega (arith, count, end, few);
      keyed = built_family c.args.sides c.args.view.now c.loop.counter c.loop.levels.items c.loop.below.block.items c.loop.below.labels.items c.loop.invariant;
    }

pub returns-clause-supported : goal.returns-clause-supported
returns-clause-supported c =
    built_supported c.args.sides c.args.view.now c.created-known.ensures.graph c.loop.counter c.loop.levels.items c.loop.below.block.items c.loop.below.labels.items c.loop.invariant
