use Rattle.std.proofs.Common.{subst}
use Rattle.round_refinement.specs.Changes.{AreBlocksOf}
use Rattle.round_refinement.proofs.ChangeLaws.{both_sides}
use Rattle.round_refinement.proofs.changes.group.Goals as goal

pub returns-clause-grouped : goal.returns-clause-grouped
returns-clause-grouped g c =
    both_sides (g.G.Digraph.edge c.args.g.now) c.args.parts.now.before.items c.args.parts.now.block.items c.args.active.now c.in_ok-own.own.items c.deref-2.result.now c.in_ok-mid.mid.items
    c.deref-3.result.now c.in_ok-groups.groups.items (subst (λ b. AreBlocksOf b c.args.active.now c.in_ok-own.own.items) c.deref.ensures.value c.in_ok-own.ensures) c.deref-2.ensures.value
    c.in_ok-mid.ensures.parted c.deref-3.ensures.value c.in_ok-groups.ensures.parted
