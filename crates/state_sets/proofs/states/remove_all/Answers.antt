use Rattle.std.proofs.Common.{◌∙◌, ◌<◌, get_or, sym, subst}
use Rattle.state_sets.proofs.Lists.{has_at, left_after, none_left}
use Rattle.state_sets.proofs.states.remove_all.Goals as goal

pub remove-requires : goal.remove-requires
remove-requires c =
    let list = c.args.list.now in
    let i = c.loop-i.i in
    subst (λ n. get_or list i 0 < n) (sym c.loop-i.invariant.size) (c.requires.below (get_or list i 0) (has_at list i c.loop-i-test.true))

pub loop-i-preserved : goal.loop-i-preserved
loop-i-preserved c =
    let list = c.args.list.now in
    let i = c.loop-i.i in
    let was = c.loop-i.invariant in
    record {
      size = c.remove.ensures.size ∙ was.size;
      left = left_after list c.loop-i.set.members c.remove.new.self.members i c.loop-i-test.true was.left c.remove.ensures.members;
    }

pub returns-clause-none : goal.returns-clause-none
returns-clause-none c = none_left c.args.list.now c.loop-i.set.members c.loop-i.i c.loop-i-test.false c.loop-i.invariant.left
