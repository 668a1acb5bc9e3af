use Rattle.std.proofs.Common.{◌+◌, [], take, sym, subst}
use Rattle.graph_update.specs.PendingChanges.{graph_after}
use Rattle.one_update.specs.UnsteadyNodes.{HaveRead}
use Rattle.one_update.proofs.KeptParents.{unkept_none, unkept_more, read_none, read_more, read_all}
use Rattle.one_update.proofs.unsteady.fill_unkept.Goals as goal

pub loop-i-init : goal.loop-i-init
loop-i-init g c = record {
  unkept = unkept_none (graph_after c.args.after.now) c.args.base.now.blocks.block_of c.args.list.now.items c.requires.empty;
  read = read_none c.args.after.now [] c.args.read.now.keys c.args.steps.now c.requires.unread;
}

pub loop-i-preserved : goal.loop-i-preserved
loop-i-preserved g c = record {
  unkept = unkept_more (graph_after c.args.after.now) c.args.base.now.blocks.block_of c.args.lost.now c.loop-i.list.items c.push_unless.new.list.items c.loop-i.i (0, 0) c.in_ok-kept.kept
      c.loop-i-test.true c.loop-i.invariant.unkept c.in_ok-kept.ensures.yes c.in_ok-push_unless.ensures;
  read = read_more c.args.after.now c.args.lost.now c.loop-i.read.keys c.keeps_parent.new.read.keys c.loop-i.i (0, 0) _ _ _ c.loop-i-test.true c.loop-i.invariant.read c.in_ok-kept.ensures.read;
}

pub returns-in_err-kept-clause-read : goal.returns-in_err-kept-clause-read
returns-in_err-kept-clause-read g c = read_all c.args.after.now c.args.lost.now c.loop-i.read.keys c.loop-i.i c.args.steps.now c.keeps_parent.new.steps
    (subst (HaveRead c.args.after.now (take c.loop-i.i c.args.lost.now) c.loop-i.read.keys c.args.steps.now) (sym c.in_err-kept.ensures.err) c.loop-i.invariant.read)

pub returns-in_err-push_unless-clause-read : goal.returns-in_err-push_unless-clause-read
returns-in_err-push_unless-clause-read g c = read_all c.args.after.now c.args.lost.now c.keeps_parent.new.read.keys (c.loop-i.i + 1) c.args.steps.now c.keeps_parent.new.steps
    (read_more c.args.after.now c.args.lost.now c.loop-i.read.keys c.keeps_parent.new.read.keys c.loop-i.i (0, 0) _ _ _ c.loop-i-test.true c.loop-i.invariant.read c.in_ok-kept.ensures.read)
