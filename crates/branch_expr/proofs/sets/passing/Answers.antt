use Rattle.std.proofs.Common.{◌∙◌, arith}
use Rattle.path_automaton.specs.NewMarks.{Passes}
use Rattle.branch_expr.proofs.Taken.{put_run, passing_node}
use Rattle.branch_expr.proofs.sets.passing.Goals as goal

pub loop-from-preserved : goal.loop-from-preserved
loop-from-preserved g c =
    let P = Passes (g.G.Digraph.label_at c.args.g.now) c.args.test in
    let count = c.note_passing-count.result in
    let from = c.loop-from.from in
    let to = c.end_of_run-to.result in
    let run = c.note_passing-count.ensures.noted in
    let size = c.size-in-loop-from-2.ensures in
    let within = c.end_of_run-to.ensures.within in
    record {
      size = c.insert_all.ensures.size ∙ c.loop-from.invariant.size;
      length = c.note_passing-count.ensures.length ∙ c.loop-from.invariant.length;
      within = omega (arith, size, within);
      so_far = put_run P c.loop-from.set.members c.insert_all.new.set.members _ from to c.end_of_run-to.ensures.more run
          c.loop-from.invariant.so_far c.insert_all.ensures.members;
    }

pub returns-clause-members : goal.returns-clause-members
returns-clause-members g c n =
    let label_at = g.G.Digraph.label_at c.args.g.now in
    let all = c.loop-from.invariant.so_far n in
    let past = c.loop-from-test.false in
    let size = c.size-in-loop-from.ensures in (
      λ m. (all.0 m).1,
      λ h. let below = g.met.G.Digraph.below c.args.g.now n (passing_node label_at c.args.test n h) in all.1 (omega (arith, past, size, below), h),
    )
