use Rattle.std.proofs.Common.{◌∙◌, ℕ, ◌<◌, arith}
use Rattle.path_automaton.specs.NewMarks.{Passes}
use Rattle.branch_expr.proofs.Taken.{led_run, passing_node}
use Rattle.branch_expr.proofs.leading.passing_children.Goals as goal

pub insert_children_of-requires-clause-nodes : goal.insert_children_of-requires-clause-nodes
insert_children_of-requires-clause-nodes g c n h =
    let label_at = g.G.Digraph.label_at c.args.g.now in
    let P = Passes label_at c.args.test in
    let run = c.note_passing-count.ensures.noted in
    passing_node label_at c.args.test n ((run n).0 h).2

pub loop-from-preserved : goal.loop-from-preserved
loop-from-preserved g c =
    let P = Passes (g.G.Digraph.label_at c.args.g.now) c.args.test in
    let count = c.note_passing-count.result in
    let from = c.loop-from.from in
    let to = c.end_of_run-to.result in
    let run = c.note_passing-count.ensures.noted in
    let size = c.size-in-loop-from-2.ensures in
    let within = c.end_of_run-to.ensures.within in
    record {
      size = c.insert_children_of.ensures.size ∙ c.loop-from.invariant.size;
      length = c.note_passing-count.ensures.length ∙ c.loop-from.invariant.length;
      within = omega (arith, size, within);
      so_far = led_run P (g.G.Digraph.edge c.args.g.now) c.loop-from.image.members c.insert_children_of.new.set.members _ from to c.end_of_run-to.ensures.more run
          c.loop-from.invariant.so_far c.insert_children_of.ensures.members;
    }

pub returns-clause-image : goal.returns-clause-image
returns-clause-image g c x =
    let label_at = g.G.Digraph.label_at c.args.g.now in
    let all = c.loop-from.invariant.so_far x in
    let past = c.loop-from-test.false in
    let size = c.size-in-loop-from.ensures in
    let low : (v : ℕ) → Passes label_at c.args.test v → v < c.loop-from.from =
    λ v h. let below = g.met.G.Digraph.below c.args.g.now v (passing_node label_at c.args.test v h) in omega (arith, past, size, below) in (
      λ m. let p = all.0 m in (p.0, p.2, p.3),
      λ p. all.1 (p.0, low p.0 p.1, p.1, p.2),
    )
