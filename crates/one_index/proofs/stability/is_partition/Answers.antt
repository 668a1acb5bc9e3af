use Rattle.std.proofs.Common.{below_more, is_some, ap, sym, ◌∙◌, arith, subst, Some, IsSome, ◌≡◌}
use Rattle.std.specs.Prelude.{IfSome}
use Rattle.graph_spec.specs.Shapes.{shape_of}
use Rattle.graph_spec.specs.Members.{at}
use Rattle.one_index.proofs.Uniform.{node_same, tests_same, tests_apart, partition_same, partition_from}
use Rattle.one_index.proofs.stability.is_partition.Goals as goal

pub returns-then-is_node-is_some-clause-no : goal.returns-then-is_node-is_some-clause-no
returns-then-is_node-is_some-clause-no c h p =
    tests_apart c.is_node.result c.is_some.result c.if-is_node-is_some.true
    (c.is_node.ensures ∙ node_same c.args.view.now c.size.ensures.graph c.loop-n.n ∙ sym (partition_same (shape_of c.args.view.now) c.args.summary.now.blocks.block_of p c.loop-n.n)
    ∙ ap is_some (sym c.block_of.ensures.block) ∙ sym c.is_some.ensures)

pub loop-n-preserved : goal.loop-n-preserved
loop-n-preserved c = record {
  same = below_more _ _ c.loop-n.invariant.same
      (ap is_some (sym c.block_of.ensures.block) ∙ sym c.is_some.ensures ∙ sym (tests_same c.is_node.result c.is_some.result c.if-is_node-is_some.false) ∙ c.is_node.ensures
      ∙ node_same c.args.view.now c.size.ensures.graph c.loop-n.n);
  live = below_more _ _ c.loop-n.invariant.live
      (λ b e. let is : c.block_of.result ≡ Some b = c.block_of.ensures.block ∙ e in subst (λ o. IfSome o (λ x. IsSome (at c.args.summary.now.blocks.labels x))) is c.block_of.ensures.live);
}

pub returns-clause-yes : goal.returns-clause-yes
returns-clause-yes c h =
    let allocated = c.size.ensures.size in
    let longest = c.numbers.ensures.count in
    let most = c.max-most.ensures in
    let end = c.loop-n-test.false in
    partition_from c.args.view.now c.size.ensures.graph c.args.summary.now.blocks.block_of c.loop-n.n (omega (arith, allocated, longest, most, end)) (omega (arith, allocated, longest, most, end)) c.loop-n.invariant.same
