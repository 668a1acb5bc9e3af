use Rattle.std.proofs.Common.{◌∙◌, ap, sym, arith, length}
use Rattle.std.specs.Prelude.{slice_get}
use Rattle.graph_spec.specs.Members.{at}
use Rattle.index_picture.proofs.LoneLaws.{few_before, numbers_within, is_lone}
use Rattle.index_picture.proofs.lone.single_nodes.Goals as goal

pub fill-requires-clause-few_blocks : goal.fill-requires-clause-few_blocks
fill-requires-clause-few_blocks c =
    let g = c.args.graph.now.graph in
    let a = ap length c.deref-2.ensures.value in
    let b = c.in_ok-push_nodes.ensures.lone.count in
    let d = few_before g (length g.allocated) in
    let e = c.created.ensures.count in
    let f = c.created.ensures.few in
    omega (arith, a, b, d, e, f)

pub fill-requires-clause-blocks : goal.fill-requires-clause-blocks
fill-requires-clause-blocks c = λ n b h.
    let g = c.args.graph.now.graph in
    let k = numbers_within g (length g.allocated) _ _ c.in_ok-push_nodes.ensures.lone n b (sym (ap (λ l. at l n) c.deref.ensures.value) ∙ h) in
    let a = ap length c.deref-2.ensures.value in
    omega (arith, k, a)

pub returns : goal.returns
returns c =
    is_lone c.args.graph.now.graph _ _ c.in_ok-blocks.blocks c.in_ok-push_nodes.ensures.lone
    (λ n. c.in_ok-blocks.ensures.blocks n ∙ ap (λ l. at l n) c.deref.ensures.value)
    (λ b. c.in_ok-blocks.ensures.labels b ∙ ap (λ l. slice_get l b) c.deref-2.ensures.value)
