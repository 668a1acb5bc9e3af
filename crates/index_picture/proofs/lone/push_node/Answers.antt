use Rattle.std.proofs.Common.{◌≡◌, ◌∷◌, ◌++◌, [], Some, length, ◌∙◌, ap, sym, arith}
use Rattle.index_picture.proofs.LoneLaws.{lone_pushed, few_before}
use Rattle.index_picture.proofs.lone.push_node.Goals as goal

pub overflow_cast-len : goal.overflow_cast-len
overflow_cast-len c =
    let a = few_before c.args.graph.now.graph c.args.n in
    let b = c.requires.lone.count in
    let d = c.len.ensures in
    let e = c.requires.few in
    omega (arith, a, b, d, e)

pub returns-in_ok-push-2 : goal.returns-in_ok-push-2
returns-in_ok-push-2 c =
    let len : c.len.result ≡ length c.args.labels.now.items = (let d = c.len.ensures in omega (arith, d)) in
    record {
      lone = lone_pushed c.args.graph.now.graph c.args.n c.label.result _ _ _ _ c.requires.lone (sym c.is_live.ensures.live ∙ c.if-is_live.true) c.label.ensures.number
          (c.in_ok-push.ensures.items ∙ ap (λ k. c.args.block.now.items ++ Some k ∷ []) len) c.in_ok-push-2.ensures.items;
    }
