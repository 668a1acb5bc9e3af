use Rattle.std.proofs.Common.{sym, ap, get_or, ◌∙◌}
use Rattle.hash_index.specs.Items.{with_item}
use Rattle.round_refinement.proofs.ChangeLaws.{puts_more}
use Rattle.round_refinement.proofs.changes.put_near.Goals as goal

pub loop-n-preserved : goal.loop-n-preserved
loop-n-preserved c =
    puts_more c.args.nodes.now c.loop-n.n-index 0 c.args.q c.args.near.now c.loop-n.near c.push.new.self c.loop-n-test.true (sym c.len-known.ensures.hashes ∙ c.len-known.ensures.items)
    c.loop-n.invariant (c.in_ok-push.ensures.ok ∙ ap (λ h. with_item c.loop-n.near h (get_or c.args.nodes.now c.loop-n.n-index 0, c.args.q)) c.spread.ensures)
