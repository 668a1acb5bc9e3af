use Rattle.bisim_spec.proofs.WrittenKeys.{written}
use Rattle.round_refinement.proofs.keys.write_key.Goals as goal

pub returns : goal.returns
returns g c = λ f gives.
    written f c.args.nodes.now _ _ _ _ _ c.clear.ensures.items (c.in_ok-push_blocks.ensures f gives) (record { rising = c.sort_dedup.ensures.rising; same = c.sort_dedup.ensures.same }) c.in_ok-insert.ensures.items
