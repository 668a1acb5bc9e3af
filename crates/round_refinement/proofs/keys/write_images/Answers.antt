use Rattle.round_refinement.proofs.ChangeLaws.{images_of}
use Rattle.round_refinement.proofs.keys.write_images.Goals as goal

pub returns : goal.returns
returns g c = λ f gives.
    images_of f c.args.nodes.now _ _ _ c.clear.ensures.items (c.in_ok-push_blocks.ensures f gives) (record { rising = c.sort_dedup.ensures.rising; same = c.sort_dedup.ensures.same })
