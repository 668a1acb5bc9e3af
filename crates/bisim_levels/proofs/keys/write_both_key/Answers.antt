use Rattle.bisim_levels.proofs.WrittenSides.{written_both}
use Rattle.bisim_levels.proofs.keys.write_both_key.Goals as goal

pub returns : goal.returns
returns g c = λ f gives.
    written_both f c.args.parents.now c.args.children.now _ _ _ _ _ _ c.clear.ensures.items (c.in_ok-push_marks.ensures f gives) (c.in_ok-push_marks-2.ensures f gives)
    (record { rising = c.sort_dedup.ensures.rising; same = c.sort_dedup.ensures.same }) c.in_ok-insert.ensures.items
