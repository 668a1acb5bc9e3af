use Rattle.std.proofs.Common.{◌<◌, length, ◌∙◌}
use Rattle.memchr.specs.Find.{Passes, is_byte}
use Rattle.memchr.proofs.lemmas.CallerLemmas.{All-places}
use Rattle.px_base.proofs.FlagIndexes.{search-places, rest-all, rest-listed}
use Rattle.px_base.proofs.bits.places.Goals as goal

pub loop-place-init : goal.loop-place-init
loop-place-init c =
    let same = c.into_iter-place-iterator.ensures.into_iter_gives ∙ c.memchr_iter-place-items.ensures.value in
    record {
      below = rw same (All-places (is_byte 1) c.args.flags.now);
      listed = rw (c.new-list.ensures.items, same) (search-places c.args.flags.now);
    }

pub loop-place-preserved : goal.loop-place-preserved
loop-place-preserved c =
    let steps = c.in-Some.ensures.steps in
    record {
      below = rest-all (λ k. (k < length c.args.flags.now) × Passes (is_byte 1) c.args.flags.now k) _ _ _ steps c.loop-place.invariant.below;
      listed = rest-listed _ _ _ _ _ _ c.in_ok-push.ensures.items steps c.loop-place.invariant.listed;
    }
