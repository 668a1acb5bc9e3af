use Rattle.std.proofs.lemmas.List.Filters.{dedup_is}
use Rattle.key_table.proofs.RisingSets.{deduped_once, deduped_rising, deduped_same}
use Rattle.key_table.proofs.sorted.sort_dedup.Goals as goal

pub returns-clause-rising : goal.returns-clause-rising
returns-clause-rising c = deduped_rising _ _ c.sort_unstable.ensures.sorted (dedup_is _ _ _ c.drop_repeats.ensures)

pub returns-clause-once : goal.returns-clause-once
returns-clause-once c = deduped_once _ _ c.sort_unstable.ensures.sorted (dedup_is _ _ _ c.drop_repeats.ensures)

pub returns-clause-same : goal.returns-clause-same
returns-clause-same c = deduped_same _ _ _ c.sort_unstable.ensures.permutation (dedup_is _ _ _ c.drop_repeats.ensures)
