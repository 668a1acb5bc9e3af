use Rattle.std.proofs.Common.{ap, sym, ◌∙◌}
use Rattle.index_file.specs.Readings.{RankedView, next_rank}
use Rattle.index_file.specs.ReadViews.{last_ranks}
use Rattle.index_file.proofs.ReadViewLaws.{last_begun}
use Rattle.index_file.proofs.read_views.ReadViews.begin.Goals as goal

pub invariant_of-self-2 : goal.invariant_of-self-2
invariant_of-self-2 c =
    sym (ap (next_rank 0) (ap last_ranks c.in_ok-push.ensures.items ∙ last_begun c.self.inside.list.items c.in_ok-view.view ∙ ap (λ (v : RankedView). v.ranks) c.in_ok-view.ensures))
