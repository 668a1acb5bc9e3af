use Rattle.std.proofs.Common.{IsTrue, length}
use Rattle.graph_spec.specs.Members.{has}
use Rattle.graph_spec.specs.Shapes.{Shape}
use Rattle.one_merge.specs.ShownMerges.{ShowsStablePartition, AreShownMergeCandidates}
use Rattle.one_merge.proofs.merging.next_pair.Given as goal

abbrev pub invariant-look : goal.invariant-look
invariant-look l = (s : Shape) → ShowsStablePartition s l.base l.draft → AreShownMergeCandidates s l.base l.draft (λ b. IsTrue (has l.fn.merge_candidates b)) → AreShownMergeCandidates s l.base l.draft (λ b. IsTrue (has l.merge_candidates b))

abbrev pub decreases-look : goal.decreases-look
decreases-look l = length l.merge_candidates
