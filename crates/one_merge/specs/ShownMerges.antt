-- Merging pairs of blocks as a draft shows them.
use Rattle.std.specs.Prelude.{ℕ, Bool, List, Option, IsTrue, length, ◌≡◌, ◌⊎◌}
use Rattle.graph_spec.specs.Members.{has}
use Rattle.graph_spec.specs.Shapes.{Shape}
use Rattle.bisim_spec.specs.Below.{count_below}
use Rattle.one_spec.specs.Merges.{Merges, AreMergeCandidates}
use Rattle.one_spec.specs.Viewed.{IsViewed, IsMergedToEnd}
use Rattle.quotient.specs.Quotients.{Quotient}
use Rattle.quotient_draft.specs.Drafts.{Drafted, shown_labels, shown_blocks, has_member}
pub use Rattle.one_merge.specs.MergeableShown.{ShowsStablePartition, ShowsSupportsOfGraph, AreShownMergeable, AreShownNotMergeable}
pub use Rattle.one_merge.specs.MergeableShown.{StayEdgeCounts, LabelsStayRight, AreDraftedParents}
use Rattle.one_merge.specs.MergeTests.{shown_adjacent}

-- of each two blocks as shown that can be merged one is among these
abbrev pub AreShownMergeCandidates : Shape → Quotient → Drafted → (ℕ → Type 0) → Type 0
AreShownMergeCandidates s q d among = AreMergeCandidates s (shown_blocks q d) among

-- whatever the graph: where the partition shown is stable, and of each two blocks that can be merged one was a candidate, one is now of
-- this pair, or is still a candidate
abbrev pub StayMergeCandidates : Quotient → Drafted → List ℕ → ℕ × ℕ → List ℕ → Type 0
StayMergeCandidates q d merge_candidates pair merge_candidates2 =
    (s : Shape) → ShowsStablePartition s q d → AreShownMergeCandidates s q d (λ b. IsTrue (has merge_candidates b))
    → AreShownMergeCandidates s q d (λ b. ((b ≡ pair.0) ⊎ (b ≡ pair.1)) ⊎ IsTrue (has merge_candidates2 b))

-- whatever the graph: where the partition shown is stable, and of each two blocks that can be merged one was a candidate, no two can be
abbrev pub NoTwoCanMerge : Quotient → Drafted → List ℕ → Type 0
NoTwoCanMerge q d merge_candidates =
    (s : Shape) → ShowsStablePartition s q d → AreShownMergeCandidates s q d (λ b. IsTrue (has merge_candidates b))
    → AreShownMergeCandidates s q d (λ b. ⊥)

-- whatever the graph: where the partition shown is stable, and of each two blocks that can be merged one is a candidate, pairs were
-- merged until no two could be
abbrev pub MergesToEnd : Quotient → Drafted → Drafted → List ℕ → Type 0
MergesToEnd q d d2 merge_candidates =
    (s : Shape) → ShowsStablePartition s q d → AreShownMergeCandidates s q d (λ b. IsTrue (has merge_candidates b))
    → IsMergedToEnd s (shown_blocks q d) (shown_blocks q d2)

-- of these blocks none but a itself has support to a
abbrev pub HasNoOther : Quotient → Drafted → List ℕ → ℕ → Type 0
HasNoOther q d blocks a = (x : ℕ) → IsTrue (has blocks x) → IsTrue (shown_adjacent q d x a) → x ≡ a

-- where the block has support to itself, all blocks to which it has support are listed
abbrev pub ListsOwnChildren : Quotient → Drafted → ℕ → List ℕ → Type 0
ListsOwnChildren q d a list = IsTrue (shown_adjacent q d a a) → (b : ℕ) → IsTrue (shown_adjacent q d a b) → IsTrue (has list b)

-- how many blocks have members as shown
abbrev pub inhabited : Quotient → Drafted → ℕ
inhabited q d = count_below (length (shown_labels q d)) (has_member (shown_blocks q d))

-- After some merges: pairs were merged, the tables fit, and of each two blocks that can be merged one is among these.
pub record IsMerging (s : Shape) (first block : List (Option ℕ)) (labels : ℕ → Option ℕ)
    (adjacent : ℕ → ℕ → Bool) (merge_candidates : List ℕ) : Type 0 where
  -- pairs of blocks were merged, each of which could be when its turn came
  pub merges : Merges s first block
  -- the tables fit the partition that is left, and it is stable
  pub viewed : IsViewed s block labels adjacent
  -- of each two blocks that can be merged one is a candidate
  pub candidates_are : AreMergeCandidates s block (λ b. IsTrue (has merge_candidates b))
