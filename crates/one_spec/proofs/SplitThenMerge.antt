-- What `split` ensures is what `merge` asks, and both give the next partition.
use Rattle.std.proofs.Common.{◌≡◌, ℕ, ◌⊎◌, ◌<◌, List, Option, Some, IsTrue, sym, ◌∙◌, arith, inl, inr, true, Bool, nat_lt}
use Rattle.std.proofs.lemmas.Bool.Decides.{Decides-ltb}
use Rattle.graph_spec.specs.Graphs.{Graph}
use Rattle.graph_spec.specs.Members.{has, at}
use Rattle.graph_spec.specs.Shapes.{Shape, IsShape, shape_of}
use Rattle.bisim_spec.specs.Stability.{Stable}
use Rattle.bisim_spec.specs.Supports.{edges_between}
use Rattle.bisim_spec.proofs.EdgeSupports.{support_adjacent, adjacent_support}
use Rattle.change_spec.specs.Steps.{Step, after}
use Rattle.change_spec.specs.Altered.{targets}
use Rattle.change_spec.specs.NextOne.{KeepsParents, OneStep}
use Rattle.one_spec.specs.Merges.{AreMergeCandidates}
use Rattle.one_spec.specs.EdgeCounts.{AreEdgeCounts}
use Rattle.one_spec.specs.BlockLabels.{IsLabelled}
use Rattle.one_spec.proofs.OneSteps.{Stages, split_stable, split_candidates, one_step_from}
use Rattle.one_spec.specs.Viewed.{IsViewed, IsMergedToEnd}
use Rattle.one_spec.specs.FirstCandidates.{AreFirstCandidates}

-- where the supports are right, blocks are adjacent exactly where there is support
pub viewed_supports : (g : Graph) (block : List (Option ℕ)) (labels : ℕ → Option ℕ) (support : ℕ → ℕ → ℕ) (adjacent : ℕ → ℕ → Bool) → IsShape (shape_of g) → Stable (shape_of g) block
    → IsLabelled (shape_of g) block labels → AreEdgeCounts g block support → ((x y : ℕ) → adjacent x y ≡ nat_lt 0 (support x y)) → IsViewed (shape_of g) block labels adjacent
viewed_supports g block labels support adjacent shape stable labelled supports is = record {
  shape = shape;
  stable = stable;
  labelled = labelled;
  into = λ x y c.
      let more = adjacent_support g block x y (c.from, c.onto, c.edge, c.from_at, c.onto_at) in
      let e = supports.each x y in
      let some : 0 < support x y = omega (arith, more, e) in
      is x y ∙ (Decides-ltb 0 (support x y)).1 some;
  from = λ x y h.
      let some : 0 < support x y = (Decides-ltb 0 (support x y)).0 (sym (is x y) ∙ h) in
      let e = supports.each x y in
      let more : 0 < edges_between g.edges block x y = omega (arith, some, e) in
      let j = support_adjacent g block x y more in
      record { from = j.0; onto = j.1; edge = j.2; from_at = j.3; onto_at = j.4 };
}

-- the merge candidates after a split
pub first_candidates : (from : ℕ → Bool) (s s2 : Shape) (p p1 p2 : List (Option ℕ)) (new_blocks merge_candidates : List ℕ) → Stages from s s2 p p1 p2 new_blocks → AreFirstCandidates from p2 new_blocks merge_candidates
    → AreMergeCandidates s2 p2 (λ b. IsTrue (has merge_candidates b))
first_candidates from s s2 p p1 p2 new_blocks merge_candidates stages are = record {
  one = λ a b can. elim ((split_candidates from s s2 p p1 p2 new_blocks stages).one a b can) [ inl h ↦ inl (one a h) | inr h ↦ inr (one b h) ];
}
  where
    one : (b : ℕ) → IsTrue (has new_blocks b) ⊎ ((t : ℕ) × IsTrue (from t) × (at p2 t ≡ Some b)) → IsTrue (has merge_candidates b)
    one b h = elim h [ inl there ↦ are.new_there b there | inr (t, on, e) ↦ are.targets_there t b on e ]

-- With the stages of a change and a split, and what merging makes of them: the next partition.
pub one_step_done : (c : List Step) (g : Graph) (from : ℕ → Bool) (p p1 p2 p3 : List (Option ℕ)) (new_blocks merge_candidates : List ℕ) (labels : ℕ → Option ℕ) (support : ℕ → ℕ → ℕ) (adjacent : ℕ → ℕ → Bool)
    → ((n : ℕ) → from n ≡ true → targets c g n ≡ true)
    → Stages from (shape_of g) (shape_of (after c g)) p p1 p2 new_blocks → IsLabelled (shape_of (after c g)) p2 labels → AreEdgeCounts (after c g) p2 support
    → ((x y : ℕ) → adjacent x y ≡ nat_lt 0 (support x y)) → AreFirstCandidates from p2 new_blocks merge_candidates
    → ((s : Shape) → IsViewed s p2 labels adjacent → AreMergeCandidates s p2 (λ b. IsTrue (has merge_candidates b)) → IsMergedToEnd s p2 p3)
    → (KeepsParents c (after c g) p → ⊥) → OneStep g p c (after c g) p3
one_step_done c g from p p1 p2 p3 new_blocks merge_candidates labels support adjacent few stages labelled supports is are merge changes =
    let s = shape_of g in
    let s2 = shape_of (after c g) in
    let viewed = viewed_supports (after c g) p2 labels support adjacent stages.shape2 (split_stable from s s2 p p1 p2 new_blocks stages) labelled supports is in
    let done = merge s2 viewed (first_candidates from s s2 p p1 p2 new_blocks merge_candidates stages are) in
    one_step_from c g from p p1 p2 p3 new_blocks few stages done.merges done.minimal changes
