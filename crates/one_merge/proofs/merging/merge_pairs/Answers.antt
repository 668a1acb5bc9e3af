use Rattle.std.proofs.Common.{◌≡◌, ◌⊎◌, ◌∙◌, Some, None, IsTrue, ap, rules}
use Rattle.graph_spec.specs.Members.{at, has}
use Rattle.graph_spec.specs.Shapes.{Shape}
use Rattle.quotient_draft.specs.Drafts.{shown_labels, shown_blocks}
use Rattle.one_merge.specs.MergeTests.{shown_adjacent}
use Rattle.one_merge.specs.ShownMerges.{ShowsStablePartition, AreShownMergeable, AreShownMergeCandidates}
use Rattle.one_merge.proofs.Counted.{fewer}
use Rattle.one_merge.proofs.MergePairLaws.{merging_start, merged_more, merging_end, if_some, if_none}
use Rattle.one_merge.proofs.ParentlessLaws.{covers_merged}
use Rattle.one_merge.proofs.merging.merge_pairs.Goals as goal

pub pairs-init : goal.pairs-init
pairs-init c = record {
  over = c.requires.over;
  graph = c.requires.graph;
  covers = c.requires.covers;
  shown = c.requires.shown;
  merging = λ s v h.
      merging_start s (shown_blocks c.args.base.now c.args.draft.now) (at (shown_labels c.args.base.now c.args.draft.now)) (shown_adjacent c.args.base.now c.args.draft.now) c.args.merge_candidates.now v h;
  supports = λ g h. h;
  block_labels = λ node_labels h. h;
}

pub pairs-smaller : goal.pairs-smaller
pairs-smaller c =
    let pair : c.in_ok-a.field-0 ≡ Some (c.in-Some.a, c.in-Some.b) = search rules in
    let mergeable_pair = if_some c.in_ok-a.field-0 (c.in-Some.a, c.in-Some.b) (λ r. AreShownMergeable c.args.base.now c.pairs.draft r.0 r.1) pair c.in_ok-a.ensures.some in
    fewer (shown_blocks c.args.base.now c.pairs.draft) (shown_blocks c.args.base.now c.merge_pair.new.draft) (shown_labels c.args.base.now c.pairs.draft)
    (shown_labels c.args.base.now c.merge_pair.new.draft) c.in-Some.a c.in-Some.b mergeable_pair.apart c.in_ok-merge_pair.ensures.merged mergeable_pair.first mergeable_pair.second c.pairs.invariant.graph.live
    c.in_ok-merge_pair.ensures.labels

pub pairs-preserved : goal.pairs-preserved
pairs-preserved c =
    let pair : c.in_ok-a.field-0 ≡ Some (c.in-Some.a, c.in-Some.b) = search rules in
    let mergeable_pair = if_some c.in_ok-a.field-0 (c.in-Some.a, c.in-Some.b) (λ r. AreShownMergeable c.args.base.now c.pairs.draft r.0 r.1) pair c.in_ok-a.ensures.some in
    let rest = if_some c.in_ok-a.field-0 (c.in-Some.a, c.in-Some.b) (λ r. (s : Shape) → ShowsStablePartition s c.args.base.now c.pairs.draft
    → AreShownMergeCandidates s c.args.base.now c.pairs.draft (λ b. IsTrue (has c.pairs.merge_candidates b))
    → AreShownMergeCandidates s c.args.base.now c.pairs.draft (λ b. ((b ≡ r.0) ⊎ (b ≡ r.1)) ⊎ IsTrue (has c.next_pair.new.merge_candidates b))) pair c.in_ok-a.ensures.rest in
    record {
      over = c.in_ok-merge_pair.ensures.over;
      graph = c.in_ok-merge_pair.ensures.graph;
      covers = c.note_merged.ensures.base c.pairs.invariant.covers;
      shown = covers_merged c.args.base.now c.pairs.draft c.merge_pair.new.draft c.pairs.parentless c.note_merged.new.self c.in-Some.a c.in-Some.b mergeable_pair.apart
          c.in_ok-merge_pair.ensures.labels c.in_ok-merge_pair.ensures.merged c.in_ok-merge_pair.ensures.pairs c.pairs.invariant.shown c.in_ok-note_merged.ensures.others c.in_ok-note_merged.ensures.noted;
      merging = λ s v h.
          merged_more s (shown_blocks c.args.base.now c.args.draft.now) (shown_blocks c.args.base.now c.pairs.draft) (shown_blocks c.args.base.now c.merge_pair.new.draft)
          (at (shown_labels c.args.base.now c.pairs.draft)) (at (shown_labels c.args.base.now c.merge_pair.new.draft)) (shown_adjacent c.args.base.now c.pairs.draft)
          (shown_adjacent c.args.base.now c.merge_pair.new.draft) c.pairs.merge_candidates c.next_pair.new.merge_candidates c.push_candidates.new.merge_candidates c.in-Some.a c.in-Some.b (c.pairs.invariant.merging s v h) mergeable_pair
          (rest s) c.in_ok-merge_pair.ensures.merged (c.in_ok-merge_pair.ensures.viewed s) c.in_ok-push_candidates.ensures.own c.in_ok-push_candidates.ensures.kept (λ x j. c.in_ok-push_candidates.ensures.children x (ap (λ xs. has xs x) c.deref.ensures.value ∙ c.in_ok-fill_children.ensures.children.members x ∙ j));
      supports = λ g h. c.in_ok-merge_pair.ensures.supports g (c.pairs.invariant.supports g h);
      block_labels = λ node_labels h. c.in_ok-merge_pair.ensures.block_labels node_labels (c.pairs.invariant.block_labels node_labels h);
    }

pub returns-clause-merged : goal.returns-clause-merged
returns-clause-merged c = λ s v h.
    let none : c.in_ok-a.field-0 ≡ None = search rules in
    let over = if_none c.in_ok-a.field-0 ((s : Shape) → ShowsStablePartition s c.args.base.now c.pairs.draft → AreShownMergeCandidates s c.args.base.now c.pairs.draft (λ b. IsTrue (has c.pairs.merge_candidates b))
    → AreShownMergeCandidates s c.args.base.now c.pairs.draft (λ b. ⊥)) none c.in_ok-a.ensures.none in
    merging_end s (shown_blocks c.args.base.now c.args.draft.now) (shown_blocks c.args.base.now c.pairs.draft) (at (shown_labels c.args.base.now c.pairs.draft))
    (shown_adjacent c.args.base.now c.pairs.draft) c.pairs.merge_candidates (c.pairs.invariant.merging s v h) (over s)
