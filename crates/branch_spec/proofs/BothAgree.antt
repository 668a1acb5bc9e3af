-- Nodes that are bisimilar by parents and children to the depth of a query answer it alike.
use Rattle.std.proofs.Common.{ℕ, sym}
use Rattle.graph_spec.specs.Shapes.{Shape}
use Rattle.bisim_spec.specs.Bisimilarity.{Both}
use Rattle.bisim_spec.proofs.Bisimilar.{both_sym, both_label, label_same}
use Rattle.branch_spec.specs.Trees.{Branch}
use Rattle.branch_spec.specs.BranchAnswers.{IsBranchAnswer}
use Rattle.branch_spec.specs.Depths.{depth, IsUpTo}
use Rattle.branch_spec.proofs.AlikeBy.{AlikeBy, alike_by}

both_alike : (s : Shape) → AlikeBy s s (Both s)
both_alike s = record {
  there = record {
    labels = λ i u x r. label_same s u x (both_label s i u x r);
    from = λ i u x v r e. r.2.there v e;
    onto = λ i u x v r e. r.1.there v e;
  };
  back = record {
    labels = λ i x u r. sym (label_same s u x (both_label s i u x r));
    from = λ i x u y r e. let v = r.2.back y e in (v.0, v.1, both_sym s i y v.0 v.2);
    onto = λ i x u y r e. let v = r.1.back y e in (v.0, v.1, both_sym s i y v.0 v.2);
  };
}

pub both_agree : (s : Shape) (q : Branch) (i u v : ℕ) → IsUpTo (depth q) i → Both s i u v → IsBranchAnswer s q u → IsBranchAnswer s q v
both_agree s q i u v w r h = alike_by s s (Both s) (both_alike s) q i u v w r h
