-- What a quotient that fits says of labels, and drafts in which nothing is drafted yet.
use Rattle.std.proofs.Common.{◌≡◌, ℕ, List, Option, Some, refl, ◌∙◌, ap, arith, true≢false, sym}
use Rattle.std.specs.Prelude.{slice_get, option_and_then, position, bytes_eq}
use Rattle.graph_spec.specs.Graphs.{Graph, IsGraph, label_of}
use Rattle.graph_spec.specs.Members.{at}
use Rattle.label_graph.specs.GraphViews.{label_number}
use Rattle.label_graph.proofs.Positions.{position-at}
use Rattle.bisim_spec.specs.IndexGraphs.{View, ViewFits}
use Rattle.quotient_draft.specs.Drafts.{no_changes}
use Rattle.quotient_draft.specs.Basis.{IsOver}
use Rattle.one_spec.specs.BlockLabels.{BlocksHaveLabels}

-- blocks with the labels of their members, told by texts
pub record AreTexted (g : Graph) (block : List (Option ℕ)) (labels : ℕ → Option ℕ) : Type 0 where
  pub is : (n b : ℕ) → at block n ≡ Some b → (l : ℕ) × (t : List ℕ) × (labels b ≡ Some l) × (slice_get g.seen l ≡ Some t) × (label_of g n ≡ Some t)

-- a text has one number
number_from : (g : Graph) (n l : ℕ) (t : List ℕ) → IsGraph g → slice_get g.seen l ≡ Some t → label_of g n ≡ Some t → label_number g n ≡ Some l
number_from g n l t graph seen label = ap (option_and_then (λ s. position (bytes_eq s) g.seen)) label ∙ position-at g.seen l t graph.distinct seen

pub block_labels_texts : (g : Graph) (block : List (Option ℕ)) (labels : ℕ → Option ℕ) → IsGraph g → AreTexted g block labels → BlocksHaveLabels block labels (label_number g)
block_labels_texts g block labels graph texts = record {
  is = λ n b e. let r = texts.is n b e in (r.0, r.2, number_from g n r.0 r.1 graph r.3 r.4);
}

pub base_texts : (g : Graph) (v : View) → ViewFits g v → AreTexted g v.block_of (at v.labels)
base_texts g v fits = record { is = fits.labelled }

-- nothing is drafted, over any base
pub over_none : (block labels : List (Option ℕ)) → IsOver block labels no_changes
over_none block labels = record {
  least = tt;
  few = λ h. absurd (omega (arith, h));
  moved = λ n b e. absurd (cc);
  numbers = λ n b e. absurd (cc);
  ends = λ p n e. absurd (cc);
  left = λ n b e h. absurd (true≢false (sym h));
  taken = λ b. refl;
}
