-- A family whose lowest view fits a graph has the labels of that graph as keys.
use Rattle.std.proofs.Common.{◌≡◌, ℕ, ◌<◌, List, [], ◌∷◌, length, Some, is_some, true≢false, slice_get, refl, sym, ◌∙◌, ap, arith, inl, inr}
use Rattle.std.specs.Prelude.{option_and_then, position, bytes_eq}
use Rattle.graph_spec.specs.Graphs.{Graph, IsGraph, label_of}
use Rattle.graph_spec.specs.Shapes.{shape_of}
use Rattle.graph_spec.specs.Members.{at}
use Rattle.label_graph.specs.GraphViews.{label_number}
use Rattle.label_graph.proofs.Positions.{position-at}
use Rattle.bisim_spec.specs.Partitions.{IsPartition}
use Rattle.bisim_spec.specs.IndexGraphs.{ViewFits}
use Rattle.bisim_spec.proofs.Bisimilar.{none_or_some, some_of}
use Rattle.bisim_levels.proofs.LabelledNodes.{number_node}
use Rattle.quotient.specs.Quotients.{view_of}
use Rattle.keyed_quotient.specs.KeyedQuotients.{KeyedQuotient}
use Rattle.ak_family.specs.Families.{AreLabelKeys, IsKeyedFamily, level_at, blocks_at}
use Rattle.ak_family.proofs.KeySupports.{same_some}

-- the number of a label that was seen
number_is : (g : Graph) → IsGraph g → (n l : ℕ) (t : List ℕ) → slice_get g.seen l ≡ Some t → label_of g n ≡ Some t → label_number g n ≡ Some l
number_is g graph n l t seen e = ap (option_and_then (λ x. position (bytes_eq x) g.seen)) e ∙ position-at g.seen l t graph.distinct seen

-- Where the view of the lowest level fits, the keys there are the labels of the nodes.
pub label_keys : (g : Graph) (f : List KeyedQuotient) → IsGraph g → IsKeyedFamily f → 0 < length f → IsPartition (shape_of g) (blocks_at f 0) → ViewFits g (view_of (level_at f 0).quotient)
    → AreLabelKeys g f
label_keys g f graph family some partition fits = record {
  none = λ n e. elim (none_or_some (at (blocks_at f 0) n)) [
    | inl none ↦ none
    | inr (b, is) ↦
        (let m = fits.labelled n b is in
        absurd (true≢false (sym (ap is_some (number_is g graph n m.0 m.1 m.3 m.4)) ∙ ap is_some e)))
  ];
  some = λ n l e.
      let b = some_of (at (blocks_at f 0) n) (partition.live n (number_node g n (ap is_some e))) in
      let m = fits.labelled n b.0 b.1 in
      let same : m.0 ≡ l = same_some m.0 l (sym (number_is g graph n m.0 m.1 m.3 m.4) ∙ e) in (
        b.0,
        l ∷ [],
        b.1,
        family.lowest.is b.0 l (m.2 ∙ ap Some same),
        record {
          number = l;
          around = [];
          is = refl;
          own_is = e;
          rising = λ k h. absurd (omega (arith, h));
          each = λ c h. absurd (true≢false (sym h));
          every = λ p c h is. absurd (true≢false (sym h));
        },
      );
  inhabited = λ b live. fits.inhabited b (sym ((family.keyed 0 some).exactly b) ∙ live);
}
