-- What a family that fits a graph says of its levels, their labels and their keys.
use Rattle.std.proofs.Common.{◌≡◌, ℕ, suc, ◌+◌, ◌<◌, List, length, Option, Some, None, IsSome, refl, sym, ◌∙◌, ap, subst, arith}
use Rattle.std.specs.Prelude.{slice_get, option_and_then, position, bytes_eq}
use Rattle.graph_spec.specs.Graphs.{Graph, IsGraph, label_of}
use Rattle.graph_spec.specs.Shapes.{Shape, shape_of}
use Rattle.graph_spec.specs.Members.{at}
use Rattle.label_graph.specs.GraphViews.{label_number}
use Rattle.label_graph.proofs.Positions.{position-at}
use Rattle.bisim_spec.specs.declared.sides.Sides.{Sides}
use Rattle.bisim_spec.specs.Fits.{FitsLevel}
use Rattle.bisim_spec.specs.Partitions.{Agrees}
use Rattle.bisim_spec.specs.IndexGraphs.{View, support_at}
use Rattle.bisim_spec.specs.SidedLevels.{AtLevel}
use Rattle.bisim_levels.specs.SidedKeys.{IsAround, IsSidedKey}
use Rattle.quotient.specs.Quotients.{view_of}
use Rattle.keyed_quotient.specs.KeyedQuotients.{KeyedQuotient, key_at}
use Rattle.level_spec.specs.Keyed.{IsLevelOf, LabelsGoUp, first_number}
use Rattle.ak_family.specs.Families.{level_at, blocks_at, IsKeyedFamily, HaveSupportedKeys}
use Rattle.ak_family.proofs.LabelledMembers.{member_key_by}
use Rattle.ak_family.proofs.NeighbourKeys.{neighbour_keys}
use Rattle.level_update.specs.FamilyDrafts.{FamilyFits}
use Rattle.level_update.specs.LevelEffects.{AreBases, AreKeyedBases}

pub next_is : (i : ℕ) → i + 1 ≡ suc i
next_is i = omega arith

-- a text has one number
number_of : (g : Graph) (n l : ℕ) (t : List ℕ) → IsGraph g → slice_get g.seen l ≡ Some t → label_of g n ≡ Some t → label_number g n ≡ Some l
number_of g n l t graph seen label = ap (option_and_then (λ s. position (bytes_eq s) g.seen)) label ∙ position-at g.seen l t graph.distinct seen

base_level : (sides : Sides) (g : Graph) (i : ℕ) (v : View) → IsGraph g → FitsLevel sides g i v → IsLevelOf g v.block_of v.labels (support_at v.supports)
base_level sides g i v graph fits = record {
  partition = fits.agrees.partition;
  block_labels = record { is = λ n b e. let r = fits.view.labelled n b e in (r.0, r.2, number_of g n r.0 r.1 graph r.3 r.4) };
  supports = record { each = fits.view.supports };
}

-- the keys of a family that fits are those of its nodes
pub keyed_bases : (sides : Sides) (g : Graph) (f : List KeyedQuotient) → IsGraph g → FamilyFits sides g f → IsKeyedFamily f → HaveSupportedKeys sides f → AreKeyedBases sides g f
keyed_bases sides g f graph fits family keys = record {
  keyed = λ i n h.
      let w = neighbour_keys sides g graph f i family keys h (fits (i + 1) h).view (fits i (omega (arith, h))).agrees
      (subst (λ j. Agrees (shape_of g) (blocks_at f (i + 1)) (AtLevel sides (shape_of g) j)) (next_is i) (fits (i + 1) h).agrees) in
      record {
        keyed = λ b e.
            let m = member_key_by (at (blocks_at f i)) (IsAround sides (shape_of g) (blocks_at f i)) (blocks_at f (i + 1)) (key_at (level_at f (i + 1)).keys) w n b e in
            (m.numbers, m.at, m.is);
      };
}

first_some : (o : Option (List ℕ)) (n : ℕ) → first_number o ≡ Some n → IsSome o
first_some None n e = absurd (cc)
first_some (Some x) n e = refl

-- the number with which a block's key begins is the block of its members one level below
own_first : (sides : Sides) (s : Shape) (below : List (Option ℕ)) (key : ℕ → Option (List ℕ)) (n b number : ℕ) (numbers : List ℕ) → key b ≡ Some numbers
    → IsSidedKey sides s below n numbers → first_number (key b) ≡ Some number → at below n ≡ Some number
own_first sides s below key n b number numbers e k first = k.own_is ∙ sym (ap first_number (e ∙ ap Some k.is)) ∙ first

-- two blocks of one node have one label
one_label : (g : Graph) (below_labels labels : ℕ → Option ℕ) (a b n : ℕ) → (d : ℕ) × (below_labels a ≡ Some d) × (label_number g n ≡ Some d)
    → (d : ℕ) × (labels b ≡ Some d) × (label_number g n ≡ Some d) → (l : ℕ) × (below_labels a ≡ Some l) × (labels b ≡ Some l)
one_label g below_labels labels a b n (l, below, e) (d, here, f) = (l, below, here ∙ sym f ∙ e)

-- a member has the labels of both of its blocks
base_up : (sides : Sides) (g : Graph) (f : List KeyedQuotient) → IsGraph g → FamilyFits sides g f → IsKeyedFamily f → AreKeyedBases sides g f → (i : ℕ) → i + 1 < length f
    → LabelsGoUp (level_at f i).quotient.blocks.labels (level_at f (i + 1)).quotient.blocks.labels (key_at (level_at f (i + 1)).keys)
base_up sides g f graph fits family keyed i h = record {
  is = λ b number first.
      let lower : i < length f = omega (arith, h) in
      let live = sym ((family.keyed (i + 1) h).exactly b) ∙ first_some (key_at (level_at f (i + 1)).keys b) number first in
      let m = (fits (i + 1) h).view.inhabited b live in
      let k = (keyed.keyed i m.0 h).keyed b m.1 in
      let own = own_first sides (shape_of g) (blocks_at f i) (key_at (level_at f (i + 1)).keys) m.0 b number k.0 k.1 k.2 first in
      let below = (base_level sides g i (view_of (level_at f i).quotient) graph (fits i lower)).block_labels.is m.0 number own in
      let here = (base_level sides g (i + 1) (view_of (level_at f (i + 1)).quotient) graph (fits (i + 1) h)).block_labels.is m.0 b m.1 in
      one_label g (at (level_at f i).quotient.blocks.labels) (at (level_at f (i + 1)).quotient.blocks.labels) number b m.0 below here;
}

pub bases : (sides : Sides) (g : Graph) (f : List KeyedQuotient) → IsGraph g → FamilyFits sides g f → IsKeyedFamily f → HaveSupportedKeys sides f → AreBases g f
bases sides g f graph fits family keys = record {
  levels = λ i h. base_level sides g i (view_of (level_at f i).quotient) graph (fits i h);
  lowest = family.lowest;
  up = base_up sides g f graph fits family (keyed_bases sides g f graph fits family keys);
}
