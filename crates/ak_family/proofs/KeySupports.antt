-- Keys as the supports of a level and the level below say.
use Rattle.std.proofs.Common.{◌≡◌, ℕ, List, [], ◌∷◌, Option, Some, is_some, IsTrue, true≢false, refl, sym, ◌∙◌, ap, inl, inr}
use Rattle.graph_spec.specs.Graphs.{Graph, IsGraph}
use Rattle.graph_spec.specs.Shapes.{shape_of}
use Rattle.bisim_spec.specs.Partitions.{IsPartition}
use Rattle.graph_spec.specs.Members.{at, has}
use Rattle.bisim_spec.specs.Supports.{edges_between}
use Rattle.bisim_spec.specs.IndexGraphs.{SupportTable, support_at}
use Rattle.bisim_spec.proofs.Bisimilar.{none_or_some}
use Rattle.label_graph.specs.GraphViews.{label_number}
use Rattle.block_partition.proofs.PutNumbers.{same_number}
use Rattle.bisim_levels.specs.NeighbourSides.{no_neighbours}
use Rattle.bisim_levels.specs.Numbering.{AreNumbered, AreNumberedBy}
use Rattle.bisim_spec.specs.declared.sides.Sides.{Sides}
use Rattle.bisim_levels.specs.SidedKeys.{IsAround, IsSidedKey}
use Rattle.level_spec.proofs.SupportedKeys.{keyed_by_supports}
use Rattle.ak_family.specs.Families.{AreKeyedBySupports}
use Rattle.ak_family.proofs.LabelledMembers.{member_key, member_key_by}

pub same_some : {X : Type 0} (x y : X) → Some x ≡ Some y → x ≡ y
same_some x y e = cc

same_tail : (x y : ℕ) (xs ys : List ℕ) → x ∷ xs ≡ y ∷ ys → xs ≡ ys
same_tail x y xs ys e = cc

-- keys by what lies around nodes are keys by supports
pub supported_keys : (sides : Sides) (g : Graph) → IsGraph g → (below block : List (Option ℕ)) → IsPartition (shape_of g) below → (key : ℕ → Option (List ℕ)) (supports : SupportTable)
    → AreNumberedBy (at below) (IsSidedKey sides (shape_of g) below) block key
    → ((a b : ℕ) → support_at supports a b ≡ edges_between g.edges block a b) → AreKeyedBySupports sides below block key (support_at supports)
supported_keys sides g graph below block partition key supports w counted = record {
  nodes = alike;
  keyed = keyed_by_supports sides g graph below block key (support_at supports) (record {
    live = λ n h. alike n ∙ partition.live n h;
    only = λ n h. partition.only n (sym (alike n) ∙ h);
  }) (record { each = counted }) (λ m. record {
    keyed = λ b e. let k = member_key_by (at below) (IsAround sides (shape_of g) below) block key w m b e in (k.numbers, k.at, k.is);
  });
}
  where
    alike : (n : ℕ) → is_some (at block n) ≡ is_some (at below n)
    alike n = elim (none_or_some (at below n)) [
      | inl none ↦ ap is_some (w.none n none) ∙ sym (ap is_some none)
      | inr (c, some) ↦ (let f = w.some n c some in ap is_some f.2 ∙ sym (ap is_some some))
    ]

no_numbers : (xs : List ℕ) → ((c : ℕ) → IsTrue (has xs c) → ⊥) → xs ≡ []
no_numbers [] none = refl
no_numbers (x ∷ xs) none = absurd (none x (rw (same_number x) refl))

-- a block of the lowest level has the number of its members' label as its key
pub labels_alone : (g : Graph) (block : List (Option ℕ)) (key : ℕ → Option (List ℕ)) → AreNumbered (label_number g) [] no_neighbours block key
    → (n b l : ℕ) → at block n ≡ Some b → label_number g n ≡ Some l → key b ≡ Some (l ∷ [])
labels_alone g block key w n b l e is =
    let m = member_key (label_number g) [] no_neighbours block key w n b e in
    let number : m.is.number ≡ l = same_some m.is.number l (sym m.is.own_is ∙ is) in
    let around : m.is.around ≡ [] = no_numbers m.is.around (λ c h. true≢false (sym (m.is.each c h).1)) in
    m.at ∙ ap Some (m.is.is ∙ ap (λ x. x ∷ m.is.around) number ∙ ap (λ xs. l ∷ xs) around)
