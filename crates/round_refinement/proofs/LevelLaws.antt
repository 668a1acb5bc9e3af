-- Labels, and lists that are refined by both sides, are levels of bisimilarity.
use Rattle.std.proofs.Common.{◌≡◌, ℕ, suc, ◌<◌, IsTrue, List, [], ◌∷◌, Option, Some, None, IsSome, Bool, refl, sym, ◌∙◌, ap, subst, true≢false}
use Rattle.std.specs.Prelude.{option_map}
use Rattle.graph_spec.specs.Shapes.{Shape, IsShape}
use Rattle.graph_spec.specs.Members.{at}
use Rattle.bisim_spec.specs.Bisimilarity.{SameLabel, Both}
use Rattle.bisim_spec.specs.Partitions.{IsPartition, Agrees}
use Rattle.bisim_spec.proofs.Keys.{both_from_key, key_from_both}
use Rattle.bisim_spec.specs.declared.sides.Side.TheVariants.{Parents, Children}
use Rattle.round_refinement.specs.NeighbourSides.{is_neighbour}
use Rattle.round_refinement.specs.NumberedShapes.{shape_by_number}
use Rattle.bisim_spec.specs.Refinement.{Refines}

-- what is refined covers the same nodes
pub refined_partition : (s : Shape) (own base next : List (Option ℕ)) (neighbour_of : ℕ → ℕ → Bool) → IsPartition s own → Refines (at own) base neighbour_of next → IsPartition s next
refined_partition s own base next neighbour_of p r = record {
  live = λ n h. r.kept n (p.live n h);
  only = λ n h. p.only n (r.only n h);
}

pub both_up : (s : Shape) (block mid next : List (Option ℕ)) → Refines (at block) block (is_neighbour Parents s.edge) mid → Refines (at mid) block (is_neighbour Children s.edge) next
    → (i : ℕ) → Agrees s block (Both s i) → Agrees s next (Both s (suc i))
both_up s block mid next r q i a = record {
  partition =
      refined_partition s mid block next (is_neighbour Children s.edge)
      (refined_partition s block block mid (is_neighbour Parents s.edge) a.partition r) q;
  related = λ u v t.
      let k = q.parted u v t in
      let j = r.parted u v k.one_number in
      both_from_key s block i u v a (record { own = j.one_number; parents = j.neighbours; children = k.neighbours });
  grouped = λ u v nu nv h.
      let k = key_from_both s block i u v a nu nv h in
      q.grouped u v (record { one_number = r.grouped u v (record { one_number = k.own; neighbours = k.parents }); neighbours = k.children });
}

-- the label of a node as a text
text_of : (o : Option ℕ) → IsSome o → (x : ℕ) × (o ≡ Some x) × (option_map (λ l. l ∷ []) o ≡ Some (x ∷ []))
text_of None h = absurd (true≢false (sym h))
text_of (Some x) h = (x, refl, refl)

pub node_of : (o : Option ℕ) → IsSome (option_map (λ l. l ∷ []) o) → IsSome o
node_of None h = absurd (true≢false (sym h))
node_of (Some x) h = refl

pub of_node : (o : Option ℕ) → IsSome o → IsSome (option_map (λ l. l ∷ []) o)
of_node None h = absurd (true≢false (sym h))
of_node (Some x) h = refl

one_text : (o : Option ℕ) (t : List ℕ) (x : ℕ) → option_map (λ l. l ∷ []) o ≡ Some t → o ≡ Some x → t ≡ x ∷ []
one_text o t x e f = (let z = ap (option_map (λ l. l ∷ [])) f in cc)

heads : (x y : ℕ) → x ∷ [] ≡ y ∷ [] → x ≡ y
heads x y e = cc

-- nodes of one label
pub labels_agree : (size : ℕ) (label : ℕ → Option ℕ) (edge : ℕ → ℕ → Bool) (l : List (Option ℕ)) → ((n : ℕ) → at l n ≡ label n)
    → Agrees (shape_by_number size label edge) l (SameLabel (shape_by_number size label edge))
labels_agree size label edge l is = record {
  partition = record {
    live = λ n h. subst IsSome (sym (is n)) (node_of (label n) h);
    only = λ n h. of_node (label n) (subst IsSome (is n) h);
  };
  related = λ u v t. (
    t.0 ∷ [],
    ap (option_map (λ x. x ∷ [])) (sym (is u) ∙ t.1),
    ap (option_map (λ x. x ∷ [])) (sym (is v) ∙ t.2),
  );
  grouped = λ u v nu nv h.
      let a = text_of (label u) (node_of (label u) nu) in
      let b = text_of (label v) (node_of (label v) nv) in
      let one : a.0 ≡ b.0 = heads a.0 b.0 (let x = h.1 in let y = h.2 in let z = a.2 in let w = b.2 in cc) in
      (a.0, is u ∙ a.1, is v ∙ b.1 ∙ ap Some (sym one));
}

pub both_more : (s : Shape) (block : List (Option ℕ)) (j i : ℕ) → suc j ≡ i → Agrees s block (Both s (suc j)) → Agrees s block (Both s i)
both_more s block j i e a = subst (λ k. Agrees s block (Both s k)) e a

-- of equal lists
pub agree_as : (s : Shape) (x y : List (Option ℕ)) (R : ℕ → ℕ → Type 0) → y ≡ x → Agrees s x R → Agrees s y R
agree_as s x y R e a = subst (λ b. Agrees s b R) (sym e) a

pub partition_as : (s : Shape) (x y : List (Option ℕ)) → y ≡ x → IsPartition s x → IsPartition s y
partition_as s x y e a = subst (λ b. IsPartition s b) (sym e) a

pub refines_as : (own : ℕ → Option ℕ) (x y next : List (Option ℕ)) (neighbour_of : ℕ → ℕ → Bool) → x ≡ y → Refines own x neighbour_of next → Refines own y neighbour_of next
refines_as own x y next neighbour_of e r = subst (λ k. Refines own k neighbour_of next) e r

pub refines_next : (own : ℕ → Option ℕ) (base x y : List (Option ℕ)) (neighbour_of : ℕ → ℕ → Bool) → y ≡ x → Refines own base neighbour_of x → Refines own base neighbour_of y
refines_next own base x y neighbour_of e r = subst (λ k. Refines own base neighbour_of k) (sym e) r

pub is_shape_by_number : (size : ℕ) (label : ℕ → Option ℕ) (edge : ℕ → ℕ → Bool) → ((n : ℕ) → IsSome (label n) → n < size)
    → ((u v : ℕ) → IsTrue (edge u v) → IsSome (label u) × IsSome (label v)) → IsShape (shape_by_number size label edge)
is_shape_by_number size label edge below ends = record {
  below = λ n h. below n (node_of (label n) h);
  from = λ u v e. of_node (label u) (ends u v e).0;
  onto = λ u v e. of_node (label v) (ends u v e).1;
}
