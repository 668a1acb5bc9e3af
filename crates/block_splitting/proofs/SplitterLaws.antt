-- A split by a splitter, from a round by flags.
use Rattle.std.proofs.Common.{◌≡◌, ℕ, List, [], ◌∷◌, Option, Some, IsSome, is_some, refl, sym, ◌∙◌, ap, inl, inr, true, false, Bool, slice_index}
use Rattle.std.specs.Prelude.{◌||◌}
use Rattle.std.specs.List.{list_any}
use Rattle.std.proofs.lemmas.Bool.{cases_Bool, or_cases, or_parts}
use Rattle.graph_spec.specs.Graphs.{Graph, IsGraph}
use Rattle.graph_spec.specs.Members.{has, at}
use Rattle.label_graph.specs.GraphViews.{label_number}
use Rattle.bisim_spec.specs.Partitions.{Together, IsPartition}
use Rattle.bisim_spec.proofs.Bisimilar.{is_some_at}
use Rattle.bisim_spec.specs.declared.sides.Side.{Side}
use Rattle.bisim_spec.specs.declared.sides.Side.TheVariants.{Parents, Children}
use Rattle.graph_spec.specs.Shapes.{shape_of}
use Rattle.bisim_levels.specs.NeighbourSides.{is_neighbour}
use Rattle.block_partition.specs.LabelledPartitions.{Partition}
use Rattle.block_splitting.specs.Splitters.{BothOrNeither, IsSplitBy, bit_of, FlagKey, AreTouched, KeepLabels}
use Rattle.block_splitting.proofs.Lists.{any_get, any_from}
use Rattle.block_splitting.proofs.Keyed.{AreKeys, around_nodes}
use Rattle.block_splitting.proofs.SplitNodes.{Parts, OneKey, placed, told, kept_one}

same_bit : (a b : Bool) → bit_of a ≡ bit_of b → a ≡ b
same_bit true true h = refl
same_bit true false h = absurd (cc)
same_bit false true h = absurd (cc)
same_bit false false h = refl

pub flag_keys : (parents children : ℕ → Bool) (block : List (Option ℕ)) → AreKeys (FlagKey parents children block) block
flag_keys parents children block = record {
  owner = λ n key k. (k.own, record { around = bit_of (parents n) ∷ bit_of (children n) ∷ []; is = k.is }, k.own_is);
  unique = λ n x y k l. (let a = k.own_is in let b = l.own_is in let same : k.own ≡ l.own = cc in
      k.is ∙ ap (λ o. o ∷ bit_of (parents n) ∷ bit_of (children n) ∷ []) same ∙ sym l.is);
}

-- what one key says of two nodes
record Alike (parents children : ℕ → Bool) (block : List (Option ℕ)) (u v : ℕ) : Type 0 where
  together : Together block u v
  by_parents : parents u ≡ parents v
  by_children : children u ≡ children v

alike : (parents children : ℕ → Bool) (block : List (Option ℕ)) (seen : ℕ → Bool) (u v : ℕ) → OneKey (FlagKey parents children block) seen u v → Alike parents children block u v
alike parents children block seen u v o =
    let a = o.first_has in
    let b = o.second_has in
    let x = a.is in
    let y = b.is in
    let own : a.own ≡ b.own = cc in
    let first : bit_of (parents u) ≡ bit_of (parents v) = cc in
    let second : bit_of (children u) ≡ bit_of (children v) = cc in
    record {
      together = (a.own, a.own_is, b.own_is ∙ ap Some (sym own));
      by_parents = same_bit (parents u) (parents v) first;
      by_children = same_bit (children u) (children v) second;
    }

same_flag : (a b : Bool) → (a ≡ true → b ≡ true) → (b ≡ true → a ≡ true) → a ≡ b
same_flag true b h k = sym (h refl)
same_flag false true h k = k refl
same_flag false false h k = refl

-- two of which both or neither have a neighbour in the splitter
both_from : (t : Side) (g : Graph) (splitter : List ℕ) (flag : ℕ → Bool) → ((n : ℕ) → flag n ≡ list_any (λ q. is_neighbour t g q n) splitter) → (u v : ℕ) → flag u ≡ flag v → BothOrNeither t g (has splitter) u v
both_from t g splitter flag is u v same = record {
  there = λ p near inside. let q = any_get (λ x. is_neighbour t g x v) splitter (sym (is v) ∙ sym same ∙ is u ∙ any_from (λ x. is_neighbour t g x u) splitter p inside near) in (q.0, q.2, q.1);
  back = λ p near inside. let q = any_get (λ x. is_neighbour t g x u) splitter (sym (is u) ∙ same ∙ is v ∙ any_from (λ x. is_neighbour t g x v) splitter p inside near) in (q.0, q.2, q.1);
}

flag_from : (t : Side) (g : Graph) (splitter : List ℕ) (flag : ℕ → Bool) → ((n : ℕ) → flag n ≡ list_any (λ q. is_neighbour t g q n) splitter) → (u v : ℕ) → BothOrNeither t g (has splitter) u v → flag u ≡ flag v
flag_from t g splitter flag is u v b =
    same_flag (flag u) (flag v)
    (λ h. let p = any_get (λ x. is_neighbour t g x u) splitter (sym (is u) ∙ h) in let q = b.there p.0 p.2 p.1 in is v ∙ any_from (λ x. is_neighbour t g x v) splitter q.0 q.2 q.1)
    (λ h. let p = any_get (λ x. is_neighbour t g x v) splitter (sym (is v) ∙ h) in let q = b.back p.0 p.2 p.1 in is u ∙ any_from (λ x. is_neighbour t g x u) splitter q.0 q.2 q.1)

pub split_by_of : (g : Graph) (p r : Partition) (splitter parents children touched moved : List ℕ) (keys : List (List ℕ)) (group : List ℕ) → AreTouched g splitter parents children touched
    → Parts (FlagKey (has parents) (has children) p.block_of) p r (has touched) moved keys group → IsSplitBy g p.block_of r.block_of (has splitter)
split_by_of g p r splitter parents children touched moved keys group a w = record {
  finer = λ u v t. (tell u v t).together;
  parted = by;
  grouped = λ u v t bp bc.
      let fp = flag_from Parents g splitter (has parents) a.by_parents u v bp in
      let fc = flag_from Children g splitter (has children) a.by_children u v bc in
      let seen : has touched u ≡ has touched v = a.all u ∙ ap (λ b. b || has children u) fp ∙ ap (λ b. has parents v || b) fc ∙ sym (a.all v) in
      kept_one (FlagKey (has parents) (has children) p.block_of) p r (has touched) moved keys group w u v t
      (λ x y k l.
      let ku = k.own_is in
      let lv = l.own_is in
      let tu = t.1 in
      let tv = t.2 in
      let own : k.own ≡ l.own = cc in
      k.is ∙ ap (λ b. k.own ∷ bit_of b ∷ bit_of (has children u) ∷ []) fp ∙ ap (λ b. k.own ∷ bit_of (has parents v) ∷ bit_of b ∷ []) fc
      ∙ ap (λ o. o ∷ bit_of (has parents v) ∷ bit_of (has children v) ∷ []) own ∙ sym l.is)
      (λ h. sym seen ∙ h) (λ h. seen ∙ h);
}
  where
    tell : (u v : ℕ) → Together r.block_of u v → Alike (has parents) (has children) p.block_of u v
    tell u v t = elim (told (FlagKey (has parents) (has children) p.block_of) p r (has touched) moved keys group w u v t) [
      | inr o ↦ alike (has parents) (has children) p.block_of (has touched) u v o
      | inl ((nu, nv), old) ↦ (
          let fu = or_parts (has parents u) (has children u) (sym (a.all u) ∙ nu) in
          let fv = or_parts (has parents v) (has children v) (sym (a.all v) ∙ nv) in
          record { together = old; by_parents = fu.0 ∙ sym fv.0; by_children = fu.1 ∙ sym fv.1 })
    ]

    by : (t : Side) (u v : ℕ) → Together r.block_of u v → BothOrNeither t g (has splitter) u v
    by Parents u v t = both_from Parents g splitter (has parents) a.by_parents u v (tell u v t).by_parents
    by Children u v t = both_from Children g splitter (has children) a.by_children u v (tell u v t).by_children

-- those that are touched are nodes
pub touched_nodes : (g : Graph) → IsGraph g → (splitter parents children touched : List ℕ) → AreTouched g splitter parents children touched
    → (n : ℕ) → has touched n ≡ true → IsSome (label_number g n)
touched_nodes g s splitter parents children touched a n h = elim (or_cases (has parents n) (has children n) (sym (a.all n) ∙ h)) [
  | inl p ↦ around_nodes g s Parents splitter n (sym (a.by_parents n) ∙ p)
  | inr c ↦ around_nodes g s Children splitter n (sym (a.by_children n) ∙ c)
]

-- exactly the nodes have blocks still
pub partition_of : (g : Graph) (K : ℕ → List ℕ → Type 0) (p r : Partition) (seen : ℕ → Bool) (moved : List ℕ) (keys : List (List ℕ)) (group : List ℕ) → IsPartition (shape_of g) p.block_of
    → Parts K p r seen moved keys group → IsPartition (shape_of g) r.block_of
partition_of g K p r seen moved keys group part w = record {
  live = λ n h. elim (cases_Bool (seen n)) [
    | inl y ↦ is_some_at (at r.block_of n) (slice_index w.parted.chosen (slice_index group n)) (w.parted.moved_are.there n y)
    | inr f ↦ ap is_some (w.parted.moved_are.others n f) ∙ part.live n h
  ];
  only = λ n h. elim (cases_Bool (seen n)) [
    | inl y ↦ (let a = placed K p r seen moved keys group w n y in part.only n (is_some_at (at p.block_of n) a.own a.own_is))
    | inr f ↦ part.only n (sym (ap is_some (w.parted.moved_are.others n f)) ∙ h)
  ];
}

-- each node's block has the label that its block had
pub labels_of : (K : ℕ → List ℕ → Type 0) (p r : Partition) (seen : ℕ → Bool) (moved : List ℕ) (keys : List (List ℕ)) (group : List ℕ)
    → Parts K p r seen moved keys group → KeepLabels p r
labels_of K p r seen moved keys group w = record {
  each = λ n a b ea eb. ap (λ (ls : List (Option ℕ)). at ls b) w.parted.labels ∙ elim (cases_Bool (seen n)) [
    | inl y ↦ (
        let e = placed K p r seen moved keys group w n y in
        let there = e.there in
        let same : slice_index w.parted.chosen (slice_index group n) ≡ b = cc in
        let own_is = e.own_is in
        let own : e.own ≡ a = cc in
        ap (at w.parted.middle.labels) (sym same) ∙ w.parted.chosen_are.label (slice_index group n) e.own e.key e.below e.at_key e.begins ∙ ap (at p.labels) own)
    | inr f ↦ (
        let same : b ≡ a = (let z = w.parted.moved_are.others n f in cc) in
        ap (at w.parted.middle.labels) same ∙ w.parted.chosen_are.stay a (w.live n a ea))
  ];
}
