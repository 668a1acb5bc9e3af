-- A family with a gap in the numbers of its blocks: block 1 of each level was retired, and its number is free.
use Rattle.quotient.specs.Quotients.{no_reserved_pairs}
use Rattle.std.proofs.Common.{◌≡◌, ℕ, zero, suc, ◌*◌, List, [], ◌∷◌, Option, None, Some, IsTrue, is_some, refl, sym, ◌∙◌, ap, arith, true≢false, true, ◌&&◌, nat_eq, subst}
use Rattle.std.specs.Prelude.{◌||◌}
use Rattle.std.specs.FinMap as table
use Rattle.std.specs.FinSet as set
use Rattle.std.proofs.Math.Bool.{and-false, or-false}
use Rattle.std.proofs.lemmas.Bool.{and_parts, eqb-true}
use Rattle.graph_spec.specs.Graphs.{Graph, edge_cmp, has_edge}
use Rattle.graph_spec.specs.Changes.{with_edge}
use Rattle.graph_spec.specs.Members.{has, at}
use Rattle.graph_spec.proofs.GraphLaws.{edge_with}
use Rattle.label_graph.specs.GraphViews.{label_number}
use Rattle.bisim_levels.specs.NeighbourSides.{no_neighbours}
use Rattle.graph_spec.specs.Shapes.{shape_of}
use Rattle.bisim_spec.specs.declared.sides.Side.{Side}
use Rattle.bisim_spec.specs.declared.sides.Side.TheVariants as side
use Rattle.bisim_spec.specs.declared.sides.Sides.TheVariants as sides
use Rattle.bisim_spec.specs.SidedLevels.{counts, beside}
use Rattle.bisim_spec.specs.NodeKeys.{IsKey}
use Rattle.bisim_levels.specs.SidedKeys.{mark, IsSidedKey}
use Rattle.keyed_quotient.specs.KeyedQuotients.{KeyedQuotient, key_at, HasKey, AreKeyed}
use Rattle.ak_family.specs.Families.{AreLabelKeys, AreNeighbourKeys}

abbrev two_nodes : Graph
two_nodes = record { allocated = Some (97 ∷ []) ∷ Some (98 ∷ []) ∷ []; edges = set.empty; seen = (97 ∷ []) ∷ (98 ∷ []) ∷ [] }

-- an a with a child b
abbrev linked : Graph
linked = with_edge two_nodes 0 1

edge_is : (p n : ℕ) → has_edge linked p n ≡ (nat_eq p 0 && nat_eq n 1)
edge_is p n = edge_with two_nodes 0 1 p n ∙ ap (λ b. (nat_eq p 0 && nat_eq n 1) || b) (set.contains-empty edge_cmp (p, n)) ∙ or-false (nat_eq p 0 && nat_eq n 1)

-- the a is in block 0, the b in block 2
abbrev blocks : List (Option ℕ)
blocks = Some 0 ∷ Some 2 ∷ []

abbrev labels : List (Option ℕ)
labels = Some 0 ∷ None ∷ Some 1 ∷ []

-- at level 0 a key is the number of a label
abbrev lowest_keys : List (Option (List ℕ))
lowest_keys = Some (0 ∷ []) ∷ None ∷ Some (1 ∷ []) ∷ []

-- above it, it begins with the own block: the a has no parent, and the parent of the b is in block 0
abbrev next_keys : List (Option (List ℕ))
next_keys = Some (0 ∷ []) ∷ None ∷ Some (2 ∷ 0 ∷ []) ∷ []

abbrev level : List (Option (List ℕ)) → KeyedQuotient
level keys = record { quotient = record { blocks = record { block_of = blocks; labels = labels; reserved = record { nodes = 0; blocks = 0 } }; supports = table.empty; reserved = no_reserved_pairs }; keys = keys; reserved = record { known = []; span = 0 } }

abbrev gapped : List KeyedQuotient
gapped = level lowest_keys ∷ level next_keys ∷ []

-- ---- exactly the blocks have keys, and no two have one key

abbrev first : List ℕ → ℕ
first [] = 0
first (x ∷ xs) = x

key_first : (x : ℕ) (xs key : List ℕ) → Some (x ∷ xs) ≡ Some key → x ≡ first key
key_first x xs key e = let same : x ∷ xs ≡ key = cc in ap first same

lowest_exactly : (b : ℕ) → is_some (key_at lowest_keys b) ≡ is_some (at labels b)
lowest_exactly zero = refl
lowest_exactly (suc zero) = refl
lowest_exactly (suc (suc zero)) = refl
lowest_exactly (suc (suc (suc b))) = refl

lowest_block : (b : ℕ) (key : List ℕ) → key_at lowest_keys b ≡ Some key → b ≡ 2 * first key
lowest_block zero key e = let f = key_first 0 [] key e in omega (arith, f)
lowest_block (suc zero) key e = absurd (cc)
lowest_block (suc (suc zero)) key e = let f = key_first 1 [] key e in omega (arith, f)
lowest_block (suc (suc (suc b))) key e = absurd (cc)

lowest_keyed : AreKeyed labels (key_at lowest_keys)
lowest_keyed = record { exactly = lowest_exactly; apart = λ b c key e f. lowest_block b key e ∙ sym (lowest_block c key f) }

next_exactly : (b : ℕ) → is_some (key_at next_keys b) ≡ is_some (at labels b)
next_exactly zero = refl
next_exactly (suc zero) = refl
next_exactly (suc (suc zero)) = refl
next_exactly (suc (suc (suc b))) = refl

next_block : (b : ℕ) (key : List ℕ) → key_at next_keys b ≡ Some key → b ≡ first key
next_block zero key e = key_first 0 [] key e
next_block (suc zero) key e = absurd (cc)
next_block (suc (suc zero)) key e = key_first 2 (0 ∷ []) key e
next_block (suc (suc (suc b))) key e = absurd (cc)

next_keyed : AreKeyed labels (key_at next_keys)
next_keyed = record { exactly = next_exactly; apart = λ b c key e f. next_block b key e ∙ sym (next_block c key f) }

-- ---- the keys are those of the members

label_key : (n b : ℕ) → label_number linked n ≡ Some b → IsKey (label_number linked) [] no_neighbours n (b ∷ [])
label_key n b e = record {
  number = b;
  around = [];
  is = refl;
  own_is = e;
  rising = λ k h. absurd (omega (arith, h));
  each = λ c h. absurd (true≢false (sym h));
  every = λ p c h f. absurd (true≢false (sym h));
}

label_keys : AreLabelKeys linked gapped
label_keys = record { none = none; some = some; inhabited = inhabited }
  where
    none : (n : ℕ) → label_number linked n ≡ None → at blocks n ≡ None
    none zero e = absurd (cc)
    none (suc zero) e = absurd (cc)
    none (suc (suc n)) e = refl

    some : (n b : ℕ) → label_number linked n ≡ Some b
        → (k : ℕ) × (key : List ℕ) × (at blocks n ≡ Some k) × (key_at lowest_keys k ≡ Some key) × IsKey (label_number linked) [] no_neighbours n key
    some zero b e = (0, 0 ∷ [], refl, refl, label_key 0 0 refl)
    some (suc zero) b e = (2, 1 ∷ [], refl, refl, label_key 1 1 refl)
    some (suc (suc n)) b e = absurd (cc)

    inhabited : (k : ℕ) → is_some (key_at lowest_keys k) ≡ true → (n : ℕ) × (at blocks n ≡ Some k)
    inhabited zero h = (0, refl)
    inhabited (suc zero) h = absurd (true≢false (sym h))
    inhabited (suc (suc zero)) h = (1, refl)
    inhabited (suc (suc (suc k))) h = absurd (true≢false (sym h))

no_parent : (d : Side) (p : ℕ) → IsTrue (counts sides.Parents d) → IsTrue (beside d (shape_of linked) p 0) → ⊥
no_parent side.Parents p c e = true≢false (sym e ∙ edge_is p 0 ∙ and-false (nat_eq p 0))
no_parent side.Children p c e = true≢false (sym c)

first_key : IsSidedKey sides.Parents (shape_of linked) blocks 0 (0 ∷ [])
first_key = record {
  number = 0;
  around = [];
  is = refl;
  own_is = refl;
  rising = λ k h. absurd (omega (arith, h));
  each = λ c h. absurd (true≢false (sym h));
  every = λ c q. absurd (no_parent q.side q.node q.counted q.is_beside);
}

one_parent : (d : Side) (p b c : ℕ) → IsTrue (counts sides.Parents d) → IsTrue (beside d (shape_of linked) p 1) → at blocks p ≡ Some b → c ≡ mark sides.Parents d b → IsTrue (has (0 ∷ []) c)
one_parent side.Parents p b c k e h is =
    let parent : p ≡ 0 = eqb-true p 0 (and_parts (nat_eq p 0) true (sym (edge_is p 1) ∙ e)).0 in
    let block : Some 0 ≡ Some b = ap (at blocks) (sym parent) ∙ h in
    let same : c ≡ b = is in
    let zero_is : 0 ≡ c = cc in
    subst (λ x. IsTrue (has (0 ∷ []) x)) zero_is refl
one_parent side.Children p b c k e h is = absurd (true≢false (sym k))

second_key : IsSidedKey sides.Parents (shape_of linked) blocks 1 (2 ∷ 0 ∷ [])
second_key = record {
  number = 2;
  around = 0 ∷ [];
  is = refl;
  own_is = refl;
  rising = λ k h. absurd (omega (arith, h));
  each = λ c h. record {
    side = side.Parents;
    counted = refl;
    node = 0;
    is_beside = edge_is 0 1;
    block = 0;
    has_block = refl;
    is = eqb-true c 0 (sym (or-false (nat_eq c 0)) ∙ h);
  };
  every = λ c q. one_parent q.side q.node q.block c q.counted q.is_beside q.has_block q.is;
}

parent_keys : AreNeighbourKeys sides.Parents linked gapped 0
parent_keys = record { none = λ n e. e; some = some; inhabited = inhabited }
  where
    some : (n b : ℕ) → at blocks n ≡ Some b
        → (k : ℕ) × (key : List ℕ) × (at blocks n ≡ Some k) × (key_at next_keys k ≡ Some key) × IsSidedKey sides.Parents (shape_of linked) blocks n key
    some zero b e = (0, 0 ∷ [], refl, refl, first_key)
    some (suc zero) b e = (2, 2 ∷ 0 ∷ [], refl, refl, second_key)
    some (suc (suc n)) b e = absurd (cc)

    inhabited : (k : ℕ) → is_some (key_at next_keys k) ≡ true → (n : ℕ) × (at blocks n ≡ Some k)
    inhabited zero h = (0, refl)
    inhabited (suc zero) h = absurd (true≢false (sym h))
    inhabited (suc (suc zero)) h = (1, refl)
    inhabited (suc (suc (suc k))) h = absurd (true≢false (sym h))

has_gap : (key : List ℕ) → HasKey (level next_keys) 1 key → ⊥
has_gap key e = cc

-- a key that ends with the own block is none
own_block_last : IsSidedKey sides.Parents (shape_of linked) blocks 1 (0 ∷ 2 ∷ []) → ⊥
own_block_last k =
    let number : 0 ≡ k.number = ap first k.is in
    let own : Some 2 ≡ Some k.number = k.own_is in
    let two_is : 2 ≡ k.number = cc in
    omega (arith, number, two_is)
