-- One more node is numbered after its parents; and where all nodes are numbered, their numbers are the classes of bisimilarity.
use Rattle.std.proofs.Common.{◌≡◌, ℕ, zero, suc, ◌+◌, ◌<◌, ◌⊎◌, List, [], ◌∷◌, ◌++◌, length, Option, Some, None, IsSome, IsTrue, is_some, refl, sym, ◌∙◌, ap, subst, arith, inl, inr, true, false, Bool, slice_get, slice_set, true≢false}
use Rattle.std.specs.Prelude.{nat_eq, if◌then◌else◌, bytes_eq, option_and_then}
use Rattle.std.specs.List.{list_all, position}
use Rattle.std.proofs.lemmas.Bool.Decides.{Decides-eqb, eqb_tells}
use Rattle.std.proofs.lemmas.List.{get_or-set_same, get_or-set_other, length-append}
use Rattle.std.proofs.lemmas.Bool.{cases_lt}
use Rattle.std.proofs.lemmas.Option.{slice_get_within}
use Rattle.graph_spec.specs.Graphs.{Graph, IsGraph, label_of}
use Rattle.graph_spec.specs.Members.{Lists, at}
use Rattle.graph_spec.specs.Shapes.{IsNode, shape_of}
use Rattle.label_graph.specs.GraphViews.{label_number}
use Rattle.key_table.specs.NumberedKeys.{AreDistinct, Interns}
use Rattle.bisim_spec.specs.Bisimilarity.{SameLabel, Bisim, Matched, node_count}
use Rattle.bisim_spec.specs.Partitions.{Together, Agrees}
use Rattle.bisim_spec.proofs.Bisimilar.{some_of, is_some_at, bis_sym, label_node, label_sym}
use Rattle.bisim_spec.specs.declared.sides.Side.{Side}
use Rattle.bisim_spec.specs.declared.sides.Side.TheVariants.{Parents, Children}
use Rattle.bisim_levels.specs.NeighbourSides.{is_neighbour}
use Rattle.bisim_spec.specs.NodeKeys.{IsKey, IsWritten}
use Rattle.bisim_spec.specs.Refinement.{Share, StayTogether}
use Rattle.bisim_levels.specs.Numbering.{AreBlocksBelow}
use Rattle.bisim_levels.proofs.NumberedNodes.{distinct_none, interned_at, interned_stays}
use Rattle.bisim_levels.proofs.LabelledNodes.{label_at, node_number, number_node}
use Rattle.bisim_spec.proofs.WrittenKeys.{key_of, key_from_together, together_from_key}
use Rattle.block_partition.specs.LabelledPartitions.{Partition}
use Rattle.block_partition.specs.FilledTables.{HaveLabels, SameBlocks}
use Rattle.block_splitting.specs.Chosen.{HasFirst}
use Rattle.block_splitting.specs.Splits.{IsNeighbour, AreLabelled}
use Rattle.block_splitting.proofs.Lists.{all_get}
use Rattle.coarsest_partition.specs.Ordered.{IsOrdered, IsReadyForRounds, AreAllNumbered}
use Rattle.coarsest_partition.specs.Refined.{parents_alone, IsTarget, IsRefined}
use Rattle.coarsest_partition.proofs.StepLaws.{bisim_target, bisim_end}

-- nodes of one label have one number for it, and the other way round
numbers_same : (g : Graph) → IsGraph g → (u v : ℕ) → SameLabel (shape_of g) u v → Share (label_number g) u v
numbers_same g s u v h =
    let number = some_of (label_number g u) (node_number g s u (ap is_some h.1)) in
    (number.0, number.1, ap (option_and_then (λ t. position (bytes_eq t) g.seen)) (h.2 ∙ sym h.1) ∙ number.1)

labels_same : (g : Graph) → IsGraph g → (u v : ℕ) → Share (label_number g) u v → SameLabel (shape_of g) u v
labels_same g s u v h =
    let text = some_of (label_of g u) (number_node g u (ap is_some h.1)) in
    let one : label_of g v ≡ label_of g u = sym (label_at g s v) ∙ ap (option_and_then (slice_get g.seen)) (h.2 ∙ sym h.1) ∙ label_at g s u in
    (text.0, text.1, one ∙ text.1)

-- a key stays where the blocks of the neighbours do
key_stays : (own : ℕ → Option ℕ) (old new : List (Option ℕ)) (neighbour_of : ℕ → ℕ → Bool) (m : ℕ) (key : List ℕ) → ((p : ℕ) → IsTrue (neighbour_of p m) → at new p ≡ at old p)
    → IsKey own old neighbour_of m key → IsKey own new neighbour_of m key
key_stays own old new neighbour_of m key same k = record {
  number = k.number;
  around = k.around;
  is = k.is;
  own_is = k.own_is;
  rising = k.rising;
  each = λ b h. let p = k.each b h in (p.0, p.1, same p.0 p.1 ∙ p.2);
  every = λ p b h e. k.every p b h (sym (same p h) ∙ e);
}

pub ordered_none : (g : Graph) (keys : List (List ℕ)) (block : List (Option ℕ)) → keys ≡ [] → ((n : ℕ) → at block n ≡ None) → IsOrdered g keys block
ordered_none g keys block none empty = record {
  distinct = subst AreDistinct (sym none) distinct_none;
  node = λ n h. absurd (gone n h);
  closed = λ p n h. absurd (gone n h);
  keyed = λ n b e. absurd (gone n (is_some_at (at block n) b e));
  inhabited = λ b h. absurd (let l = ap length none in omega (arith, h, l));
  coarse = λ u v h. absurd (gone u h);
}
  where
    gone : (n : ℕ) → IsSome (at block n) → ⊥
    gone n h = let s = some_of (at block n) h in let e = empty n in let f = s.1 in cc

-- what is known of the node that is numbered
record IsNext (g : Graph) (block : List (Option ℕ)) (n : ℕ) (key : List ℕ) : Type 0 where
  node : IsSome (label_number g n)
  none : at block n ≡ None
  parents : (p : ℕ) → IsNeighbour Parents g p n → IsSome (at block p)
  is : IsKey (label_number g) block (is_neighbour Parents g) n key

ordered_more : (g : Graph) → IsGraph g → (keys keys2 : List (List ℕ)) (block new : List (Option ℕ)) (n k : ℕ) (key : List ℕ) → IsOrdered g keys block → IsNext g block n key
    → Interns keys keys2 key k → AreDistinct keys2 → ((m : ℕ) → at new m ≡ (if nat_eq m n then Some k else at block m)) → IsOrdered g keys2 new
ordered_more g s keys keys2 block new n k key w next interned distinct new_is = record {
  distinct = distinct;
  node = λ m h. elim (eqb_tells m n) [
    | inl e ↦ subst (λ x. IsSome (label_number g x)) (sym e.1) next.node
    | inr d ↦ w.node m (before m d.0 h)
  ];
  closed = λ p m h neighbour_of. here p (elim (eqb_tells m n) [
    | inl e ↦ next.parents p (subst (λ x. IsNeighbour Parents g p x) e.1 neighbour_of)
    | inr d ↦ w.closed p m (before m d.0 h) neighbour_of
  ]);
  keyed = λ m b e. elim (eqb_tells m n) [
    | inl i ↦ (
        let number : k ≡ b = (let f = at_n m i.0 in cc) in (
          key,
          ap (slice_get keys2) (sym number) ∙ interned_at keys keys2 key k interned,
          subst (λ x. IsKey (label_number g) new (is_neighbour Parents g) x key) (sym i.1) key_n,
        ))
    | inr d ↦ (
        let old = w.keyed m b (sym (off_n m d.0) ∙ e) in (
          old.0,
          interned_stays keys keys2 key k interned b old.0 old.1,
          key_stays (label_number g) block new (is_neighbour Parents g) m old.0
              (λ p neighbour_of. same p (w.closed p m (is_some_at (at block m) b (sym (off_n m d.0) ∙ e)) neighbour_of)) old.2,
        ))
  ];
  inhabited = λ b h. elim (added b h) [
    | inl old ↦ (let r = w.inhabited b old in (r.0, same r.0 (is_some_at (at block r.0) b r.1) ∙ r.1))
    | inr last ↦ (n, at_n n ((Decides-eqb n n).1 refl) ∙ ap Some (sym last))
  ];
  coarse = λ u v hu hv r. elim (eqb_tells u n) [
    | inl su ↦ elim (eqb_tells v n) [
      | inl sv ↦ (k, at_n u su.0, at_n v sv.0)
      | inr dv ↦ (
          let old_v = before v dv.0 hv in
          let b = some_of (at block v) old_v in
          (k, at_n u su.0, off_n v dv.0 ∙ b.1 ∙ ap Some (sym (joins v b.0 b.1 (subst (λ x. Bisim (shape_of g) x v) su.1 r)))))
    ]
    | inr du ↦ elim (eqb_tells v n) [
      | inl sv ↦ (
          let old_u = before u du.0 hu in
          let b = some_of (at block u) old_u in
          (k, off_n u du.0 ∙ b.1 ∙ ap Some (sym (joins u b.0 b.1 (subst (λ x. Bisim (shape_of g) x u) sv.1 (bis_sym (shape_of g) (node_count (shape_of g)) u v r)))), at_n v sv.0))
      | inr dv ↦ (
          let t = w.coarse u v (before u du.0 hu) (before v dv.0 hv) r in
          (t.0, off_n u du.0 ∙ t.1, off_n v dv.0 ∙ t.2))
    ]
  ];
}
  where
    at_n : (m : ℕ) → nat_eq m n ≡ true → at new m ≡ Some k
    at_n m t = new_is m ∙ ap (λ b. if b then Some k else at block m) t

    off_n : (m : ℕ) → nat_eq m n ≡ false → at new m ≡ at block m
    off_n m f = new_is m ∙ ap (λ b. if b then Some k else at block m) f

    before : (m : ℕ) → nat_eq m n ≡ false → IsSome (at new m) → IsSome (at block m)
    before m f h = subst IsSome (off_n m f) h

    -- a node that has a number isn't the next one
    apart : (p : ℕ) → IsSome (at block p) → nat_eq p n ≡ false
    apart p h = elim (eqb_tells p n) [
      | inl i ↦ absurd (let b = some_of (at block p) h in let e = b.1 in let f = next.none in let a = ap (at block) i.1 in cc)
      | inr d ↦ d.0
    ]

    same : (p : ℕ) → IsSome (at block p) → at new p ≡ at block p
    same p h = off_n p (apart p h)

    here : (p : ℕ) → IsSome (at block p) → IsSome (at new p)
    here p h = subst IsSome (sym (same p h)) h

    key_n : IsKey (label_number g) new (is_neighbour Parents g) n key
    key_n = key_stays (label_number g) block new (is_neighbour Parents g) n key (λ p neighbour_of. same p (next.parents p neighbour_of)) next.is

    -- a key is an old one, or that of the node
    added : (b : ℕ) → b < length keys2 → (b < length keys) ⊎ (b ≡ k)
    added b h = elim interned [
      | inl (there, kept) ↦ inl (let l = ap length kept in omega (arith, h, l))
      | inr (absent, last, grown) ↦ (
          let l : length keys2 ≡ length keys + 1 = ap length grown ∙ length-append keys (key ∷ []) in
          elim (cases_lt b (length keys)) [
            | inl below ↦ inl below
            | inr past ↦ inr (omega (arith, h, l, past, last))
          ])
    ]

    -- a bisimilar node that has a number has this one
    joins : (v b : ℕ) → at block v ≡ Some b → Bisim (shape_of g) n v → k ≡ b
    joins v b e r =
        let target = bisim_target g s in
        let m = target.matched Parents refl n v r in
        let old = w.keyed v b e in
        let some_v = is_some_at (at block v) b e in
        let keys_same = key_from_together (label_number g) block (is_neighbour Parents g) n v key old.0 (record {
          one_number = numbers_same g s n v (target.label n v r);
          neighbours = record {
            there = λ p neighbour_of. let q = m.there p neighbour_of in (q.0, q.1, w.coarse p q.0 (next.parents p neighbour_of) (w.closed q.0 v some_v q.1) q.2);
            back = λ p neighbour_of. let q = m.back p neighbour_of in (q.0, q.1, w.coarse p q.0 (w.closed p v some_v neighbour_of) (next.parents q.0 q.1) q.2);
          };
        }) next.is old.2 in
        distinct.apart k b key (interned_at keys keys2 key k interned) (interned_stays keys keys2 key k interned b key (old.1 ∙ ap Some (sym keys_same)))

-- parents that were looked at have numbers
parents_numbered : (g : Graph) (block : List (Option ℕ)) (n : ℕ) (parents : List ℕ) → Lists (λ p. is_neighbour Parents g p n) parents
    → list_all (λ p. is_some (at block p)) parents ≡ true → (p : ℕ) → IsNeighbour Parents g p n → IsSome (at block p)
parents_numbered g block n parents l all p neighbour_of = all_get (λ q. is_some (at block q)) parents p all (l.members p ∙ neighbour_of)

-- a list that is written at one of its places
set_at : (block : List (Option ℕ)) (n m : ℕ) (v : Option ℕ) → n < length block → at (slice_set block n v) m ≡ (if nat_eq m n then v else at block m)
set_at block n m v h = elim (eqb_tells m n) [
  | inl i ↦ ap (at (slice_set block n v)) i.1 ∙ get_or-set_same block n v None h ∙ sym (ap (λ t. if t then v else at block m) i.0)
  | inr d ↦ get_or-set_other block n m v None d.1 ∙ sym (ap (λ t. if t then v else at block m) d.0)
]

-- a node that is ready gets the number of its key
pub numbered_more : (g : Graph) → IsGraph g → (keys keys2 : List (List ℕ)) (block block2 block3 : List (Option ℕ)) (n k label : ℕ) (parents : List ℕ) → block2 ≡ block → block3 ≡ block → n < length block
    → IsOrdered g keys block → IsSome (label_number g n) → IsReadyForRounds block2 n parents → Lists (λ p. is_neighbour Parents g p n) parents → label_number g n ≡ Some label
    → (key : List ℕ) × IsWritten (at block3) parents label key × Interns keys keys2 key k → AreDistinct keys2 → IsOrdered g keys2 (slice_set block n (Some k))
numbered_more g s keys keys2 block block2 block3 n k label parents same same3 within w node ready lists label_is (key, written, interned) distinct =
    let r : IsReadyForRounds block n parents = subst (λ (bs : List (Option ℕ)). IsReadyForRounds bs n parents) same ready in
    let wr : IsWritten (at block) parents label key = subst (λ (bs : List (Option ℕ)). IsWritten (at bs) parents label key) same3 written in
    ordered_more g s keys keys2 block (slice_set block n (Some k)) n k key w (record {
      node = node;
      none = r.none;
      parents = parents_numbered g block n parents lists r.numbered;
      is = key_of (label_number g) block (is_neighbour Parents g) n label parents key lists label_is wr;
    }) interned distinct (λ m. set_at block n m (Some k) within)

pub push_none : (xs : List (Option ℕ)) → ((n : ℕ) → at xs n ≡ None) → (n : ℕ) → at (xs ++ None ∷ []) n ≡ None
push_none [] h zero = refl
push_none [] h (suc n) = refl
push_none (x ∷ xs) h zero = h zero
push_none (x ∷ xs) h (suc n) = push_none xs (λ m. h (suc m)) n

-- where all nodes are numbered, none has to be active
ordered_refined : (g : Graph) → IsGraph g → (keys : List (List ℕ)) (block : List (Option ℕ)) → IsOrdered g keys block → AreAllNumbered g block
    → IsRefined g parents_alone (Bisim (shape_of g)) block (λ t n. false)
ordered_refined g s keys block w all = record {
  coarse = λ u v r.
      let l = target.label u v r in
      w.coarse u v (numbered u (label_node (shape_of g) u v l)) (numbered v (label_node (shape_of g) v u (label_sym (shape_of g) u v l))) r;
  label = λ u v t. labels_same g s u v (stay u v t).one_number;
  closed = λ t k u v r h. absurd (true≢false (sym h));
  settled = settled;
}
  where
    target : IsTarget g parents_alone (Bisim (shape_of g))
    target = bisim_target g s

    numbered : (n : ℕ) → IsNode (shape_of g) n → IsSome (at block n)
    numbered n h = all.each n (node_number g s n h)

    blocks : (p n : ℕ) → IsTrue (is_neighbour Parents g p n) → (b : ℕ) × (at block p ≡ Some b)
    blocks p n e = some_of (at block p) (numbered p (s.from p n e))

    stay : (u v : ℕ) → Together block u v → StayTogether (label_number g) block (is_neighbour Parents g) u v
    stay u v t =
        let ku = w.keyed u t.0 t.1 in
        let kv = w.keyed v t.0 t.2 in
        let a = ku.1 in
        let c = kv.1 in
        let same : kv.0 ≡ ku.0 = cc in
        together_from_key (label_number g) block (is_neighbour Parents g) u v ku.0 blocks ku.2 (subst (IsKey (label_number g) block (is_neighbour Parents g) v) same kv.2)

    settled : (t : Side) → parents_alone t ≡ true → (u v : ℕ) → false ≡ false → false ≡ false → Together block u v → Matched (IsNeighbour t g) (Together block) u v
    settled Children k u v nu nv t = absurd (true≢false (sym k))
    settled Parents k u v nu nv t = (stay u v t).neighbours

-- the numbers are the classes of full bisimilarity
pub ordered_agrees : (g : Graph) → IsGraph g → (keys : List (List ℕ)) (block : List (Option ℕ)) → IsOrdered g keys block → AreAllNumbered g block
    → Agrees (shape_of g) block (Bisim (shape_of g))
ordered_agrees g s keys block w all = bisim_end g s block (λ t n. false) (ordered_refined g s keys block w all) (λ n. refl)

-- the numbers are those of the keys
pub ordered_below : (g : Graph) (keys : List (List ℕ)) (block : List (Option ℕ)) → IsOrdered g keys block → AreBlocksBelow block (length keys)
ordered_below g keys block w = record {
  below = λ n b e. let k = w.keyed n b e in slice_get_within keys b k.0 k.1;
  inhabited = w.inhabited;
}

-- each block has the label with which its key begins
pub ordered_labelled : (g : Graph) (p : Partition) (block block2 : List (Option ℕ)) (keys : List (List ℕ)) (labels labels2 : List ℕ) → block2 ≡ block → labels2 ≡ labels → SameBlocks p.block_of block2
    → HaveLabels p labels2 → IsOrdered g keys block → ((b n : ℕ) (key : List ℕ) → slice_get keys b ≡ Some key → HasFirst key n → slice_get labels b ≡ Some n) → AreLabelled g p
ordered_labelled g p block block2 keys labels labels2 eb el same have w first = record {
  each = λ n b e.
      let k = w.keyed n b (ap (λ (bs : List (Option ℕ)). at bs n) (sym eb) ∙ sym (same n) ∙ e) in
      let is = k.2 in
      have b ∙ ap (λ (ls : List ℕ). slice_get ls b) el ∙ first b is.number k.0 k.1 (record { around = is.around; is = is.is }) ∙ sym is.own_is;
}
