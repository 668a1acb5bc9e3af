-- One node is placed, and then the next.
use Rattle.std.proofs.Common.{◌≡◌, ◌≢◌, ℕ, ◌+◌, List, [], ◌∷◌, ◌++◌, Option, Some, None, is_some, refl, sym, ◌∙◌, ap, subst, arith, inl, inr, true, false, Bool, cond, true≢false}
use Rattle.std.specs.Prelude.{nat_eq, ◌||◌, ◌⊎◌}
use Rattle.std.proofs.lemmas.Bool.{or_cases, or_left, cases_Bool}
use Rattle.std.proofs.lemmas.Bool.Decides.{eqb_tells, Decides-eqb}
use Rattle.std.proofs.lemmas.List.Folds.{list_any-append}
use Rattle.graph_spec.specs.Graphs.{Graph}
use Rattle.graph_spec.specs.Shapes.{Shape, IsNode, shape_of}
use Rattle.graph_spec.specs.Members.{at, has}
use Rattle.label_graph.specs.GraphViews.{label_number}
use Rattle.bisim_spec.specs.declared.sides.Sides.{Sides}
use Rattle.bisim_spec.specs.Partitions.{IsPartition}
use Rattle.bisim_spec.specs.Supports.{edges_between}
use Rattle.bisim_levels.specs.SidedKeys.{IsAround, IsKeyBy, IsSidedKey}
use Rattle.one_spec.specs.EdgeCounts.{AreEdgeCounts}
use Rattle.keyed_quotient.specs.KeyedQuotients.{KeyedQuotient}
use Rattle.keyed_quotient.specs.Changes.{KeyedChanges, blocks_as_shown, labels_as_shown, support_as_shown}
use Rattle.ak_family.specs.Families.{level_at}
use Rattle.ak_family.specs.LevelDrafts.{changes_at, blocks_shown, labels_shown, key_shown, AreSameBut, HasBlock}
use Rattle.level_spec.specs.Keyed.{IsLevelOf, first_number}
use Rattle.level_update.specs.Placed.{AreTwoLevels, HasMoved, ArePlaced}

pub only_one : (n m : ℕ) → has (n ∷ []) m ≡ true → m ≡ n
only_one n m h = elim (or_cases (nat_eq m n) false h) [ inl e ↦ (Decides-eqb m n).0 e | inr e ↦ absurd (true≢false (sym e)) ]

not_one : (n m : ℕ) → has (n ∷ []) m ≡ false → nat_eq m n ≡ false
not_one n m h = elim (cases_Bool (nat_eq m n)) [ inl e ↦ absurd (true≢false (sym (or_left (nat_eq m n) false e) ∙ h)) | inr e ↦ e ]

-- a level is no other one
lower_apart : (i : ℕ) → i ≢ i + 1
lower_apart i e = absurd (omega (arith, e))

some_same : (a b : ℕ) → Some a ≡ Some b → a ≡ b
some_same a b e = cc

some_list : (a b : List ℕ) → Some a ≡ Some b → a ≡ b
some_list a b e = cc

one_of : (o : Option ℕ) (a b : ℕ) → o ≡ Some a → o ≡ Some b → a ≡ b
one_of o a b e f = cc

-- the first number of a key that begins with it
begins : (own : ℕ → Option ℕ) (Around : ℕ → ℕ → Type 0) (n b : ℕ) (key : List ℕ) → IsKeyBy own Around n key → own n ≡ Some b → first_number (Some key) ≡ Some b
begins own Around n b key k e = ap (λ xs. first_number (Some xs)) k.is ∙ sym k.own_is ∙ e

key_of_first : (o : Option (List ℕ)) (number : ℕ) → first_number o ≡ Some number → (numbers : List ℕ) × (o ≡ Some numbers)
key_of_first None number e = absurd (cc)
key_of_first (Some numbers) number e = (numbers, refl)

-- a node that is put into a block is among the nodes still
pub partition_put : (s : Shape) (p p2 : List (Option ℕ)) (n b : ℕ) → IsPartition s p → IsNode s n → ((m : ℕ) → at p2 m ≡ cond (nat_eq m n) (Some b) (at p m)) → IsPartition s p2
partition_put s p p2 n b partition node moved = record {
  live = λ m h. elim (eqb_tells m n) [
    | inl e ↦ ap is_some (moved m ∙ ap (λ t. cond t (Some b) (at p m)) e.0)
    | inr e ↦ ap is_some (moved m ∙ ap (λ t. cond t (Some b) (at p m)) e.0) ∙ partition.live m h
  ];
  only = λ m h. elim (eqb_tells m n) [
    | inl e ↦ subst (IsNode s) (sym e.1) node
    | inr e ↦ partition.only m (sym (ap is_some (moved m ∙ ap (λ t. cond t (Some b) (at p m)) e.0)) ∙ h)
  ];
}

-- supports that are the same count the same edges
pub counts_same : (g : Graph) (p p2 : List (Option ℕ)) (support support2 : ℕ → ℕ → ℕ) → AreEdgeCounts g p support → p2 ≡ p → ((x y : ℕ) → support2 x y ≡ support x y)
    → AreEdgeCounts g p2 support2
counts_same g p p2 support support2 counts same is = record { each = λ x y. is x y ∙ counts.each x y ∙ ap (λ (q : List (Option ℕ)). edges_between g.edges q x y) (sym same) }

module _ (sides : Sides) (g : Graph) (f : List KeyedQuotient) (d d1 d2 : List KeyedChanges) (i n own b label : ℕ) (key : List ℕ) (t : AreTwoLevels g f d i)
    (own_is : at (blocks_shown f d i) n ≡ Some own) (label_is : label_number g n ≡ Some label)
    (k : IsSidedKey sides (shape_of g) (blocks_shown f d i) n key) (others : AreSameBut (i + 1) d d1) (stays : blocks_shown f d1 (i + 1) ≡ blocks_shown f d (i + 1))
    (block : HasBlock label key b (labels_shown f d (i + 1)) (labels_shown f d1 (i + 1)) (key_shown f d (i + 1)) (key_shown f d1 (i + 1))) (moved : HasMoved g f d1 d2 (i + 1) n b) where
  -- the level below stays
  same_below : changes_at d2 i ≡ changes_at d i
  same_below = moved.others i (lower_apart i) ∙ others i (lower_apart i)

  moved_blocks : (m : ℕ) → at (blocks_shown f d2 (i + 1)) m ≡ cond (nat_eq m n) (Some b) (at (blocks_shown f d (i + 1)) m)
  moved_blocks m = moved.blocks m ∙ ap (λ (p : List (Option ℕ)). cond (nat_eq m n) (Some b) (at p m)) stays

  -- the block below has the node's label
  below_label : at (labels_shown f d i) own ≡ Some label
  below_label =
      let l = t.lower.block_labels.is n own own_is in
      l.1 ∙ ap Some (one_of (label_number g n) l.0 label l.2 label_is)

  -- a key that a block has is the one that it had, or that of the block that was made
  fresh : (c : ℕ) (numbers : List ℕ) → key_shown f d1 (i + 1) c ≡ Some numbers
      → (key_shown f d (i + 1) c ≡ Some numbers) ⊎ ((numbers ≡ key) × (at (labels_shown f d1 (i + 1)) c ≡ Some label))
  fresh c numbers e = elim (eqb_tells c b) [
    | inr o ↦ inl (sym (block.other_keys c o.1) ∙ e)
    | inl s ↦ (
        let same : numbers ≡ key = some_list numbers key (sym e ∙ ap (key_shown f d1 (i + 1)) s.1 ∙ block.key_is) in
        elim block.found [
          | inl had ↦ inl (ap (key_shown f d (i + 1)) s.1 ∙ had ∙ ap Some (sym same))
          | inr block_labels ↦ inr (same, ap (at (labels_shown f d1 (i + 1))) s.1 ∙ block_labels)
        ])
  ]

  -- where the key of a block begins with a block below, both have one label
  goes_up : (c : ℕ) (numbers : List ℕ) (number : ℕ) → key_shown f d1 (i + 1) c ≡ Some numbers → first_number (Some numbers) ≡ Some number
      → (l : ℕ) × (at (labels_shown f d i) number ≡ Some l) × (at (labels_shown f d2 (i + 1)) c ≡ Some l)
  goes_up c numbers number is first = elim (fresh c numbers is) [
    | inl old ↦ (
        let l = t.up.is c number (ap first_number old ∙ first) in
        (l.0, l.1, ap (λ (ls : List (Option ℕ)). at ls c) moved.labels ∙ block.labels_stay c l.0 l.2))
    | inr (same, block_labels) ↦ (
        let begin : number ≡ own = some_same number own (sym first ∙ ap (λ xs. first_number (Some xs)) same ∙ begins (at (blocks_shown f d i)) (IsAround sides (shape_of g) (blocks_shown f d i)) n own key k own_is) in
        (label, ap (at (labels_shown f d i)) begin ∙ below_label, ap (λ (ls : List (Option ℕ)). at ls c) moved.labels ∙ block_labels))
  ]

  -- the block has the node's label
  block_label : at (labels_shown f d2 (i + 1)) b ≡ Some label
  block_label =
      let l = goes_up b key own block.key_is (begins (at (blocks_shown f d i)) (IsAround sides (shape_of g) (blocks_shown f d i)) n own key k own_is) in
      l.2 ∙ ap Some (one_of (at (labels_shown f d i) own) l.0 label l.1 below_label)

  kept_labels : (c l : ℕ) → at (labels_shown f d (i + 1)) c ≡ Some l → at (labels_shown f d2 (i + 1)) c ≡ Some l
  kept_labels c l e = ap (λ (ls : List (Option ℕ)). at ls c) moved.labels ∙ block.labels_stay c l e

  two_kept : AreTwoLevels g f d2 i
  two_kept = record {
    over = moved.over;
    within = t.within;
    lower = subst (λ (x : KeyedChanges). IsLevelOf g (blocks_as_shown (level_at f i) x) (labels_as_shown (level_at f i) x) (support_as_shown (level_at f i) x)) (sym same_below) t.lower;
    upper = record {
      partition = partition_put (shape_of g) (blocks_shown f d (i + 1)) (blocks_shown f d2 (i + 1)) n b t.upper.partition (t.lower.partition.only n (ap is_some own_is)) moved_blocks;
      block_labels = record {
        is = λ m c e. elim (eqb_tells m n) [
          | inl s ↦ (
              let same : b ≡ c = some_same b c (sym (moved_blocks m ∙ ap (λ x. cond x (Some b) (at (blocks_shown f d (i + 1)) m)) s.0) ∙ e) in
              (label, ap (at (labels_shown f d2 (i + 1))) (sym same) ∙ block_label, ap (label_number g) s.1 ∙ label_is))
          | inr o ↦ (
              let l = t.upper.block_labels.is m c (sym (moved_blocks m ∙ ap (λ x. cond x (Some b) (at (blocks_shown f d (i + 1)) m)) o.0) ∙ e) in
              (l.0, kept_labels c l.0 l.1, l.2))
        ];
      };
      supports = moved.supports;
    };
    up = record {
      is = λ c number e.
          let is = key_of_first (key_shown f d2 (i + 1) c) number e in
          let l = goes_up c is.0 number (sym (moved.keys c) ∙ is.1) (ap first_number (sym is.1) ∙ e) in
          (l.0, ap (λ (x : KeyedChanges). at (labels_as_shown (level_at f i) x) number) same_below ∙ l.1, l.2);
    };
  }

  -- a node that has a block below
  pub placed_one : ArePlaced sides g f d d2 i (n ∷ [])
  placed_one = record {
    levels = two_kept;
    others = λ j ne. moved.others j ne ∙ others j ne;
    labels = record { kept = kept_labels };
    keys = record { kept = λ c numbers e. moved.keys c ∙ block.keys_stay.kept c numbers e };
    blocks = λ m off. moved_blocks m ∙ ap (λ x. cond x (Some b) (at (blocks_shown f d (i + 1)) m)) (not_one n m off);
    keyed = λ m on. record {
      keyed = λ c e.
          let s = only_one n m on in
          let same : b ≡ c = some_same b c (sym (moved_blocks m ∙ ap (λ x. cond x (Some b) (at (blocks_shown f d (i + 1)) m)) ((Decides-eqb m n).1 s)) ∙ e) in (
            key,
            moved.keys c ∙ ap (key_shown f d1 (i + 1)) (sym same) ∙ block.key_is,
            subst (λ (x : KeyedChanges). IsSidedKey sides (shape_of g) (blocks_as_shown (level_at f i) x) m key) (sym same_below)
                (subst (λ x. IsSidedKey sides (shape_of g) (blocks_shown f d i) x key) (sym s) k),
          );
    };
  }

-- a number that is no node has no block
pub placed_none : (sides : Sides) (g : Graph) (f : List KeyedQuotient) (d : List KeyedChanges) (i n : ℕ) → AreTwoLevels g f d i → at (blocks_shown f d i) n ≡ None → ArePlaced sides g f d d i (n ∷ [])
placed_none sides g f d i n t none = record {
  levels = t;
  others = λ j ne. refl;
  labels = record { kept = λ c l e. e };
  keys = record { kept = λ c numbers e. e };
  blocks = λ m off. refl;
  keyed = λ m on. record {
    keyed = λ c e. absurd (
        let s = only_one n m on in
        let node = t.upper.partition.only n (ap is_some (ap (at (blocks_shown f d (i + 1))) (sym s) ∙ e)) in
        true≢false (sym (t.lower.partition.live n node) ∙ ap is_some none));
  };
}

pub placed_start : (sides : Sides) (g : Graph) (f : List KeyedQuotient) (d : List KeyedChanges) (i : ℕ) → AreTwoLevels g f d i → ArePlaced sides g f d d i []
placed_start sides g f d i t = record {
  levels = t;
  others = λ j ne. refl;
  labels = record { kept = λ c l e. e };
  keys = record { kept = λ c numbers e. e };
  blocks = λ m off. refl;
  keyed = λ m on. absurd (true≢false (sym on));
}

has_more : (xs : List ℕ) (n m : ℕ) → has (xs ++ n ∷ []) m ≡ (has xs m || has (n ∷ []) m)
has_more xs n m = list_any-append (nat_eq m) xs (n ∷ [])

-- one more node
pub placed_next : (sides : Sides) (g : Graph) (f : List KeyedQuotient) (d d1 d2 : List KeyedChanges) (i n : ℕ) (nodes : List ℕ) → ArePlaced sides g f d d1 i nodes → ArePlaced sides g f d1 d2 i (n ∷ [])
    → ArePlaced sides g f d d2 i (nodes ++ n ∷ [])
placed_next sides g f d d1 d2 i n nodes p q = record {
  levels = q.levels;
  others = λ j ne. q.others j ne ∙ p.others j ne;
  labels = record { kept = λ c l e. q.labels.kept c l (p.labels.kept c l e) };
  keys = record { kept = λ c numbers e. q.keys.kept c numbers (p.keys.kept c numbers e) };
  blocks = λ m off.
      let parts = none_of (has nodes m) (has (n ∷ []) m) (sym (has_more nodes n m) ∙ off) in
      q.blocks m parts.1 ∙ p.blocks m parts.0;
  keyed = λ m on. elim (cases_Bool (has (n ∷ []) m)) [
    | inl last ↦ q.keyed m last
    | inr off ↦ record {
      keyed = λ c e.
          let first : has nodes m ≡ true = one_left (has nodes m) (has (n ∷ []) m) (sym (has_more nodes n m) ∙ on) off in
          let k = (p.keyed m first).keyed c (sym (q.blocks m off) ∙ e) in (
            k.0,
            q.keys.kept c k.0 k.1,
            subst (λ (x : KeyedChanges). IsSidedKey sides (shape_of g) (blocks_as_shown (level_at f i) x) m k.0) (sym (q.others i (lower_apart i))) k.2,
          );
    }
  ];
}
  where
    none_of : (a b : Bool) → (a || b) ≡ false → (a ≡ false) × (b ≡ false)
    none_of true b e = absurd (true≢false e)
    none_of false b e = (refl, e)

    one_left : (a b : Bool) → (a || b) ≡ true → b ≡ false → a ≡ true
    one_left true b e o = refl
    one_left false b e o = absurd (true≢false (sym e ∙ o))
