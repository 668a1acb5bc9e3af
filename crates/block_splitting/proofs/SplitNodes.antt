-- What is known of nodes once blocks are split by the keys of their members.
use Rattle.std.proofs.Common.{◌≡◌, ℕ, ◌<◌, ◌≤◌, ◌⊎◌, List, length, Option, Some, IsSome, sym, ◌∙◌, ap, subst, arith, inl, inr, true, false, Bool, slice_get, slice_index}
use Rattle.std.proofs.lemmas.Bool.{cases_Bool, both_ways}
use Rattle.std.proofs.lemmas.Option.{slice_get_within}
use Rattle.graph_spec.specs.Members.{has, at}
use Rattle.bisim_spec.specs.Partitions.{Together}
use Rattle.bisim_spec.proofs.Bisimilar.{some_of}
use Rattle.bisim_spec.proofs.Together.{block_below}
use Rattle.block_partition.specs.LabelledPartitions.{Partition, IsBlock}
use Rattle.block_splitting.specs.Groups.{AreGrouped}
use Rattle.block_splitting.specs.Chosen.{HasFirst, AreChosen, RetainedBelow}
use Rattle.block_splitting.specs.Moved.{AreMoved, CanMove, CanPart, AreParted}
use Rattle.block_splitting.proofs.Keyed.{AreKeys}

-- what is known of a node that was grouped
pub record Placed (K : ℕ → List ℕ → Type 0) (block new : List (Option ℕ)) (keys : List (List ℕ)) (group chosen : List ℕ) (n : ℕ) : Type 0 where
  pub key : List ℕ
  pub at_key : slice_get keys (slice_index group n) ≡ Some key
  pub is : K n key
  pub own : ℕ
  pub begins : HasFirst key own
  pub own_is : at block n ≡ Some own
  pub below : slice_index group n < length keys
  pub there : at new n ≡ Some (slice_index chosen (slice_index group n))

-- The parts of a split: keys, the groups of those that are seen, and where these went.
pub record Parts (K : ℕ → List ℕ → Type 0) (p r : Partition) (seen : ℕ → Bool) (moved : List ℕ) (keys : List (List ℕ)) (group : List ℕ) : Type 0 where
  pub keys_are : AreKeys K p.block_of
  pub live : (n b : ℕ) → at p.block_of n ≡ Some b → IsBlock p b
  pub grouped : AreGrouped K seen keys group
  pub parted : AreParted p r seen keys group (has moved)

pub placed : (K : ℕ → List ℕ → Type 0) (p r : Partition) (seen : ℕ → Bool) (moved : List ℕ) (keys : List (List ℕ)) (group : List ℕ) → (w : Parts K p r seen moved keys group)
    → (n : ℕ) → seen n ≡ true → Placed K p.block_of r.block_of keys group w.parted.chosen n
placed K p r seen moved keys group w n h =
    let e = w.grouped.each n h in
    let o = w.keys_are.owner n e.0 e.2 in
    record {
      key = e.0;
      at_key = e.1;
      is = e.2;
      own = o.0;
      begins = o.1;
      own_is = o.2;
      below = slice_get_within keys (slice_index group n) e.0 e.1;
      there = w.parted.moved_are.there n h;
    }

-- what nodes that are together after a round were before: both not seen, or both seen and of one key
pub record OneKey (K : ℕ → List ℕ → Type 0) (seen : ℕ → Bool) (u v : ℕ) : Type 0 where
  pub first : seen u ≡ true
  pub second : seen v ≡ true
  pub key : List ℕ
  pub first_has : K u key
  pub second_has : K v key

pub told : (K : ℕ → List ℕ → Type 0) (p r : Partition) (seen : ℕ → Bool) (moved : List ℕ) (keys : List (List ℕ)) (group : List ℕ) → Parts K p r seen moved keys group
    → (u v : ℕ) → Together r.block_of u v → (((seen u ≡ false) × (seen v ≡ false)) × Together p.block_of u v) ⊎ OneKey K seen u v
told K p r seen moved keys group w u v t = elim (cases_Bool (seen u)) [
  | inl yu ↦ elim (cases_Bool (seen v)) [
    | inl yv ↦ inr (
        let a = put u yu in
        let b = put v yv in
        let x = a.there in
        let y = b.there in
        let t1 = t.1 in
        let t2 = t.2 in
        let blocks_same : slice_index w.parted.chosen (slice_index group u) ≡ slice_index w.parted.chosen (slice_index group v) = cc in
        let groups = w.parted.chosen_are.apart (slice_index group u) (slice_index group v) a.below b.below blocks_same in
        let at_u = a.at_key in
        let at_v = b.at_key in
        let keys_same : b.key ≡ a.key = cc in
        record { first = yu; second = yv; key = a.key; first_has = a.is; second_has = subst (K v) keys_same b.is })
    | inr nv ↦ absurd (mixed v u t.0 nv yu t.2 t.1)
  ]
  | inr nu ↦ elim (cases_Bool (seen v)) [
    | inl yv ↦ absurd (mixed u v t.0 nu yv t.1 t.2)
    | inr nv ↦ inl ((nu, nv), (t.0, sym (w.parted.moved_are.others u nu) ∙ t.1, sym (w.parted.moved_are.others v nv) ∙ t.2))
  ]
]
  where
    put : (n : ℕ) → seen n ≡ true → Placed K p.block_of r.block_of keys group w.parted.chosen n
    put = placed K p r seen moved keys group w

    -- a node that isn't seen is never in the block to which one that is goes
    mixed : (u v b : ℕ) → seen u ≡ false → seen v ≡ true → at r.block_of u ≡ Some b → at r.block_of v ≡ Some b → ⊥
    mixed u v b nu yv eu ev =
        let a = put v yv in
        let old_u : at p.block_of u ≡ Some b = sym (w.parted.moved_are.others u nu) ∙ eu in
        let there = a.there in
        let same : slice_index w.parted.chosen (slice_index group v) ≡ b = cc in
        elim (w.parted.chosen_are.each (slice_index group v) a.own a.key a.below a.at_key a.begins) [
          | inl kept ↦ both_ways (seen u) nu (kept.all.each u (old_u ∙ ap Some (sym same ∙ kept.same)))
          | inr (free, why) ↦ (
              let l = some_of (at p.labels b) (w.live u b old_u) in
              let f = ap (at p.labels) same in
              let g = l.1 in
              cc)
        ]

-- nodes that were together and are alike go on together
pub kept_one : (K : ℕ → List ℕ → Type 0) (p r : Partition) (seen : ℕ → Bool) (moved : List ℕ) (keys : List (List ℕ)) (group : List ℕ) → Parts K p r seen moved keys group
    → (u v : ℕ) → Together p.block_of u v → ((x y : List ℕ) → K u x → K v y → x ≡ y) → (seen u ≡ true → seen v ≡ true) → (seen v ≡ true → seen u ≡ true) → Together r.block_of u v
kept_one K p r seen moved keys group w u v t one su sv = elim (cases_Bool (seen u)) [
  | inl yu ↦ (
      let a = put u yu in
      let b = put v (su yu) in
      let keys_same = one a.key b.key a.is b.is in
      let groups : slice_index group u ≡ slice_index group v = w.grouped.distinct.apart (slice_index group u) (slice_index group v) b.key (a.at_key ∙ ap Some keys_same) b.at_key in
      (slice_index w.parted.chosen (slice_index group u), a.there, b.there ∙ ap (λ k. Some (slice_index w.parted.chosen k)) (sym groups)))
  | inr nu ↦ (
      let nv : seen v ≡ false = elim (cases_Bool (seen v)) [ inl yv ↦ absurd (both_ways (seen u) nu (sv yv)) | inr f ↦ f ] in
      (t.0, w.parted.moved_are.others u nu ∙ t.1, w.parted.moved_are.others v nv ∙ t.2))
]
  where
    put : (n : ℕ) → seen n ≡ true → Placed K p.block_of r.block_of keys group w.parted.chosen n
    put = placed K p r seen moved keys group w

-- what moved was seen
pub was_active_of : (seen : ℕ → Bool) (target : ℕ → ℕ) (old new : List (Option ℕ)) (moved : ℕ → Bool) → AreMoved seen target old new moved → (n : ℕ) → moved n ≡ true → seen n ≡ true
was_active_of seen target old new moved m n h = elim (cases_Bool (seen n)) [ inl y ↦ y | inr f ↦ absurd (m.went n h (m.others n f)) ]

-- each key begins with a number below the length of the list of labels
pub keyed_below : (p : Partition) (seen : ℕ → Bool) (keys : List (List ℕ)) (group : List ℕ) (span : ℕ) → CanPart p seen keys group → span ≡ length p.labels → (k : ℕ) (key : List ℕ)
    → slice_get keys k ≡ Some key → (own : ℕ) × HasFirst key own × (own < span)
keyed_below p seen keys group span c is k key e =
    let o = c.keyed k key e in
    (o.0, o.1, let l = block_below p.labels o.0 o.2 in omega (arith, l, is))

-- blocks are below the length of the list of retained groups
pub kept_below : (p : Partition) (span long : ℕ) → span ≡ length p.labels → span ≤ long → (b : ℕ) → IsBlock p b → b < long
kept_below p span long is le b h = let l = block_below p.labels b h in omega (arith, l, is, le)

pub can_move : (p q : Partition) (list active_nodes : List ℕ) (keys : List (List ℕ)) (group retained chosen chosen2 : List ℕ) → list ≡ active_nodes → chosen2 ≡ chosen → CanPart p (has active_nodes) keys group
    → AreChosen p q (has active_nodes) keys (length keys) retained chosen → CanMove q (has list) group chosen2
can_move p q list active_nodes keys group retained chosen chosen2 e ec r c =
    subst (λ (xs : List ℕ). CanMove q (has xs) group chosen2) (sym e)
    (subst (λ (cs : List ℕ). CanMove q (has active_nodes) group cs) (sym ec) (record {
      has_block = λ n h. subst (λ bs. IsSome (at bs n)) (sym c.nodes) (r.has_block n h);
      below = r.below;
      grouped = λ n h. let inside = r.grouped n h in let count = c.count in omega (arith, inside, count);
      live = λ k h. let count = c.count in c.live k (omega (arith, h, count));
    }))

-- what was done, whose lists are handed on
pub parted : (p q r : Partition) (list active_nodes moved : List ℕ) (keys : List (List ℕ)) (group retained retained2 chosen chosen2 : List ℕ) → list ≡ active_nodes → chosen2 ≡ chosen → retained2 ≡ retained
    → RetainedBelow keys (length keys) retained → AreChosen p q (has active_nodes) keys (length keys) retained2 chosen
    → AreMoved (has list) (λ n. slice_index chosen2 (slice_index group n)) q.block_of r.block_of (has moved) → r.labels ≡ q.labels → AreParted p r (has active_nodes) keys group (has moved)
parted p q r list active_nodes moved keys group retained retained2 chosen chosen2 e ec ek retained_groups c m labels = record {
  middle = q;
  retained = retained2;
  chosen = chosen;
  retained_groups = subst (λ (ks : List ℕ). RetainedBelow keys (length keys) ks) (sym ek) retained_groups;
  chosen_are = c;
  moved_are =
      subst (λ (bs : List (Option ℕ)). AreMoved (has active_nodes) (λ n. slice_index chosen (slice_index group n)) bs r.block_of (has moved)) c.nodes
      (subst (λ (cs : List ℕ). AreMoved (has active_nodes) (λ n. slice_index cs (slice_index group n)) q.block_of r.block_of (has moved)) ec
      (subst (λ (xs : List ℕ). AreMoved (has xs) (λ n. slice_index chosen2 (slice_index group n)) q.block_of r.block_of (has moved)) e m));
  labels = labels;
}
