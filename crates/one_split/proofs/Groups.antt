-- Groups by keys, and where they go.
use Rattle.std.proofs.Common.{◌≡◌, ℕ, ◌<◌, List, ◌∷◌, length, Option, Some, None, refl, sym, ◌∙◌, ap, subst, inl, inr, true, false, Bool, cond, arith}
use Rattle.std.specs.Prelude.{nat_eq, slice_index, slice_get}
use Rattle.std.specs.List.{IsDistinct}
use Rattle.std.proofs.lemmas.Option.{slice_get_within}
use Rattle.graph_spec.specs.Members.{at, has}
use Rattle.graph_spec.specs.Shapes.{Shape, IsShape}
use Rattle.bisim_spec.specs.Partitions.{Together, IsPartition}
use Rattle.bisim_spec.proofs.Bisimilar.{some_of}
use Rattle.bisim_spec.specs.NodeKeys.{IsKey}
use Rattle.bisim_spec.specs.Refinement.{StayTogether}
use Rattle.bisim_spec.proofs.WrittenKeys.{together_from_key}
use Rattle.one_spec.specs.SplitRoundSteps.{AreTargetBlocks}
use Rattle.one_split.specs.Counted.{AreCounted}
use Rattle.one_split.proofs.Wholes.{whole_counted, part_counted}
use Rattle.one_split.specs.Numbered.{HasNumber, HaveNumbers}
use Rattle.one_split.specs.NodeTargetBlocks.{BeginsAt, AreGroupTargetBlocks, HaveGone}
use Rattle.one_split.proofs.ListIndexes.{place_in, place_found, has_place, place_is}

-- the group of a node that is looked at
abbrev pub group_of : List ℕ → List ℕ → ℕ → ℕ
group_of nodes numbers n = slice_index numbers (place_in nodes n)

-- where a node goes: where its group goes, if it is looked at
abbrev pub target_block_of : List ℕ → List ℕ → List (Option ℕ) → ℕ → Option ℕ
target_block_of nodes numbers target_blocks n = cond (has nodes n) (at target_blocks (group_of nodes numbers n)) None

pub target_block_looked : (nodes numbers : List ℕ) (target_blocks : List (Option ℕ)) (n b : ℕ) → target_block_of nodes numbers target_blocks n ≡ Some b
    → (has nodes n ≡ true) × (at target_blocks (group_of nodes numbers n) ≡ Some b)
target_block_looked nodes numbers target_blocks n b h = by (has nodes n) refl
  where
    by : (t : Bool) → has nodes n ≡ t → (has nodes n ≡ true) × (at target_blocks (group_of nodes numbers n) ≡ Some b)
    by true e = (e, sym (ap (λ t. cond t (at target_blocks (group_of nodes numbers n)) None) e) ∙ h)
    by false e = absurd (let f : None ≡ Some b = sym (ap (λ t. cond t (at target_blocks (group_of nodes numbers n)) None) e) ∙ h in cc)

pub target_block_there : (nodes numbers : List ℕ) (target_blocks : List (Option ℕ)) (n : ℕ) → has nodes n ≡ true → target_block_of nodes numbers target_blocks n ≡ at target_blocks (group_of nodes numbers n)
target_block_there nodes numbers target_blocks n h = ap (λ t. cond t (at target_blocks (group_of nodes numbers n)) None) h

pub target_block_off : (nodes numbers : List ℕ) (target_blocks : List (Option ℕ)) (n : ℕ) → has nodes n ≡ false → target_block_of nodes numbers target_blocks n ≡ None
target_block_off nodes numbers target_blocks n h = ap (λ t. cond t (at target_blocks (group_of nodes numbers n)) None) h

module _ (s : Shape) (p : List (Option ℕ)) (keys : List (List ℕ)) (nodes numbers : List ℕ) (count : length numbers ≡ length nodes)
    (once : IsDistinct nat_eq nodes) (numbered : HaveNumbers p s.edge keys nodes numbers) where
  -- the number of a node that is looked at
  pub number_at : (n : ℕ) → has nodes n ≡ true → HasNumber p s.edge keys n (group_of nodes numbers n)
  number_at n h =
      let f = place_found nodes n h in
      let l = f.0 in
      subst (λ m. HasNumber p s.edge keys m (group_of nodes numbers n)) f.1 (numbered.each (place_in nodes n) (omega (arith, l, count)))

  -- its key begins with its block
  pub ends_at : (n : ℕ) → (h : has nodes n ≡ true) → (own : ℕ) × (at p n ≡ Some own) × BeginsAt keys (group_of nodes numbers n) own
  ends_at n h =
      let k = number_at n h in
      (k.is.number, k.is.own_is, record { around = k.is.around; found = k.found ∙ ap (λ x. Some x) k.is.is })

  -- some node of each group
  pub node_of : (k own : ℕ) → k < length keys → BeginsAt keys k own
      → (n : ℕ) × (has nodes n ≡ true) × (group_of nodes numbers n ≡ k) × (at p n ≡ Some own)
  node_of k own l e =
      let i = numbered.some k l in
      let below : i.0 < length nodes = (let b = i.1 in omega (arith, b, count)) in
      let n = slice_index nodes i.0 in
      let here : has nodes n ≡ true = has_place nodes i.0 below in
      let group : group_of nodes numbers n ≡ k = ap (slice_index numbers) (place_is nodes i.0 once below) ∙ i.2 in
      let f = ends_at n here in
      let found : slice_get keys k ≡ Some (f.0 ∷ f.2.around) = ap (slice_get keys) (sym group) ∙ f.2.found in
      let same : f.0 ≡ own = (let g = e.found in cc) in
      (n, here, group, f.1 ∙ ap (λ x. Some x) same)

  pub groups_go : (p2 : List (Option ℕ)) (target_blocks : List (Option ℕ)) (counts : List (ℕ × ℕ)) → IsShape s → IsPartition s p → ((u v : ℕ) → Together p u v → s.label u ≡ s.label v)
      → length target_blocks ≡ length keys → AreCounted p nodes counts → AreGroupTargetBlocks p counts keys target_blocks → HaveGone p p2 nodes numbers target_blocks (length nodes)
      → AreTargetBlocks s p p2 (has nodes) (group_of nodes numbers) (target_block_of nodes numbers target_blocks)
  groups_go p2 target_blocks counts shape partition labels many counted going gone = record {
    only = λ n b h. (target_block_looked nodes numbers target_blocks n b h).0;
    moved = λ n b h.
        let g = target_block_looked nodes numbers target_blocks n b h in
        let f = place_found nodes n g.0 in
        ap (at p2) (sym f.1) ∙ gone.moved (place_in nodes n) b f.0 g.1;
    kept = λ n none. gone.kept n (λ j b l e h.
        let here : has nodes n ≡ true = ap (has nodes) (sym e) ∙ has_place nodes j l in
        let place : place_in nodes n ≡ j = ap (place_in nodes) (sym e) ∙ place_is nodes j once l in
        let goes : target_block_of nodes numbers target_blocks n ≡ Some b = target_block_there nodes numbers target_blocks n here ∙ ap (λ i. at target_blocks (slice_index numbers i)) place ∙ h in
        let clash : Some b ≡ None = sym goes ∙ none in
        cc);
    fresh = λ n m b h e. going.fresh (group_of nodes numbers n) m b (target_block_looked nodes numbers target_blocks n b h).1 e;
    tells = λ n m b h k. going.tells (group_of nodes numbers n) (group_of nodes numbers m) b (target_block_looked nodes numbers target_blocks n b h).1 (target_block_looked nodes numbers target_blocks m b k).1;
    together = λ n m hn hm same. (stay n m hn hm same).one_number;
    alike = λ n m hn hm same. record { label = labels n m (stay n m hn hm same).one_number; parents = (stay n m hn hm same).neighbours.there };
    whole = λ n m hn none t.
        let e = ends_at n hn in
        let found : at p m ≡ Some e.0 = (let a = t.1 in let b = t.2 in let c = e.1 in cc) in
        whole_counted p nodes counts e.0 counted (going.whole (group_of nodes numbers n) e.0 (target_block_below n hn) (sym (target_block_there nodes numbers target_blocks n hn) ∙ none) e.2) m found;
    one = λ n m hn hm nn nm t.
        let e = ends_at n hn in
        let f = ends_at m hm in
        let same : f.0 ≡ e.0 = (let a = t.1 in let b = t.2 in let c = e.1 in let d = f.1 in cc) in
        going.one (group_of nodes numbers n) (group_of nodes numbers m) e.0 (target_block_below n hn) (target_block_below m hm)
        (sym (target_block_there nodes numbers target_blocks n hn) ∙ nn) (sym (target_block_there nodes numbers target_blocks m hm) ∙ nm) e.2 (subst (BeginsAt keys (group_of nodes numbers m)) same f.2);
    left = λ n b h.
        let g = target_block_looked nodes numbers target_blocks n b h in
        let e = ends_at n g.0 in
        elim (going.left (group_of nodes numbers n) e.0 b g.1 e.2) [
          | inl part ↦ (let m = part_counted p nodes counts e.0 counted part in (m.0, (e.0, e.1, m.1), target_block_off nodes numbers target_blocks m.0 m.2))
          | inr (j, l, none, ends) ↦ (
              let m = node_of j e.0 (omega (arith, l, many)) ends in
              (m.0, (e.0, e.1, m.3), target_block_there nodes numbers target_blocks m.0 m.1 ∙ ap (at target_blocks) m.2 ∙ none))
        ];
  }
    where
      stay : (n m : ℕ) → has nodes n ≡ true → has nodes m ≡ true → group_of nodes numbers n ≡ group_of nodes numbers m → StayTogether (at p) p s.edge n m
      stay n m hn hm same =
          let a = number_at n hn in
          let b = number_at m hm in
          let lists : b.key ≡ a.key = (let x : slice_get keys (group_of nodes numbers n) ≡ Some b.key = ap (slice_get keys) same ∙ b.found in let y = a.found in cc) in
          together_from_key (at p) p s.edge n m a.key (λ q r e. some_of (at p q) (partition.live q (shape.from q r e))) a.is
          (subst (IsKey (at p) p s.edge m) lists b.is)

      target_block_below : (n : ℕ) → has nodes n ≡ true → group_of nodes numbers n < length target_blocks
      target_block_below n hn =
          let k = number_at n hn in
          let l = slice_get_within keys (group_of nodes numbers n) k.key k.found in
          omega (arith, l, many)
