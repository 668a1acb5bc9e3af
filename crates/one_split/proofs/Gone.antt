-- One more node has gone where its group goes.
use Rattle.std.proofs.Common.{◌≡◌, ◌≢◌, ℕ, ◌+◌, ◌<◌, List, [], Option, Some, None, is_some, refl, sym, ◌∙◌, ap, subst, arith, inl, inr, true, false, Bool, length, true≢false, cond}
use Rattle.std.specs.Prelude.{nat_eq, slice_index, ◌&&◌, ◌||◌}
use Rattle.std.specs.List.{IsDistinct}
use Rattle.std.proofs.lemmas.Bool.{cases_lt, or_cases, or_left, or_right, and_parts, and_from}
use Rattle.std.proofs.lemmas.Bool.Decides.{eqb_tells, Decides-eqb}
use Rattle.graph_spec.specs.Members.{at, has}
use Rattle.graph_spec.specs.Shapes.{Shape}
use Rattle.bisim_spec.proofs.Bisimilar.{some_of, is_some_at}
use Rattle.one_split.specs.NodeTargetBlocks.{HaveGone, ListsChildrenOf}
use Rattle.one_split.proofs.ListIndexes.{place_in, place_is}

-- what one move makes of the partition
pub record OneMoved (n : ℕ) (target_block : Option ℕ) (p p2 : List (Option ℕ)) : Type 0 where
  pub blocks : (m : ℕ) → at p2 m ≡ cond (nat_eq m n && is_some target_block) target_block (at p m)

pub record OneListed (s : Shape) (n : ℕ) (target_block : Option ℕ) (next next2 : List ℕ) : Type 0 where
  pub members : (m : ℕ) → has next2 m ≡ (has next m || (is_some target_block && s.edge n m))

pub gone_none : (p p2 : List (Option ℕ)) (nodes numbers : List ℕ) (target_blocks : List (Option ℕ)) → p2 ≡ p → HaveGone p p2 nodes numbers target_blocks 0
gone_none p p2 nodes numbers target_blocks e = record {
  moved = λ j b l. absurd (omega (arith, l));
  kept = λ m h. ap (λ x. at x m) e;
}

pub next_none : (s : Shape) (nodes numbers : List ℕ) (target_blocks : List (Option ℕ)) (next : List ℕ) → next ≡ [] → ListsChildrenOf s nodes numbers target_blocks 0 next
next_none s nodes numbers target_blocks next e = record {
  into = λ j b m l. absurd (omega (arith, l));
  from = λ m h. absurd (true≢false (sym h ∙ ap (λ xs. has xs m) e));
}

-- two places of distinct numbers
apart_places : (nodes : List ℕ) (i j : ℕ) → IsDistinct nat_eq nodes → i < length nodes → j < i → slice_index nodes j ≢ slice_index nodes i
apart_places nodes i j once li lj e =
    let a = place_is nodes j once (omega (arith, li, lj)) in
    let b = place_is nodes i once li in
    let same : j ≡ i = sym a ∙ ap (place_in nodes) e ∙ b in
    omega (arith, same, lj)

apart_test : (n m : ℕ) → n ≢ m → nat_eq n m ≡ false
apart_test n m ne = elim (eqb_tells n m) [ inl s ↦ absurd (ne s.1) | inr d ↦ d.0 ]

unmoved : (n m : ℕ) (target_block : Option ℕ) (p p2 : List (Option ℕ)) → OneMoved n target_block p p2 → m ≢ n → at p2 m ≡ at p m
unmoved n m target_block p p2 o ne = o.blocks m ∙ ap (λ b. cond (b && is_some target_block) target_block (at p m)) (apart_test m n ne)

unmoved_none : (n m : ℕ) (p p2 : List (Option ℕ)) → OneMoved n None p p2 → at p2 m ≡ at p m
unmoved_none n m p p2 o = o.blocks m ∙ by (nat_eq m n)
  where
    by : (b : Bool) → cond (b && false) None (at p m) ≡ at p m
    by true = refl
    by false = refl

moved_there : (n b : ℕ) (p p2 : List (Option ℕ)) → OneMoved n (Some b) p p2 → at p2 n ≡ Some b
moved_there n b p p2 o = o.blocks n ∙ ap (λ t. cond (t && true) (Some b) (at p n)) ((Decides-eqb n n).1 refl)

pub gone_more : (p q p2 : List (Option ℕ)) (nodes numbers : List ℕ) (target_blocks : List (Option ℕ)) (i : ℕ) → IsDistinct nat_eq nodes → i < length nodes
    → HaveGone p q nodes numbers target_blocks i → OneMoved (slice_index nodes i) (at target_blocks (slice_index numbers i)) q p2
    → HaveGone p p2 nodes numbers target_blocks (i + 1)
gone_more p q p2 nodes numbers target_blocks i once l g o = record {
  moved = λ j b h e. elim (cases_lt j i) [
    | inl before ↦ unmoved (slice_index nodes i) (slice_index nodes j) (at target_blocks (slice_index numbers i)) q p2 o (apart_places nodes i j once l before) ∙ g.moved j b before e
    | inr past ↦ (
        let here : j ≡ i = omega (arith, h, past) in
        let goes : at target_blocks (slice_index numbers i) ≡ Some b = ap (λ k. at target_blocks (slice_index numbers k)) (sym here) ∙ e in
        ap (λ k. at p2 (slice_index nodes k)) here ∙ moved_there (slice_index nodes i) b q p2 (subst (λ t. OneMoved (slice_index nodes i) t q p2) goes o))
  ];
  kept = λ m none. elim (eqb_tells m (slice_index nodes i)) [
    | inl s ↦ (
        let stays : at target_blocks (slice_index numbers i) ≡ None = by (at target_blocks (slice_index numbers i)) refl (λ b e. none i b (omega arith) (sym s.1) e) in
        unmoved_none (slice_index nodes i) m q p2 (subst (λ t. OneMoved (slice_index nodes i) t q p2) stays o)
        ∙ g.kept m (λ j b h e k. none j b (omega (arith, h)) e k))
    | inr d ↦ unmoved (slice_index nodes i) m (at target_blocks (slice_index numbers i)) q p2 o d.1 ∙ g.kept m (λ j b h e k. none j b (omega (arith, h)) e k)
  ];
}
  where
    by : (t : Option ℕ) → at target_blocks (slice_index numbers i) ≡ t → ((b : ℕ) → at target_blocks (slice_index numbers i) ≡ Some b → ⊥) → at target_blocks (slice_index numbers i) ≡ None
    by None e h = e
    by (Some b) e h = absurd (h b e)

pub next_more : (s : Shape) (nodes numbers : List ℕ) (target_blocks : List (Option ℕ)) (i : ℕ) (next next2 : List ℕ) → ListsChildrenOf s nodes numbers target_blocks i next
    → OneListed s (slice_index nodes i) (at target_blocks (slice_index numbers i)) next next2 → ListsChildrenOf s nodes numbers target_blocks (i + 1) next2
next_more s nodes numbers target_blocks i next next2 a o = record {
  into = λ j b m h e k. o.members m ∙ elim (cases_lt j i) [
    | inl before ↦ or_left (has next m) (is_some (at target_blocks (slice_index numbers i)) && s.edge (slice_index nodes i) m) (a.into j b m before e k)
    | inr past ↦ (
        let here : j ≡ i = omega (arith, h, past) in
        or_right (has next m) (is_some (at target_blocks (slice_index numbers i)) && s.edge (slice_index nodes i) m)
        (and_from (is_some (at target_blocks (slice_index numbers i))) (s.edge (slice_index nodes i) m)
        (is_some_at (at target_blocks (slice_index numbers i)) b (ap (λ x. at target_blocks (slice_index numbers x)) (sym here) ∙ e))
        (ap (λ x. s.edge (slice_index nodes x) m) (sym here) ∙ k)))
  ];
  from = λ m h. elim (or_cases (has next m) (is_some (at target_blocks (slice_index numbers i)) && s.edge (slice_index nodes i) m) (sym (o.members m) ∙ h)) [
    | inl before ↦ (let r = a.from m before in let l = r.2 in (r.0, r.1, omega (arith, l), r.3, r.4))
    | inr here ↦ (
        let f = and_parts (is_some (at target_blocks (slice_index numbers i))) (s.edge (slice_index nodes i) m) here in
        let b = some_of (at target_blocks (slice_index numbers i)) f.0 in
        (i, b.0, omega arith, b.1, f.1))
  ];
}
