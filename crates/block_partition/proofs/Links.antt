-- Links of which one node is taken out, or before which one is put.
use Rattle.std.proofs.Common.{◌≡◌, ◌≢◌, ℕ, ◌+◌, ◌≤◌, ◌⊎◌, Option, Some, None, refl, sym, ◌∙◌, ap, arith, inl, inr, cond}
use Rattle.std.proofs.lemmas.Bool.Decides.{eqb_tells}
use Rattle.std.specs.Prelude.{eqb}
use Rattle.block_partition.specs.Tables.{head_where}
use Rattle.block_partition.specs.Soundness.{AreMemberLists}

-- one table is another with a value written at a place, where there is one
pub record Writes (f g : ℕ → Option ℕ) (place : Option ℕ) (v : Option ℕ) : Type 0 where
  pub here : (m : ℕ) → place ≡ Some m → g m ≡ v
  pub there : (m : ℕ) → (place ≡ Some m → ⊥) → g m ≡ f m

-- a place is this one, or isn't
pub some_is : (o : Option ℕ) (m : ℕ) → (o ≡ Some m) ⊎ (o ≡ Some m → ⊥)
some_is None m = inr (λ e. cc)
some_is (Some i) m = elim (eqb_tells i m) [ inl e ↦ inl (ap Some e.1) | inr d ↦ inr (λ e. d.1 (cc)) ]

pub none_or_some : (o : Option ℕ) → (o ≡ None) ⊎ ((p : ℕ) × (o ≡ Some p))
none_or_some None = inl refl
none_or_some (Some p) = inr (p, refl)

pub head_where_none : (b : ℕ) (p : Option ℕ) → p ≡ None → head_where b p ≡ Some b
head_where_none b p e = rw e refl

pub head_where_some : (b : ℕ) (p : Option ℕ) (q : ℕ) → p ≡ Some q → head_where b p ≡ None
head_where_some b p q e = rw e refl

-- the first member changes only of the block whose first member n was
pub head_cases : (B P F F' : ℕ → Option ℕ) (v : Option ℕ) (n b : ℕ) → B n ≡ Some b → Writes F F' (head_where b (P n)) v → (c : ℕ) → ((P n ≡ None) × (c ≡ b) × (F' c ≡ v)) ⊎ ((F' c ≡ F c) × ((P n ≡ None) → (c ≡ b → ⊥)))
head_cases B P F F' v n b has w c =
    elim (none_or_some (P n)) [
      | inl e ↦ elim (some_is (Some b) c) [
        | inl at_b ↦ inl (e, cc, w.here c (head_where_none b (P n) e ∙ at_b))
        | inr off_b ↦ inr (w.there c (λ h. off_b (sym (head_where_none b (P n) e) ∙ h)), λ _ same. off_b (ap Some (sym same)))
      ]
      | inr (p, e) ↦ inr (w.there c (λ h. let none = head_where_some b (P n) p e in cc), λ z _. cc)
    ]

-- a node is taken out of its list
pub unlinked : (B N P F B' N1 N' P1 P' F' : ℕ → Option ℕ) (r : ℕ → ℕ) (n b : ℕ) → AreMemberLists B N P F r → B n ≡ Some b
    → Writes B B' (Some n) None → Writes N N1 (P n) (N n) → Writes N1 N' (Some n) None
    → Writes P P1 (N n) (P n) → Writes P1 P' (Some n) None → Writes F F' (head_where b (P n)) (N n)
    → AreMemberLists B' N' P' F' r
unlinked B N P F B' N1 N' P1 P' F' r n b k has wb wn1 wn wp1 wp wf =
    let not_next : N n ≡ Some n → ⊥ = λ e. let h = k.next_rank n n e in omega arith in
    let not_prev : P n ≡ Some n → ⊥ = λ e. not_next (k.prev_back n n e) in
    let heads : (c : ℕ) → ((P n ≡ None) × (c ≡ b) × (F' c ≡ N n)) ⊎ ((F' c ≡ F c) × ((P n ≡ None) → (c ≡ b → ⊥))) = λ c. head_cases B P F F' (N n) n b has wf c in
    record {
      next_back = λ m q e. grind (arith, some_is (Some n) m, some_is (Some n) q, some_is (P n) m, some_is (N n) q, wn.here, wn.there, wn1.here, wn1.there, wp.here, wp.there, wp1.here, wp1.there, k.next_back, k.prev_back);
      next_block = λ m q e. grind (arith, some_is (Some n) m, some_is (Some n) q, some_is (P n) m, some_is (N n) q, wb.here, wb.there, wn.here, wn.there, wn1.here, wn1.there, k.next_block, k.next_back, k.prev_back);
      next_rank = λ m q e. grind (arith, some_is (Some n) m, some_is (P n) m, wn.here, wn.there, wn1.here, wn1.there, k.next_rank m n, k.next_rank n q, k.next_rank m q, k.prev_back);
      prev_back = λ m p e. grind (arith, some_is (Some n) m, some_is (Some n) p, some_is (N n) m, some_is (P n) p, wn.here, wn.there, wn1.here, wn1.there, wp.here, wp.there, wp1.here, wp1.there, k.next_back, k.prev_back);
      head = λ m c e z. grind (arith, some_is (Some n) m, some_is (N n) m, wb.here, wb.there, wp.here, wp.there, wp1.here, wp1.there, heads c, k.head, k.next_block, k.next_back);
      first_block = λ c m e. grind (arith, some_is (Some n) m, wb.here, wb.there, heads c, k.first_block, k.first_prev, k.next_block);
      first_prev = λ c m e. grind (arith, some_is (Some n) m, some_is (N n) m, wp.here, wp.there, wp1.here, wp1.there, heads c, k.first_prev, k.first_block, k.next_back);
      free_next = λ m e. grind (arith, some_is (Some n) m, some_is (P n) m, wb.here, wb.there, wn.here, wn.there, wn1.here, wn1.there, k.free_next, k.prev_back);
      free_prev = λ m e. grind (arith, some_is (Some n) m, some_is (N n) m, wb.here, wb.there, wp.here, wp.there, wp1.here, wp1.there, k.free_prev, k.next_block);
    }

-- a rank above that of the first member
abbrev pub above : (ℕ → ℕ) → Option ℕ → ℕ
above r None = 0
above r (Some f) = r f + 1

abbrev pub rank_with : (ℕ → ℕ) → ℕ → ℕ → ℕ → ℕ
rank_with r n top m = cond (eqb m n) top (r m)

rank_here : (r : ℕ → ℕ) (n top : ℕ) → rank_with r n top n ≡ top
rank_here r n top = elim (eqb_tells n n) [ inl e ↦ rw e.0 refl | inr d ↦ absurd (d.1 refl) ]

rank_there : (r : ℕ → ℕ) (n top m : ℕ) → m ≢ n → rank_with r n top m ≡ r m
rank_there r n top m d = elim (eqb_tells m n) [ inl e ↦ absurd (d e.1) | inr d' ↦ rw d'.0 refl ]

above_some : (r : ℕ → ℕ) (o : Option ℕ) (f : ℕ) → o ≡ Some f → above r o ≡ r f + 1
above_some r o f e = rw e refl

above_bound : (r : ℕ → ℕ) (o : Option ℕ) (top : ℕ) → ((n : ℕ) → r n ≤ top) → above r o ≤ top + 1
above_bound r None top h = omega arith
above_bound r (Some f) top h = let b = h f in omega arith

pub rank_bound : (r : ℕ → ℕ) (n : ℕ) (o : Option ℕ) (top : ℕ) → ((n : ℕ) → r n ≤ top) → (k : ℕ) → rank_with r n (above r o) k ≤ top + 1
rank_bound r n o top h k = elim (eqb_tells k n) [
  | inl e ↦ let here : rank_with r n (above r o) k ≡ above r o = rw e.0 refl in let b = above_bound r o top h in omega arith
  | inr d ↦ let there : rank_with r n (above r o) k ≡ r k = rw d.0 refl in let b = h k in omega arith
]

-- a node that has no block is put before the first member of a block
pub linked : (B N P F B' N' P' F' : ℕ → Option ℕ) (r : ℕ → ℕ) (n b : ℕ) → AreMemberLists B N P F r → B n ≡ None
    → Writes B B' (Some n) (Some b) → Writes N N' (Some n) (F b) → Writes P P' (F b) (Some n) → Writes F F' (Some b) (Some n)
    → AreMemberLists B' N' P' F' (rank_with r n (above r (F b)))
linked B N P F B' N' P' F' r n b k none wb wn wp wf = record {
  next_back = λ m q e. grind (arith, some_is (Some n) m, some_is (F b) q, wn.here, wn.there, wp.here, wp.there, k.next_back, k.first_prev);
  next_block = λ m q e. grind (arith, some_is (Some n) m, some_is (Some n) q, wb.here, wb.there, wn.here, wn.there, k.next_block, k.first_block, k.next_back, k.free_prev);
  next_rank = λ m q e. grind (arith, some_is (Some n) m, some_is (Some n) q, wn.here, wn.there, rank_here r n (above r (F b)), rank_there r n (above r (F b)) m, rank_there r n (above r (F b)) q, above_some r (F b) q, k.next_rank m q, k.next_back, k.free_prev, k.first_block);
  prev_back = λ m p e. grind (arith, some_is (Some n) m, some_is (Some n) p, some_is (F b) m, wn.here, wn.there, wp.here, wp.there, k.prev_back, k.free_next, k.free_prev, k.first_block);
  head = λ m c e z. grind (arith, some_is (Some n) m, some_is (Some b) c, some_is (F b) m, wb.here, wb.there, wp.here, wp.there, wf.here, wf.there, k.head);
  first_block = λ c m e. grind (arith, some_is (Some n) m, some_is (Some b) c, wb.here, wb.there, wf.here, wf.there, k.first_block);
  first_prev = λ c m e. grind (arith, some_is (Some n) m, some_is (Some b) c, some_is (F b) m, wp.here, wp.there, wf.here, wf.there, k.first_prev, k.first_block, k.free_prev);
  free_next = λ m e. grind (arith, some_is (Some n) m, wb.here, wb.there, wn.here, wn.there, k.free_next);
  free_prev = λ m e. grind (arith, some_is (Some n) m, some_is (F b) m, wb.here, wb.there, wp.here, wp.there, k.free_prev, k.first_block);
}
