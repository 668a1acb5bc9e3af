-- Nodes that move one after another.
use Rattle.std.proofs.Common.{◌≡◌, ℕ, ◌⊎◌, List, [], ◌∷◌, ◌++◌, Option, Some, None, IsSome, refl, sym, ◌∙◌, ap, subst, inl, inr, true, false, Bool, true≢false}
use Rattle.std.specs.Prelude.{nat_eq, ◌||◌, if◌then◌else◌, slice_set}
use Rattle.std.proofs.lemmas.Bool.{cases_Bool, or_cases, or_parts, both_ways}
use Rattle.std.proofs.lemmas.Bool.Decides.{Decides-eqb, eqb_tells}
use Rattle.std.proofs.lemmas.List.{get_or-set_same, get_or-set_other}
use Rattle.graph_spec.specs.Members.{has, at}
use Rattle.bisim_spec.proofs.Bisimilar.{is_some_at}
use Rattle.bisim_spec.proofs.Together.{block_below}
use Rattle.block_splitting.specs.Moved.{AreMoved}
use Rattle.graph_spec.proofs.MemberLaws.{has_push}

-- one place is written
pub written_at : (block : List (Option ℕ)) (n m : ℕ) (v : Option ℕ) → IsSome (at block n) → at (slice_set block n v) m ≡ (if nat_eq m n then v else at block m)
written_at block n m v h = elim (eqb_tells m n) [
  | inl s ↦
      ap (at (slice_set block n v)) s.1 ∙ get_or-set_same block n v None (block_below block n h)
      ∙ sym (ap (λ t. if t then v else at block m) s.0)
  | inr d ↦ get_or-set_other block n m v None d.1 ∙ sym (ap (λ t. if t then v else at block m) d.0)
]

-- a node that is where it goes stays
pub same_at : (block : List (Option ℕ)) (n to m : ℕ) → at block n ≡ Some to → at block m ≡ (if nat_eq m n then Some to else at block m)
same_at block n to m e = elim (eqb_tells m n) [
  | inl s ↦ ap (at block) s.1 ∙ e ∙ sym (ap (λ t. if t then Some to else at block m) s.0)
  | inr d ↦ sym (ap (λ t. if t then Some to else at block m) d.0)
]

pub moved_none : (seen : ℕ → Bool) (target : ℕ → ℕ) (old : List (Option ℕ)) (moved : List ℕ) → ((n : ℕ) → seen n ≡ false) → moved ≡ [] → AreMoved seen target old old (has moved)
moved_none seen target old moved unseen none = record {
  there = λ n h. absurd (both_ways (seen n) (unseen n) h);
  others = λ n h. refl;
  still = λ n h. refl;
  went = λ n h e. absurd (true≢false (sym h ∙ ap (λ xs. has xs n) none));
}

-- nodes with a block have one still
pub still_some : (seen : ℕ → Bool) (target : ℕ → ℕ) (old new : List (Option ℕ)) (moved : ℕ → Bool) (n : ℕ) → AreMoved seen target old new moved → IsSome (at old n) → IsSome (at new n)
still_some seen target old new moved n w h = elim (cases_Bool (seen n)) [
  | inl s ↦ is_some_at (at new n) (target n) (w.there n s)
  | inr f ↦ subst IsSome (sym (w.others n f)) h
]

pub moved_more : (seen next : ℕ → Bool) (target : ℕ → ℕ) (old now new : List (Option ℕ)) (moved moved2 : List ℕ) (n : ℕ) → AreMoved seen target old now (has moved)
    → ((m : ℕ) → next m ≡ (seen m || nat_eq m n)) → ((m : ℕ) → at new m ≡ (if nat_eq m n then Some (target n) else at now m))
    → (((at now n ≡ Some (target n)) × (moved2 ≡ moved)) ⊎ ((at now n ≡ Some (target n) → ⊥) × (moved2 ≡ moved ++ n ∷ [])))
    → AreMoved next target old new (has moved2)
moved_more seen next target old now new moved moved2 n w next_is new_is which = record {
  there = λ m h. elim (eqb_tells m n) [
    | inl s ↦ at_n m s.1 s.0
    | inr d ↦ off_n m d.0 ∙ w.there m (elim (or_cases (seen m) (nat_eq m n) (sym (next_is m) ∙ h)) [ inl s ↦ s | inr t ↦ absurd (both_ways (nat_eq m n) d.0 t) ])
  ];
  others = λ m h.
      let p = or_parts (seen m) (nat_eq m n) (sym (next_is m) ∙ h) in
      off_n m p.1 ∙ w.others m p.0;
  still = λ m h. elim which [
    | inl (here, same) ↦ unmoved m here (w.still m (ap (λ xs. has xs m) (sym same) ∙ h))
    | inr (away, more) ↦ (
        let p = or_parts (has moved m) (nat_eq m n) (sym (has_push moved n m) ∙ ap (λ xs. has xs m) (sym more) ∙ h) in
        off_n m p.1 ∙ w.still m p.0)
  ];
  went = λ m h e. elim which [
    | inl (here, same) ↦ w.went m (ap (λ xs. has xs m) (sym same) ∙ h) (sym (unmoved_now m here) ∙ e)
    | inr (away, more) ↦ elim (eqb_tells m n) [
      | inl s ↦ away (
          let unseen = not_seen away in
          let first : at new n ≡ at old n = ap (at new) (sym s.1) ∙ e ∙ ap (at old) s.1 in
          w.others n unseen ∙ sym first ∙ at_n n refl ((Decides-eqb n n).1 refl))
      | inr d ↦ w.went m (elim (or_cases (has moved m) (nat_eq m n) (sym (has_push moved n m) ∙ ap (λ xs. has xs m) (sym more) ∙ h)) [ inl s ↦ s | inr t ↦ absurd (both_ways (nat_eq m n) d.0 t) ])
          (sym (off_n m d.0) ∙ e)
    ]
  ];
}
  where
    at_n : (m : ℕ) → m ≡ n → nat_eq m n ≡ true → at new m ≡ Some (target m)
    at_n m e t = new_is m ∙ ap (λ b. if b then Some (target n) else at now m) t ∙ ap (λ x. Some (target x)) (sym e)

    off_n : (m : ℕ) → nat_eq m n ≡ false → at new m ≡ at now m
    off_n m f = new_is m ∙ ap (λ b. if b then Some (target n) else at now m) f

    unmoved_now : (m : ℕ) → at now n ≡ Some (target n) → at new m ≡ at now m
    unmoved_now m here = elim (eqb_tells m n) [
      | inl s ↦ new_is m ∙ ap (λ b. if b then Some (target n) else at now m) s.0 ∙ sym here ∙ ap (at now) (sym s.1)
      | inr d ↦ new_is m ∙ ap (λ b. if b then Some (target n) else at now m) d.0
    ]

    unmoved : (m : ℕ) → at now n ≡ Some (target n) → at now m ≡ at old m → at new m ≡ at old m
    unmoved m here e = elim (eqb_tells m n) [
      | inl s ↦ new_is m ∙ ap (λ b. if b then Some (target n) else at now m) s.0 ∙ sym here ∙ ap (at now) (sym s.1) ∙ e
      | inr d ↦ new_is m ∙ ap (λ b. if b then Some (target n) else at now m) d.0 ∙ e
    ]

    not_seen : (at now n ≡ Some (target n) → ⊥) → seen n ≡ false
    not_seen away = elim (cases_Bool (seen n)) [ inl s ↦ absurd (away (w.there n s)) | inr f ↦ f ]
