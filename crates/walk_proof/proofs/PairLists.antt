-- Pairs in lists, and one more of them.
use Rattle.std.proofs.Common.{◌≡◌, ℕ, zero, suc, ◌+◌, ◌<◌, ◌≤◌, ◌⊎◌, inl, inr, List, [], ◌∷◌, ◌++◌, length, take, get_or, refl, sym, ap, ◌∙◌, subst, arith}
use Rattle.walk_proof.specs.declared.marks.Pair.{Pair}
use Rattle.walk_proof.specs.Marking.{Among}

abbrev pub no_pair : Pair
no_pair = record { state = 0; place = 0 }

one_more : (i : ℕ) → i + 1 ≡ suc i
one_more i = omega arith

-- the pair that stands at a place is listed
pub among_at : (ps : List Pair) (i : ℕ) (p : Pair) → i < length ps → p ≡ get_or ps i no_pair → Among ps p.state p.place
among_at [] i p h e = absurd (omega arith)
among_at (q ∷ ps) zero p h e = inl (ap (λ x. x.state) (sym e), ap (λ x. x.place) (sym e))
among_at (q ∷ ps) (suc i) p h e = inr (among_at ps i p (omega arith) e)

pub among_take_cases : (ps : List Pair) (i : ℕ) (p : Pair) → i < length ps → p ≡ get_or ps i no_pair → (s c : ℕ) → Among (take (i + 1) ps) s c → Among (take i ps) s c ⊎ ((s ≡ p.state) × (c ≡ p.place))
among_take_cases ps i p h e s c a = by ps i h e (subst (λ n. Among (take n ps) s c) (one_more i) a)
  where
    by : (ps : List Pair) (i : ℕ) → i < length ps → p ≡ get_or ps i no_pair → Among (take (suc i) ps) s c → Among (take i ps) s c ⊎ ((s ≡ p.state) × (c ≡ p.place))
    by [] i h e a = absurd (omega arith)
    by (q ∷ ps) zero h e (inl a) = inr (sym a.0 ∙ ap (λ x. x.state) (sym e), sym a.1 ∙ ap (λ x. x.place) (sym e))
    by (q ∷ ps) zero h e (inr a) = absurd a
    by (q ∷ ps) (suc i) h e (inl a) = inl (inl a)
    by (q ∷ ps) (suc i) h e (inr a) = elim (by ps i (omega arith) e a) [ inl x ↦ inl (inr x) | inr y ↦ inr y ]

pub take_among : (ps : List Pair) (i s c : ℕ) → Among (take i ps) s c → Among ps s c
take_among [] zero s c a = a
take_among [] (suc i) s c a = a
take_among (q ∷ ps) zero s c a = absurd a
take_among (q ∷ ps) (suc i) s c (inl a) = inl a
take_among (q ∷ ps) (suc i) s c (inr a) = inr (take_among ps i s c a)

pub take_grows : (ps : List Pair) (i s c : ℕ) → Among (take i ps) s c → Among (take (i + 1) ps) s c
take_grows ps i s c a = subst (λ n. Among (take n ps) s c) (sym (one_more i)) (by ps i a)
  where
    by : (ps : List Pair) (i : ℕ) → Among (take i ps) s c → Among (take (suc i) ps) s c
    by [] zero a = a
    by [] (suc i) a = a
    by (q ∷ ps) zero a = absurd a
    by (q ∷ ps) (suc i) (inl a) = inl a
    by (q ∷ ps) (suc i) (inr a) = inr (by ps i a)

pub take_last : (ps : List Pair) (i : ℕ) (p : Pair) → i < length ps → p ≡ get_or ps i no_pair → Among (take (i + 1) ps) p.state p.place
take_last ps i p h e = subst (λ n. Among (take n ps) p.state p.place) (sym (one_more i)) (by ps i h e)
  where
    by : (ps : List Pair) (i : ℕ) → i < length ps → p ≡ get_or ps i no_pair → Among (take (suc i) ps) p.state p.place
    by [] i h e = absurd (omega arith)
    by (q ∷ ps) zero h e = inl (ap (λ x. x.state) (sym e), ap (λ x. x.place) (sym e))
    by (q ∷ ps) (suc i) h e = inr (by ps i (omega arith) e)

-- the first pairs stay where more are put behind
pub take_front : (ps qs : List Pair) (i : ℕ) → i ≤ length ps → take i (ps ++ qs) ≡ take i ps
take_front ps qs zero h = refl
take_front [] qs (suc i) h = absurd (omega arith)
take_front (p ∷ ps) qs (suc i) h = ap (λ x. p ∷ x) (take_front ps qs i (omega arith))

pub get_prefix : (ps qs : List Pair) (i : ℕ) (p : Pair) → i < length ps → p ≡ get_or ps i no_pair → p ≡ get_or (ps ++ qs) i no_pair
get_prefix [] qs i p h e = absurd (omega arith)
get_prefix (q ∷ ps) qs zero p h e = e
get_prefix (q ∷ ps) qs (suc i) p h e = get_prefix ps qs i p (omega arith) e

pub take_all : (ps : List Pair) (i : ℕ) → length ps ≤ i → take i ps ≡ ps
take_all [] zero h = refl
take_all [] (suc i) h = refl
take_all (p ∷ ps) zero h = absurd (omega arith)
take_all (p ∷ ps) (suc i) h = ap (λ x. p ∷ x) (take_all ps i (omega arith))
