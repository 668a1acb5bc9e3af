-- The indexes of some kinds, as they are listed, stand in the order of a file.
use Rattle.std.proofs.Common.{◌≡◌, ℕ, zero, suc, ◌+◌, ◌≤◌, List, [], ◌∷◌, ◌++◌, length, Option, Some, None, true, false, Bool, nat_eq, refl, sym, ◌∙◌, ap, subst, arith}
use Rattle.std.specs.Prelude.{nat_le, ◌&&◌, if◌then◌else◌}
use Rattle.std.proofs.lemmas.Bool.{eq-eqb, le-leb}
use Rattle.bisim_spec.specs.declared.kind.Kind.{Kind}
use Rattle.bisim_spec.specs.declared.kind.Kind.TheVariants as kind
use Rattle.index_api.specs.declared.kinds.Via.{Via}
use Rattle.index_api.specs.declared.kinds.Via.TheVariants.{A, One, Fb, B}
use Rattle.index_api.specs.IndexOrder.{levels_below}
use Rattle.index_api.specs.IndexKinds.{has_kind}
use Rattle.index_file.specs.Readings.{follows, is_end}
use Rattle.index_file.specs.ReadViews.{most_views}
use Rattle.index_file.specs.WholeFiles.{indexes_of}
use Rattle.index_file.proofs.ReadRankLaws.{most_rises, most_end}

-- each index may stand behind the one before it, and the last of all is that
abbrev pub Follow : ℕ → Option Via → List Via → Option Via → Type 0
Follow k last [] next = last ≡ next
Follow k last (v ∷ vs) next = (follows k last v ≡ true) × Follow k (Some v) vs next

follow_both : (k : ℕ) (last mid next : Option Via) (xs ys : List Via) → Follow k last xs mid → Follow k mid ys next → Follow k last (xs ++ ys) next
follow_both k last mid next [] ys f h = subst (λ l. Follow k l ys next) (sym f) h
follow_both k last mid next (x ∷ xs) ys f h = (f.0, follow_both k (Some x) mid next xs ys f.1 h)

-- there are at most twenty
follow_few : (k : ℕ) (last next : Option Via) (xs : List Via) → k ≤ 8 → Follow k last xs next → most_views last + length xs ≤ most_views next
follow_few k last next [] low f = (let e = ap most_views f in omega (arith, e))
follow_few k last next (x ∷ xs) low f = (let a = most_rises k last x low f.0 in let b = follow_few k (Some x) next xs low f.1 in omega (arith, a, b))

pub few_follow : (k : ℕ) (next : Option Via) (xs : List Via) → k ≤ 8 → Follow k None xs next → is_end k next ≡ true → length xs ≤ 20
few_follow k next xs low f end = (let a = follow_few k None next xs low f in let b = most_end k next low end in omega (arith, a, b))

a_levels : (k n : ℕ) → n ≤ k → Follow k None (levels_below A (suc n)) (Some (A n))
a_levels k zero h = (refl, refl)
a_levels k (suc n) h =
    follow_both k None (Some (A n)) (Some (A (suc n))) (levels_below A (suc n)) (A (suc n) ∷ []) (a_levels k n (omega (arith, h)))
    (ap (λ b. b && nat_le (suc n) k) (eq-eqb (suc n) (n + 1) (omega arith)) ∙ le-leb (suc n) k h, refl)

b_levels : (k n : ℕ) (last : Option Via) → n ≤ k → follows k last (B 0) ≡ true → Follow k last (levels_below B (suc n)) (Some (B n))
b_levels k zero last h first = (first, refl)
b_levels k (suc n) last h first =
    follow_both k last (Some (B n)) (Some (B (suc n))) (levels_below B (suc n)) (B (suc n) ∷ []) (b_levels k n last (omega (arith, h)) first)
    (ap (λ b. b && nat_le (suc n) k) (eq-eqb (suc n) (n + 1) (omega arith)) ∙ le-leb (suc n) k h, refl)

-- behind that index the forward and backward index may stand, or the bounded ones, or the file may end
record IsLate (k : ℕ) (last : Option Via) : Type 0 where
  fb : follows k last Fb ≡ true
  bounded : follows k last (B 0) ≡ true
  end : is_end k last ≡ true

-- the indexes go on with these to the next
record GoesOn (k : ℕ) (last : Option Via) (vias : List Via) (P : Option Via → Type 0) : Type 0 where
  next : Option Via
  follow : Follow k last vias next
  holds : P next

part_a : (b : Bool) (k : ℕ) → GoesOn k None (if b then levels_below A (suc k) else []) (λ l. (follows k l One ≡ true) × IsLate k l)
part_a false k = record { next = None; follow = refl; holds = (refl, record { fb = refl; bounded = refl; end = refl }) }
part_a true k =
    let own = eq-eqb k k refl in
    record { next = Some (A k); follow = a_levels k k (omega arith); holds = (own, record { fb = own; bounded = ap (λ b. b && nat_eq 0 0) own; end = own }) }

part_one : (b : Bool) (k : ℕ) (last : Option Via) → follows k last One ≡ true → IsLate k last → GoesOn k last (if b then One ∷ [] else []) (IsLate k)
part_one false k last one late = record { next = last; follow = refl; holds = late }
part_one true k last one late = record { next = Some One; follow = (one, refl); holds = record { fb = refl; bounded = refl; end = refl } }

part_fb : (b : Bool) (k : ℕ) (last : Option Via) → IsLate k last → GoesOn k last (if b then Fb ∷ [] else []) (λ l. (follows k l (B 0) ≡ true) × (is_end k l ≡ true))
part_fb false k last late = record { next = last; follow = refl; holds = (late.bounded, late.end) }
part_fb true k last late = record { next = Some Fb; follow = (late.fb, refl); holds = (refl, refl) }

part_b : (b : Bool) (k : ℕ) (last : Option Via) → follows k last (B 0) ≡ true → is_end k last ≡ true → GoesOn k last (if b then levels_below B (suc k) else []) (λ l. is_end k l ≡ true)
part_b false k last first end = record { next = last; follow = refl; holds = end }
part_b true k last first end = record { next = Some (B k); follow = b_levels k k last (omega arith) first; holds = eq-eqb k k refl }

pub in_order : (kinds : List Kind) (k : ℕ) → (next : Option Via) × Follow k None (indexes_of kinds k) next × (is_end k next ≡ true)
in_order kinds k =
    let a = part_a (has_kind kinds kind.A) k in
    let one = part_one (has_kind kinds kind.One) k a.next a.holds.0 a.holds.1 in
    let fb = part_fb (has_kind kinds kind.Fb) k one.next one.holds in
    let b = part_b (has_kind kinds kind.B) k fb.next fb.holds.0 fb.holds.1 in
    let xs = if has_kind kinds kind.A then levels_below A (suc k) else [] in
    let ys = if has_kind kinds kind.One then One ∷ [] else [] in
    let zs = if has_kind kinds kind.Fb then Fb ∷ [] else [] in
    let ws = if has_kind kinds kind.B then levels_below B (suc k) else [] in (
      b.next,
      follow_both k None fb.next b.next ((xs ++ ys) ++ zs) ws
          (follow_both k None one.next fb.next (xs ++ ys) zs (follow_both k None a.next one.next xs ys a.follow one.follow) fb.follow) b.follow,
      b.holds,
    )
