-- The members of a block, along its links.
use Rattle.std.proofs.Common.{◌≡◌, ◌≢◌, ℕ, zero, suc, ◌+◌, ◌<◌, ◌≤◌, ◌⊎◌, List, [], ◌∷◌, length, Option, Some, None, refl, sym, ◌∙◌, ap, arith, inl, inr, true, false, Bool}
use Rattle.std.specs.List.{IsDistinct, AllByRecursion}
use Rattle.std.specs.Prelude.{nat_eq}
use Rattle.std.proofs.lemmas.Bool.Decides.{eqb_tells}
use Rattle.std.proofs.lemmas.Map.Steps.{length-le_from_distinct_below}
use Rattle.graph_spec.specs.Members.{has, Lists, at, is_this}
use Rattle.block_partition.specs.MemberLinks.{chain}
use Rattle.block_partition.specs.Soundness.{AreMemberLists, AreMirrored}
use Rattle.block_partition.proofs.Links.{none_or_some}
use Rattle.block_partition.proofs.Mirrors.{within}

abbrev pub Has : List ℕ → ℕ → Type 0
Has xs n = has xs n ≡ true

pub member_cons : (y : ℕ) (ys : List ℕ) (n : ℕ) → Has (y ∷ ys) n → (n ≡ y) ⊎ Has ys n
member_cons y ys n h = elim (eqb_tells n y) [ inl e ↦ inl e.1 | inr d ↦ inr (sym (rw d.0 refl) ∙ h) ]

pub member_head : (y : ℕ) (ys : List ℕ) → Has (y ∷ ys) y
member_head y ys = elim (eqb_tells y y) [ inl e ↦ rw e.0 refl | inr d ↦ absurd (d.1 refl) ]

pub member_tail : (y : ℕ) (ys : List ℕ) (n : ℕ) → Has ys n → Has (y ∷ ys) n
member_tail y ys n h = elim (eqb_tells n y) [ inl e ↦ rw e.0 refl | inr d ↦ rw d.0 h ]

-- what each link keeps holds of each member
pub chain_keeps : (next : ℕ → Option ℕ) (P : ℕ → Type 0) → ((n q : ℕ) → next n ≡ Some q → P n → P q) → (f : ℕ) (o : Option ℕ) → ((x : ℕ) → o ≡ Some x → P x) → (n : ℕ) → Has (chain next f o) n → P n
chain_keeps next P step zero o start n h = absurd (cc)
chain_keeps next P step (suc f) None start n h = absurd (cc)
chain_keeps next P step (suc f) (Some y) start n h = elim (member_cons y (chain next f (next y)) n h) [
  | inl e ↦ rw e (start y refl)
  | inr t ↦ chain_keeps next P step f (next y) (λ x e. step y x e (start y refl)) n t
]

all_rec : (y : ℕ) (ys : List ℕ) → ((n : ℕ) → Has ys n → y ≢ n) → AllByRecursion (λ n. nat_eq y n ≡ false) ys
all_rec y [] h = tt
all_rec y (z ∷ zs) h = (elim (eqb_tells y z) [ inl e ↦ absurd (h z (member_head z zs) e.1) | inr d ↦ d.0 ], all_rec y zs (λ n m. h n (member_tail z zs n m)))

-- no member comes twice
pub chain_distinct : (next : ℕ → Option ℕ) (rank : ℕ → ℕ) → ((n q : ℕ) → next n ≡ Some q → rank q < rank n) → (f : ℕ) (o : Option ℕ) → IsDistinct nat_eq (chain next f o)
unfolding IsDistinct
chain_distinct next rank falls zero o = tt
chain_distinct next rank falls (suc f) None = tt
chain_distinct next rank falls (suc f) (Some y) =
    let P : ℕ → Type 0 = λ n. rank n < rank y in
    let later : (n : ℕ) → Has (chain next f (next y)) n → P n = λ n h. chain_keeps next P (λ a b e p. let q = falls a b e in omega arith) f (next y) (λ x e. falls y x e) n h in
    (all_rec y (chain next f (next y)) (λ n m e. let l = later n m in let same : rank y ≡ rank n = ap rank e in omega arith), chain_distinct next rank falls f (next y))

chain_none : (next : ℕ → Option ℕ) (f : ℕ) → chain next f None ≡ []
chain_none next zero = refl
chain_none next (suc f) = refl

pub chain_head : (next : ℕ → Option ℕ) (f x : ℕ) → 0 < f → Has (chain next f (Some x)) x
chain_head next zero x h = absurd (omega arith)
chain_head next (suc f) x h = member_head x (chain next f (next x))

-- the list is closed under links, where the fuel lasts
pub chain_closed : (next : ℕ → Option ℕ) (rank : ℕ → ℕ) → ((n q : ℕ) → next n ≡ Some q → rank q < rank n) → (f : ℕ) (x : ℕ) → rank x < f → (y z : ℕ) → Has (chain next f (Some x)) y → next y ≡ Some z → Has (chain next f (Some x)) z
chain_closed next rank falls zero x few y z h e = absurd (omega arith)
chain_closed next rank falls (suc f) x few y z h e = elim (member_cons x (chain next f (next x)) y h) [
  | inl same ↦ let at_x : next x ≡ Some z = sym (ap next same) ∙ e in let r = falls x z at_x in member_tail x (chain next f (next x)) z (rw at_x (chain_head next f z (omega arith)))
  | inr t ↦ elim (none_or_some (next x)) [
    | inl none ↦ absurd (let in_none : Has (chain next f None) y = rw none at t in let in_nil : Has [] y = rw (chain_none next f) at in_none in cc)
    | inr (w, some) ↦ let r = falls x w some in let in_w : Has (chain next f (Some w)) y = rw some at t in
        member_tail x (chain next f (next x)) z (rw some (chain_closed next rank falls f w (omega arith) y z in_w e))
  ]
]

-- more fuel than members changes nothing
pub chain_enough : (next : ℕ → Option ℕ) (rank : ℕ → ℕ) → ((n q : ℕ) → next n ≡ Some q → rank q < rank n) → (f : ℕ) (o : Option ℕ) → ((x : ℕ) → o ≡ Some x → rank x < f) → (g : ℕ) → length (chain next f o) ≤ g → chain next g o ≡ chain next f o
chain_enough next rank falls zero None few g h = chain_none next g
chain_enough next rank falls zero (Some x) few g h = absurd (let r = few x refl in omega arith)
chain_enough next rank falls (suc f) None few g h = chain_none next g
chain_enough next rank falls (suc f) (Some x) few zero h = absurd (omega arith)
chain_enough next rank falls (suc f) (Some x) few (suc g) h =
    ap (λ (t : List ℕ). x ∷ t) (chain_enough next rank falls f (next x) (λ w e. let r = falls x w e in let s = few x refl in omega arith) g (omega arith))

on_from : (next : ℕ → Option ℕ) (rank : ℕ → ℕ) → ((n q : ℕ) → next n ≡ Some q → rank q < rank n) → (f : ℕ) (o : Option ℕ) → ((x : ℕ) → o ≡ Some x → rank x < f) → (y z : ℕ) → Has (chain next f o) y → next y ≡ Some z → Has (chain next f o) z
on_from next rank falls f None few y z h e = absurd (let in_nil : Has [] y = rw (chain_none next f) at h in cc)
on_from next rank falls f (Some x) few y z h e = chain_closed next rank falls f x (few x refl) y z h e

-- each member of a block is reached from its first
pub reached : (B N P F : ℕ → Option ℕ) (rank : ℕ → ℕ) (top b : ℕ) → AreMemberLists B N P F rank → ((n : ℕ) → rank n ≤ top) → (k n : ℕ) → top ≤ rank n + k → B n ≡ Some b → Has (chain N (top + 1) (F b)) n
reached B N P F rank top b l bound zero n close e = elim (none_or_some (P n)) [
  | inl none ↦ rw (l.head n b e none) (chain_head N (top + 1) n (omega arith))
  | inr (p, some) ↦ absurd (let r = l.next_rank p n (l.prev_back n p some) in let t = bound p in omega arith)
]
reached B N P F rank top b l bound (suc k) n close e = elim (none_or_some (P n)) [
  | inl none ↦ rw (l.head n b e none) (chain_head N (top + 1) n (omega arith))
  | inr (p, some) ↦
      let link = l.prev_back n p some in
      let r = l.next_rank p n link in
      let before : Has (chain N (top + 1) (F b)) p = reached B N P F rank top b l bound k p (omega arith) (sym (l.next_block p n link) ∙ e) in
      on_from N rank l.next_rank (top + 1) (F b) (λ x _. let t = bound x in omega arith) p n before link
]

-- what is in the chain of a block is of that block
pub of_block : (B N P F : ℕ → Option ℕ) (rank : ℕ → ℕ) (f b n : ℕ) → AreMemberLists B N P F rank → Has (chain N f (F b)) n → B n ≡ Some b
of_block B N P F rank f b n l h = chain_keeps N (λ m. B m ≡ Some b) (λ m q e same. l.next_block m q e ∙ same) f (F b) (λ x e. l.first_block b x e) n h

is_this_is : (b : ℕ) (o : Option ℕ) → is_this b o ≡ true → o ≡ Some b
is_this_is b None e = absurd (cc)
is_this_is b (Some c) e = elim (eqb_tells b c) [ inl s ↦ ap (λ d. Some d) (sym s.1) | inr d ↦ absurd (let f = d.0 in cc) ]

is_this_same : (b : ℕ) → is_this b (Some b) ≡ true
is_this_same b = elim (eqb_tells b b) [ inl s ↦ s.0 | inr d ↦ absurd (d.1 refl) ]

same_test : (p q : Bool) → (p ≡ true → q ≡ true) → (q ≡ true → p ≡ true) → p ≡ q
same_test true q f g = sym (f refl)
same_test false true f g = g refl
same_test false false f g = refl

-- the chain of a block lists its members, with as much fuel as there are nodes
pub members_of : (bl nx pv fs : List (Option ℕ)) (b : ℕ) → AreMirrored bl nx pv fs → Lists (λ n. is_this b (at bl n)) (chain (at nx) (length bl) (at fs b))
members_of bl nx pv fs b m =
    let whole = chain (at nx) (m.top + 1) (at fs b) in
    let distinct = chain_distinct (at nx) m.rank m.links.next_rank (m.top + 1) (at fs b) in
    let only : (n : ℕ) → Has whole n → at bl n ≡ Some b = λ n h. of_block (at bl) (at nx) (at pv) (at fs) m.rank (m.top + 1) b n m.links h in
    let few : length whole ≤ length bl = length-le_from_distinct_below whole (length bl) distinct (λ n h. within bl n b (only n h)) in
    let same : chain (at nx) (length bl) (at fs b) ≡ whole = chain_enough (at nx) m.rank m.links.next_rank (m.top + 1) (at fs b) (λ x _. let t = m.below_top x in omega arith) (length bl) few in
    rw same (record {
      once = distinct;
      members = λ n. same_test (has whole n) (is_this b (at bl n))
          (λ h. ap (is_this b) (only n h) ∙ is_this_same b)
          (λ h. reached (at bl) (at nx) (at pv) (at fs) m.rank m.top b m.links m.below_top m.top n (omega arith) (is_this_is b (at bl n) h));
    })
