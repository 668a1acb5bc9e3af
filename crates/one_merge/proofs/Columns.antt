-- Supports that are added to others, one block after another.
use Rattle.std.proofs.Common.{◌≡◌, ◌≢◌, ℕ, ◌+◌, ◌<◌, ◌≤◌, ◌^◌, List, IsTrue, length, take, refl, sym, ◌∙◌, ap, arith, inl, inr, true, false, Bool, cond}
use Rattle.std.specs.Prelude.{nat_eq, nat_lt, ◌||◌, get_or}
use Rattle.std.proofs.lemmas.Bool.{cases_lt}
use Rattle.std.proofs.lemmas.Bool.Decides.{eqb_tells, Decides-ltb, Decides-eqb}
use Rattle.graph_spec.specs.Members.{has, Lists}
use Rattle.graph_spec.proofs.MemberLaws.{has_more}
use Rattle.one_merge.specs.Merged.{with_column}

abbrev pub flipped : (ℕ → ℕ → ℕ) → ℕ → ℕ → ℕ
flipped s x y = s y x

pub same : (n : ℕ) → nat_eq n n ≡ true
same n = (Decides-eqb n n).1 refl

pub other : (m n : ℕ) → m ≢ n → nat_eq m n ≡ false
other m n ne = elim (eqb_tells m n) [ inl t ↦ absurd (ne t.1) | inr f ↦ f.0 ]

pub column_gone : (a b : ℕ) (s : ℕ → ℕ → ℕ) (x : ℕ) → with_column a b s x b ≡ 0
column_gone a b s x = ap (λ t. cond t 0 (cond (nat_eq b a) (s x a + s x b) (s x b))) (same b)

pub column_here : (a b : ℕ) (s : ℕ → ℕ → ℕ) (x : ℕ) → a ≢ b → with_column a b s x a ≡ s x a + s x b
column_here a b s x ne =
    ap (λ t. cond t 0 (cond (nat_eq a a) (s x a + s x b) (s x a))) (other a b ne) ∙ ap (λ t. cond t (s x a + s x b) (s x a)) (same a)

pub column_there : (a b : ℕ) (s : ℕ → ℕ → ℕ) (x y : ℕ) → y ≢ a → y ≢ b → with_column a b s x y ≡ s x y
column_there a b s x y na nb = ap (λ t. cond t 0 (cond (nat_eq y a) (s x a + s x b) (s x y))) (other y b nb) ∙ ap (λ t. cond t (s x a + s x b) (s x y)) (other y a na)

-- which of the three a number is
pub data Which (a b y : ℕ) : Type 0 where
  goes : y ≡ b → Which a b y
  stays : y ≡ a → Which a b y
  else_ : y ≢ a → y ≢ b → Which a b y

pub which : (a b y : ℕ) → Which a b y
which a b y = elim (eqb_tells y b) [
  | inl t ↦ goes t.1
  | inr f ↦ elim (eqb_tells y a) [ inl t ↦ stays t.1 | inr k ↦ else_ k.1 f.1 ]
]

-- adding twice is adding once
pub column_twice : (a b : ℕ) (s now : ℕ → ℕ → ℕ) (x : ℕ) → a ≢ b → ((y : ℕ) → now x y ≡ with_column a b s x y) → (y : ℕ) → with_column a b now x y ≡ with_column a b s x y
column_twice a b s now x ne done y = by (which a b y)
  where
    by : Which a b y → with_column a b now x y ≡ with_column a b s x y
    by (goes e) = rw (e) (column_gone a b now x ∙ sym (column_gone a b s x))
    by (stays e) = rw (e) (
        let h = column_here a b now x ne in
        let k = column_here a b s x ne in
        let p = done a in
        let q = done b in
        let z = column_gone a b s x in
        omega (arith, h, k, p, q, z))
    by (else_ na nb) = column_there a b now x y na nb ∙ done y

pub column_none : (a b : ℕ) (s : ℕ → ℕ → ℕ) (x y : ℕ) → a ≢ b → s x b ≡ 0 → with_column a b s x y ≡ s x y
column_none a b s x y ne none = by (which a b y)
  where
    by : Which a b y → with_column a b s x y ≡ s x y
    by (goes e) = rw (e) (column_gone a b s x ∙ sym none)
    by (stays e) = rw (e) (let h = column_here a b s x ne in omega (arith, h, none))
    by (else_ na nb) = column_there a b s x y na nb

-- one parent more
pub column_more : (a b i d : ℕ) (xs : List ℕ) (s now after : ℕ → ℕ → ℕ) → a ≢ b → i < length xs
    → ((x y : ℕ) → now x y ≡ cond (has (take i xs) x) (with_column a b s x y) (s x y))
    → ((x y : ℕ) → after x y ≡ cond (nat_eq x (get_or xs i d)) (with_column a b now x y) (now x y))
    → (x y : ℕ) → after x y ≡ cond (has (take (i + 1) xs) x) (with_column a b s x y) (s x y)
column_more a b i d xs s now after ne h before step x y =
    step x y ∙ by (has (take i xs) x) (nat_eq x (get_or xs i d)) (before x) ∙ sym (ap (λ t. cond t (with_column a b s x y) (s x y)) (has_more xs i d x h))
  where
    alike : ((z : ℕ) → now x z ≡ s x z) → with_column a b now x y ≡ with_column a b s x y
    alike e = ap (λ n. cond (nat_eq y b) 0 (cond (nat_eq y a) n (now x y))) (ap (λ n. n + now x b) (e a) ∙ ap (λ n. s x a + n) (e b)) ∙ ap (λ n. cond (nat_eq y b) 0 (cond (nat_eq y a) (s x a + s x b) n)) (e y)

    by : (p q : Bool) → ((z : ℕ) → now x z ≡ cond p (with_column a b s x z) (s x z)) → cond q (with_column a b now x y) (now x y) ≡ cond (p || q) (with_column a b s x y) (s x y)
    by true true e = column_twice a b s now x ne e y
    by true false e = e y
    by false true e = alike e
    by false false e = e y

-- sums stay small on the way
pub column_few : (a b i x : ℕ) (xs : List ℕ) (s now : ℕ → ℕ → ℕ) → a ≢ b → s x a + s x b ≤ 2 ^ 30
    → ((x y : ℕ) → now x y ≡ cond (has (take i xs) x) (with_column a b s x y) (s x y)) → now x a + now x b ≤ 2 ^ 30
column_few a b i x xs s now ne few before = by (has (take i xs) x) (before x)
  where
    by : (p : Bool) → ((z : ℕ) → now x z ≡ cond p (with_column a b s x z) (s x z)) → now x a + now x b ≤ 2 ^ 30
    by true e = (let p = e a in let q = e b in let k = column_here a b s x ne in let z = column_gone a b s x in omega (arith, p, q, k, z, few))
    by false e = (let p = e a in let q = e b in omega (arith, p, q, few))

-- parents alone are all that count
pub column_all : (a b : ℕ) (xs : List ℕ) (s new : ℕ → ℕ → ℕ) → a ≢ b → Lists (λ x. nat_lt 0 (s x b)) xs
    → ((x y : ℕ) → new x y ≡ cond (has xs x) (with_column a b s x y) (s x y)) → (x y : ℕ) → new x y ≡ with_column a b s x y
column_all a b xs s new ne lists is x y = is x y ∙ by (has xs x) refl
  where
    by : (p : Bool) → has xs x ≡ p → cond p (with_column a b s x y) (s x y) ≡ with_column a b s x y
    by true e = refl
    by false e = sym (column_none a b s x y ne (elim (cases_lt 0 (s x b)) [
      | inl more ↦ absurd (let k : true ≡ false = sym ((Decides-ltb 0 (s x b)).1 more) ∙ sym (lists.members x) ∙ e in cc)
      | inr none ↦ omega (arith, none)
    ]))

-- what is listed has support
pub listed_some : (xs : List ℕ) (f : ℕ → ℕ) (x : ℕ) → Lists (λ z. nat_lt 0 (f z)) xs → IsTrue (has xs x) → 0 < f x
listed_some xs f x lists h = (Decides-ltb 0 (f x)).0 (sym (lists.members x) ∙ h)
