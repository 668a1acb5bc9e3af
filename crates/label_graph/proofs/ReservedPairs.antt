-- How many of the reserved pairs begin or end at a node.
use Rattle.std.proofs.Common.{◌≡◌, ℕ, suc, ◌+◌, ◌<◌, Bool, true, false, cond, List, [], ◌∷◌, ◌++◌, length, Some, refl, sym, ap, ◌∙◌, arith, nat_eq, true≢false}
use Rattle.std.specs.Prelude.{if◌then◌else◌, position, ◌&&◌, ◌||◌, not, IsTrue, IsSome, is_some}
use Rattle.std.specs.List.{count_by, remove, prefix_len, position_or_len}
use Rattle.std.proofs.lemmas.List.Sums.{sum_by-append, sum_by-cons}
use Rattle.std.proofs.lemmas.Bool.{eqb-true}
use Rattle.std.proofs.lemmas.Cmp.{nat_eq_equiv}
use Rattle.graph_spec.proofs.ListLemmas.{found, is_found}
use Rattle.label_graph.specs.ReservedGraphs.{is_pair, has_pair, without_pair, starting, ending}

count-more : (p : ℕ × ℕ → Bool) (xs : List (ℕ × ℕ)) (x : ℕ × ℕ) → count_by p (xs ++ x ∷ []) ≡ count_by p xs + (if p x then 1 else 0)
count-more p xs x =
    elim (p x) as (λ b. p x ≡ b → count_by p (xs ++ x ∷ []) ≡ count_by p xs + (if b then 1 else 0)) [
      | true ↦ λ e. let one : ◌≡◌ {A = ℕ} (cond (p x) 1 0) 1 = ap (λ b. cond b 1 0) e in omega (arith, one, sum_by-append (λ y. cond (p y) 1 0) xs (x ∷ []))
      | false ↦ λ e. let none : ◌≡◌ {A = ℕ} (cond (p x) 1 0) 0 = ap (λ b. cond b 1 0) e in omega (arith, none, sum_by-append (λ y. cond (p y) 1 0) xs (x ∷ []))
    ] refl

count-first : (p : ℕ × ℕ → Bool) (x : ℕ × ℕ) (xs : List (ℕ × ℕ)) → count_by p (x ∷ xs) ≡ (if p x then 1 else 0) + count_by p xs
count-first p x xs =
    elim (p x) as (λ b. p x ≡ b → count_by p (x ∷ xs) ≡ (if b then 1 else 0) + count_by p xs) [
      | true ↦ λ e. let one : ◌≡◌ {A = ℕ} (cond (p x) 1 0) 1 = ap (λ b. cond b 1 0) e in omega (arith, one, sum_by-cons (λ y. cond (p y) 1 0) x xs)
      | false ↦ λ e. let none : ◌≡◌ {A = ℕ} (cond (p x) 1 0) 0 = ap (λ b. cond b 1 0) e in omega (arith, none, sum_by-cons (λ y. cond (p y) 1 0) x xs)
    ] refl

pub starting-more : (pairs : List (ℕ × ℕ)) (u v w : ℕ) → starting w (pairs ++ (u, v) ∷ []) ≡ starting w pairs + (if nat_eq u w then 1 else 0)
starting-more pairs u v w = count-more (λ p. nat_eq p.0 w) pairs (u, v)

pub ending-more : (pairs : List (ℕ × ℕ)) (u v w : ℕ) → ending w (pairs ++ (u, v) ∷ []) ≡ ending w pairs + (if nat_eq v w then 1 else 0)
ending-more pairs u v w = count-more (λ p. nat_eq p.1 w) pairs (u, v)

both : (a b : Bool) → (a && b) ≡ true → (a ≡ true) × (b ≡ true)
both true true h = (refl, refl)
both true false h = absurd (true≢false (sym h))
both false b h = absurd (true≢false (sym h))

turned-test : (p u w : ℕ) → nat_eq p u ≡ true → nat_eq p w ≡ nat_eq w u
turned-test p u w e = ap (λ n. nat_eq n w) (eqb-true p u e) ∙ nat_eq_equiv.symm u w

count-less : (test : ℕ × ℕ → Bool) (extra : Bool) (u v : ℕ) → ((p : ℕ × ℕ) → is_pair u v p ≡ true → test p ≡ extra) → (pairs : List (ℕ × ℕ)) → IsTrue (has_pair pairs u v)
    → count_by test (without_pair pairs u v) + (if extra then 1 else 0) ≡ count_by test pairs
count-less test extra u v is [] h = absurd (true≢false (sym h))
count-less test extra u v is (p ∷ ps) h =
    elim (is_pair u v p) as (λ b. is_pair u v p ≡ b → IsTrue (b || has_pair ps u v)
    → count_by test (if b then ps else p ∷ without_pair ps u v) + (if extra then 1 else 0) ≡ count_by test (p ∷ ps)) [
      | true ↦ λ q k. omega (arith, count-first test p ps, ap {B = ℕ} (λ b. if b then 1 else 0) (is p q))
      | false ↦ λ q k. omega (arith, count-first test p ps, count-first test p (without_pair ps u v), count-less test extra u v is ps k)
    ] refl h

pub starting-less : (pairs : List (ℕ × ℕ)) (u v w : ℕ) → IsTrue (has_pair pairs u v) → starting w (without_pair pairs u v) + (if nat_eq w u then 1 else 0) ≡ starting w pairs
starting-less pairs u v w h =
    count-less (λ p. nat_eq p.0 w) (nat_eq w u) u v (λ p e. turned-test p.0 u w (both (nat_eq p.0 u) (nat_eq p.1 v) e).0) pairs h

pub ending-less : (pairs : List (ℕ × ℕ)) (u v w : ℕ) → IsTrue (has_pair pairs u v) → ending w (without_pair pairs u v) + (if nat_eq w v then 1 else 0) ≡ ending w pairs
ending-less pairs u v w h =
    count-less (λ p. nat_eq p.1 w) (nat_eq w v) u v (λ p e. turned-test p.1 v w (both (nat_eq p.0 u) (nat_eq p.1 v) e).1) pairs h

-- the first pair is found, and taken out
without-at : (u v : ℕ) (pairs : List (ℕ × ℕ)) (i : ℕ) → i ≡ prefix_len (λ p. not (is_pair u v p)) pairs → i < length pairs → without_pair pairs u v ≡ remove pairs i
without-at u v [] i e h = absurd (omega (arith, h))
without-at u v (p ∷ ps) i e h =
    elim (is_pair u v p) as (λ b. i ≡ cond (not b) (1 + prefix_len (λ q. not (is_pair u v q)) ps) 0 → (if b then ps else p ∷ without_pair ps u v) ≡ remove (p ∷ ps) i) [
      | true ↦ λ q. ap (remove (p ∷ ps)) (sym q)
      | false ↦ λ q.
          let k = prefix_len (λ x. not (is_pair u v x)) ps in
          let next : i ≡ suc k = omega (arith, q) in
          ap (λ l. p ∷ l) (without-at u v ps k refl (omega (arith, h, next))) ∙ ap (remove (p ∷ ps)) (sym next)
    ] e

pub pair-taken : (u v : ℕ) (pairs : List (ℕ × ℕ)) (i : ℕ) → position (is_pair u v) pairs ≡ Some i → remove pairs i ≡ without_pair pairs u v
pair-taken u v pairs i e =
    let f = found (position_or_len (is_pair u v) pairs) (length pairs) i e in
    sym (without-at u v pairs i (sym f.1) (omega (arith, f.0, f.1)))

pair-there : (u v : ℕ) (pairs : List (ℕ × ℕ)) → IsTrue (has_pair pairs u v) → prefix_len (λ p. not (is_pair u v p)) pairs < length pairs
pair-there u v [] h = absurd (true≢false (sym h))
pair-there u v (p ∷ ps) h =
    elim (is_pair u v p) as (λ b. IsTrue (b || has_pair ps u v) → cond (not b) (1 + prefix_len (λ x. not (is_pair u v x)) ps) 0 < length (p ∷ ps)) [
      | true ↦ λ q. omega arith
      | false ↦ λ q. omega (arith, pair-there u v ps q)
    ] h

pub pair-found : (u v : ℕ) (pairs : List (ℕ × ℕ)) → IsTrue (has_pair pairs u v) → IsSome (position (is_pair u v) pairs)
pair-found u v pairs h = ap is_some (is_found (position_or_len (is_pair u v) pairs) (length pairs) _ (pair-there u v pairs h) refl)
