use Rattle.std.proofs.Common.{◌≡◌, ◌<◌, ℕ, true, false, List, [], ◌∷◌, sym, ◌∙◌, ap, arith, true≢false}
use Rattle.std.specs.Prelude.{nat_eq, ◌||◌}
use Rattle.std.specs.List.Sorted.{IsStrictlyIncreasing}
use Rattle.std.proofs.lemmas.Bool.{eqb-true}
use Rattle.std.proofs.lemmas.Cmp.{nat_eq_equiv}
use Rattle.std.proofs.Math.Bool.{or-false, or-true}
use Rattle.graph_spec.specs.Members.{has}
use Rattle.one_update.proofs.tests.just.Goals as goal

-- a member is that number
same : (n m : ℕ) (xs : List ℕ) → ((k : ℕ) → has xs k ≡ (nat_eq k n || false)) → has xs m ≡ true → m ≡ n
same n m xs are h = eqb-true m n (sym (or-false (nat_eq m n)) ∙ sym (are m) ∙ h)

only : (n : ℕ) (xs : List ℕ) → ((k : ℕ) → has xs k ≡ (nat_eq k n || false)) → IsStrictlyIncreasing xs → xs ≡ n ∷ []
only n [] are rising = absurd (true≢false (sym (are n ∙ ap (λ b. b || false) (nat_eq_equiv.refl n))))
only n (x ∷ []) are rising = ap (λ m. m ∷ []) (same n x (x ∷ []) are (ap (λ b. b || false) (nat_eq_equiv.refl x)))
only n (x ∷ y ∷ ys) are rising =
    let first = same n x (x ∷ y ∷ ys) are (ap (λ b. b || (nat_eq x y || has ys x)) (nat_eq_equiv.refl x)) in
    let second = same n y (x ∷ y ∷ ys) are (ap (λ b. nat_eq y x || (b || has ys y)) (nat_eq_equiv.refl y) ∙ or-true (nat_eq y x)) in
    let less : x < y = rising 0 (omega arith) in
    absurd (omega (arith, first, second, less))

pub returns : goal.returns
returns c = only c.args.n c.insert.new.self.members (λ k. c.insert.ensures.members k ∙ ap (λ (xs : List ℕ). nat_eq k c.args.n || has xs k) (ap (λ s. s.members) c.in_ok-set.ensures)) c.insert.ensures.rising
