-- Four boxes of four kinds.
use Rattle.std.proofs.Common.{◌≡◌, ◌≢◌, ℕ, zero, suc, ◌<◌, List, [], ◌∷◌, ◌++◌, Option, None, Some, map, get_or, refl, sym, ◌∙◌, ap, subst, arith}
use Rattle.std.specs.List.{AllPairs}
use Rattle.bisim_spec.specs.declared.kind.Kind.{Kind}
use Rattle.bisim_spec.specs.declared.kind.Kind.TheVariants.{A, One, Fb, B}
use Rattle.index_api.specs.Meanings.{Meaning}
use Rattle.index_api.specs.IndexKinds.{kinds_of}
use Rattle.one_maintain.specs.KeptQuotients.{KeptQuotient, meaning_of}

-- what a 1-index means that keeps some quotient, or none
pub kept_is_one : (kept : Option KeptQuotient) → (meaning_of kept).kind ≡ One
kept_is_one None = refl
kept_is_one (Some k) = refl

-- the place of a kind among the four
abbrev pub rank : Kind → ℕ
rank A = 0
rank One = 1
rank Fb = 2
rank B = 3

-- the four are of these kinds, in this order
pub record AreOfKinds (a b c d : Meaning) : Type 0 where
  pub first : a.kind ≡ A
  pub second : b.kind ≡ One
  pub third : c.kind ≡ Fb
  pub fourth : d.kind ≡ B

ranked : (a b c d : Meaning) → AreOfKinds a b c d → (i : ℕ) (m : Meaning) → i < 4 → rank (get_or (a ∷ b ∷ c ∷ d ∷ []) i m).kind ≡ i
ranked a b c d k zero m h = ap rank k.first
ranked a b c d k (suc zero) m h = ap rank k.second
ranked a b c d k (suc (suc zero)) m h = ap rank k.third
ranked a b c d k (suc (suc (suc zero))) m h = ap rank k.fourth
ranked a b c d k (suc (suc (suc (suc i)))) m h = absurd (omega (arith, h))

all_apart : (a b c d : Meaning) → AreOfKinds a b c d → AllPairs (λ x y. x.kind ≢ y.kind) (a ∷ b ∷ c ∷ d ∷ [])
all_apart a b c d k i j m h w e =
    absurd (let p = ranked a b c d k i m (omega (arith, h, w)) in let q = ranked a b c d k j m w in let same = ap rank e in omega (arith, h, p, q, same))

-- what four pushes leave
four_items : {X : Type 0} (none first second third fourth : List X) (x y z u : X) → none ≡ [] → first ≡ none ++ x ∷ [] → second ≡ first ++ y ∷ [] → third ≡ second ++ z ∷ []
    → fourth ≡ third ++ u ∷ [] → fourth ≡ x ∷ y ∷ z ∷ u ∷ []
four_items none first second third fourth x y z u e1 e2 e3 e4 e5 =
    e5 ∙ ap (λ l. l ++ u ∷ []) (e4 ∙ ap (λ l. l ++ z ∷ []) (e3 ∙ ap (λ l. l ++ y ∷ []) (e2 ∙ ap (λ l. l ++ x ∷ []) e1)))

pub four_apart : {X : Type 0} (f : X → Meaning) (none first second third fourth : List X) (x y z u : X) → none ≡ [] → first ≡ none ++ x ∷ [] → second ≡ first ++ y ∷ []
    → third ≡ second ++ z ∷ [] → fourth ≡ third ++ u ∷ [] → (f x).kind ≡ A → (f y).kind ≡ One → (f z).kind ≡ Fb → (f u).kind ≡ B → AllPairs (λ a b. a.kind ≢ b.kind) (map f fourth)
four_apart f none first second third fourth x y z u e1 e2 e3 e4 e5 ex ey ez eu =
    subst (λ l. AllPairs (λ a b. a.kind ≢ b.kind) (map f l)) (sym (four_items none first second third fourth x y z u e1 e2 e3 e4 e5))
    (all_apart (f x) (f y) (f z) (f u) (record { first = ex; second = ey; third = ez; fourth = eu }))

pub four_kinds : {X : Type 0} (f : X → Meaning) (none first second third fourth : List X) (x y z u : X) → none ≡ [] → first ≡ none ++ x ∷ [] → second ≡ first ++ y ∷ []
    → third ≡ second ++ z ∷ [] → fourth ≡ third ++ u ∷ [] → (f x).kind ≡ A → (f y).kind ≡ One → (f z).kind ≡ Fb → (f u).kind ≡ B → kinds_of (map f fourth) ≡ A ∷ One ∷ Fb ∷ B ∷ []
four_kinds f none first second third fourth x y z u e1 e2 e3 e4 e5 ex ey ez eu =
    ap (λ l. kinds_of (map f l)) (four_items none first second third fourth x y z u e1 e2 e3 e4 e5)
    ∙ ap (λ k. k ∷ (f y).kind ∷ (f z).kind ∷ (f u).kind ∷ []) ex ∙ ap (λ k. A ∷ k ∷ (f z).kind ∷ (f u).kind ∷ []) ey ∙ ap (λ k. A ∷ One ∷ k ∷ (f u).kind ∷ []) ez
    ∙ ap (λ k. A ∷ One ∷ Fb ∷ k ∷ []) eu
