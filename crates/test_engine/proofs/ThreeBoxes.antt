-- Three boxes of three kinds.
use Rattle.std.proofs.Common.{◌≡◌, ◌≢◌, ℕ, zero, suc, ◌<◌, List, [], ◌∷◌, ◌++◌, map, get_or, sym, ◌∙◌, ap, subst, arith}
use Rattle.std.specs.List.{AllPairs}
use Rattle.bisim_spec.specs.declared.kind.Kind.TheVariants.{A, One, Fb}
use Rattle.index_api.specs.Meanings.{Meaning}
use Rattle.any_index.proofs.FourBoxes.{rank}

ranked : (a b c : Meaning) → a.kind ≡ A → b.kind ≡ One → c.kind ≡ Fb → (i : ℕ) (m : Meaning) → i < 3 → rank (get_or (a ∷ b ∷ c ∷ []) i m).kind ≡ i
ranked a b c ea eb ec zero m h = ap rank ea
ranked a b c ea eb ec (suc zero) m h = ap rank eb
ranked a b c ea eb ec (suc (suc zero)) m h = ap rank ec
ranked a b c ea eb ec (suc (suc (suc i))) m h = absurd (omega (arith, h))

all_apart : (a b c : Meaning) → a.kind ≡ A → b.kind ≡ One → c.kind ≡ Fb → AllPairs (λ x y. x.kind ≢ y.kind) (a ∷ b ∷ c ∷ [])
all_apart a b c ea eb ec i j m h w e =
    absurd (let p = ranked a b c ea eb ec i m (omega (arith, h, w)) in let q = ranked a b c ea eb ec j m w in let same = ap rank e in omega (arith, h, p, q, same))

-- what three pushes leave
three_items : {X : Type 0} (none first second third : List X) (x y z : X) → none ≡ [] → first ≡ none ++ x ∷ [] → second ≡ first ++ y ∷ [] → third ≡ second ++ z ∷ [] → third ≡ x ∷ y ∷ z ∷ []
three_items none first second third x y z e1 e2 e3 e4 = e4 ∙ ap (λ l. l ++ z ∷ []) (e3 ∙ ap (λ l. l ++ y ∷ []) (e2 ∙ ap (λ l. l ++ x ∷ []) e1))

pub three_apart : {X : Type 0} (f : X → Meaning) (none first second third : List X) (x y z : X) → none ≡ [] → first ≡ none ++ x ∷ [] → second ≡ first ++ y ∷ [] → third ≡ second ++ z ∷ []
    → (f x).kind ≡ A → (f y).kind ≡ One → (f z).kind ≡ Fb → AllPairs (λ a b. a.kind ≢ b.kind) (map f third)
three_apart f none first second third x y z e1 e2 e3 e4 ex ey ez =
    subst (λ l. AllPairs (λ a b. a.kind ≢ b.kind) (map f l)) (sym (three_items none first second third x y z e1 e2 e3 e4)) (all_apart (f x) (f y) (f z) ex ey ez)
