-- A list that is cut where a test first fails.
use Rattle.std.proofs.Common.{◌≡◌, ℕ, suc, ◌+◌, Bool, true, false, cond, List, [], ◌∷◌, ◌++◌, length, take, drop, refl, sym, ap, ◌∙◌, subst, arith}
use Rattle.std.specs.List.{list_all, prefix_len}
use Rattle.std.proofs.Math.Seq.{take-append_seam}
use Rattle.path_query.proofs.LabelBytes.{both}

-- the list is empty, or its first element fails
abbrev pub Stops : (ℕ → Bool) → List ℕ → Type 0
Stops p [] = Unit {0}
Stops p (x ∷ xs) = p x ≡ false

pub prefix_len-cut : (p : ℕ → Bool) (a b : List ℕ) → list_all p a ≡ true → Stops p b → prefix_len p (a ++ b) ≡ length a
prefix_len-cut p [] [] h s = refl
prefix_len-cut p [] (x ∷ xs) h s = ap (λ t. cond t (1 + prefix_len p xs) 0) s
prefix_len-cut p (x ∷ xs) b h s =
    let k = both (p x) (list_all p xs) h in
    ap (λ t. cond t (1 + prefix_len p (xs ++ b)) 0) k.0 ∙ omega (arith, prefix_len-cut p xs b k.1 s)

pub drop_prefix : (a b : List ℕ) → drop (length a) (a ++ b) ≡ b
drop_prefix [] b = refl
drop_prefix (x ∷ xs) b = drop_prefix xs b

-- where the first part passes and the second begins with what fails, they are the parts at the cut
pub record IsCut (p : ℕ → Bool) (a b text : List ℕ) : Type 0 where
  pub prefix : take (prefix_len p text) text ≡ a
  pub back : drop (prefix_len p text) text ≡ b

pub cut_at : (p : ℕ → Bool) (a b text : List ℕ) → text ≡ a ++ b → list_all p a ≡ true → Stops p b → IsCut p a b text
cut_at p a b text e h s =
    subst (IsCut p a b) (sym e)
    (record {
      prefix = ap (λ n. take n (a ++ b)) (prefix_len-cut p a b h s) ∙ take-append_seam a b;
      back = ap (λ n. drop n (a ++ b)) (prefix_len-cut p a b h s) ∙ drop_prefix a b;
    })

pub prefix_passes : (p : ℕ → Bool) (xs : List ℕ) → list_all p (take (prefix_len p xs) xs) ≡ true
prefix_passes p [] = refl
prefix_passes p (x ∷ xs) =
    elim (p x) as (λ t. p x ≡ t → list_all p (take (cond t (1 + prefix_len p xs) 0) (x ∷ xs)) ≡ true) [
      | true ↦ λ e. rw (one_more (prefix_len p xs)) (rw e (prefix_passes p xs))
      | false ↦ λ e. refl
    ] refl
  where
    one_more : (n : ℕ) → 1 + n ≡ suc n
    one_more n = omega arith

-- what is left behind those that pass begins with one that doesn't
pub passed : (p : ℕ → Bool) (text : List ℕ) → Stops p (drop (prefix_len p text) text)
passed p [] = tt
passed p (x ∷ xs) = elim (p x) as (λ c. p x ≡ c → Stops p (drop (cond c (1 + prefix_len p xs) 0) (x ∷ xs))) [
  | true ↦ λ e. subst (λ n. Stops p (drop n (x ∷ xs))) (one_more (prefix_len p xs)) (passed p xs)
  | false ↦ λ e. e
] refl
  where
    one_more : (n : ℕ) → suc n ≡ 1 + n
    one_more n = omega arith
