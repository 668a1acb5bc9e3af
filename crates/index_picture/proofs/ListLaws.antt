-- Texts that are written one behind the other.
use Rattle.std.proofs.Common.{◌≡◌, ℕ, ◌+◌, ◌<◌, List, [], ◌∷◌, ◌++◌, length, take, get_or, sym, ◌∙◌, ap, append-nil, append_assoc}
use Rattle.std.specs.List.{flat_map}
use Rattle.std.proofs.lemmas.List.{take_more}
use Rattle.std.proofs.lemmas.Grind.{flat_map-append}

abbrev pub no_text : List ℕ
no_text = []

-- a text, and the rest behind it
pub then_push : (o a z x rest : List ℕ) → a ≡ o ++ x → z ≡ a ++ rest → z ≡ o ++ (x ++ rest)
then_push o a z x rest e f = f ∙ ap (λ t. t ++ rest) e ∙ append_assoc o x rest

-- one more element's text
pub flat_more : {X : Type 0} (f : X → List ℕ) (xs : List X) (text before now : List ℕ) (i : ℕ) (d : X) → i < length xs
    → before ≡ text ++ flat_map f (take i xs) → now ≡ before ++ f (get_or xs i d) → now ≡ text ++ flat_map f (take (i + 1) xs)
flat_more f xs text before now i d within e added =
    let more : flat_map f (take (i + 1) xs) ≡ flat_map f (take i xs) ++ f (get_or xs i d) =
    ap (flat_map f) (take_more xs i d within) ∙ flat_map-append f (take i xs) (get_or xs i d ∷ [])
    ∙ ap (λ t. flat_map f (take i xs) ++ t) (append-nil (f (get_or xs i d)))
    in
    added ∙ ap (λ t. t ++ f (get_or xs i d)) e ∙ append_assoc text (flat_map f (take i xs)) (f (get_or xs i d)) ∙ ap (λ t. text ++ t) (sym more)
