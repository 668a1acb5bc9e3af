-- A text to which pieces are added one after another.
use Rattle.std.proofs.Common.{◌≡◌, ◌∙◌, List, ℕ, [], ◌∷◌, ◌++◌, append_assoc, ap, refl, codes, decimal}
use Rattle.workload.specs.MadeTexts.{node_term, predicate_term, triple_line}

pub three_added : (a b c d p q r : List ℕ) → b ≡ a ++ p → c ≡ b ++ q → d ≡ c ++ r → d ≡ a ++ (p ++ (q ++ r))
three_added a b c d p q r f g h =
    h ∙ ap (λ t. t ++ r) (g ∙ ap (λ t. t ++ q) f) ∙ append_assoc (a ++ p) q r ∙ append_assoc a p (q ++ r)

pub four_added : (a b c d e p q r s : List ℕ) → b ≡ a ++ p → c ≡ b ++ q → d ≡ c ++ r → e ≡ d ++ s → e ≡ a ++ (p ++ (q ++ (r ++ s)))
four_added a b c d e p q r s f g h i =
    i ∙ ap (λ t. t ++ s) (three_added a b c d p q r f g h) ∙ append_assoc a (p ++ (q ++ r)) s
    ∙ ap (λ t. a ++ t) (append_assoc p (q ++ r) s ∙ ap (λ t. p ++ t) (append_assoc q r s))

parts : (hs s gt sp hp p object e lf : List ℕ)
    → (hs ++ s ++ (gt ++ sp)) ++ ((hp ++ p ++ (gt ++ sp)) ++ (object ++ (e ++ lf))) ≡ (hs ++ s ++ gt) ++ sp ++ (hp ++ p ++ gt) ++ sp ++ object ++ e ++ lf
parts hs s gt sp hp p object e lf = simp append_assoc refl

-- a line of the graph file in pieces
pub triple_pieces : (s p : ℕ) (object : List ℕ)
    → (codes "<http://e/s" ++ decimal s ++ codes "> ") ++ ((codes "<http://e/p" ++ decimal p ++ codes "> ") ++ (object ++ codes " .\n"))
    ≡ triple_line (node_term s) (predicate_term p) object ++ 10 ∷ []
triple_pieces s p object =
    parts (codes "<http://e/s") (decimal s) (codes ">") (codes " ") (codes "<http://e/p") (decimal p) object (codes " .") (10 ∷ [])
