-- What a list has once a key has got a number.
use Rattle.std.proofs.Common.{◌≡◌, ℕ, Bool, true, false, cond, List, [], ◌∷◌, Option, Some, refl, sym, ap, ◌∙◌, inl, inr}
use Rattle.std.specs.Map.{lookup}
use Rattle.std.proofs.lemmas.Bool.{cases_Bool}
use Rattle.term_table.specs.Terms.{same_term}
use Rattle.term_table.proofs.SameTerms.{term_is}
use Rattle.triples_read.specs.declared.term.Triple.{Triple}
use Rattle.triple_names.specs.Items.{Item, of_term, of_triple, same_triple, same_item}
use Rattle.triple_names.specs.Names.{Names, number_in, with_number}
use Rattle.triple_names.specs.declared.inserting.Placed.{Placed}
use Rattle.triple_names.specs.TripleChanges.{noted}
use Rattle.triple_names.proofs.ItemLaws.{triple_is}

pub lookup_with : {X : Type 0} (same : X → X → Bool) → ((a b : X) → same a b ≡ true → a ≡ b) → (x y : X) (n : ℕ) (es : List (X × ℕ))
    → lookup (same y) (with_number (same x) x n es) ≡ cond (same y x) (Some n) (lookup (same y) es)
lookup_with same is x y n [] = refl
lookup_with same is x y n (e ∷ es) = elim (cases_Bool (same x e.0)) [
  | inl on ↦
      ap (λ b. lookup (same y) (cond b ((e.0, n) ∷ es) (e ∷ with_number (same x) x n es))) on
      ∙ twice (same y e.0) (lookup (same y) es)
      ∙ ap (λ z. cond (same y z) (Some n) (cond (same y e.0) (Some e.1) (lookup (same y) es))) (sym (is x e.0 on))
  | inr off ↦
      ap (λ b. lookup (same y) (cond b ((e.0, n) ∷ es) (e ∷ with_number (same x) x n es))) off
      ∙ ap (λ o. cond (same y e.0) (Some e.1) o) (lookup_with same is x y n es)
      ∙ swapped (same y x) (same y e.0) (lookup (same y) es) (λ h. ap (λ z. same z e.0) (is y x h) ∙ off)
]
  where
    twice : (b : Bool) (o : Option ℕ) → cond b (Some n) o ≡ cond b (Some n) (cond b (Some e.1) o)
    twice true o = refl
    twice false o = refl

    swapped : (a b : Bool) (o : Option ℕ) → (a ≡ true → b ≡ false) → cond b (Some e.1) (cond a (Some n) o) ≡ cond a (Some n) (cond b (Some e.1) o)
    swapped true b o h = ap (λ c. cond c (Some e.1) (Some n)) (h refl)
    swapped false b o h = refl

-- the numbering in which the item has this number
abbrev pub named : (Item → Option ℕ) → Item → ℕ → (Item → Option ℕ)
named f p n q = cond (same_item q p) (Some n) (f q)

-- what is noted of a triple names its three parts
pub number_noted : (n : Names) (t : Triple) (p : Placed) (q : Item)
    → number_in (noted t p n) q ≡ named (named (named (number_in n) (of_term t.subject) p.subject) (of_triple t) p.triple) (of_term t.object) p.object q
number_noted n t p (of_term y) =
    lookup_with same_term term_is t.object y p.object (with_number (same_term t.subject) t.subject p.subject n.terms)
    ∙ ap (λ o. cond (same_term y t.object) (Some p.object) o) (lookup_with same_term term_is t.subject y p.subject n.terms)
number_noted n t p (of_triple u) = lookup_with same_triple triple_is t u p.triple n.triples
