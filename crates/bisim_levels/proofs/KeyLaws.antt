-- What keys say of their nodes.
use Rattle.std.proofs.Common.{◌≡◌, ℕ, List, ◌∷◌, Option, Some, sym, ◌∙◌, ap}
use Rattle.graph_spec.specs.Members.{has}
use Rattle.bisim_spec.proofs.RisingLists.{rising_unique}
use Rattle.bisim_spec.proofs.WrittenKeys.{parts_same}
use Rattle.bisim_levels.specs.SidedKeys.{IsKeyBy, StayBy}

module _ (own : ℕ → Option ℕ) (Around : ℕ → ℕ → Type 0) (u v : ℕ) where
  -- nodes of one key stay together
  pub stay_from_key : (key : List ℕ) → IsKeyBy own Around u key → IsKeyBy own Around v key → StayBy own Around u v
  stay_from_key key k l =
      let same = parts_same k.around l.around k.number l.number (sym k.is ∙ l.is) in
      record {
        one_number = (k.number, k.own_is, l.own_is ∙ ap Some (sym same.1));
        there = λ c h. l.each c (ap (λ xs. has xs c) (sym same.0) ∙ k.every c h);
        back = λ c h. k.each c (ap (λ xs. has xs c) same.0 ∙ l.every c h);
      }

  -- nodes that stay together have one key
  pub key_from_stay : (ku kv : List ℕ) → StayBy own Around u v → IsKeyBy own Around u ku → IsKeyBy own Around v kv → ku ≡ kv
  key_from_stay ku kv same k l =
      let number : k.number ≡ l.number = (let a = same.one_number.1 in let b = same.one_number.2 in let c = k.own_is in let d = l.own_is in cc) in
      let around : k.around ≡ l.around =
      rising_unique k.around l.around k.rising l.rising (λ c h. l.every c (same.there c (k.each c h))) (λ c h. k.every c (same.back c (l.each c h)))
      in
      k.is ∙ ap (λ xs. k.number ∷ xs) around ∙ ap (λ x. x ∷ l.around) number ∙ sym l.is
