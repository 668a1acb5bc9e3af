-- Shapes with the same nodes and labels, and relations that agree on them, are listed alike.
use Rattle.std.proofs.Common.{◌≡◌, ℕ, ◌<◌, ◌≤◌, List, [], ◌∷◌, ◌++◌, is_some, unwrap_or, refl, sym, ◌∙◌, ap, arith, inl, inr, true, false, Bool, not, ◌&&◌, cond}
use Rattle.std.specs.Prelude.{codes, decimal}
use Rattle.std.proofs.lemmas.Bool.{cases_Bool, and_parts}
use Rattle.graph_spec.specs.Words.{node_word}
use Rattle.graph_spec.specs.Shapes.{Shape, IsNode}
use Rattle.bisim_spec.specs.Below.{any_below}
use Rattle.bisim_spec.proofs.BelowLaws.{count_same}
use Rattle.extent_report.specs.ListedBlocks.{texts_below, is_related, is_first, block_total, block_line, extents_text}
use Rattle.extent_report.proofs.NumberedTexts.{texts_same, texts_sized, count_sized, any_same}

pub record AreAlike (s z : Shape) (r q : ℕ → ℕ → Bool) : Type 0 where
  pub labels : (n : ℕ) → s.label n ≡ z.label n
  pub below : (n : ℕ) → IsNode s n → n < s.size
  pub below_other : (n : ℕ) → IsNode z n → n < z.size
  pub related : (u v : ℕ) → IsNode s u → IsNode s v → r u v ≡ q u v

guarded : (a b c : Bool) → (a ≡ true → b ≡ c) → (a && b) ≡ (a && c)
guarded true b c h = h refl
guarded false b c h = refl

pub past_node : (s : Shape) → ((n : ℕ) → IsNode s n → n < s.size) → (k : ℕ) → s.size ≤ k → is_some (s.label k) ≡ false
past_node s below k l = elim (cases_Bool (is_some (s.label k))) [
  | inl node ↦ absurd (let b = below k node in omega (arith, b, l))
  | inr none ↦ none
]

module _ {s z : Shape} {r q : ℕ → ℕ → Bool} (h : AreAlike s z r q) where
  same_node : (n : ℕ) → is_some (s.label n) ≡ is_some (z.label n)
  same_node n = ap is_some (h.labels n)

  pub related_alike : (n m : ℕ) → IsNode s n → is_related s r n m ≡ is_related z q n m
  related_alike n m node = guarded (is_some (s.label m)) (r n m) (q n m) (h.related n m node) ∙ ap (λ b. b && q n m) (same_node m)

  pub first_alike : (n : ℕ) → is_first s r n ≡ is_first z q n
  first_alike n =
      guarded (is_some (s.label n)) (not (any_below n (is_related s r n))) (not (any_below n (is_related z q n)))
      (λ node. ap not (any_same n (is_related s r n) (is_related z q n) (λ m _. related_alike n m node)))
      ∙ ap (λ b. b && not (any_below n (is_related z q n))) (same_node n)

  past_related : (n k : ℕ) → s.size ≤ k → is_related s r n k ≡ false
  past_related n k l = ap (λ b. b && r n k) (past_node s h.below k l)

  past_other : (n k : ℕ) → z.size ≤ k → is_related z q n k ≡ false
  past_other n k l = ap (λ b. b && q n k) (past_node z h.below_other k l)

  pub past_first : (n : ℕ) → s.size ≤ n → is_first s r n ≡ false
  past_first n l = ap (λ b. b && not (any_below n (is_related s r n))) (past_node s h.below n l)

  past_first_other : (n : ℕ) → z.size ≤ n → is_first s r n ≡ false
  past_first_other n l = first_alike n ∙ ap (λ b. b && not (any_below n (is_related z q n))) (past_node z h.below_other n l)

  pub total_alike : block_total s r ≡ block_total z q
  total_alike = count_sized s.size z.size (is_first s r) past_first past_first_other ∙ count_same z.size (is_first s r) (is_first z q) (λ n _. first_alike n)

  line_alike : (n : ℕ) → IsNode s n → block_line s r n ≡ block_line z q n
  line_alike n node =
      let word : Bool → ℕ → List ℕ = λ b m. cond b (32 ∷ node_word m) [] in
      let f : ℕ → List ℕ = λ m. word (is_related s r n m) m in
      let g : ℕ → List ℕ = λ m. word (is_related z q n m) m in
      ap (λ t. t ++ texts_below s.size f ++ 10 ∷ []) (ap (λ o. unwrap_or o []) (h.labels n))
      ∙ ap (λ w. unwrap_or (z.label n) [] ++ w ++ 10 ∷ []) (
      texts_sized s.size z.size f (λ k l. ap (λ b. word b k) (past_related n k l)) (λ k l. ap (λ b. word b k) (related_alike n k node ∙ past_other n k l))
      ∙ texts_same z.size f g (λ k _. ap (λ b. word b k) (related_alike n k node)))

  written : (n : ℕ) → cond (is_first s r n) (block_line s r n) [] ≡ cond (is_first z q n) (block_line z q n) []
  written n = elim (cases_Bool (is_first s r n)) [
    | inl first ↦ (
        let node = (and_parts (is_some (s.label n)) (not (any_below n (is_related s r n))) first).0 in
        ap (λ b. cond b (block_line s r n) []) first ∙ line_alike n node ∙ sym (ap (λ b. cond b (block_line z q n) []) (sym (first_alike n) ∙ first)))
    | inr other ↦ ap (λ b. cond b (block_line s r n) []) other ∙ sym (ap (λ b. cond b (block_line z q n) []) (sym (first_alike n) ∙ other))
  ]

  pub extents_alike : extents_text s r ≡ extents_text z q
  extents_alike =
      let f : ℕ → List ℕ = λ n. cond (is_first s r n) (block_line s r n) [] in
      let g : ℕ → List ℕ = λ n. cond (is_first z q n) (block_line z q n) [] in
      ap (λ t. codes "blocks " ++ decimal t ++ 10 ∷ texts_below s.size f) total_alike
      ∙ ap (λ t. codes "blocks " ++ decimal (block_total z q) ++ 10 ∷ t) (
      texts_sized s.size z.size f (λ k l. ap (λ b. cond b (block_line s r k) []) (past_first k l)) (λ k l. ap (λ b. cond b (block_line s r k) []) (past_first_other k l))
      ∙ texts_same z.size f g (λ k _. written k))
