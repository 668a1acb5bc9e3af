-- The test says whether a word matches.
use Rattle.std.proofs.Common.{◌≡◌, ℕ, zero, suc, ◌≤◌, ◌⊎◌, inl, inr, List, [], ◌∷◌, ◌++◌, length, refl, sym, ap, ◌∙◌, subst, arith, true, Bool, true≢false, length-append}
use Rattle.std.specs.Prelude.{◌||◌, ◌&&◌, bytes_eq}
use Rattle.std.specs.List.{AllByRecursion}
use Rattle.std.proofs.lemmas.Bool.{and_parts, and_from, or_cases, or_left, or_right}
use Rattle.std.proofs.lemmas.Slice.Eq.{bytes_eq-Decides}
use Rattle.path_spec.specs.Trees.{star, plus, opt, child, below, Expr, only, or, Seq, last, then, Item, once, signed, Atom, label, any, group}
use Rattle.path_spec.specs.Matches.{Word, joined, AnyWord, Then, Pieces, Matches, MatchesSeq, MatchesItem, MatchesAtom}
use Rattle.path_spec.specs.Tests.{splits, cuts, pieces, is_nothing, is_one, matches, seq_matches, item_matches, atom_matches}

-- the test says whether the word is of the kind
pub record Decides (p : Word → Bool) (P : Word → Type 0) : Type 0 where
  pub yes_is : (w : Word) → p w ≡ true → P w
  pub is_yes : (w : Word) → P w → p w ≡ true

split_found : (p q : Word → Bool) (w : Word) → splits p q w ≡ true → (a : Word) × (b : Word) × (p a ≡ true) × (q b ≡ true) × (w ≡ a ++ b)
split_found p q [] h = let e = and_parts (p []) (q []) h in ([], [], e.0, e.1, refl)
split_found p q (t ∷ w) h = elim (or_cases (p [] && q (t ∷ w)) (splits (λ a. p (t ∷ a)) q w) h) [
  | inl here ↦ (let e = and_parts (p []) (q (t ∷ w)) here in ([], t ∷ w, e.0, e.1, refl))
  | inr more ↦ (let s = split_found (λ a. p (t ∷ a)) q w more in (t ∷ s.0, s.1, s.2, s.3, ap (λ x. t ∷ x) s.4))
]

split_finds : (p q : Word → Bool) (a b : Word) → p a ≡ true → q b ≡ true → splits p q (a ++ b) ≡ true
split_finds p q [] [] h k = and_from (p []) (q []) h k
split_finds p q [] (t ∷ b) h k = or_left (p [] && q (t ∷ b)) (splits (λ a. p (t ∷ a)) q b) (and_from (p []) (q (t ∷ b)) h k)
split_finds p q (t ∷ a) b h k = or_right (p [] && q (t ∷ (a ++ b))) (splits (λ a. p (t ∷ a)) q (a ++ b)) (split_finds (λ a. p (t ∷ a)) q a b h k)

says_then : (p q : Word → Bool) (P Q : Word → Type 0) → Decides p P → Decides q Q → Decides (splits p q) (Then P Q)
says_then p q P Q h k = record {
  yes_is = λ w e. let s = split_found p q w e in (s.0, s.1, h.yes_is s.0 s.2, k.yes_is s.1 s.3, s.4);
  is_yes = λ w t. subst (λ x. splits p q x ≡ true) (sym t.4) (split_finds p q t.0 t.1 (h.is_yes t.0 t.2) (k.is_yes t.1 t.3));
}

cut_found : (p : Word → Bool) (P : Word → Type 0) → Decides p P → (n : ℕ) (w : Word) → cuts n p w ≡ true → Pieces P w
cut_found p P h n [] e = ([], tt, refl)
cut_found p P h zero (t ∷ w) e = absurd (true≢false (sym e))
cut_found p P h (suc n) (t ∷ w) e =
    let s = split_found (λ a. p (t ∷ a)) (λ b. cuts n p b) w e in
    let r = cut_found p P h n s.1 s.3 in
    ((t ∷ s.0) ∷ r.0, (h.yes_is (t ∷ s.0) s.2, r.1), ap (λ x. t ∷ x) s.4 ∙ ap (λ x. t ∷ (s.0 ++ x)) r.2)

cut_finds : (p : Word → Bool) (P : Word → Type 0) → Decides p P → (ps : List Word) (n : ℕ) → AllByRecursion P ps → length (joined ps) ≤ n → cuts n p (joined ps) ≡ true
cut_finds p P h [] zero all l = refl
cut_finds p P h [] (suc n) all l = refl
cut_finds p P h ([] ∷ ps) n all l = cut_finds p P h ps n all.1 l
cut_finds p P h ((t ∷ a) ∷ ps) zero all l = absurd (omega arith)
cut_finds p P h ((t ∷ a) ∷ ps) (suc n) all l =
    split_finds (λ a. p (t ∷ a)) (λ b. cuts n p b) a (joined ps) (h.is_yes (t ∷ a) all.0)
    (cut_finds p P h ps n all.1 (omega (arith, length-append a (joined ps))))

says_pieces : (p : Word → Bool) (P : Word → Type 0) → Decides p P → Decides (pieces p) (Pieces P)
says_pieces p P h = record {
  yes_is = λ w e. cut_found p P h (length w) w e;
  is_yes = λ w k. subst (λ x. pieces p x ≡ true) (sym k.2) (cut_finds p P h k.0 (length (joined k.0)) k.1 (omega arith));
}

says_any_word : Decides (λ v. true) AnyWord
says_any_word = record { yes_is = λ w e. tt; is_yes = λ w k. refl }

nothing_is : (w : Word) → is_nothing w ≡ true → w ≡ []
nothing_is [] e = refl
nothing_is (t ∷ w) e = absurd (true≢false (sym e))

label_is : (t : List ℕ) (w : Word) → is_one (bytes_eq t) w ≡ true → w ≡ t ∷ []
label_is t [] e = absurd (true≢false (sym e))
label_is t (r ∷ []) e = ap (λ x. x ∷ []) (sym ((bytes_eq-Decides t r).0 e))
label_is t (r ∷ q ∷ w) e = absurd (true≢false (sym e))

any_is : (w : Word) → is_one (λ t. true) w ≡ true → (t : List ℕ) × (w ≡ t ∷ [])
any_is [] e = absurd (true≢false (sym e))
any_is (r ∷ []) e = (r, refl)
any_is (r ∷ q ∷ w) e = absurd (true≢false (sym e))

says_either : (p q : Word → Bool) (P Q : Word → Type 0) → Decides p P → Decides q Q → Decides (λ w. p w || q w) (λ w. P w ⊎ Q w)
says_either p q P Q h k = record {
  yes_is = λ w e. elim (or_cases (p w) (q w) e) [ inl a ↦ inl (h.yes_is w a) | inr b ↦ inr (k.yes_is w b) ];
  is_yes = λ w t. elim t [ inl a ↦ or_left (p w) (q w) (h.is_yes w a) | inr b ↦ or_right (p w) (q w) (k.is_yes w b) ];
}

mutual
  pub says : (e : Expr) → Decides (matches e) (Matches e)
  says (only s) = says_seq s
  says (or s e) = says_either (seq_matches s) (matches e) (MatchesSeq s) (Matches e) (says_seq s) (says e)

  pub says_seq : (s : Seq) → Decides (seq_matches s) (MatchesSeq s)
  says_seq (last i) = says_item i
  says_seq (then i child s) = says_then (item_matches i) (seq_matches s) (MatchesItem i) (MatchesSeq s) (says_item i) (says_seq s)
  says_seq (then i below s) =
      says_then (item_matches i) (splits (λ v. true) (seq_matches s)) (MatchesItem i) (Then AnyWord (MatchesSeq s)) (says_item i)
      (says_then (λ v. true) (seq_matches s) AnyWord (MatchesSeq s) says_any_word (says_seq s))

  pub says_item : (i : Item) → Decides (item_matches i) (MatchesItem i)
  says_item (once a) = says_atom a
  says_item (signed a star) = says_pieces (atom_matches a) (MatchesAtom a) (says_atom a)
  says_item (signed a plus) =
      says_then (atom_matches a) (pieces (atom_matches a)) (MatchesAtom a) (Pieces (MatchesAtom a)) (says_atom a)
      (says_pieces (atom_matches a) (MatchesAtom a) (says_atom a))
  says_item (signed a opt) =
      says_either is_nothing (atom_matches a) (λ w. w ≡ []) (MatchesAtom a)
      (record { yes_is = nothing_is; is_yes = λ w e. ap is_nothing e }) (says_atom a)

  says_atom : (a : Atom) → Decides (atom_matches a) (MatchesAtom a)
  says_atom (label t) = record { yes_is = label_is t; is_yes = λ w e. ap (is_one (bytes_eq t)) e ∙ (bytes_eq-Decides t t).1 refl }
  says_atom any = record { yes_is = any_is; is_yes = λ w k. ap (is_one (λ t. true)) k.1 }
  says_atom (group e) = says e
