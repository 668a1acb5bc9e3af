-- A text gives one outcome at most.
use Rattle.std.proofs.Common.{◌≡◌, ℕ, List, [], ◌∷◌, Some, true≢false, refl, sym, ap, ◌∙◌, subst, inl, inr}
use Rattle.graph_spec.specs.declared.limits.Limits.{Limits}
use Rattle.graph_spec.specs.Lines.{Line, cut}
use Rattle.index_file.specs.Readings.{Reading, next_reading, exceeds}
use Rattle.index_file.specs.Reads.{ReadOutcome, ReadPlace, read_past, IsTaken, ExceedsAt, IsWrong, ReadsLine, takes, over, wrong, EndsFile, complete, early, ReadsFrom, Reads, read_start}
use Rattle.index_file.proofs.OneStatement.{one_statement}

some_one : (a b : Reading) → Some a ≡ Some b → a ≡ b
some_one a b e = cc

module _ (limits : Limits) (line : List ℕ) (old : Reading) where
  one_reading : (a b : Reading) → IsTaken limits line old a → IsTaken limits line old b → a ≡ b
  one_reading a b t u =
      some_one a b (sym t.next ∙ ap (λ s. next_reading s old) (one_statement line t.statement u.statement t.says u.says) ∙ u.next)

  taken_not_over : (a : Reading) → IsTaken limits line old a → ExceedsAt limits line old → ⊥
  taken_not_over a t u =
      true≢false (sym u.over ∙ ap (λ s. exceeds limits s old) (one_statement line u.statement t.statement u.says t.says) ∙ t.within)

  taken_not_wrong : (a : Reading) → IsTaken limits line old a → IsWrong limits line old → ⊥
  taken_not_wrong a t u = (let none = (u t.statement t.says).1 in let some = t.next in absurd (cc))

  over_not_wrong : ExceedsAt limits line old → IsWrong limits line old → ⊥
  over_not_wrong t u = true≢false (sym t.over ∙ (u t.statement t.says).0)

module _ (limits : Limits) (p : ReadPlace) (l : Line) (rest : ReadPlace → ReadOutcome → Type 0) (one : (q : ReadPlace) (a b : ReadOutcome) → rest q a → rest q b → a ≡ b) where
  one_taken : (a b : ReadOutcome) → ReadsLine limits p l rest a → ReadsLine limits p l rest b → a ≡ b
  one_taken _ _ (takes r t a h) (takes s u b k) =
      one (read_past p l s) a b (subst (λ x. rest (read_past p l x) a) (one_reading limits l.text p.reading r s t u) h) k
  one_taken _ _ (takes r t a h) (over u) = absurd (taken_not_over limits l.text p.reading r t u)
  one_taken _ _ (takes r t a h) (wrong u) = absurd (taken_not_wrong limits l.text p.reading r t u)
  one_taken _ _ (over t) (takes s u b k) = absurd (taken_not_over limits l.text p.reading s u t)
  one_taken _ _ (over t) (over u) = refl
  one_taken _ _ (over t) (wrong u) = absurd (over_not_wrong limits l.text p.reading t u)
  one_taken _ _ (wrong t) (takes s u b k) = absurd (taken_not_wrong limits l.text p.reading s u t)
  one_taken _ _ (wrong t) (over u) = absurd (over_not_wrong limits l.text p.reading u t)
  one_taken _ _ (wrong t) (wrong u) = refl

one_end : (p : ReadPlace) (a b : ReadOutcome) → EndsFile p a → EndsFile p b → a ≡ b
one_end p _ _ (complete h) (complete k) = refl
one_end p _ _ (complete h) (early k) = absurd (true≢false (sym h ∙ k))
one_end p _ _ (early h) (complete k) = absurd (true≢false (sym k ∙ h))
one_end p _ _ (early h) (early k) = refl

one_from : (limits : Limits) (ls : List Line) (p : ReadPlace) (a b : ReadOutcome) → ReadsFrom limits ls p a → ReadsFrom limits ls p b → a ≡ b
one_from limits [] p a b h k = one_end p a b h k
one_from limits (l ∷ ls) p a b (inl (past_it, is)) (inl (past_it2, is2)) = is ∙ sym is2
one_from limits (l ∷ ls) p a b (inl (past_it, is)) (inr (within, h)) = absurd (past_it within)
one_from limits (l ∷ ls) p a b (inr (within, h)) (inl (past_it, is)) = absurd (past_it within)
one_from limits (l ∷ ls) p a b (inr (within, h)) (inr (within2, k)) = one_taken limits p l (ReadsFrom limits ls) (one_from limits ls) a b h k

-- a text gives at most one outcome
pub one_outcome : (limits : Limits) (text : List ℕ) (a b : ReadOutcome) → Reads limits text a → Reads limits text b → a ≡ b
one_outcome limits text = one_from limits (cut text) read_start
