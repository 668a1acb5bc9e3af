-- A text loads to one outcome at most.
use Rattle.std.proofs.Common.{◌≡◌, ℕ, List, [], ◌∷◌, refl, sym, ap, ◌∙◌, subst, inl, inr}
use Rattle.graph_spec.specs.declared.limits.Limits.{Limits}
use Rattle.graph_spec.specs.Lines.{Line, cut}
use Rattle.triples_read.specs.declared.term.Triple.{Triple}
use Rattle.triples_read.specs.Lines.{SpellsTriple}
use Rattle.triples_read.proofs.OneTriple.{one_reading, spelled_not_empty}
use Rattle.graph_load.specs.TripleGraphs.{with_triple}
use Rattle.graph_load.specs.Loads.{Outcome, Ending, outcome_of, Place, past, LoadsLine, empty, takes, refuses, neither, LoadsFrom, Loads, at_start}
use Rattle.graph_load.proofs.ChangeLaws.{ok_is, not_both}

module _ (limits : Limits) (p : Place) (l : Line) where
  -- the triple of a line is loaded or refused in one way
  same_result : (t u : Triple) → SpellsTriple l.text t → SpellsTriple l.text u → with_triple limits t p.state ≡ with_triple limits u p.state
  same_result t u s r = ap (λ x. with_triple limits x p.state) (one_reading l.text t u s r)

  module _ (rest : Place → Ending → Type 0) (one : (q : Place) (a b : Ending) → rest q a → rest q b → a ≡ b) where
    one_taken : (a b : Ending) → LoadsLine limits p l rest a → LoadsLine limits p l rest b → a ≡ b
    one_taken _ _ (empty e a h) (empty f b k) = one (past p l p.state) a b h k
    one_taken _ _ (empty e a h) (takes t s m made b k) = absurd (spelled_not_empty l.text t s e)
    one_taken _ _ (empty e a h) (refuses t s r stop) = absurd (spelled_not_empty l.text t s e)
    one_taken _ _ (empty e a h) (neither nothing none) = absurd (none e)
    one_taken _ _ (takes t s m made a h) (empty e b k) = absurd (spelled_not_empty l.text t s e)
    one_taken _ _ (takes t s m made a h) (takes u r n done b k) =
        one (past p l n) a b (subst (λ x. rest (past p l x) a) (ok_is m n (sym made ∙ same_result t u s r ∙ done)) h) k
    one_taken _ _ (takes t s m made a h) (refuses u r x stop) = absurd (not_both x m (sym stop ∙ same_result u t r s ∙ made))
    one_taken _ _ (takes t s m made a h) (neither nothing none) = absurd (nothing t s)
    one_taken _ _ (refuses t s x stop) (empty e b k) = absurd (spelled_not_empty l.text t s e)
    one_taken _ _ (refuses t s x stop) (takes u r n done b k) = absurd (not_both x n (sym stop ∙ same_result t u s r ∙ done))
    one_taken _ _ (refuses t s x stop) (refuses u r y halt) = refl
    one_taken _ _ (refuses t s x stop) (neither nothing none) = absurd (nothing t s)
    one_taken _ _ (neither nothing none) (empty e b k) = absurd (none e)
    one_taken _ _ (neither nothing none) (takes u r n done b k) = absurd (nothing u r)
    one_taken _ _ (neither nothing none) (refuses u r y halt) = absurd (nothing u r)
    one_taken _ _ (neither nothing none) (neither nothing2 none2) = refl

one_from : (limits : Limits) (ls : List Line) (p : Place) (a b : Ending) → LoadsFrom limits ls p a → LoadsFrom limits ls p b → a ≡ b
one_from limits [] p a b h k = h ∙ sym k
one_from limits (l ∷ ls) p a b (inl (past_it, is)) (inl (past_it2, is2)) = is ∙ sym is2
one_from limits (l ∷ ls) p a b (inl (past_it, is)) (inr (within, h)) = absurd (past_it within)
one_from limits (l ∷ ls) p a b (inr (within, h)) (inl (past_it, is)) = absurd (past_it within)
one_from limits (l ∷ ls) p a b (inr (within, h)) (inr (within2, k)) = one_taken limits p l (LoadsFrom limits ls) (one_from limits ls) a b h k

-- a text loads to at most one outcome
pub one_outcome : (limits : Limits) (text : List ℕ) (a b : Outcome) → Loads limits text a → Loads limits text b → a ≡ b
one_outcome limits text a b h k = h.is ∙ ap outcome_of (one_from limits (cut text) at_start h.ending k.ending h.ends k.ends) ∙ sym k.is
