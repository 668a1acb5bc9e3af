use Rattle.std.proofs.Common.{true≢false, refl, ◌∙◌, [], ◌∷◌, sym, ap}
use Rattle.graph_spec.specs.Words.{node_word}
use Rattle.script_read.proofs.WordLemmas.{head_word, words-cons, node_some}
use Rattle.script_read.proofs.nodes.two_nodes.Goals as goal

pub returns-then-is_over-clause-found : goal.returns-then-is_over-clause-found
returns-then-is_over-clause-found c =
    let u = c.in_ok-from.ensures.found in
    let v = c.in_ok-to.ensures.found in
    let second = words-cons _ _ _ _ c.split_word-2.ensures.parts (node_some _ _ v) (c.if-is_over.ensures.0 refl) in
    words-cons _ _ _ _ c.split_word.ensures.parts (node_some _ _ u) second ∙ (ap (λ w. w ∷ c.split_word-2.result.0.now ∷ []) u ∙ ap (λ w. node_word c.in_ok-from.from ∷ w ∷ []) v)

pub returns-else-is_over-clause-absent : goal.returns-else-is_over-clause-absent
returns-else-is_over-clause-absent c u v l m e =
    let a = head_word _ _ _ _ _ c.split_word.ensures.parts e in
    let b = head_word _ _ _ _ _ c.split_word-2.ensures.parts a.1 in
    true≢false (sym (c.if-is_over.ensures.1 b.1))

pub returns-in_err-from-clause-absent : goal.returns-in_err-from-clause-absent
returns-in_err-from-clause-absent c = rw c.from_residual.ensures (λ u v l m e.
    let a = head_word _ _ _ _ _ c.split_word.ensures.parts e in
    c.in_err-from.ensures.absent u l a.0)

pub returns-in_err-to-clause-absent : goal.returns-in_err-to-clause-absent
returns-in_err-to-clause-absent c = rw c.from_residual-in_err-to.ensures (λ u v l m e.
    let a = head_word _ _ _ _ _ c.split_word.ensures.parts e in
    let b = head_word _ _ _ _ _ c.split_word-2.ensures.parts a.1 in
    c.in_err-to.ensures.absent v m b.0)
