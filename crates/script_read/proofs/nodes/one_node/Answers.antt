use Rattle.std.proofs.Common.{true≢false, refl, ◌∙◌, [], ◌∷◌, sym, ap}
use Rattle.script_read.proofs.WordLemmas.{head_word, words-cons, node_some}
use Rattle.script_read.proofs.nodes.one_node.Goals as goal

pub returns-then-is_over-clause-found : goal.returns-then-is_over-clause-found
returns-then-is_over-clause-found c =
    let n = c.in_ok-node.ensures.found in
    words-cons _ _ _ _ c.split_word.ensures.parts (node_some _ _ n) (c.if-is_over.ensures.0 refl) ∙ ap (λ w. w ∷ []) n

pub returns-else-is_over-clause-absent : goal.returns-else-is_over-clause-absent
returns-else-is_over-clause-absent c u l e =
    let a = head_word _ _ _ _ _ c.split_word.ensures.parts e in
    true≢false (sym (c.if-is_over.ensures.1 a.1))

pub returns-in_err-node-clause-absent : goal.returns-in_err-node-clause-absent
returns-in_err-node-clause-absent c = rw c.from_residual.ensures (λ u l e.
    let a = head_word _ _ _ _ _ c.split_word.ensures.parts e in
    c.in_err-node.ensures.absent u l a.0)
