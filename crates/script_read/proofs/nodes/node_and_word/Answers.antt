use Rattle.std.proofs.Common.{◌∙◌, [], ◌∷◌, ap}
use Rattle.script_read.proofs.WordLemmas.{head_word, words-cons, node_some}
use Rattle.script_read.proofs.nodes.node_and_word.Goals as goal

pub returns-clause-node : goal.returns-clause-node
returns-clause-node c =
    let n = c.in_ok-node.ensures.found in
    words-cons _ _ _ _ c.split_word.ensures.parts (node_some _ _ n) c.in_ok-word.ensures.found ∙ ap (λ w. w ∷ c.in_ok-word.word.now ∷ []) n

pub returns-in_err-node-clause-absent : goal.returns-in_err-node-clause-absent
returns-in_err-node-clause-absent c = rw c.from_residual.ensures (λ u w l e.
    let a = head_word _ _ _ _ _ c.split_word.ensures.parts e in
    c.in_err-node.ensures.absent u l a.0)

pub returns-in_err-word-clause-absent : goal.returns-in_err-word-clause-absent
returns-in_err-word-clause-absent c = rw c.from_residual-in_err-word.ensures (λ u w l e.
    let a = head_word _ _ _ _ _ c.split_word.ensures.parts e in
    c.in_err-word.ensures.absent w a.1)
