use Rattle.index_file.proofs.WordLaws.{prefix_found, prefix_none}
use Rattle.index_file.proofs.numbers.number_behind.Goals as goal

pub returns-in_err-digits-clause-none : goal.returns-in_err-digits-clause-none
returns-in_err-digits-clause-none c = rw c.from_residual.ensures (λ n h. c.in_err-digits.ensures.none h.0 h.1)

pub returns-in_err-n-clause-none : goal.returns-in_err-n-clause-none
returns-in_err-n-clause-none c = rw c.from_residual-in_err-n.ensures (
    prefix_none c.args.word.now c.args.line.now c.in_ok-digits.digits.now c.in_ok-digits.ensures.found c.in_err-n.ensures.none)

pub returns-clause-found : goal.returns-clause-found
returns-clause-found c =
    prefix_found c.args.word.now c.args.line.now c.in_ok-digits.digits.now c.in_ok-n.n c.in_ok-digits.ensures.found c.in_ok-n.ensures.found
