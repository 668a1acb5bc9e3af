use Rattle.index_file.proofs.WordLaws.{pair_found, pair_none}
use Rattle.index_file.proofs.numbers.two_numbers_behind.Goals as goal

pub returns-in_err-rest-clause-none : goal.returns-in_err-rest-clause-none
returns-in_err-rest-clause-none c = rw c.from_residual.ensures (λ n m h. c.in_err-rest.ensures.none h.0 h.1)

pub returns-in_err-pair-clause-none : goal.returns-in_err-pair-clause-none
returns-in_err-pair-clause-none c = rw c.from_residual-in_err-pair.ensures (
    pair_none c.args.word.now c.args.between.now c.args.line.now c.in_ok-rest.rest.now c.in_ok-rest.ensures.found c.in_err-pair.ensures.none)

pub returns-clause-found : goal.returns-clause-found
returns-clause-found c =
    pair_found c.args.word.now c.args.between.now c.args.line.now c.in_ok-rest.rest.now c.in_ok-pair.pair c.in_ok-rest.ensures.found c.in_ok-pair.ensures.found
