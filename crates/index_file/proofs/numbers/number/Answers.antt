use Rattle.std.proofs.Common.{sym, ◌∙◌}
use Rattle.index_file.proofs.DecimalLaws.{number_front, found_whole, no_more}
use Rattle.index_file.proofs.numbers.number.Goals as goal

pub returns-in_err-n-clause-none : goal.returns-in_err-n-clause-none
returns-in_err-n-clause-none c = rw c.from_residual.ensures (λ n p. c.in_err-n.ensures.none n (number_front c.args.digits.now n p).1)

pub returns-then-is_empty-clause-found : goal.returns-then-is_empty-clause-found
returns-then-is_empty-clause-found c =
    found_whole c.args.digits.now c.in_ok-n.rest.now c.in_ok-n.n c.in_ok-n.ensures.found.0 c.in_ok-n.ensures.found.1 (sym c.is_empty.ensures ∙ c.if-is_empty.true)

pub returns-else-is_empty-clause-none : goal.returns-else-is_empty-clause-none
returns-else-is_empty-clause-none c = λ n.
    no_more c.args.digits.now c.in_ok-n.rest.now n c.in_ok-n.ensures.found.1 (sym c.is_empty.ensures ∙ c.if-is_empty.false)
