use Rattle.std.proofs.Common.{refl}
use Rattle.index_file.specs.FoundNumbers.{digits_ahead, after_digits}
use Rattle.index_file.proofs.WordLaws.{no_numbers, found_numbers, second_is}
use Rattle.index_file.proofs.numbers.two_numbers.Goals as goal

pub returns-in_err-n-clause-none : goal.returns-in_err-n-clause-none
returns-in_err-n-clause-none c = rw c.from_residual.ensures (
    no_numbers c.args.text.now c.args.word.now (digits_ahead c.args.text.now) (after_digits c.args.text.now) c.requires.space.0 _ c.requires.space.1 refl refl refl
    (λ b n m e p q. c.in_err-n.ensures.none n p))

pub returns-in_err-second-clause-none : goal.returns-in_err-second-clause-none
returns-in_err-second-clause-none c = rw c.from_residual-in_err-second.ensures (
    no_numbers c.args.text.now c.args.word.now (digits_ahead c.args.text.now) c.in_ok-n.rest.now c.requires.space.0 _ c.requires.space.1 refl refl c.in_ok-n.ensures.found.1
    (λ b n m e p q. c.in_err-second.ensures.none b e))

pub returns-in_err-m-clause-none : goal.returns-in_err-m-clause-none
returns-in_err-m-clause-none c = rw c.from_residual-in_err-m.ensures (
    no_numbers c.args.text.now c.args.word.now (digits_ahead c.args.text.now) c.in_ok-n.rest.now c.requires.space.0 _ c.requires.space.1 refl refl c.in_ok-n.ensures.found.1
    (λ b n m e p q. c.in_err-m.ensures.none m (second_is c.args.word.now b c.in_ok-second.second.now c.in_ok-n.rest.now m e c.in_ok-second.ensures.found q)))

pub returns-clause-found : goal.returns-clause-found
returns-clause-found c =
    found_numbers c.args.text.now c.args.word.now (digits_ahead c.args.text.now) c.in_ok-n.rest.now c.in_ok-second.second.now c.requires.space.0 _ c.in_ok-n.n c.in_ok-m.m
    c.requires.space.1 refl refl c.in_ok-n.ensures.found.1 c.in_ok-second.ensures.found c.in_ok-n.ensures.found.0 c.in_ok-m.ensures.found
