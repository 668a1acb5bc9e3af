use Rattle.round_refinement.proofs.watches.Watches.trim.Goals as goal

pub returns-then-len-most : goal.returns-then-len-most
returns-then-len-most c = λ edge block w. c.forget.ensures edge block
