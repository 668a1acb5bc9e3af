use Rattle.std.proofs.Common.{◌≡◌, ◌∷◌, [], Some, slice_get, subst}
use Rattle.round_refinement.proofs.watches.Places.ask.Goals as goal

pub returns-in_ok-found-in-Some-clause-asked : goal.returns-in_ok-found-in-Some-clause-asked
returns-in_ok-found-in-Some-clause-asked c =
    c.in_ok-found-in-Some.ensures.asked c.args.n c.args.side
    (subst (λ s. slice_get c.args.self.now.keys c.in-Some.k ≡ Some (c.args.n ∷ s ∷ c.args.b ∷ [])) c.side_number.ensures c.in-Some.ensures.found) c.in-Some.ensures.distinct
