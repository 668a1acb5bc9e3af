use Rattle.std.proofs.Common.{◌≡◌, subst, unwrap_or}
use Rattle.std.specs.Prelude.{nat_eq}
use Rattle.std.specs.Map.{lookup}
use Rattle.graph_spec.specs.Members.{at}
use Rattle.quotient_draft.specs.Drafts.{with_moves}
use Rattle.quotient_draft.specs.MoveTables.{KeptMoves}
use Rattle.quotient_draft.proofs.DraftedMoves.{at_moves}
use Rattle.quotient_draft.proofs.moves.Moves.know_lookups.Goals as goal

pub returns : goal.returns
returns c = λ block n.
    subst (λ (k : KeptMoves). at (with_moves block k.moves) n ≡ unwrap_or (lookup (nat_eq n) k.moves) (at block n)) c.self.view_is (at_moves block c.self.inside.moves.entries n c.self.invariant.once)
