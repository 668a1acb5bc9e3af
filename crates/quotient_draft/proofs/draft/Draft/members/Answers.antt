use Rattle.std.proofs.Common.{[], subst, unwrap_or}
use Rattle.graph_spec.specs.Members.{Lists, at, is_this}
use Rattle.quotient_draft.specs.Drafts.{Drafted, with_moves}
use Rattle.quotient_draft.specs.ShownMembers.{members_left}
use Rattle.quotient_draft.proofs.ShownMembers.{members_listed}
use Rattle.quotient_draft.proofs.draft.Draft.members.Goals as goal

pub returns : goal.returns
returns c =
    let block = c.args.base.now.blocks.block_of in
    let moves = c.self.inside.moves.moves in
    let b = c.args.b in
    record {
      members =
          subst (λ (d : Drafted). Lists (λ n. is_this b (at (with_moves block d.moves) n)) (members_left moves b c.base_members.result c.nodes.result.now)) c.self.view_is
          (members_listed block moves b (unwrap_or c.base_members.result []) c.nodes.result.now c.base_members.ensures c.nodes.ensures.nodes c.nodes.ensures.once);
    }
