use Rattle.std.proofs.Common.{◌||◌, ◌∙◌, ℕ, List, ap}
use Rattle.graph_spec.specs.Members.{has}
use Rattle.quotient_draft.specs.PutLogs.{is_kept, is_moved_to}
use Rattle.quotient_draft.proofs.ListedMembers.{shown_members}
use Rattle.quotient_draft.proofs.moves.Moves.fill_members.Goals as goal

pub returns : goal.returns
returns c =
    let block = c.args.base.now.blocks.block_of in
    let moves = c.args.self.now.moves in
    let b = c.args.b in
    record {
      once = c.sort_dedup.ensures.once;
      members = λ n.
          c.sort_dedup.ensures.same n ∙ c.in_ok-push_moved.ensures.members n
          ∙ ap (λ t. t || is_moved_to moves b n) (c.in_ok-push_kept.ensures n ∙ ap (λ (xs : List ℕ). has xs n || is_kept block moves b n) c.clear.ensures.items)
          ∙ shown_members block moves b n c.push_moved.ensures.once;
    }
