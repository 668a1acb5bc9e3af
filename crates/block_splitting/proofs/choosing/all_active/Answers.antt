use Rattle.block_splitting.proofs.Choices.{all_from_members, one_from_members}
use Rattle.std.proofs.Common.{sym, ◌∙◌}
use Rattle.block_splitting.proofs.choosing.all_active.Goals as goal

pub returns : goal.returns
returns c = record {
  all = λ t. all_from_members _ _ _ _ c.members-members.ensures (sym t ∙ c.all_contained.ensures);
  one = λ f. one_from_members _ _ _ _ c.members-members.ensures (sym f ∙ c.all_contained.ensures);
}
