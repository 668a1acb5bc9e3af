use Rattle.std.proofs.Common.{sym, ◌∙◌}
use Rattle.std.proofs.lemmas.Bool.Decides.{Decides-eqb}
use Rattle.quotient_draft.specs.Drafts.{shown_blocks}
use Rattle.one_split.proofs.Wholes.{only_member}
use Rattle.one_split.proofs.targets.is_apart.Goals as goal

pub returns-clause-alone : goal.returns-clause-alone
returns-clause-alone c = λ yes. only_member (shown_blocks c.args.base.now c.args.draft.now) c.args.target c.args.own c.requires.own (sym c.member_count.ensures.count ∙ (Decides-eqb c.member_count.result 1).0 yes)
