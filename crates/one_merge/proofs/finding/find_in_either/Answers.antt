use Rattle.std.proofs.Common.{rules}
use Rattle.one_merge.specs.ShownMerges.{AreShownNotMergeable}
use Rattle.one_merge.proofs.MergePairLaws.{none_either}
use Rattle.one_merge.proofs.finding.find_in_either.Goals as goal

pub returns-in-None-clause-none : goal.returns-in-None-clause-none
returns-in-None-clause-none c =
    none_either c.find_among.result c.find_among-in-None.result (AreShownNotMergeable c.args.base.now c.args.draft.now c.args.a) c.args.list.now c.args.others.now
    (search rules) c.find_among.ensures.none c.find_among-in-None.ensures.none
