use Rattle.std.proofs.Common.{sym, ◌∙◌, true≢false}
use Rattle.std.proofs.lemmas.Bool.Decides.{Decides-eqb}
use Rattle.one_merge.proofs.MergePairLaws.{other_label, same_label}
use Rattle.one_merge.proofs.finding.is_labelled.Goals as goal

pub returns-then-is_block : goal.returns-then-is_block
returns-then-is_block c = record {
  yes = λ on.
      same_label c.args.base.now.blocks.labels c.args.draft.now.added c.args.b c.label.result c.args.label c.requires.over.least c.label.ensures
      ((Decides-eqb c.label.result c.args.label).0 on);
  no = λ off.
      other_label c.args.base.now.blocks.labels c.args.draft.now.added c.args.b c.label.result c.args.label c.requires.over.least c.label.ensures
      (λ same. true≢false (sym ((Decides-eqb c.label.result c.args.label).1 same) ∙ off));
}
