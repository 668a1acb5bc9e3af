use Rattle.std.proofs.Common.{sym, subst}
use Rattle.index_file.specs.ReadLabels.{AreReadLabels, IsNumbered}
use Rattle.index_file.proofs.ReadLabelLaws.{numbered_hinted}
use Rattle.index_file.proofs.read_labels.ReadLabels.number.Goals as goal

pub returns-then-is_at-clause-ok : goal.returns-then-is_at-clause-ok
returns-then-is_at-clause-ok c =
    numbered_hinted c.args.word.now c.args.most c.args.self.now c.get-hinted.result (subst AreReadLabels c.self.view_is c.self.invariant) (c.is_at.ensures c.if-is_at.true)

pub returns-in-Ok-clause-ok : goal.returns-in-Ok-clause-ok
returns-in-Ok-clause-ok c = subst (λ s. IsNumbered c.args.word.now c.args.most c.args.self.now s c.in-Ok.l) (sym c.keep.ensures) c.in-Ok.ensures.ok
