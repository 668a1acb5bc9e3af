use Rattle.std.proofs.Common.{sym, subst}
use Rattle.std.specs.Prelude.{OnOk}
use Rattle.index_file.specs.Reads.{IsTaken, ExceedsAt, IsWrong}
use Rattle.index_file.proofs.draft.Draft.take_node.Goals as goal

pub returns-in-Some-clause-taken : goal.returns-in-Some-clause-taken
returns-in-Some-clause-taken c =
    subst (λ l. OnOk c.take_live.result (IsTaken c.args.limits.now l c.args.self.now c.take_live.new.self)) (sym c.in-Some.ensures.found) c.take_live.ensures.taken

pub returns-in-Some-clause-over : goal.returns-in-Some-clause-over
returns-in-Some-clause-over c = λ h. subst (λ l. ExceedsAt c.args.limits.now l c.args.self.now) (sym c.in-Some.ensures.found) (c.take_live.ensures.over h)

pub returns-in-Some-clause-wrong : goal.returns-in-Some-clause-wrong
returns-in-Some-clause-wrong c = λ h. subst (λ l. IsWrong c.args.limits.now l c.args.self.now) (sym c.in-Some.ensures.found) (c.take_live.ensures.wrong h)
