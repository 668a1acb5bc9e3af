use Rattle.std.proofs.Common.{◌∙◌, sym}
use Rattle.std.specs.Prelude.{bytes_eq}
use Rattle.label_graph.proofs.Positions.{position-take-some, position-take-late, position-take-none}
use Rattle.label_graph.proofs.Tables.{texts-distinct}
use Rattle.label_graph.proofs.labels.Labels.find.Goals as goal

pub returns-in_err-at-clause-place : goal.returns-in_err-at-clause-place
returns-in_err-at-clause-place c =
    rw (c.from_residual.ensures, ← c.self.view_is) (sym (position-take-none (bytes_eq c.args.t.now) c.self.inside.table.keys c.self.inside.effective (sym c.get_index_of.ensures.index ∙ c.in_err-at.was)))

pub returns-then-at-self-clause-place : goal.returns-then-at-self-clause-place
returns-then-at-self-clause-place c =
    rw (← c.self.view_is) (sym (position-take-some (bytes_eq c.args.t.now) c.self.inside.table.keys c.self.inside.effective _ (sym c.get_index_of.ensures.index ∙ c.in_ok-at.was) c.if-at-self.true))

pub returns-else-at-self-clause-place : goal.returns-else-at-self-clause-place
returns-else-at-self-clause-place c =
    rw (← c.self.view_is) (sym (position-take-late (bytes_eq c.args.t.now) c.self.inside.table.keys c.self.inside.effective _ (sym c.get_index_of.ensures.index ∙ c.in_ok-at.was) c.if-at-self.false))

pub returns-in_err-at-clause-distinct : goal.returns-in_err-at-clause-distinct
returns-in_err-at-clause-distinct c =
    rw (← c.self.view_is) (texts-distinct c.self.inside.effective c.self.inside.table.keys c.self.invariant.once)

pub returns-then-at-self-clause-distinct : goal.returns-then-at-self-clause-distinct
returns-then-at-self-clause-distinct c =
    rw (← c.self.view_is) (texts-distinct c.self.inside.effective c.self.inside.table.keys c.self.invariant.once)

pub returns-else-at-self-clause-distinct : goal.returns-else-at-self-clause-distinct
returns-else-at-self-clause-distinct c =
    rw (← c.self.view_is) (texts-distinct c.self.inside.effective c.self.inside.table.keys c.self.invariant.once)
