use Rattle.std.proofs.Common.{◌∙◌, ap, sym}
use Rattle.std.specs.Prelude.{bytes_eq, position}
use Rattle.label_graph.proofs.Tables.{entries-of}
use Rattle.label_graph.proofs.labels.Labels.entry.Goals as goal

pub returns-in_err-at : goal.returns-in_err-at
returns-in_err-at c =
    let s = c.self.inside in
    rw (c.from_residual.ensures, ← c.self.view_is)
    (sym (ap (position (bytes_eq c.args.t.now)) (entries-of s.table.keys s.effective) ∙ sym c.get_index_of.ensures.index ∙ c.in_err-at.was))

pub returns : goal.returns
returns c =
    let s = c.self.inside in
    rw (← c.self.view_is)
    (sym (ap (position (bytes_eq c.args.t.now)) (entries-of s.table.keys s.effective) ∙ sym c.get_index_of.ensures.index ∙ c.in_ok-at.was))
