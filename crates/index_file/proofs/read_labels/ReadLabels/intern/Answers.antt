use Rattle.std.proofs.Common.{sym, ◌∙◌, refl}
use Rattle.std.specs.Prelude.{bytes_eq}
use Rattle.label_graph.proofs.Positions.{position-none}
use Rattle.index_file.proofs.ReadLabelLaws.{interned_old}
use Rattle.index_file.proofs.read_labels.ReadLabels.intern.Goals as goal

pub put_within-requires-clause-unseen : goal.put_within-requires-clause-unseen
put_within-requires-clause-unseen c = position-none (bytes_eq c.args.label) c.args.self.now (sym c.find.ensures ∙ c.in-None.is)

pub returns-in-Some-clause-ok : goal.returns-in-Some-clause-ok
returns-in-Some-clause-ok c = record {
  label = c.args.label;
  spelled = c.requires.spells;
  interned = interned_old c.args.label c.args.most c.args.self.now c.args.self.now c.in-Some.l (sym c.find.ensures ∙ c.in-Some.is) refl;
}
