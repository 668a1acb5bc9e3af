use Rattle.std.proofs.Common.{refl, sym, subst}
use Rattle.pathindex_calls.specs.Calls.{ObeysCall}
use Rattle.pathindex_calls.proofs.calls.obey.Goals as goal

pub returns-in-Node : goal.returns-in-Node
returns-in-Node c =
    subst (λ call. ObeysCall call c.args.text.now c.args.session.now c.args.group.now c.take_node.new.session c.take_node.new.group c.take_node.result) (sym c.in-Node.is) c.take_node.ensures

pub returns-in-Relabel : goal.returns-in-Relabel
returns-in-Relabel c =
    subst (λ call. ObeysCall call c.args.text.now c.args.session.now c.args.group.now c.take_relabel.new.session c.take_relabel.new.group c.take_relabel.result) (sym c.in-Relabel.is) c.take_relabel.ensures

pub returns-in-Insert : goal.returns-in-Insert
returns-in-Insert c =
    subst (λ call. ObeysCall call c.args.text.now c.args.session.now c.args.group.now c.insert.new.session c.args.group.now c.insert.result) (sym c.in-Insert.is) (refl, c.insert.ensures)

pub returns-in-Delete : goal.returns-in-Delete
returns-in-Delete c =
    subst (λ call. ObeysCall call c.args.text.now c.args.session.now c.args.group.now c.delete.new.session c.args.group.now c.delete.result) (sym c.in-Delete.is) (refl, c.delete.ensures)
