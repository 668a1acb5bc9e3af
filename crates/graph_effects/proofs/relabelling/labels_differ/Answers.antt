use Rattle.std.proofs.Common.{◌≡◌, sym, subst, true}
use Rattle.std.specs.Prelude.{slice_get}
use Rattle.graph_spec.specs.Graphs.{Graph, is_live, label_of}
use Rattle.graph_effects.proofs.Relabelled.{by_numbers}
use Rattle.graph_effects.proofs.relabelling.labels_differ.Goals as goal

pub returns : goal.returns
returns c =
    let a = c.args.after.now in
    by_numbers a.change a.before c.args.n c.label.result c.label-2.result c.created-known.ensures.after
    (subst (λ (g : Graph). is_live g c.args.n ≡ true) (sym c.requires.graph) c.requires.before) c.requires.after
    (subst (λ (g : Graph). slice_get g.seen c.label.result ≡ label_of g c.args.n) (sym c.requires.graph) c.label.ensures.text) c.label-2.ensures.text c.label-2.ensures.number
