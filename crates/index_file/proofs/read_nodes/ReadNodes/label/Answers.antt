use Rattle.std.proofs.Common.{◌∙◌, ap}
use Rattle.graph_spec.specs.Members.{at}
use Rattle.index_file.proofs.SavedViewLaws.{label_told}
use Rattle.index_file.proofs.read_nodes.ReadNodes.label.Goals as goal

pub returns : goal.returns
returns c =
    let s = c.self.inside in
    rw (← c.self.view_is)
    (c.label_at.ensures ∙ ap (λ xs. at xs c.args.n) c.deref.ensures.value ∙ label_told s.labels s.numbers.items s.live c.args.n c.self.invariant)
