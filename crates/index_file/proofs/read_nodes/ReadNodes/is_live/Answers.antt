use Rattle.std.proofs.Common.{◌∙◌, ap, sym}
use Rattle.std.specs.Prelude.{is_some}
use Rattle.graph_spec.specs.Members.{at}
use Rattle.index_file.proofs.ReadNodeLaws.{live_told}
use Rattle.index_file.proofs.read_nodes.ReadNodes.is_live.Goals as goal

pub returns : goal.returns
returns c =
    let s = c.self.inside in
    rw (← c.self.view_is)
    (c.is_some.ensures ∙ ap is_some (c.label_at.ensures ∙ ap (λ xs. at xs c.args.n) c.deref.ensures.value) ∙ sym (live_told s.labels s.numbers.items c.args.n c.self.invariant.below))
