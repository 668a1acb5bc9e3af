use Rattle.std.proofs.Common.{◌≡◌, ◌-◌, ◌∙◌, length, ap, arith}
use Rattle.graph_spec.specs.Graphs.{Graph}
use Rattle.change_spec.proofs.StepGraphs.{applied_after}
use Rattle.pathindex_core.proofs.updates.nothing_added.Goals as goal

pub returns : goal.returns
returns c =
    let g = c.args.graph.now.graph in
    let same = applied_after c.args.change.now g g c.requires.same.0 c.created.ensures.graph c.requires.same.1 in
    let none : 0 ≡ length g.allocated - length g.allocated = omega arith in
    let added = none ∙ ap (λ (h : Graph). length h.allocated - length g.allocated) same.0 in
    λ i. record { first = c.created.ensures.count i; added = added i }
