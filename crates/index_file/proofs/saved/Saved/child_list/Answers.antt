use Rattle.std.proofs.Common.{IsSome, sym, subst, arith}
use Rattle.graph_spec.specs.Members.{Lists}
use Rattle.label_graph.specs.GraphViews.{label_number, is_linked}
use Rattle.label_graph.specs.ViewLaws.{below_span}
use Rattle.adjacency.specs.Rows.{edges_in}
use Rattle.index_file.specs.SavedFiles.{SavedFile, graph_of}
use Rattle.index_file.proofs.SavedViewLaws.{child_list}
use Rattle.index_file.proofs.saved.Saved.child_list.Goals as goal

pub neighbours-requires : goal.neighbours-requires
neighbours-requires c =
    let s = c.self.inside in
    let some = subst (λ (f : SavedFile). IsSome (label_number f.graph c.args.n)) (sym c.self.view_is) c.requires in
    let below = below_span (graph_of s.nodes (edges_in 0 s.children)) c.args.n some in
    let all = c.self.invariant.neighbours.children_all in
    omega (arith, below, all)

pub returns : goal.returns
returns c =
    let s = c.self.inside in
    let g = graph_of s.nodes (edges_in 0 s.children) in
    let some = subst (λ (f : SavedFile). IsSome (label_number f.graph c.args.n)) (sym c.self.view_is) c.requires in
    let list = child_list g s.children s.parents c.args.n c.self.invariant.graph c.self.invariant.neighbours (below_span g c.args.n some) in
    subst (λ (f : SavedFile). Lists (is_linked f.graph c.args.n) c.neighbours.result.now) c.self.view_is
    (subst (Lists (is_linked g c.args.n)) (sym c.neighbours.ensures) list)
