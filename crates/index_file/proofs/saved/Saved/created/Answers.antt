use Rattle.std.proofs.Common.{◌≡◌, ◌<◌, ℕ, length, ap, sym, subst, ◌∙◌, arith}
use Rattle.graph_spec.specs.Graphs.{IsGraph}
use Rattle.graph_spec.specs.Shapes.{shape_of}
use Rattle.label_graph.specs.GraphViews.{numbered_shape}
use Rattle.label_graph.proofs.Viewed.{viewed_shape}
use Rattle.bisim_spec.specs.Partitions.{IsPartition}
use Rattle.index_file.specs.SavedFiles.{SavedFile}
use Rattle.index_file.specs.SavedGraphs.{blocks_at}
use Rattle.index_file.proofs.SavedViewLaws.{lists_told, partitions_told}
use Rattle.index_file.proofs.saved.Saved.created.Goals as goal

pub to_u32-requires : goal.to_u32-requires
to_u32-requires c = (let few = c.self.invariant.few_nodes in let count = c.len.ensures in omega (arith, few, count))

pub returns-clause-size : goal.returns-clause-size
returns-clause-size c = c.to_u32.ensures ∙ c.len.ensures ∙ ap (λ (f : SavedFile). length f.graph.allocated) c.self.view_is

pub returns-clause-graph : goal.returns-clause-graph
returns-clause-graph c = subst (λ (f : SavedFile). IsGraph f.graph) c.self.view_is c.self.invariant.graph

pub returns-clause-shape : goal.returns-clause-shape
returns-clause-shape c = subst (λ (f : SavedFile). numbered_shape f.graph ≡ shape_of f.graph) c.self.view_is (viewed_shape _ c.self.invariant.graph)

pub returns-clause-lists : goal.returns-clause-lists
returns-clause-lists c =
    let s = c.self.inside in
    let size = sym (c.to_u32.ensures ∙ c.len.ensures) in
    subst (λ (f : SavedFile). (j : ℕ) → j < length f.views → length (blocks_at f j) ≡ c.to_u32.result) c.self.view_is
    (λ j h. lists_told s.nodes s.children s.parents s.k s.views s.places.items c.self.invariant j h ∙ size)

pub returns-clause-partitions : goal.returns-clause-partitions
returns-clause-partitions c =
    let s = c.self.inside in
    subst (λ (f : SavedFile). (j : ℕ) → j < length f.views → IsPartition (shape_of f.graph) (blocks_at f j)) c.self.view_is
    (partitions_told s.nodes s.children s.parents s.k s.views s.places.items c.self.invariant)
