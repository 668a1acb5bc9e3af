use Rattle.std.proofs.Common.{◌≡◌, ◌∙◌, ◌∷◌, [], ℕ, List, Some, ap}
use Rattle.std.specs.FinSet as set
use Rattle.graph_spec.specs.Graphs.{Graph}
use Rattle.change_spec.specs.Steps.{Step, node, after}
use Rattle.bisim_spec.specs.IndexGraphs.{support_at}
use Rattle.graph_update.specs.PendingChanges.{Pending, graph_after}
use Rattle.quotient_draft.specs.Drafts.{Drafted, shown_blocks, shown_support, with_supports}
use Rattle.quotient_moves.proofs.OneNodeGraphs.{alone, unsupported}
use Rattle.quotient_moves.proofs.tests.check_move.Goals as goal

pub move_node-requires-clause-partition : goal.move_node-requires-clause-partition
move_node-requires-clause-partition g c =
    let q = c.args.base.now in
    let t = c.requires.comes.0 in
    let allocated : (graph_after c.new-after.result).allocated ≡ Some t ∷ [] =
    ap (λ (p : Pending). (graph_after p).allocated) c.new-after.ensures.pending ∙ ap (λ (ch : List Step). (after ch c.args.graph.now.graph).allocated) c.requires.comes.1
    ∙ ap (λ (h : Graph). (after (node t ∷ []) h).allocated) c.requires.none in
    alone (graph_after c.new-after.result) t 0 (shown_blocks q c.in_ok-draft.draft) (shown_blocks q c.put.new.self) allocated
    (ap (λ (d : Drafted). shown_blocks q d) c.in_ok-draft.ensures.empty ∙ c.requires.blocks) c.in_ok-put.ensures.blocks

pub move_node-requires-clause-supports : goal.move_node-requires-clause-supports
move_node-requires-clause-supports g c =
    let q = c.args.base.now in
    let t = c.requires.comes.0 in
    let edges : (graph_after c.new-after.result).edges ≡ set.empty =
    ap (λ (p : Pending). (graph_after p).edges) c.new-after.ensures.pending ∙ ap (λ (ch : List Step). (after ch c.args.graph.now.graph).edges) c.requires.comes.1
    ∙ ap (λ (h : Graph). (after (node t ∷ []) h).edges) c.requires.none in
    unsupported (graph_after c.new-after.result) [] (shown_blocks q c.put.new.self) (shown_support q c.put.new.self) edges
    (λ x y. ap (λ (es : List ((ℕ × ℕ) × ℕ)). support_at (with_supports q.supports es) x y) (c.in_ok-put.ensures.supports ∙ ap (λ (d : Drafted). d.supports) c.in_ok-draft.ensures.empty) ∙ c.requires.supports x y)
