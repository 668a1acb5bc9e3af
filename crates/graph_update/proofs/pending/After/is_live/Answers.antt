use Rattle.std.proofs.Common.{◌∙◌, ap, sym}
use Rattle.std.specs.Prelude.{◌&&◌, ◌||◌, not}
use Rattle.graph_spec.specs.Graphs.{is_live}
use Rattle.change_spec.specs.Steps.{after}
use Rattle.change_spec.specs.Named.{is_dropped}
use Rattle.graph_update.specs.PendingChanges.{Pending, graph_after, is_added}
use Rattle.graph_update.proofs.PendingLaws.{live_is}
use Rattle.graph_update.proofs.pending.After.is_live.Goals as goal

pub returns : goal.returns
returns c =
    let g = c.self.inside.graph.now.graph in
    let steps = c.self.inside.change.now in
    let n = c.args.n in
    let added = c.is_added.ensures ∙ ap (λ (p : Pending). is_added p.before (graph_after p) n) (sym c.self.view_is) in
    let gone = c.is_dropped.ensures ∙ ap (λ (p : Pending). is_dropped p.change n) (sym c.self.view_is) in
    let there = c.either-there.ensures ∙ ap (λ b. b || c.is_added.result) c.is_live.ensures.live ∙ ap (λ b. is_live g n || b) added in
    c.is_left.ensures ∙ ap (λ b. b && not c.is_dropped.result) there ∙ ap (λ b. (is_live g n || is_added g (after steps g) n) && not b) gone
    ∙ sym (live_is steps g n c.self.invariant.new) ∙ ap (λ (p : Pending). is_live (graph_after p) n) c.self.view_is
