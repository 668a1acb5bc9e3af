use Rattle.std.proofs.Common.{◌∙◌, ap, sym, length, nat_lt}
use Rattle.std.specs.Prelude.{◌&&◌, ◌||◌, not}
use Rattle.graph_spec.specs.Graphs.{is_live}
use Rattle.change_spec.specs.Steps.{after}
use Rattle.change_spec.proofs.NamedNodes.{is_added, live_after}
use Rattle.graph_steps.proofs.reads.is_live.Goals as goal

pub returns : goal.returns
returns c =
    let g = c.args.graph.now.graph in
    let f = c.args.prefix.now in
    let n = c.args.n in
    let added = c.is_added.ensures ∙ ap (λ k. not (nat_lt n (length g.allocated)) && nat_lt n k) c.requires.created in
    let there = c.either-there.ensures ∙ ap (λ b. b || c.is_added.result) c.is_live.ensures.live ∙ ap (λ b. is_live g n || b) added in
    c.is_left.ensures ∙ ap (λ b. b && not c.is_dropped.result) there ∙ ap (λ b. (is_live g n || is_added g (after f g) n) && not b) c.is_dropped.ensures
    ∙ sym (live_after f g n c.requires.can)
