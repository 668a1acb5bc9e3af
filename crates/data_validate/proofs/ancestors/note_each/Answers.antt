use Rattle.std.proofs.Common.{get_or, take, sym, subst, ◌<◌, ◌+◌, ◌∙◌}
use Rattle.std.specs.Prelude.{nat_eq}
use Rattle.graph_spec.specs.Members.{has}
use Rattle.data_validate.proofs.NotedNodes.{noted_then, has_there, has_more}
use Rattle.data_validate.proofs.ancestors.note_each.Goals as goal

pub note-requires : goal.note-requires
note-requires c =
    let x = get_or c.args.nodes.now c.loop-i.i 0 in
    subst (λ n. x < n) (sym c.loop-i.invariant.size) (c.requires x (has_there c.args.nodes.now c.loop-i.i c.loop-i-test.true))

pub loop-i-preserved : goal.loop-i-preserved
loop-i-preserved c =
    let nodes = c.args.nodes.now in
    let i = c.loop-i.i in
    record {
      size = c.note.ensures.size ∙ c.loop-i.invariant.size;
      noted = noted_then (has (take i nodes)) (λ n. nat_eq n (get_or nodes i 0)) (has (take (i + 1) nodes)) _ _ _ _ _ _ (has_more nodes i c.loop-i-test.true) c.loop-i.invariant.noted c.in_ok-note.ensures.noted;
    }
