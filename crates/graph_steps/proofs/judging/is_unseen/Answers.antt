use Rattle.std.proofs.Common.{◌∙◌, ap}
use Rattle.std.specs.Prelude.{not}
use Rattle.graph_spec.specs.Graphs.{is_seen}
use Rattle.change_spec.specs.Steps.{after}
use Rattle.graph_steps.proofs.judging.is_unseen.Goals as goal

pub returns : goal.returns
returns c = ap not (c.is_seen.ensures ∙ ap (λ k. is_seen (after k c.args.graph.now.graph).seen c.args.label.now) c.steps.ensures)
