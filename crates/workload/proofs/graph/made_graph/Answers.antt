use Rattle.std.proofs.Common.{◌++◌, ◌∙◌, ap}
use Rattle.workload.specs.MadeTexts.{graph_lines, lines_text, made_graph_text}
use Rattle.workload.proofs.graph.made_graph.Goals as goal

pub returns : goal.returns
unfolding made_graph_text
returns c = c.from_string.ensures ∙ c.in_ok-push_lines.ensures ∙ ap (λ t. t ++ lines_text (graph_lines 20000 c.args.seed)) c.new-out.ensures.bytes
