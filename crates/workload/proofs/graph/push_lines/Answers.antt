use Rattle.std.proofs.Common.{◌++◌, ◌-◌, ◌+◌, ◌∷◌, ◌∙◌, [], ap, string_bytes}
use Rattle.workload.specs.MadeTexts.{graph_lines, lines_text}
use Rattle.workload.proofs.Steps.{line_added}
use Rattle.workload.proofs.graph.push_lines.Goals as goal

pub loop-preserved : goal.loop-preserved
loop-preserved c =
    let before = string_bytes c.loop.out in
    ap (λ x. string_bytes c.push_triple.new.out ++ lines_text (graph_lines (c.args.count - (c.loop.counter + 1)) x)) c.draw_triple-triple.ensures.state
    ∙ line_added c.args.count c.loop.counter c.loop.generator.state (string_bytes c.push_triple.new.out) before _ c.loop-test.true c.loop.invariant
    (c.in_ok-push_triple.ensures ∙ ap (λ l. before ++ (l ++ 10 ∷ [])) c.draw_triple-triple.ensures.line)
