use Rattle.std.proofs.Common.{◌≡◌, ◌++◌, ◌-◌, ◌+◌, ◌∙◌, [], ap, string_bytes, rules}
use Rattle.workload.specs.MadeTexts.{last_lines, lines_text, step_lines, steps_onto}
use Rattle.workload.proofs.Steps.{step_added}
use Rattle.workload.proofs.script.push_steps.Goals as goal

pub loop-i-preserved : goal.loop-i-preserved
loop-i-preserved c =
    let nodes = c.args.nodes in
    let i = c.loop-i.i in
    let before = string_bytes c.loop-i.out in
    let out = string_bytes c.push_step.new.out in
    let text : out ≡ before ++ lines_text (step_lines nodes (nodes + i) c.loop-i.generator.state []) = search (rules, c.in_ok-push_step.ensures.text) in
    ap (λ x. out ++ lines_text (steps_onto nodes (c.args.count - (i + 1)) (nodes + (i + 1)) x last_lines)) c.in_ok-push_step.ensures.state
    ∙ step_added nodes c.args.count i c.loop-i.generator.state out before _ c.loop-i-test.true c.loop-i.invariant text
