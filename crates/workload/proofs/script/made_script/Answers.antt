use Rattle.std.proofs.Common.{◌++◌, ◌∙◌, ap, ℕ, List}
use Rattle.std.proofs.lemmas.Result.{err_from_is_err_and}
use Rattle.workload.specs.MadeTexts.{last_lines, lines_text, made_script_text, steps_onto}
use Rattle.workload.proofs.script.made_script.Goals as goal

abbrev text : ℕ → ℕ → List ℕ
text nodes x = lines_text (steps_onto nodes 500 nodes x last_lines)

pub returns-in_err-push_last : goal.returns-in_err-push_last
returns-in_err-push_last c =
    let p = err_from_is_err_and c.from_residual-in_err-push_last.result c.from_residual-in_err-push_last.ensures.1 in
    rw p.1 tt

pub returns : goal.returns
unfolding made_script_text
returns c =
    c.from_string.ensures ∙ c.in_ok-push_last.ensures ∙ c.in_ok-push_steps.ensures
    ∙ ap (λ t. t ++ text c.args.nodes c.skip_triples.new.generator.state) c.new-out.ensures.bytes ∙ ap (text c.args.nodes) c.skip_triples.ensures
