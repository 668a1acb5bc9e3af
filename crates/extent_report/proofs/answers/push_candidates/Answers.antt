use Rattle.std.proofs.Common.{rules, ◌≡◌, ◌++◌, ◌∙◌, ap, append_assoc}
use Rattle.std.specs.Prelude.{codes, decimal, string_bytes}
use Rattle.extent_report.proofs.answers.push_candidates.Goals as goal

pub returns : goal.returns
returns c =
    let out = string_bytes c.args.out.now in
    let done = c.args.done.now in
    let number = decimal c.from.result in
    let same : c.from.result ≡ c.args.count = search rules in
    c.in_ok-push_str.ensures.bytes ∙ ap (λ t. t ++ done) c.in_ok-push_number.ensures ∙ append_assoc out (codes " candidates " ++ number) done
    ∙ ap (λ t. out ++ t) (append_assoc (codes " candidates ") number done) ∙ ap (λ n. out ++ (codes " candidates " ++ (decimal n ++ done))) same
