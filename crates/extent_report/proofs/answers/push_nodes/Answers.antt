use Rattle.std.proofs.Common.{rules, ◌≡◌, ◌+◌, ◌++◌, ◌∷◌, [], ◌∙◌, ap, sym, append_assoc}
use Rattle.std.specs.Prelude.{string_bytes}
use Rattle.graph_spec.specs.Words.{node_word}
use Rattle.extent_report.specs.NodeTexts.{members_from, others_text}
use Rattle.extent_report.proofs.NodeTextLemmas.{line_by_first}
use Rattle.extent_report.proofs.answers.push_nodes.Goals as goal

pub returns-in_ok-end_line-in-Some : goal.returns-in_ok-end_line-in-Some
returns-in_ok-end_line-in-Some c =
    let members = c.args.nodes.now.members in
    let first = c.in-Some.first in
    let out = string_bytes c.args.out.now in
    let same : c.from.result ≡ first = search rules in
    let others = others_text (members_from members (first + 1)) in
    c.in_ok-end_line-in-Some.ensures ∙ ap (λ o. o ++ 10 ∷ []) (c.in_ok-push_others-in-Some.ensures ∙ ap (λ o. o ++ others) (c.in_ok-push_number-in-Some.ensures ∙ ap (λ n. out ++ node_word n) same) ∙ append_assoc out (node_word first) others)
    ∙ append_assoc out (node_word first ++ others) (10 ∷ []) ∙ ap (λ l. out ++ l) (sym (line_by_first members c.size-known.ensures.rising first c.in-Some.ensures.head))
