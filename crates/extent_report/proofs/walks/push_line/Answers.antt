use Rattle.std.proofs.Common.{rules, ◌≡◌, ◌++◌, ◌∷◌, [], ◌∙◌, ap, sym, append_assoc}
use Rattle.std.specs.Prelude.{string_bytes}
use Rattle.std.specs.List.{flat_map}
use Rattle.graph_spec.specs.Words.{node_word}
use Rattle.extent_report.specs.PrintedAnswers.{nodes_line}
use Rattle.extent_report.proofs.NodeTextLemmas.{line_in_order}
use Rattle.extent_report.proofs.walks.push_line.Goals as goal

pub returns-in_ok-end_line-in-Some : goal.returns-in_ok-end_line-in-Some
returns-in_ok-end_line-in-Some c =
    let out = string_bytes c.args.out.now in
    let first = c.in-Some.first.now in
    let others = flat_map (λ m. 32 ∷ node_word m) c.in-Some.others.now in
    let same : c.from.result ≡ first = search rules in
    let whole : c.args.nodes.now ≡ first ∷ c.in-Some.others.now = search rules in
    c.in_ok-end_line-in-Some.ensures
    ∙ ap (λ o. o ++ 10 ∷ []) (c.in_ok-push_nodes-in-Some.ensures ∙ ap (λ o. o ++ others) (c.in_ok-push_number-in-Some.ensures ∙ ap (λ n. out ++ node_word n) same) ∙ append_assoc out (node_word first) others)
    ∙ append_assoc out (node_word first ++ others) (10 ∷ []) ∙ ap (λ l. out ++ l) (sym (ap nodes_line whole ∙ line_in_order first c.in-Some.others.now))
