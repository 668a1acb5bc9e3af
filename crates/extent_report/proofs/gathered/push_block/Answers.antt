use Rattle.std.proofs.Common.{◌++◌, ◌∷◌, ◌∙◌, ap, sym}
use Rattle.std.specs.Prelude.{string_bytes}
use Rattle.std.specs.List.{flat_map}
use Rattle.graph_spec.specs.Words.{node_word}
use Rattle.extent_report.proofs.Summed.{line_begun, line_at_begun}
use Rattle.extent_report.proofs.NumberedTexts.{three_pushed}
use Rattle.extent_report.proofs.LeastMembers.{words_listed}
use Rattle.extent_report.proofs.gathered.push_block.Goals as goal

pub returns : goal.returns
returns c =
    let p = c.args.summary.now.blocks in
    let texts = c.args.labels.now.texts in
    let old = string_bytes c.args.out.now in
    let text = c.in_ok-push_str.ensures.bytes ∙ ap (λ t. old ++ t) c.as_str.ensures in
    let block = sym c.in-Some.ensures.block in
    let words = words_listed p c.args.n c.in-Some.b c.fill_members.new.list.items block c.in_ok-fill_members.ensures.rising c.in_ok-fill_members.ensures.members in
    three_pushed _ _ _ _ _ _ _ text (c.in_ok-push_nodes.ensures ∙ ap (λ l. string_bytes c.push_str.new.self ++ flat_map (λ k. 32 ∷ node_word k) l) c.deref.ensures.value ∙ ap (λ w. string_bytes c.push_str.new.self ++ w) words) c.in_ok-end_line.ensures
    ∙ ap (λ t. old ++ t)
    (sym (line_at_begun texts p c.requires.labelled c.args.n c.requires.is_first_member
    ∙ line_begun texts p c.requires.labelled c.args.n c.in-Some.b c.label.result c.text-label.result.now c.requires.is_first_member block c.label.ensures c.text-label.ensures))
