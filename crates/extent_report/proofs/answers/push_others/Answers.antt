use Rattle.std.proofs.Common.{◌<◌, ◌+◌, ◌++◌, ◌∷◌, ◌∙◌, ap, sym, append_assoc, append-nil, arith}
use Rattle.std.specs.Prelude.{string_bytes}
use Rattle.graph_spec.specs.Words.{node_word}
use Rattle.extent_report.specs.NodeTexts.{members_from, others_text}
use Rattle.extent_report.proofs.NodeTextLemmas.{others_step, others_end}
use Rattle.extent_report.proofs.answers.push_others.Goals as goal

pub loop-node-preserved : goal.loop-node-preserved
loop-node-preserved c =
    let members = c.args.nodes.now.members in
    let node = c.in-Some.node in
    let out = string_bytes c.loop-node.out in
    let below : node < c.args.nodes.now.size = c.size-known.ensures.below node c.in-Some.ensures.next.member in
    record {
      text = ap (λ o. o ++ others_text (members_from members (node + 1))) c.in_ok-push_node.ensures ∙ append_assoc out (32 ∷ node_word node) _
          ∙ ap (λ t. out ++ t) (sym (others_step members c.size-known.ensures.rising c.loop-node.from node c.in-Some.ensures.head)) ∙ c.loop-node.invariant.text;
      within = omega arith;
    }

pub returns : goal.returns
returns c =
    let members = c.args.nodes.now.members in
    let out = string_bytes c.loop-node.out in
    sym (append-nil out) ∙ ap (λ t. out ++ t) (sym (others_end members c.loop-node.from c.in_default.ensures.head)) ∙ c.loop-node.invariant.text
