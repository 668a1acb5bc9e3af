use Rattle.std.proofs.Common.{◌+◌, ◌++◌, ◌∷◌, ◌∙◌, ap, sym, append_assoc}
use Rattle.std.specs.Prelude.{string_bytes}
use Rattle.graph_spec.specs.Words.{node_word}
use Rattle.extent_report.specs.ListedBlocks.{texts_below}
use Rattle.extent_report.specs.MemberChains.{word_with}
use Rattle.extent_report.proofs.NodeWords.{word_first, with_itself, word_next, word_end}
use Rattle.extent_report.proofs.extents.push_nodes.Goals as goal

pub loop-node-init : goal.loop-node-init
loop-node-init c = record {
  text = c.in_ok-push_node.ensures ∙ ap (λ t. string_bytes c.args.out.now ++ t) (sym (word_first c.args.chains.now c.args.first c.requires));
  with = with_itself c.args.chains.now c.args.first c.requires;
}

pub loop-node-preserved : goal.loop-node-preserved
loop-node-preserved c =
    let block = c.args.chains.now.block_of in
    let first = c.args.first in
    let next = word_next block first c.loop-node.last c.in-Some.node c.loop-node.invariant.with c.in-Some.ensures in
    record {
      text = c.in_ok-push_node-2.ensures ∙ ap (λ t. t ++ (32 ∷ node_word c.in-Some.node)) c.loop-node.invariant.text
          ∙ append_assoc (string_bytes c.args.out.now) (texts_below (c.loop-node.last + 1) (word_with block first)) (32 ∷ node_word c.in-Some.node)
          ∙ ap (λ t. string_bytes c.args.out.now ++ t) (sym next.written);
      with = next.with;
    }

pub returns : goal.returns
returns c =
    c.loop-node.invariant.text
    ∙ ap (λ t. string_bytes c.args.out.now ++ t) (sym (word_end c.args.chains.now.block_of c.args.first c.loop-node.last c.loop-node.invariant.with c.in_default.ensures))
