use Rattle.std.proofs.Common.{rules, refl, sym, true≢false, ap, ◌∙◌, ◌∷◌, []}
use Rattle.graph_spec.specs.Words.{node_word}
use Rattle.script_read.specs.FirstWords.{OpensNothing}
use Rattle.script_read.proofs.WordLemmas.{words-cons}
use Rattle.script_read.proofs.CommandLemmas.{opens_quiet, opens_some, none_node, none_link, none_unlink, none_drop, none_relabel}
use Rattle.script_read.proofs.scan.scan.Goals as goal

pub returns-then-opens_nothing : goal.returns-then-opens_nothing
returns-then-opens_nothing c = opens_quiet _ _ _ c.split_word.ensures.parts (c.if-opens_nothing.ensures.0 refl)

pub returns-in-Some : goal.returns-in-Some
returns-in-Some c =
    let loud = λ (o : OpensNothing c.split_word.result.0.now). true≢false (sym (c.if-opens_nothing.ensures.1 o)) in
    let f = c.in-Some.ensures.found in
    words-cons _ _ _ _ c.split_word.ensures.parts (opens_some _ loud) f ∙ ap (λ w. w ∷ c.in-Some.label.now ∷ []) (c.if-is_word.ensures.0 refl)

pub returns-in-None : goal.returns-in-None
returns-in-None c =
    let loud = λ (o : OpensNothing c.split_word.result.0.now). true≢false (sym (c.if-opens_nothing.ensures.1 o)) in
    none_node c.args.line.now _ _ loud c.split_word.ensures.word c.split_word.ensures.rest (c.if-is_word.ensures.0 refl) c.in-None.ensures.absent

pub returns-in-Some-two_nodes : goal.returns-in-Some-two_nodes
returns-in-Some-two_nodes c =
    let loud = λ (o : OpensNothing c.split_word.result.0.now). true≢false (sym (c.if-opens_nothing.ensures.1 o)) in
    let f = c.in-Some-two_nodes.ensures.found in
    let whole = words-cons _ _ _ _ c.split_word.ensures.parts (opens_some _ loud) f ∙ ap (λ w. w ∷ node_word c.in-Some-two_nodes.from ∷ node_word c.in-Some-two_nodes.to ∷ []) (c.if-is_word-2.ensures.0 refl) in
    ((whole, search rules, search rules), tt)

pub returns-in-None-two_nodes : goal.returns-in-None-two_nodes
returns-in-None-two_nodes c =
    let loud = λ (o : OpensNothing c.split_word.result.0.now). true≢false (sym (c.if-opens_nothing.ensures.1 o)) in
    none_link c.args.line.now _ _ loud c.split_word.ensures.word c.split_word.ensures.rest (c.if-is_word-2.ensures.0 refl) c.in-None-two_nodes.ensures.absent

pub returns-in-Some-two_nodes-2 : goal.returns-in-Some-two_nodes-2
returns-in-Some-two_nodes-2 c =
    let loud = λ (o : OpensNothing c.split_word.result.0.now). true≢false (sym (c.if-opens_nothing.ensures.1 o)) in
    let f = c.in-Some-two_nodes-2.ensures.found in
    let whole = words-cons _ _ _ _ c.split_word.ensures.parts (opens_some _ loud) f ∙ ap (λ w. w ∷ node_word c.in-Some-two_nodes-2.from ∷ node_word c.in-Some-two_nodes-2.to ∷ []) (c.if-is_word-3.ensures.0 refl) in
    ((whole, search rules, search rules), tt)

pub returns-in-None-two_nodes-2 : goal.returns-in-None-two_nodes-2
returns-in-None-two_nodes-2 c =
    let loud = λ (o : OpensNothing c.split_word.result.0.now). true≢false (sym (c.if-opens_nothing.ensures.1 o)) in
    none_unlink c.args.line.now _ _ loud c.split_word.ensures.word c.split_word.ensures.rest (c.if-is_word-3.ensures.0 refl) c.in-None-two_nodes-2.ensures.absent

pub returns-in-Some-one_node : goal.returns-in-Some-one_node
returns-in-Some-one_node c =
    let loud = λ (o : OpensNothing c.split_word.result.0.now). true≢false (sym (c.if-opens_nothing.ensures.1 o)) in
    let f = c.in-Some-one_node.ensures.found in
    let whole = words-cons _ _ _ _ c.split_word.ensures.parts (opens_some _ loud) f ∙ ap (λ w. w ∷ node_word c.in-Some-one_node.node ∷ []) (c.if-is_word-4.ensures.0 refl) in
    ((whole, search rules), tt)

pub returns-in-None-one_node : goal.returns-in-None-one_node
returns-in-None-one_node c =
    let loud = λ (o : OpensNothing c.split_word.result.0.now). true≢false (sym (c.if-opens_nothing.ensures.1 o)) in
    none_drop c.args.line.now _ _ loud c.split_word.ensures.word c.split_word.ensures.rest (c.if-is_word-4.ensures.0 refl) c.in-None-one_node.ensures.absent

pub returns-in-Some-node_and_word : goal.returns-in-Some-node_and_word
returns-in-Some-node_and_word c =
    let loud = λ (o : OpensNothing c.split_word.result.0.now). true≢false (sym (c.if-opens_nothing.ensures.1 o)) in
    let f = c.in-Some-node_and_word.ensures.node in
    let whole = words-cons _ _ _ _ c.split_word.ensures.parts (opens_some _ loud) f
    ∙ ap (λ w. w ∷ node_word c.in-Some-node_and_word.node ∷ c.in-Some-node_and_word.label.now ∷ []) (c.if-is_word-5.ensures.0 refl) in
    (whole, c.in-Some-node_and_word.ensures.number)

pub returns-in-None-node_and_word : goal.returns-in-None-node_and_word
returns-in-None-node_and_word c =
    let loud = λ (o : OpensNothing c.split_word.result.0.now). true≢false (sym (c.if-opens_nothing.ensures.1 o)) in
    none_relabel c.args.line.now _ _ loud c.split_word.ensures.word c.split_word.ensures.rest (c.if-is_word-5.ensures.0 refl) c.in-None-node_and_word.ensures.absent

pub scan_query-requires : goal.scan_query-requires
scan_query-requires c = record {
  loud = λ o. true≢false (sym (c.if-opens_nothing.ensures.1 o));
  no_node = λ e. true≢false (sym (c.if-is_word.ensures.1 e));
  no_link = λ e. true≢false (sym (c.if-is_word-2.ensures.1 e));
  no_unlink = λ e. true≢false (sym (c.if-is_word-3.ensures.1 e));
  no_drop = λ e. true≢false (sym (c.if-is_word-4.ensures.1 e));
  no_relabel = λ e. true≢false (sym (c.if-is_word-5.ensures.1 e));
}
