use Rattle.std.proofs.Common.{arith, ◌++◌, ◌∙◌, ap}
use Rattle.std.specs.Prelude.{codes, string_bytes}
use Rattle.index_file.specs.WrittenFiles.{count_line}
use Rattle.index_file.proofs.GraphPartLaws.{node_given, node_fewer, count_given, count_fewer}
use Rattle.index_file.proofs.graph_lines.GraphLines.give_node.Goals as goal

pub returns-in_ok-push_node-clause-given : goal.returns-in_ok-push_node-clause-given
returns-in_ok-push_node-clause-given c =
    let test = c.if-self-created.true in
    let size = c.created.ensures.count in
    node_given c.args.graph.now.graph c.args.self.now _ _ c.requires (omega (arith, test, size)) c.in_ok-push_node.ensures

pub returns-in_ok-push_node-clause-fewer : goal.returns-in_ok-push_node-clause-fewer
returns-in_ok-push_node-clause-fewer c =
    let test = c.if-self-created.true in
    let size = c.created.ensures.count in
    node_fewer c.args.graph.now.graph c.args.self.now c.requires (omega (arith, test, size))

pub returns-in_ok-push_count-clause-given : goal.returns-in_ok-push_count-clause-given
returns-in_ok-push_count-clause-given c =
    let test = c.if-self-created.false in
    let size = c.created.ensures.count in
    let long = c.len-self.ensures in
    let ok = c.args.self.now.children.ok in
    count_given c.args.graph.now.graph c.args.self.now _ _ _ c.requires (omega (arith, test, size)) (omega (arith, long, ok))
    (c.in_ok-push_count.ensures ∙ ap (λ n. string_bytes c.args.out.now ++ count_line (codes "edges ") n) c.edge_count.ensures.count)

pub returns-in_ok-push_count-clause-fewer : goal.returns-in_ok-push_count-clause-fewer
returns-in_ok-push_count-clause-fewer c =
    let test = c.if-self-created.false in
    let size = c.created.ensures.count in
    let long = c.len-self.ensures in
    let ok = c.args.self.now.children.ok in
    count_fewer c.args.graph.now.graph c.args.self.now _ c.requires (omega (arith, test, size)) (omega (arith, long, ok))
