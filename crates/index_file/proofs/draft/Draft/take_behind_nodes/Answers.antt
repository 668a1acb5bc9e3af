use Rattle.std.proofs.Common.{◌≡◌, ◌-◌, suc, ap, ◌∙◌, arith}
use Rattle.index_file.specs.declared.due.Due.TheVariants.{Nodes}
use Rattle.index_file.proofs.draft.Draft.take_behind_nodes.Goals as goal

pub take_edge_count-requires : goal.take_edge_count-requires
take_edge_count-requires c = record { due = c.requires.due ∙ ap Nodes c.if-count-eq0.true }

pub take_node-requires : goal.take_node-requires
take_node-requires c =
    let some = c.if-count-eq0.false in
    let more : c.args.count ≡ suc (c.args.count - 1) = omega (arith, some) in
    record { due = c.requires.due ∙ ap Nodes more }
