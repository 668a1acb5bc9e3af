use Rattle.script_read.proofs.NodeLists.{first_is, list_bad}
use Rattle.script_read.proofs.nodes.node_list.Goals as goal

pub returns-in-None : goal.returns-in-None
returns-in-None c =
    let first = first_is c.first_part.result.1 c.parts.text.now c.first_part.result.0.now c.first_part.ensures.parts in
    list_bad c.args.word.now c.parts.text.now c.first_part.result.0.now first.0 c.parts.nodes.items c.parts.invariant.read first.1 c.in-None.ensures.absent
