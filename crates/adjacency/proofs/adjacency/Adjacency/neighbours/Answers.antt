use Rattle.std.proofs.Common.{length, ap, arith}
use Rattle.adjacency.proofs.RowLaws.{rows_many}
use Rattle.adjacency.proofs.adjacency.Adjacency.neighbours.Goals as goal

pub row_at-requires-clause-node : goal.row_at-requires-clause-node
row_at-requires-clause-node c =
    let ends = ap length c.deref.ensures.value in
    let many = rows_many 0 c.self.inside.ends.items c.self.inside.items.items in
    let same = ap length c.self.view_is in
    let requires = c.requires in
    omega (arith, ends, many, same, requires)
