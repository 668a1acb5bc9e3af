use Rattle.std.proofs.Common.{◌≡◌, length, take}
use Rattle.std.specs.FinMap as map
use Rattle.quotient.specs.QuotientNeighbours.{AreNeighbourLists}
use Rattle.quotient.proofs.supports.list_pairs.Given as goal

abbrev pub invariant-loop-i : goal.invariant-loop-i
invariant-loop-i l = record {
  neighbour_lists : AreNeighbourLists (map.from_entries (take l.i l.table.entries)) l.children.lists l.parents.lists;
  children : length l.children.lists ≡ length l.initial.children.lists;
  parents : length l.parents.lists ≡ length l.initial.parents.lists;
}
