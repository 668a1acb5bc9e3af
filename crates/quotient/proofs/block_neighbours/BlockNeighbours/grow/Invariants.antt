use Rattle.std.proofs.Common.{◌≡◌, ℕ, ◌≤◌, ◌-◌, length}
use Rattle.std.specs.Prelude.{max}
use Rattle.quotient.specs.QuotientNeighbours.{list_at}
use Rattle.quotient.specs.QuotientTables.{GivesMore}
use Rattle.quotient.proofs.block_neighbours.BlockNeighbours.grow.Given as goal

abbrev pub invariant-loop-self : goal.invariant-loop-self
invariant-loop-self l = record {
  lists : (m : ℕ) → list_at l.self.lists m ≡ list_at l.initial.self.lists m;
  len : length l.initial.self.lists ≤ length l.self.lists;
  most : length l.self.lists ≤ max l.len (length l.initial.self.lists);
  reserved : GivesMore l.initial.self.reserved l.self.reserved;
}

abbrev pub decreases-loop-self : goal.decreases-loop-self
decreases-loop-self l = l.len - length l.self.lists
