use Rattle.std.proofs.Common.{ℕ, List, ◌≤◌, length}
use Rattle.hash_index.specs.Slots.{hashes_of, links_of}
use Rattle.hash_index.specs.HashChains.{AreChains, IsWalk}
use Rattle.hash_index.proofs.chains.along.Given as goal

abbrev pub invariant-loop-at : goal.invariant-loop-at
invariant-loop-at g l = record {
  within : l.at ≤ length l.slots;
  walks : (heads : List ℕ) (m : ℕ) → AreChains (length l.slots) (hashes_of l.slots) (links_of l.slots) heads → m ≤ length l.slots
      → IsWalk (hashes_of l.slots) heads l.hash m l.from → IsWalk (hashes_of l.slots) heads l.hash m l.at;
}

abbrev pub decreases-loop-at : goal.decreases-loop-at
decreases-loop-at g l = l.at
