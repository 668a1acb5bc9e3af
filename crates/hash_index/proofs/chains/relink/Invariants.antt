use Rattle.std.proofs.Common.{◌≡◌, ◌<◌, length}
use Rattle.hash_index.specs.Slots.{hashes_of, links_of, items_of}
use Rattle.hash_index.specs.HashChains.{AreChains}
use Rattle.hash_index.proofs.chains.relink.Given as goal

abbrev pub invariant-loop-n : goal.invariant-loop-n
invariant-loop-n g l = record {
  hashes : hashes_of l.slots.items ≡ hashes_of l.initial.slots.items;
  items : items_of l.slots.items ≡ items_of l.initial.slots.items;
  linked : AreChains l.n (hashes_of l.slots.items) (links_of l.slots.items) l.heads.items;
  some : 0 < length l.heads.items;
}
