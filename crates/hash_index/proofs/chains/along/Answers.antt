use Rattle.std.proofs.Common.{◌-◌, ◌∙◌, sym, arith, length}
use Rattle.hash_index.specs.Slots.{hashes_of, links_of}
use Rattle.hash_index.proofs.ChainWalks.{walk_found, walk_on, walk_end}
use Rattle.hash_index.proofs.chains.along.Goals as goal

pub returns-then-read_hash-hash-clause-newest : goal.returns-then-read_hash-hash-clause-newest
returns-then-read_hash-hash-clause-newest g c heads m k few w =
    walk_found (hashes_of c.args.slots.now) heads c.args.hash m c.loop-at.at c.loop-at-test.true (c.loop-at.invariant.walks heads m k few w) (sym c.read_hash.ensures ∙ c.if-read_hash-hash.true)

pub loop-at-preserved : goal.loop-at-preserved
loop-at-preserved g c = record {
  within = (
      let some = c.loop-at-test.true in
      let within = c.loop-at.invariant.within in
      let falls = c.requires.falls (c.loop-at.at - 1) (omega (arith, some, within)) in
      rw c.read_link-at.ensures (omega (arith, some, within, falls)));
  walks = λ heads m k few w. rw c.read_link-at.ensures (
      walk_on (length c.args.slots.now) (hashes_of c.args.slots.now) (links_of c.args.slots.now) heads k c.args.hash m c.loop-at.at few c.loop-at-test.true
      (c.loop-at.invariant.walks heads m k few w) (λ e. c.if-read_hash-hash.false (c.read_hash.ensures ∙ e)));
}

pub returns-clause-newest : goal.returns-clause-newest
returns-clause-newest g c heads m k few w = walk_end (hashes_of c.args.slots.now) heads c.args.hash m c.loop-at.at c.loop-at-test.false (c.loop-at.invariant.walks heads m k few w)
