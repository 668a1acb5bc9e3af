use Rattle.std.proofs.Common.{arith}
use Rattle.graph_spec.specs.Members.{at}
use Rattle.bisim_spec.proofs.Bisimilar.{some_of}
use Rattle.bisim_spec.proofs.Together.{block_below}
use Rattle.extent_report.proofs.Chained.{chain_after, read}
use Rattle.extent_report.proofs.member_chains.Chains.after.Goals as goal

pub returns : goal.returns
returns c =
    let p = c.self.inside.summary.now.blocks in
    let n = c.args.n in
    let next = c.self.inside.next.items in
    let live = rw (← c.self.view_is) at c.requires in
    let b = some_of (at p.block_of n) live in
    let node = block_below p.block_of n live in
    let long = c.self.invariant.chained.length_next in
    let e = read next n c.index.result.now (omega (arith, node, long)) c.index.ensures in
    rw (← c.self.view_is, ← e) (chain_after p.block_of c.self.inside.first.items next n b.0 c.self.invariant.chained b.1)
