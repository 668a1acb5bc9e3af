use Rattle.std.proofs.Common.{◌≡◌, Some, sym, arith}
use Rattle.graph_spec.specs.Members.{at}
use Rattle.bisim_spec.proofs.Bisimilar.{is_some_at}
use Rattle.bisim_spec.proofs.Together.{block_below}
use Rattle.extent_report.proofs.Chained.{chain_linked}
use Rattle.extent_report.proofs.member_chains.link.Goals as goal

pub returns-in-Some : goal.returns-in-Some
returns-in-Some c =
    let block = c.args.summary.now.blocks.block_of in
    let first = c.args.first.now in
    let next = c.args.next.now in
    let e : at block c.args.n ≡ Some c.in-Some.b = sym c.in-Some.ensures.block in
    let span = block_below c.args.summary.now.blocks.labels c.in-Some.b c.in-Some.ensures.live in
    let node = block_below block c.args.n (is_some_at (at block c.args.n) c.in-Some.b e) in
    let all = c.requires.all in
    let long = c.requires.chained.length_next in
    chain_linked block first next c.args.n c.in-Some.b c.requires.chained e (omega (arith, span, all)) (omega (arith, node, long))
