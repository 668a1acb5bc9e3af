use Rattle.std.proofs.Common.{◌<◌, ◌+◌, sym, arith}
use Rattle.std.proofs.lemmas.List.Sums.{count_by-le-length}
use Rattle.index_eval.proofs.BlockSets.{is_in_below}
use Rattle.index_eval.proofs.MemberCounts.{counted_none, counted_next}
use Rattle.index_eval.proofs.summary_answers.count_members.Goals as goal

pub loop-b-init : goal.loop-b-init
loop-b-init c = record { within = omega arith; counted = sym (counted_none c.args.blocks.now.members c.args.summary.now.blocks.block_of) }

pub overflow_add-count : goal.overflow_add-count
overflow_add-count c =
    let blocks = c.args.blocks.now.members in
    let block = c.args.summary.now.blocks.block_of in
    let b = c.in-Some.b in
    let next = counted_next blocks c.loop-b.from b c.in-Some.ensures.next block in
    let most = count_by-le-length (is_in_below (b + 1) blocks) block in
    let so_far = c.loop-b.invariant.counted in
    let more = c.member_count-count.ensures in
    let count = c.numbers.ensures.count in
    let few = c.numbers.ensures.few in
    omega (arith, next, most, so_far, more, count, few)

pub loop-b-preserved : goal.loop-b-preserved
loop-b-preserved c =
    let blocks = c.args.blocks.now.members in
    let block = c.args.summary.now.blocks.block_of in
    let b = c.in-Some.b in
    let below : b < c.args.blocks.now.size = c.size.ensures.below b c.in-Some.ensures.next.member in
    let next = counted_next blocks c.loop-b.from b c.in-Some.ensures.next block in
    let so_far = c.loop-b.invariant.counted in
    let more = c.member_count-count.ensures in
    record { within = omega arith; counted = omega (arith, next, so_far, more) }
