use Rattle.std.proofs.Common.{◌<◌, ◌≤◌, length, arith}
use Rattle.keyed_quotient.specs.KeyedQuotients.{KeyedQuotient}
use Rattle.keyed_quotient.specs.Changes.{KeyedChanges, blocks_as_shown, support_as_shown, IsKeyedOver, HasReservedKeys, AreInhabited, AreUnsupported}
use Rattle.ak_family.proofs.SettledBelow.{below_none, below_read, below_next, below_all, below_empty}
use Rattle.ak_family.proofs.settling.settle_all.Goals as goal

pub levels-init : goal.levels-init
levels-init c = below_none c.args.levels.now.items c.args.drafts.now.items

pub settle-requires : goal.settle-requires
settle-requires c =
    let test = c.levels-test.true in
    let end = c.len-i-end.ensures in
    let count = c.levels.invariant.count in
    let drafts = c.levels.invariant.drafts in
    let both = c.requires.shows.over.count in
    let before : c.levels.i < length c.args.levels.now.items = omega (arith, test, end) in
    let within : c.levels.i < length c.levels.levels.items = omega (arith, test, end, count) in
    let drafted : c.levels.i < length c.levels.drafts.items = omega (arith, test, end, drafts, both) in
    record {
      over = below_read IsKeyedOver c.args.levels.now.items c.args.drafts.now.items c.levels.levels.items c.levels.drafts.items c.levels.i c.index_mut-in-levels.result.now c.index_mut.result.now
          c.levels.invariant within drafted c.index_mut-in-levels.ensures.value c.index_mut.ensures.value (c.requires.shows.over.each c.levels.i before);
      reserved = below_read HasReservedKeys c.args.levels.now.items c.args.drafts.now.items c.levels.levels.items c.levels.drafts.items c.levels.i c.index_mut-in-levels.result.now c.index_mut.result.now
          c.levels.invariant within drafted c.index_mut-in-levels.ensures.value c.index_mut.ensures.value (c.requires.reserved c.levels.i before);
      inhabited = below_read (λ (q : KeyedQuotient) (y : KeyedChanges). AreInhabited q.quotient.blocks.labels q.quotient.blocks.block_of) c.args.levels.now.items c.args.drafts.now.items
          c.levels.levels.items c.levels.drafts.items c.levels.i c.index_mut-in-levels.result.now c.index_mut.result.now c.levels.invariant within drafted c.index_mut-in-levels.ensures.value
          c.index_mut.ensures.value (c.requires.inhabited c.levels.i before);
      unsupported = below_read (λ (q : KeyedQuotient) (y : KeyedChanges). AreUnsupported (blocks_as_shown q y) (support_as_shown q y)) c.args.levels.now.items c.args.drafts.now.items
          c.levels.levels.items c.levels.drafts.items c.levels.i c.index_mut-in-levels.result.now c.index_mut.result.now c.levels.invariant within drafted c.index_mut-in-levels.ensures.value
          c.index_mut.ensures.value (c.requires.shows.empty c.levels.i before);
    }

pub levels-preserved : goal.levels-preserved
levels-preserved c =
    let test = c.levels-test.true in
    let end = c.len-i-end.ensures in
    let count = c.levels.invariant.count in
    let drafts = c.levels.invariant.drafts in
    let both = c.requires.shows.over.count in
    let within : c.levels.i < length c.levels.levels.items = omega (arith, test, end, count) in
    let drafted : c.levels.i < length c.levels.drafts.items = omega (arith, test, end, drafts, both) in
    below_next c.args.levels.now.items c.args.drafts.now.items c.levels.levels.items c.levels.drafts.items c.levels.i c.index_mut-in-levels.result.now c.settle.new.base c.index_mut.result.now
    c.settle.new.self c.levels.invariant within drafted c.index_mut-in-levels.ensures.value c.index_mut.ensures.value c.settle.ensures.settled c.settle.ensures.empty

pub returns-clause-settled : goal.returns-clause-settled
returns-clause-settled c =
    let test = c.levels-test.false in
    let end = c.len-i-end.ensures in
    let count = c.levels.invariant.count in
    let all : length c.levels.levels.items ≤ c.levels.i = omega (arith, test, end, count) in
    below_all c.args.levels.now.items c.args.drafts.now.items c.levels.levels.items c.levels.drafts.items c.levels.i c.levels.invariant all

pub returns-clause-empty : goal.returns-clause-empty
returns-clause-empty c =
    let test = c.levels-test.false in
    let end = c.len-i-end.ensures in
    let count = c.levels.invariant.count in
    let all : length c.levels.levels.items ≤ c.levels.i = omega (arith, test, end, count) in
    below_empty c.args.levels.now.items c.args.drafts.now.items c.levels.levels.items c.levels.drafts.items c.levels.i c.levels.invariant c.requires.shows.over all
