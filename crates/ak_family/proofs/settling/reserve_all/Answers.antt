use Rattle.std.proofs.Common.{◌<◌, sym, subst, length, arith}
use Rattle.keyed_quotient.specs.KeyedQuotients.{KeyedQuotient}
use Rattle.keyed_quotient.specs.Changes.{IsKeyedOver, HasReservedKeys}
use Rattle.ak_family.specs.Families.{level_at}
use Rattle.ak_family.proofs.Reserved.{IsSeenAs, level_read, reserved_none, reserved_over, reserved_next, reserved_all, seen_set}
use Rattle.ak_family.proofs.settling.reserve_all.Goals as goal

pub levels-init : goal.levels-init
levels-init c = reserved_none c.args.levels.now.items c.args.drafts.now.items

pub reserve-requires : goal.reserve-requires
reserve-requires c =
    let test = c.levels-test.true in
    let end = c.len-i-end.ensures in
    let count = c.levels.invariant.seen.count in
    let within : c.levels.i < length c.levels.levels.items = omega (arith, test, end, count) in
    record {
      over = subst (λ (q : KeyedQuotient). IsKeyedOver q c.draft_of.result.now) (sym (level_read c.levels.levels.items c.levels.i c.index_mut.result.now within c.index_mut.ensures.value))
          (subst (IsKeyedOver (level_at c.levels.levels.items c.levels.i)) (sym c.draft_of.ensures)
          (reserved_over c.args.levels.now.items c.levels.levels.items c.args.drafts.now.items c.levels.i c.levels.invariant c.requires.over within));
    }

pub levels-preserved : goal.levels-preserved
levels-preserved c =
    let test = c.levels-test.true in
    let end = c.len-i-end.ensures in
    let count = c.levels.invariant.seen.count in
    let within : c.levels.i < length c.levels.levels.items = omega (arith, test, end, count) in
    let seen : IsSeenAs (level_at c.levels.levels.items c.levels.i) c.reserve.new.base =
    subst (λ (q : KeyedQuotient). IsSeenAs q c.reserve.new.base) (level_read c.levels.levels.items c.levels.i c.index_mut.result.now within c.index_mut.ensures.value)
    (record { view = c.reserve.ensures.view; keys = c.reserve.ensures.keys }) in
    reserved_next c.args.levels.now.items c.levels.levels.items c.args.drafts.now.items c.levels.i c.reserve.new.base c.levels.invariant within seen
    (subst (HasReservedKeys c.reserve.new.base) c.draft_of.ensures c.in_ok-reserve.ensures.reserved)

pub returns-in_err-reserve-clause-same : goal.returns-in_err-reserve-clause-same
returns-in_err-reserve-clause-same c =
    let test = c.levels-test.true in
    let end = c.len-i-end.ensures in
    let count = c.levels.invariant.seen.count in
    let within : c.levels.i < length c.levels.levels.items = omega (arith, test, end, count) in
    let seen : IsSeenAs (level_at c.levels.levels.items c.levels.i) c.reserve.new.base =
    subst (λ (q : KeyedQuotient). IsSeenAs q c.reserve.new.base) (level_read c.levels.levels.items c.levels.i c.index_mut.result.now within c.index_mut.ensures.value)
    (record { view = c.reserve.ensures.view; keys = c.reserve.ensures.keys }) in
    seen_set c.args.levels.now.items c.levels.levels.items c.levels.i c.reserve.new.base c.levels.invariant.seen within seen

pub returns-clause-same : goal.returns-clause-same
returns-clause-same c = c.levels.invariant.seen

pub returns-clause-reserved : goal.returns-clause-reserved
returns-clause-reserved c =
    let test = c.levels-test.false in
    let end = c.len-i-end.ensures in
    let count = c.levels.invariant.seen.count in
    reserved_all c.args.levels.now.items c.levels.levels.items c.args.drafts.now.items c.levels.i c.levels.invariant (omega (arith, test, end, count))
