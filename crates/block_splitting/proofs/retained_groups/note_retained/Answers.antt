use Rattle.std.proofs.Common.{◌<◌, arith, sym, ◌∙◌, subst, length}
use Rattle.block_splitting.specs.Chosen.{HasFirst}
use Rattle.block_splitting.proofs.Choices.{retained_groups_set, retained_groups_stay, get_any}
use Rattle.block_splitting.proofs.retained_groups.note_retained.Goals as goal

pub index-before-requires : goal.index-before-requires
index-before-requires c = let o = c.requires.keyed c.args.k _ c.key.ensures in let e = c.own_number-own.ensures o.0 o.1 in let l = o.2 in omega (arith, e, l)

pub index_mut-requires : goal.index_mut-requires
index_mut-requires c = let o = c.requires.keyed c.args.k _ c.key.ensures in let e = c.own_number-own.ensures o.0 o.1 in let l = o.2 in omega (arith, e, l)

pub index_mut-requires-then-other-own : goal.index_mut-requires-then-other-own
index_mut-requires-then-other-own c = let o = c.requires.keyed c.args.k _ c.key.ensures in let e = c.own_number-own.ensures o.0 o.1 in let l = o.2 in omega (arith, e, l)

pub returns-then-before-k-clause-retained_groups : goal.returns-then-before-k-clause-retained_groups
returns-then-before-k-clause-retained_groups c =
    let o = c.requires.keyed c.args.k _ c.key.ensures in
    let e = c.own_number-own.ensures o.0 o.1 in
    retained_groups_set c.args.keys.now c.args.k c.own_number-own.result c.args.retained.now.items c.key.result.now c.requires.retained_groups c.key.ensures (subst (HasFirst c.key.result.now) (sym e) o.1)
    (let l = o.2 in let ok = c.args.retained.now.ok in omega (arith, e, l, ok))

pub returns-then-other-own-clause-retained_groups : goal.returns-then-other-own-clause-retained_groups
returns-then-other-own-clause-retained_groups c =
    let o = c.requires.keyed c.args.k _ c.key.ensures in
    let e = c.own_number-own.ensures o.0 o.1 in
    retained_groups_set c.args.keys.now c.args.k c.own_number-own.result c.args.retained.now.items c.key.result.now c.requires.retained_groups c.key.ensures (subst (HasFirst c.key.result.now) (sym e) o.1)
    (let l = o.2 in let ok = c.args.retained.now.ok in omega (arith, e, l, ok))

pub returns-clause-retained_groups : goal.returns-clause-retained_groups
returns-clause-retained_groups c =
    let o = c.requires.keyed c.args.k _ c.key.ensures in
    let e = c.own_number-own.ensures o.0 o.1 in
    let other = c.requires.keyed _ _ c.key-2.ensures in
    let f = c.own_number-other.ensures other.0 other.1 in
    let within : c.own_number-own.result < length c.args.retained.now.items = (let l = o.2 in let ok = c.args.retained.now.ok in omega (arith, e, l, ok)) in
    retained_groups_stay c.args.keys.now c.args.k c.own_number-own.result c.index-before.result.now c.args.retained.now.items c.key.result.now c.key-2.result.now c.requires.retained_groups c.key.ensures
    (subst (HasFirst c.key.result.now) (sym e) o.1) c.if-before-k.false
    (get_any c.args.retained.now.items c.own_number-own.result 0 c.index-before.result.now within ∙ sym c.index-before.ensures) c.key-2.ensures
    (subst (HasFirst c.key-2.result.now) (sym f ∙ c.if-other-own.false) other.1)
