use Rattle.std.proofs.Common.{◌≡◌, ◌<◌, ℕ, arith, sym, subst, length, IsSome}
use Rattle.graph_spec.specs.Members.{has, at}
use Rattle.block_splitting.specs.Chosen.{AreChosen}
use Rattle.block_splitting.proofs.Choices.{chosen_more}
use Rattle.block_splitting.proofs.choosing.choose.Goals as goal

pub choose_one-c-requires-clause-own : goal.choose_one-c-requires-clause-own
choose_one-c-requires-clause-own c =
    let o = c.requires.keyed _ _ c.key.ensures in
    subst (λ x. IsSome (at c.loop-k.blocks.labels x)) (sym (c.own_number.ensures o.0 o.1)) (subst IsSome (sym (c.loop-k.invariant.chosen.stay o.0 o.2)) o.2)

pub choose_one-c-requires-clause-within : goal.choose_one-c-requires-clause-within
choose_one-c-requires-clause-within c =
    let o = c.requires.keyed _ _ c.key.ensures in
    subst (λ x. x < length c.args.retained.now) (sym (c.own_number.ensures o.0 o.1)) (c.requires.within o.0 o.2)

pub loop-k-preserved : goal.loop-k-preserved
loop-k-preserved c = record {
  chosen = rw c.push_reserved.ensures.items (
      chosen_more c.args.blocks.now c.loop-k.blocks c.choose_one-c.new.blocks (has c.args.active_nodes.now.nodes) c.args.keys.now c.loop-k.k c.own_number.result
      c.choose_one-c.result c.args.retained.now c.loop-k.chosen.items c.key.result.now c.requires.keyed c.loop-k.invariant.chosen c.key.ensures c.own_number.ensures
      c.choose_one-c.ensures.picked);
  capacity = (let a = c.loop-k.invariant.capacity in let b = c.push_reserved.ensures.capacity in omega (arith, a, b));
  len = (let a = c.loop-k.invariant.len in let b = c.push_reserved.ensures.len in omega (arith, a, b));
  reserved = (let a = c.loop-k.invariant.reserved in let b = c.choose_one-c.ensures.reserved in omega (arith, a, b));
}

pub returns-clause-chosen : goal.returns-clause-chosen
returns-clause-chosen c =
    let end : c.loop-k.k ≡ length c.args.keys.now =
    (let a = c.loop-k-test.false in let b = c.loop-k.auto.k-end in let len = c.len-k-end.ensures.len in omega (arith, a, b, len)) in
    subst (λ (i : ℕ). AreChosen c.args.blocks.now c.loop-k.blocks (has c.args.active_nodes.now.nodes) c.args.keys.now i c.args.retained.now c.loop-k.chosen.items) end c.loop-k.invariant.chosen
