use Rattle.std.proofs.Common.{◌∙◌, arith, sym, subst, ap}
use Rattle.std.specs.Prelude.{IsSome}
use Rattle.std.specs.Map.{lookup, keys_of}
use Rattle.graph_spec.specs.Members.{at}
use Rattle.block_partition.specs.LabelledPartitions.{Partition}
use Rattle.quotient_draft.specs.Drafts.{is_pair}
use Rattle.quotient_draft.proofs.AppliedDrafts.{supports_next}
use Rattle.quotient_draft.proofs.PairCounts.{key_at, reserved_here, reserved_used}
use Rattle.quotient_draft.proofs.changed.Changed.make_in.Goals as goal

pub set_support-requires-clause-from : goal.set_support-requires-clause-from
set_support-requires-clause-from c =
    let both = c.requires.ends c.in-Some.p.now c.in-Some.n.now (ap (lookup (is_pair c.in-Some.p.now)) (sym c.self.view_is) ∙ c.in-Some.ensures.value) in
    subst (λ (b : Partition). IsSome (at b.labels c.in-Some.p.now.0)) (sym c.loop-i.invariant.blocks) both.0

pub set_support-requires-clause-onto : goal.set_support-requires-clause-onto
set_support-requires-clause-onto c =
    let both = c.requires.ends c.in-Some.p.now c.in-Some.n.now (ap (lookup (is_pair c.in-Some.p.now)) (sym c.self.view_is) ∙ c.in-Some.ensures.value) in
    subst (λ (b : Partition). IsSome (at b.labels c.in-Some.p.now.1)) (sym c.loop-i.invariant.blocks) both.1

pub set_support-requires-clause-children : goal.set_support-requires-clause-children
set_support-requires-clause-children c =
    let es = c.self.inside.pairs.entries in
    reserved_here (λ p. p.0) (keys_of es) c.loop-i.i c.in-Some.p.now c.loop-i.base.reserved.children (key_at es c.loop-i.i c.in-Some.p.now c.in-Some.n.now (sym c.in-Some.ensures.entry)) c.loop-i.invariant.children

pub set_support-requires-clause-parents : goal.set_support-requires-clause-parents
set_support-requires-clause-parents c =
    let es = c.self.inside.pairs.entries in
    reserved_here (λ p. p.1) (keys_of es) c.loop-i.i c.in-Some.p.now c.loop-i.base.reserved.parents (key_at es c.loop-i.i c.in-Some.p.now c.in-Some.n.now (sym c.in-Some.ensures.entry)) c.loop-i.invariant.parents

pub loop-i-preserved : goal.loop-i-preserved
loop-i-preserved c =
    let es = c.self.inside.pairs.entries in
    let inv = c.loop-i.invariant in
    let entry = sym c.in-Some.ensures.entry in
    let key = key_at es c.loop-i.i c.in-Some.p.now c.in-Some.n.now entry in
    let pairs = inv.pairs in
    let used = c.set_support.ensures.pairs in
    record {
      blocks = c.set_support.ensures.blocks ∙ inv.blocks;
      supports = supports_next c.args.base.now.supports c.loop-i.base.supports c.set_support.new.self.supports es c.loop-i.i c.in-Some.n.now c.in-Some.p.now entry inv.supports c.set_support.ensures.supports;
      pairs = omega (arith, pairs, used);
      children = reserved_used (λ p. p.0) (keys_of es) c.loop-i.i c.in-Some.p.now c.loop-i.base.reserved.children c.set_support.new.self.reserved.children key inv.children c.set_support.ensures.children;
      parents = reserved_used (λ p. p.1) (keys_of es) c.loop-i.i c.in-Some.p.now c.loop-i.base.reserved.parents c.set_support.new.self.reserved.parents key inv.parents c.set_support.ensures.parents;
    }
