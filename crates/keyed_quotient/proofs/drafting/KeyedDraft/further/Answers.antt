use Rattle.std.proofs.Common.{subst, sym, arith}
use Rattle.std.proofs.lemmas.Option.{slice_get_within}
use Rattle.keyed_quotient.specs.Changes.{KeyedChanges}
use Rattle.std.specs.List.{IsDistinct}
use Rattle.std.specs.Map.{keys_of}
use Rattle.std.specs.Prelude.{nat_eq}
use Rattle.keyed_quotient.proofs.DraftedKeys.{further_found, further_absent}
use Rattle.keyed_quotient.proofs.drafting.KeyedDraft.further.Goals as goal

pub returns-in-None-clause-absent : goal.returns-in-None-clause-absent
returns-in-None-clause-absent c = rw (← c.self.view_is) (further_absent c.self.inside.blocks.items c.self.inside.keys c.args.key.now c.in-None.ensures.absent)

pub read-requires : goal.read-requires
read-requires c =
    let within = slice_get_within c.self.inside.keys c.in-Some.i c.args.key.now c.in-Some.ensures.found in
    let even = c.self.invariant in
    let len = c.deref.ensures.len in
    omega (arith, within, even, len)

pub returns-in-Some-clause-found : goal.returns-in-Some-clause-found
returns-in-Some-clause-found c =
    let once = subst (λ (d : KeyedChanges). IsDistinct nat_eq (keys_of d.keys)) (sym c.self.view_is) c.requires.once in
    rw (← c.self.view_is) (further_found c.self.inside.blocks.items c.self.inside.keys c.in-Some.i c.read.result c.args.key.now once (rw (← c.deref.ensures.value) c.read.ensures) c.in-Some.ensures.found)
