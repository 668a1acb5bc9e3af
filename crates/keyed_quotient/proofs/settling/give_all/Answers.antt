use Rattle.std.proofs.Common.{ℕ, List, ◌<◌, sym, subst, arith}
use Rattle.keyed_quotient.specs.Changes.{IsKnown}
use Rattle.std.specs.List.{zip}
use Rattle.keyed_quotient.proofs.DraftedKeys.{zip_get}
use Rattle.keyed_quotient.proofs.AddedKeys.{given_next, given_all, zip_length}
use Rattle.keyed_quotient.proofs.settling.give_all.Goals as goal

pub give-requires-clause-known : goal.give-requires-clause-known
give-requires-clause-known c =
    let here = zip_get c.args.blocks.now c.args.keys.now c.keys.i c.read.result c.key.result.now c.read.ensures c.key.ensures in
    subst (λ (t : List (List ℕ)). IsKnown t c.key.result.now) (sym c.keys.invariant.table) (c.requires.known c.keys.i c.read.result c.key.result.now here)

pub give-requires-clause-span : goal.give-requires-clause-span
give-requires-clause-span c =
    let here = zip_get c.args.blocks.now c.args.keys.now c.keys.i c.read.result c.key.result.now c.read.ensures c.key.ensures in
    subst (λ (n : ℕ). c.read.result < n) (sym c.keys.invariant.span) (c.requires.span c.keys.i c.read.result c.key.result.now here)

pub keys-preserved : goal.keys-preserved
keys-preserved c =
    let here = zip_get c.args.blocks.now c.args.keys.now c.keys.i c.read.result c.key.result.now c.read.ensures c.key.ensures in
    given_next (zip c.args.blocks.now c.args.keys.now) c.keys.i c.read.result c.key.result.now c.args.numbers.now c.keys.numbers c.give.new.self c.requires.apart here c.requires.fits
    (c.requires.span c.keys.i c.read.result c.key.result.now here) c.keys.invariant c.give.ensures.given

pub returns : goal.returns
returns c =
    let end = c.keys-test.false in
    let len = c.len-i-end.ensures.len in
    let most = zip_length c.args.blocks.now c.args.keys.now in
    given_all (zip c.args.blocks.now c.args.keys.now) c.keys.i c.args.numbers.now c.keys.numbers (omega (arith, end, len, most)) c.keys.invariant
