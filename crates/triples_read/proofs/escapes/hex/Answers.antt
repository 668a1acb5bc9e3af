use Rattle.std.proofs.Common.{arith, ℕ, sym, subst, ◌+◌, ◌*◌, drop}
use Rattle.std.proofs.lemmas.Bool.{ltb-true, ltb-false}
use Rattle.triples_read.proofs.Basics.{if_none, if_some}
use Rattle.triples_read.proofs.Digits.{hex-out, hex-bad, hex-good, HexSoFar}
use Rattle.triples_read.proofs.escapes.hex.Goals as goal

pub returns-in_default : goal.returns-in_default
returns-in_default c = hex-out c.args.count c.loop-i.i c.loop-i.n c.args.bytes.now (omega arith) (ltb-false _ _ (sym c.in_default.ensures.lookup.0)) c.loop-i.invariant

pub returns-in_default-digit : goal.returns-in_default-digit
returns-in_default-digit c =
    hex-bad c.args.count c.loop-i.i c.loop-i.n c.in-Some.b.now c.args.bytes.now (omega arith) (ltb-true _ _ (sym c.in-Some.ensures.lookup.0)) c.in-Some.ensures.lookup.1 (if_none _ _ c.in_default-digit.ensures) c.loop-i.invariant

pub loop-i-preserved : goal.loop-i-preserved
loop-i-preserved c =
    let digit = if_some _ _ _ c.in-Some-digit.ensures in
    let next = hex-good c.args.count c.loop-i.i c.loop-i.n c.in-Some.b.now c.args.bytes.now (omega arith) (ltb-true _ _ (sym c.in-Some.ensures.lookup.0)) c.in-Some.ensures.lookup.1 digit.0 c.loop-i.invariant in
    subst (λ (d : ℕ). HexSoFar c.args.count (c.loop-i.i + 1) (16 * c.loop-i.n + d) c.args.bytes.now (drop (c.loop-i.i + 1) c.args.bytes.now)) (sym digit.1) next
