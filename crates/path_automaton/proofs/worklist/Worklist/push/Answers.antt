use Rattle.std.proofs.Common.{refl, ◌<◌, length, arith}
use Rattle.path_automaton.proofs.Runs.{runs_push, pairs_push}
use Rattle.std.proofs.lemmas.Grind.{common_steps}
use Rattle.path_automaton.proofs.worklist.Worklist.push.Goals as goal

pub invariant_of-self-2 : goal.invariant_of-self-2
invariant_of-self-2 c =
    let some : 0 < length c.args.places.now = grind (arith, common_steps) in
    rw (c.push_reserved.ensures.items, c.in_ok-reserve.ensures.items, c.in_ok-extend_from_slice.ensures.items)
    (runs_push c.self.inside.runs.items c.self.inside.places.items c.args.places.now _ c.self.invariant some refl)

pub returns : goal.returns
returns c =
    rw (c.push_reserved.ensures.items, c.in_ok-reserve.ensures.items, c.in_ok-extend_from_slice.ensures.items, ← c.self.view_is)
    (pairs_push c.self.inside.runs.items c.self.inside.places.items c.args.places.now _ c.self.invariant refl)
