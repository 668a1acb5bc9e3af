use Rattle.std.proofs.Common.{◌≡◌, ℕ, Some, true, slice_set, sym, subst}
use Rattle.quotient_draft.specs.Drafts.{shown_blocks}
use Rattle.quotient_moves.specs.Shifts.{leads}
use Rattle.quotient_moves.proofs.Moved.{moved_set, loop_leads, leads_there}
use Rattle.quotient_moves.proofs.shifting.shift_neighbour.Goals as goal

pub shift-requires-clause-few : goal.shift-requires-clause-few
shift-requires-clause-few c =
    let p = shown_blocks c.args.base.now c.args.draft.now in
    let p2 = slice_set p c.args.n (Some c.args.b) in
    let d = moved_set c.args.n c.args.own c.args.b p c.requires.own in
    c.requires.few c.args.b c.args.b p2 d (rw c.in-Parents.is (loop_leads c.args.n c.args.own c.args.b c.args.m p p2 d c.if-m-n.true))

pub shift-requires-2-clause-few : goal.shift-requires-2-clause-few
shift-requires-2-clause-few c =
    let p = shown_blocks c.args.base.now c.args.draft.now in
    let p2 = slice_set p c.args.n (Some c.args.b) in
    let d = moved_set c.args.n c.args.own c.args.b p c.requires.own in
    c.requires.few c.edge-2.result.0 c.edge-2.result.1 p2 d
    (subst (λ (e : ℕ × ℕ). leads c.args.side p2 c.args.n e.0 e.1 c.args.m ≡ true) (sym c.edge-2.ensures)
    (leads_there c.args.side c.args.n c.args.own c.args.b c.block_of-a.result c.args.m p p2 d c.if-m-n.false c.block_of-a.ensures.block))
