use Rattle.std.proofs.Common.{◌≤◌, ◌^◌}
use Rattle.quotient_draft.proofs.AppliedDrafts.{AreBefore}
use Rattle.quotient_draft.proofs.moves.Moves.past.Given as goal

abbrev pub invariant-loop-i : goal.invariant-loop-i
invariant-loop-i l = record {
  from : l.numbers ≤ l.end;
  few : l.end ≤ 2 ^ 31;
  before : AreBefore l.self-inside.moves.entries l.i l.end;
}
