use Rattle.std.proofs.Common.{◌≡◌, true, false}
use Rattle.std.specs.Prelude.{is_some}
use Rattle.px_base.proofs.tests.take_lines.Given as goal

abbrev pub invariant-loop : goal.invariant-loop
invariant-loop l = (l.reader.failed ≡ false) × (is_some l.shelf.left ≡ true)
