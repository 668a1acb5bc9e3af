use Rattle.std.proofs.Common.{◌≡◌, ◌++◌, take}
use Rattle.index_picture.specs.QuotedTexts.{quoted}
use Rattle.index_picture.proofs.output.push_quoted.Given as goal

abbrev pub invariant-loop-b : goal.invariant-loop-b
invariant-loop-b l = l.out.items ≡ l.fn.out.items ++ quoted (take l.b-index l.text)
