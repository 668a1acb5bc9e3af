use Rattle.std.proofs.Common.{◌≡◌, ◌++◌, take}
use Rattle.index_picture.specs.Pictures.{others_text}
use Rattle.index_picture.proofs.lines.push_others.Given as goal

abbrev pub invariant-loop-n : goal.invariant-loop-n
invariant-loop-n l = l.out.items ≡ l.fn.out.items ++ others_text l.names (take l.n-index l.nodes)
