use Rattle.std.proofs.Common.{◌≡◌, ◌≢◌, Some, arith}
use Rattle.std.specs.Prelude.{slice_get}
use Rattle.px_base.proofs.LineEndLaws.{takes-return, both-pass}
use Rattle.px_base.proofs.line_end.take_return.Goals as goal

pub returns-then-ne-clause-ok : goal.returns-then-ne-clause-ok
returns-then-ne-clause-ok g c =
    let kept = rw c.skip.ensures at c.in_ok-fill_empty.ensures.keeps in
    let other : slice_get c.fill_empty.new.self 0 ≢ Some 10 = grind arith in
    takes-return c.args.most c.args.window.now c.fill_empty.new.self (g.H.Shelf.left c.args.shelf.now) (g.H.Shelf.left c.fill_empty.new.shelf)
    c.requires.most c.requires.at kept c.in_ok-fill_empty.ensures.over other

pub returns-then-most-lt2-clause-limit : goal.returns-then-most-lt2-clause-limit
returns-then-most-lt2-clause-limit g c p =
    let kept = rw c.skip.ensures at c.in_ok-fill_empty.ensures.keeps in
    let same : slice_get c.fill_empty.new.self 0 ≡ Some 10 = grind arith in
    both-pass c.args.most c.args.window.now c.fill_empty.new.self (g.H.Shelf.left c.args.shelf.now) (g.H.Shelf.left c.fill_empty.new.shelf)
    c.if-most-lt2.true c.requires.at kept same
