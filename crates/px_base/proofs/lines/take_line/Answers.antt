use Rattle.std.proofs.Common.{◌≡◌, length, arith}
use Rattle.std.proofs.lemmas.Result.{err_from_is_err_and}
use Rattle.px_base.proofs.TakenLines.{took-line, long-text, long-end}
use Rattle.px_base.proofs.lines.take_line.Goals as goal

pub returns-in_err-gather-clause-limit : goal.returns-in_err-gather-clause-limit
returns-in_err-gather-clause-limit g c p =
    let q = err_from_is_err_and c.from_residual.result c.from_residual.ensures.1 in
    let long = rw (c.clear.ensures.items, c.min.ensures) at (c.in_err-gather.ensures.limit (cc (p, q.1, q.2))) in
    long-text c.args.line_limit c.args.most _ long

pub returns-clause-ok : goal.returns-clause-ok
returns-clause-ok g c =
    let gathered = rw (c.clear.ensures.items, c.min.ensures) at c.in_ok-gather.ensures.ok in
    let size : c.len.result ≡ length c.gather.new.line.items = omega arith in
    took-line c.args.line_limit c.args.most c.gather.new.line.items c.take_end.new.window _ _ _ c.take_end.result gathered
    (rw size at c.take_end.ensures.ok) c.take_end.ensures.over

pub returns-clause-limit : goal.returns-clause-limit
returns-clause-limit g c p =
    let gathered = rw (c.clear.ensures.items, c.min.ensures) at c.in_ok-gather.ensures.ok in
    let size : c.len.result ≡ length c.gather.new.line.items = omega arith in
    long-end c.args.line_limit c.args.most c.gather.new.line.items _ _ gathered (rw size at (c.take_end.ensures.limit p))
