use Rattle.std.proofs.Common.{◌≤◌, length, length-take, take, drop, sym, arith}
use Rattle.std.proofs.lemmas.List.{take-append-drop}
use Rattle.px_base.proofs.lines.take_ahead.Goals as goal

pub returns-then-count-most-clause-limit : goal.returns-then-count-most-clause-limit
returns-then-count-most-clause-limit c _ =
    let ahead = c.args.window.now in
    let n = c.plain_len-count.result in
    let within : n ≤ length ahead = rw (← c.bytes-bytes.ensures) c.plain_len-count.ensures.within in
    record {
      prefix = take n ahead;
      rest = drop n ahead;
      plain = rw (← c.bytes-bytes.ensures) c.plain_len-count.ensures.plain;
      long = rw (length-take n ahead) (grind (arith, within));
      ahead_is = sym (take-append-drop n ahead);
    }
