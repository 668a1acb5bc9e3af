use Rattle.std.proofs.Common.{true≢false, sym, ◌∙◌, rules, ap, Err}
use Rattle.px_base.specs.ReaderStates.{stream}
use Rattle.index_file.proofs.LineLaws.{goes_result, refused_result, can_result, nearer_result, never_missing, never_fault, goes_over, line_past_limit}
use Rattle.index_file.proofs.reading.read_next.Goals as goal

pub returns-in-Ok-true : goal.returns-in-Ok-true
returns-in-Ok-true g c =
    let limits = c.args.limits.now in
    let r = c.args.reader.now in
    let q = c.next.new.self in
    let before = stream r (g.H.Shelf.left c.args.shelf.now) in
    let after = stream q (g.H.Shelf.left c.next.new.shelf) in
    let m = c.args.draft.now in
    let can = c.requires.can in
    let reads = c.in-Ok-true.ensures.line c.in-Ok-true.field-0-test in
    let taken = rw c.line.ensures at c.take_line.ensures.taken in
    let refused = rw (c.line.ensures, c.number.ensures) at c.take_line.ensures.refused in
    record {
      goes = goes_result limits r q before after reads can.line_limit can.text_limit m c.take_line.new.draft c.take_line.result taken;
      can = can_result limits r q before after reads can.line_limit can.text_limit c.take_line.result (g.H.Shelf.is_open c.next.new.shelf) (search rules) can.counted c.in-Ok-true.ensures.open;
      nearer = nearer_result limits r q before after reads can.line_limit can.text_limit c.take_line.result;
      refused = refused_result limits r q before after reads can.line_limit can.text_limit m c.take_line.result refused;
      found = never_missing limits q.line q.number m c.take_line.result refused;
      same = c.next.ensures.files;
      fault = λ e. absurd (never_fault limits q.line q.number m c.take_line.result refused e);
      no_fault = search rules;
    }

pub returns-in-Ok-false : goal.returns-in-Ok-false
returns-in-Ok-false g c =
    let r = c.args.reader.now in
    let q = c.next.new.self in
    let before = stream r (g.H.Shelf.left c.args.shelf.now) in
    let after = stream q (g.H.Shelf.left c.next.new.shelf) in
    record {
      goes = goes_over c.args.limits.now r q before after c.args.draft.now (c.in-Ok-false.ensures.over c.in-Ok-false.field-0-test);
      can = λ h. absurd (true≢false (sym h));
      nearer = λ h. absurd (true≢false (sym h));
      refused = tt;
      found = search rules;
      same = c.next.ensures.files;
      fault = search rules;
      no_fault = search rules;
    }

pub returns-in-Err-Limit : goal.returns-in-Err-Limit
returns-in-Err-Limit g c =
    let r = c.args.reader.now in
    let before = stream r (g.H.Shelf.left c.args.shelf.now) in
    record {
      goes = tt;
      can = tt;
      nearer = tt;
      refused = line_past_limit c.args.limits.now r before c.args.draft.now c.number-in-Err-Limit.result (c.in-Err-Limit.ensures.limit (ap Err c.in-Err-Limit.field-0-is)) c.requires.can.line_limit c.requires.can.text_limit
          (c.number-in-Err-Limit.ensures ∙ c.in-Err-Limit.ensures.number (ap Err c.in-Err-Limit.field-0-is));
      found = search rules;
      same = c.next.ensures.files;
      fault = search rules;
      no_fault = search rules;
    }
