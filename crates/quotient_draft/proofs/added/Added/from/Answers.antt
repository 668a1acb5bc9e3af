use Rattle.std.proofs.Common.{◌∙◌, arith, sym, ap}
use Rattle.quotient_draft.specs.Scans.{from_after}
use Rattle.quotient_draft.proofs.Scanned.{last_after}
use Rattle.quotient_draft.proofs.added.Added.from.Goals as goal

pub overflow_add-result : goal.overflow_add-result
overflow_add-result c =
    let last = last_after 0 c.self.inside.blocks.entries (c.in-Some.b.now, c.in-Some.field-0-1.now) (sym c.in-Some.ensures.entry) in
    let few = c.requires in
    let is = ap (from_after 0) c.self.view_is in
    omega (arith, last, few, is)

pub returns-in-Some : goal.returns-in-Some
returns-in-Some c =
    sym (last_after 0 c.self.inside.blocks.entries (c.in-Some.b.now, c.in-Some.field-0-1.now) (sym c.in-Some.ensures.entry)) ∙ ap (from_after 0) c.self.view_is
