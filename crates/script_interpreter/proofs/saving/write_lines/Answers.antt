use Rattle.std.proofs.Common.{refl, rules}
use Rattle.script_interpreter.proofs.PieceLaws.{no_part_yet, next_twice, all_parts, part_behind}
use Rattle.script_interpreter.proofs.saving.write_lines.Goals as goal

pub parts-init : goal.parts-init
parts-init g c = record { parts = no_part_yet _ _; faults = refl }

pub parts-preserved : goal.parts-preserved
parts-preserved g c = record { parts = next_twice _ _ _ _ _ _ c.parts.invariant.parts c.in-Ok-true.ensures.next; faults = search rules }

pub returns-in-Ok-false-clause-all : goal.returns-in-Ok-false-clause-all
returns-in-Ok-false-clause-all g c =
    let test = c.in-Ok-false.field-0-test in
    all_parts _ _ _ _ (c.in-Ok-false.ensures.over (cc)) (next_twice _ _ _ _ _ _ c.parts.invariant.parts c.in-Ok-false.ensures.next)

pub returns-in-Err-clause-part : goal.returns-in-Err-clause-part
returns-in-Err-clause-part g c = part_behind _ _ _ _ _ c.parts.invariant.parts c.in-Err.ensures.part
