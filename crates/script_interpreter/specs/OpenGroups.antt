-- The group that is open, as the code has it.
use Rattle.std.specs.Prelude.{◌≡◌, ⊤, take, Option, None, Some}
use Rattle.script_interpreter.specs.declared.group.TheConstants.{KEPT_STEPS}
use Rattle.script_interpreter.specs.declared.group.OpenGroup.{OpenGroup}
use Rattle.script_interpreter.specs.Runs.{Group}

-- the code has the group, with the first of its steps
abbrev pub IsKeptAs : Option Group → Option OpenGroup → Type 0
IsKeptAs None None = ⊤
IsKeptAs None (Some kept) = ⊥
IsKeptAs (Some group) None = ⊥
IsKeptAs (Some group) (Some kept) = (kept.change ≡ take KEPT_STEPS group.steps) × (kept.line ≡ group.line)
