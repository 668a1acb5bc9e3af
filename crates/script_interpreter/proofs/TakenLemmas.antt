-- Lines that are taken.
use Rattle.std.proofs.Common.{◌≡◌, ℕ, true, false, List, [], ◌++◌, None, Result, Ok, Err, sym, ap, append-nil}
use Rattle.std.specs.Prelude.{OnErr}
use Rattle.graph_spec.specs.ProgramLimits.{program_limits}
use Rattle.graph_spec.specs.declared.refusal.Refusal.TheVariants.{Limit}
use Rattle.script_read.specs.Commands.{Command, IsQuiet, IsSpelled, PassesLimit}
use Rattle.script_interpreter.specs.LineTexts.{refused_line}
use Rattle.script_interpreter.specs.Outputs.{Gathered, with_printed}
use Rattle.script_interpreter.specs.States.{State}
use Rattle.script_interpreter.specs.Runs.{outside, nothing, over, command}
use Rattle.script_interpreter.specs.RunSteps.{Extends, Obeyed, IsTaken}

-- a line outside a group whose command was carried out
pub obeyed_taken : (s : State) (number : ℕ) (line : List ℕ) (c : Command) (old : Gathered) (t : State) (new : Gathered)
    → IsSpelled line c → ¬ PassesLimit program_limits line → Obeyed s c old t new → IsTaken s number line None old t None new
obeyed_taken s number line c old t new h w o = record {
  printed = o.printed;
  refuses = o.refuses;
  takes = outside o.printed o.refuses t (command c h w _ _ _ o.obeys);
  gathered_is = o.gathered_is;
}

pub quiet_taken : (s : State) (number : ℕ) (line : List ℕ) (old : Gathered) → IsQuiet line → IsTaken s number line None old s None old
quiet_taken s number line old q = record {
  printed = [];
  refuses = false;
  takes = outside [] false s (nothing q);
  gathered_is = ap (λ text. record old { text = text }) (sym (append-nil old.text));
}

-- a query whose expression passes a limit
pub over_taken : (s : State) (number : ℕ) (line : List ℕ) (old new : Gathered) → PassesLimit program_limits line → new ≡ with_printed old (refused_line Limit) true → IsTaken s number line None old s None new
over_taken s number line old new p g = record { printed = refused_line Limit; refuses = true; takes = outside (refused_line Limit) true s (over p); gathered_is = g }

-- what was appended up to an error is a prefix
pub extends_err : {T E : Type 0} (r : Result T E) (old new text : List ℕ) → new ≡ old ++ text → OnErr r (Extends old new)
extends_err (Ok x) old new text e = tt
extends_err (Err x) old new text e = record { rest = text; new_is = e }
