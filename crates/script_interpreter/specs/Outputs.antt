-- What is gathered of the output of a run.
use Rattle.std.specs.Prelude.{ℕ, Bool, ◌||◌, List, ◌++◌}
use Rattle.script_interpreter.specs.declared.printing.Printing.{Printing}

-- what is gathered of the output so far
pub record Gathered : Type 0 where
  -- how much is printed
  pub printing : Printing
  -- what was printed and isn't written yet
  pub text : List ℕ
  -- whether some line printed `refused`
  pub refused : Bool

-- the same after a line that printed this, which is a refusal or not
abbrev pub with_printed : Gathered → List ℕ → Bool → Gathered
with_printed g printed refuses = record g { text = g.text ++ printed; refused = refuses || g.refused }
