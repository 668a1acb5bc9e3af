-- Groups as the code has them, or has none.
use Rattle.std.proofs.Common.{◌≡◌, ℕ, true, false, List, Option, None, Some, refl, sym, true≢false}
use Rattle.std.specs.Prelude.{is_some}
use Rattle.script_interpreter.specs.declared.group.OpenGroup.{OpenGroup}
use Rattle.script_interpreter.specs.declared.interpreter.Outcome.{Outcome}
use Rattle.script_interpreter.specs.Outputs.{Gathered}
use Rattle.script_interpreter.specs.States.{State}
use Rattle.script_interpreter.specs.Runs.{Group}
use Rattle.script_interpreter.specs.RunSteps.{LineComes}
use Rattle.script_interpreter.specs.OpenGroups.{IsKeptAs}

-- a group is open where the code has one
pub kept_some : (group : Option Group) (kept : Option OpenGroup) → IsKeptAs group kept → is_some group ≡ is_some kept
kept_some None None k = refl
kept_some None (Some o) k = absurd k
kept_some (Some g) None k = absurd k
kept_some (Some g) (Some o) k = refl

-- what a line comes to where the code has a group, by what it comes to in each group that the code may stand for
pub comes_inside : (s : State) (number : ℕ) (line : List ℕ) (kept : Option OpenGroup) (old : Gathered) (outcome : Outcome) (t : State) (kept2 : Option OpenGroup) (new : Gathered) → is_some kept ≡ true
    → ((g : Group) → IsKeptAs (Some g) kept → (left : Option Group) × IsKeptAs left kept2 × LineComes s number line (Some g) old outcome t left new)
    → (was : Option Group) → IsKeptAs was kept → (left : Option Group) × IsKeptAs left kept2 × LineComes s number line was old outcome t left new
comes_inside s number line None old outcome t kept2 new e comes was k = absurd (true≢false (sym e))
comes_inside s number line (Some o) old outcome t kept2 new e comes None k = absurd k
comes_inside s number line (Some o) old outcome t kept2 new e comes (Some g) k = comes g k

-- and where it has none
pub comes_outside : (s : State) (number : ℕ) (line : List ℕ) (kept : Option OpenGroup) (old : Gathered) (outcome : Outcome) (t : State) (kept2 : Option OpenGroup) (new : Gathered) → is_some kept ≡ false
    → ((left : Option Group) × IsKeptAs left kept2 × LineComes s number line None old outcome t left new)
    → (was : Option Group) → IsKeptAs was kept → (left : Option Group) × IsKeptAs left kept2 × LineComes s number line was old outcome t left new
comes_outside s number line (Some o) old outcome t kept2 new e comes was k = absurd (true≢false e)
comes_outside s number line None old outcome t kept2 new e comes None k = comes
comes_outside s number line None old outcome t kept2 new e comes (Some g) k = absurd k

pub has_none : (kept : Option OpenGroup) → is_some kept ≡ false → kept ≡ None
has_none None e = refl
has_none (Some o) e = absurd (true≢false e)
