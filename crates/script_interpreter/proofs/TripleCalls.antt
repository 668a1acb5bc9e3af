-- What `insert` and `delete` of a triple make of the state of a run.
use Rattle.std.proofs.Common.{◌≡◌, Bool, true, false, List, None, Some, subst}
use Rattle.std.specs.Prelude.{if◌then◌else◌}
use Rattle.graph_spec.specs.declared.refusal.Refusal.TheVariants.{NoNode}
use Rattle.change_spec.specs.Steps.{Step}
use Rattle.triples_read.specs.declared.term.Triple.{Triple}
use Rattle.triple_names.specs.declared.inserting.Placed.{Placed}
use Rattle.triple_names.specs.Names.{Names, AreSameNames}
use Rattle.triple_names.specs.TripleChanges.{insert_steps, placed_in, noted, delete_change}
use Rattle.triple_names.proofs.SameNames.{same_through, noted_alike}
use Rattle.pathindex_core.specs.Engines.{EngineSeen, graph_in}
use Rattle.script_read.specs.Commands.{insert, delete}
use Rattle.script_interpreter.specs.declared.group.Scope.TheVariants.{LineGroup}
use Rattle.script_interpreter.specs.LineTexts.{refused_line}
use Rattle.script_interpreter.specs.Outputs.{Gathered, with_printed}
use Rattle.script_interpreter.specs.States.{State}
use Rattle.script_interpreter.specs.EngineStates.{state_in}
use Rattle.script_interpreter.specs.Runs.{Makes, inserts, deletes, misses}
use Rattle.script_interpreter.specs.RunSteps.{Changed, Obeyed}

module _ (e f : EngineSeen) (x : Triple) (n k : Names) (c : List Step) (is : c ≡ insert_steps n (graph_in e.opened) x) where
  -- the steps are those of the insert, and these names are the next ones
  insert_obeyed : (refuses : Bool) (old new : Gathered) → Changed LineGroup (state_in e n) c old refuses (state_in f n) new
      → AreSameNames k (if refuses then n else noted x (placed_in n (graph_in e.opened) x) n) → Obeyed (state_in e n) (insert x) old (state_in f k) new
  insert_obeyed refuses old new made names =
      let inserted : Changed LineGroup (state_in e n) (insert_steps n (graph_in e.opened) x) old refuses (state_in f n) new = subst (λ s. Changed LineGroup (state_in e n) s old refuses (state_in f n) new) is made in
      record {
        printed = inserted.printed;
        refuses = refuses;
        obeys = inserts x inserted.printed refuses (state_in f k) (record { makes = inserted.makes; names = names });
        gathered_is = inserted.gathered_is;
      }

-- the steps are accepted, and the numbers are noted in names that are the same
pub noted_obeyed : (e f : EngineSeen) (x : Triple) (p : Placed) (n m k : Names) (c : List Step) (old new : Gathered) → c ≡ insert_steps n (graph_in e.opened) x → p ≡ placed_in n (graph_in e.opened) x
    → AreSameNames m n → AreSameNames k (noted x p m) → Changed LineGroup (state_in e n) c old false (state_in f n) new → Obeyed (state_in e n) (insert x) old (state_in f k) new
noted_obeyed e f x p n m k c old new is placed same names made =
    insert_obeyed e f x n k c is false old new made
    (subst (λ q. AreSameNames k (noted x q n)) placed (same_through k (noted x p m) (noted x p n) names (noted_alike m n x p same)))

-- they are refused, and the names stay
pub unnoted_obeyed : (e f : EngineSeen) (x : Triple) (n m : Names) (c : List Step) (old new : Gathered) → c ≡ insert_steps n (graph_in e.opened) x → AreSameNames m n
    → Changed LineGroup (state_in e n) c old true (state_in f n) new → Obeyed (state_in e n) (insert x) old (state_in f m) new
unnoted_obeyed e f x n m c old new is same made = insert_obeyed e f x n m c is true old new made same

-- the triple is there, and its delete is made or refused
pub delete_obeyed : (s : State) (x : Triple) (c : List Step) (old : Gathered) (refuses : Bool) (t : State) (new : Gathered) → delete_change s.names s.graph x ≡ Some c → Changed LineGroup s c old refuses t new
    → Obeyed s (delete x) old t new
delete_obeyed s x c old refuses t new is made =
    record { printed = made.printed; refuses = refuses; obeys = deletes x c made.printed refuses t is made.makes; gathered_is = made.gathered_is }

-- it isn't there
pub missed_obeyed : (s : State) (x : Triple) (old new : Gathered) → delete_change s.names s.graph x ≡ None → new ≡ with_printed old (refused_line NoNode) true → Obeyed s (delete x) old s new
missed_obeyed s x old new none is = record { printed = refused_line NoNode; refuses = true; obeys = misses x none; gathered_is = is }
