-- Lines in a group, and the steps of it that the code keeps.
use Rattle.std.proofs.Common.{◌≡◌, ◌≢◌, ℕ, ◌<◌, ◌≤◌, ◌⊎◌, inl, inr, Bool, false, List, [], ◌∷◌, ◌++◌, length, take, Option, None, Some, Err, refl, sym, ap, ◌∙◌, subst, arith, append-nil}
use Rattle.std.specs.Prelude.{nat_le, is_err}
use Rattle.std.proofs.lemmas.Grind.{common_steps}
use Rattle.std.proofs.lemmas.List.{length-append}
use Rattle.graph_spec.specs.ProgramLimits.{program_limits}
use Rattle.graph_spec.specs.declared.limits.Limits.{Limits}
use Rattle.graph_spec.specs.declared.refusal.Refusal.{Refusal}
use Rattle.graph_spec.specs.declared.refusal.Refusal.TheVariants.{Limit}
use Rattle.graph_spec.specs.Graphs.{Graph}
use Rattle.change_spec.specs.Steps.{Step, node, link, unlink, drop, relabel, apply, MOST_STEPS}
use Rattle.script_read.specs.Commands.{Command, change, begin, end, insert, delete, path, branch, why, check, extents, sizes, save, forget, IsQuiet, IsSpelled, PassesLimit, SpellsNothing}
use Rattle.script_read.proofs.CommandLemmas.{keyword, begins, lead, no_query, silent, free, node_free, relabel_free, quiet_free}
use Rattle.script_interpreter.specs.declared.group.Scope.{Scope}
use Rattle.script_interpreter.specs.declared.group.Scope.TheVariants.{LineGroup}
use Rattle.script_interpreter.specs.declared.group.OpenGroup.{OpenGroup}
use Rattle.script_interpreter.specs.Outputs.{Gathered, with_printed}
use Rattle.script_interpreter.specs.LineTexts.{reply}
use Rattle.script_interpreter.specs.Rules.{Rules, rules_for}
use Rattle.script_interpreter.specs.States.{State}
use Rattle.script_interpreter.specs.Runs as runs
use Rattle.script_interpreter.specs.Runs.{Group, with_step, Becomes, Makes, StandsInGroup}
use Rattle.script_interpreter.specs.RunSteps.{IsAlone, Changed, IsTaken}
use Rattle.script_interpreter.specs.declared.group.TheConstants.{KEPT_STEPS}
use Rattle.script_interpreter.specs.OpenGroups.{IsKeptAs}

few_or_many : (n : ℕ) → (n ≤ 1024) ⊎ (1024 < n)
few_or_many n = grind arith

all_taken : (n : ℕ) (xs : List Step) → length xs ≤ n → take n xs ≡ xs
all_taken n xs h = grind (arith, common_steps)

some_taken : (m n : ℕ) (xs : List Step) → m < length xs → m < n → m < length (take n xs)
some_taken m n xs h k = grind (arith, common_steps)

taken_few : (n : ℕ) (xs : List Step) → n ≤ length (take n xs) → n ≤ length xs
taken_few n xs h = grind (arith, common_steps)

front_taken : (n : ℕ) (xs ys : List Step) → n ≤ length xs → take n (xs ++ ys) ≡ take n xs
front_taken n xs ys h = grind (arith, common_steps)

few_kept : (steps : List Step) → length steps ≤ 1025 → take KEPT_STEPS steps ≡ steps
few_kept steps h = all_taken 1025 steps h

many_kept : (steps : List Step) → 1024 < length steps → 1024 < length (take KEPT_STEPS steps)
many_kept steps h = some_taken 1024 1025 steps h (omega arith)

-- one more step is kept, or there are enough
pub kept_more : (steps kept : List Step) (x : Step) → kept ≡ take KEPT_STEPS steps → length kept < KEPT_STEPS → kept ++ x ∷ [] ≡ take KEPT_STEPS (steps ++ x ∷ [])
kept_more steps kept x k h =
    elim (few_or_many (length steps)) [
      | inl few ↦ (let l : length (steps ++ x ∷ []) ≤ 1025 = (let e = length-append steps (x ∷ []) in omega (arith, e, few)) in ap (λ s. s ++ x ∷ []) (k ∙ few_kept steps (omega (arith, few))) ∙ sym (few_kept (steps ++ x ∷ []) l))
      | inr many ↦ absurd (let l = many_kept steps many in let e = ap length k in omega (arith, l, e, h))
    ]

pub kept_enough : (steps kept : List Step) (x : Step) → kept ≡ take KEPT_STEPS steps → KEPT_STEPS ≤ length kept → kept ≡ take KEPT_STEPS (steps ++ x ∷ [])
kept_enough steps kept x k h = k ∙ sym (front_taken 1025 steps (x ∷ []) (taken_few 1025 steps (subst (λ l. 1025 ≤ length l) k h)))

-- too many steps are refused, whatever they are
pub too_many : (c : List Step) (g : Graph) (limits : Limits) → 1024 < length c → apply c g limits ≡ Err Limit
too_many c g limits h = rw (not_within (length c) h) refl
  where
    not_within : (n : ℕ) → 1024 < n → nat_le n MOST_STEPS ≡ false
    not_within n h = grind arith

refused_makes : (rules : Rules) (scope : Scope) (s : State) (c d : List Step) (printed : List ℕ) (refuses : Bool) (t : State) (r : Refusal)
    → apply c s.graph rules.limits ≡ Err r → apply d s.graph rules.limits ≡ Err r → Makes rules scope s c printed refuses t → Makes rules scope s d printed refuses t
refused_makes rules scope s c d printed refuses t r e f m = record {
  becomes = subst (λ x. Becomes s d x t) (sym f) (subst (λ x. Becomes s c x t) e m.becomes);
  printed_is = m.printed_is ∙ ap (reply rules.printing scope c s.graph) e ∙ ap (reply rules.printing scope d s.graph) (sym f);
  refuses_is = m.refuses_is ∙ ap is_err (e ∙ sym f);
}

-- the change of the steps that are kept is that of the whole group
pub kept_changed : (s : State) (steps kept : List Step) (old : Gathered) (refuses : Bool) (t : State) (new : Gathered) → kept ≡ take KEPT_STEPS steps → Changed LineGroup s kept old refuses t new
    → Changed LineGroup s steps old refuses t new
kept_changed s steps kept old refuses t new k c =
    elim (few_or_many (length steps)) [
      | inl few ↦ subst (λ x. Changed LineGroup s x old refuses t new) (k ∙ few_kept steps (omega (arith, few))) c
      | inr many ↦ record {
        printed = c.printed;
        makes = refused_makes (rules_for old.printing) LineGroup s kept steps c.printed refuses t Limit
            (too_many kept s.graph program_limits (subst (λ x. 1024 < length x) (sym k) (many_kept steps many))) (too_many steps s.graph program_limits many) c.makes;
        gathered_is = c.gathered_is;
      }
    ]

same_text : (old : Gathered) → old ≡ with_printed old [] false
same_text old = ap (λ text. record old { text = text }) (sym (append-nil old.text))

pub silent_taken : (s : State) (number : ℕ) (line : List ℕ) (g : Group) (old : Gathered) → IsQuiet line → IsTaken s number line (Some g) old s (Some g) old
silent_taken s number line g old q = record { printed = []; refuses = false; takes = runs.silent g q; gathered_is = same_text old }

pub adds_taken : (s : State) (number : ℕ) (line : List ℕ) (g : Group) (x : Step) (old : Gathered) → IsSpelled line (change x) → IsTaken s number line (Some g) old s (Some (with_step g x)) old
adds_taken s number line g x old h = record { printed = []; refuses = false; takes = runs.adds g x h; gathered_is = same_text old }

pub begins_taken : (s : State) (number : ℕ) (line : List ℕ) (old : Gathered) → IsSpelled line begin → IsTaken s number line None old s (Some (record { steps = []; line = number })) old
begins_taken s number line old h = record { printed = []; refuses = false; takes = runs.begins h; gathered_is = same_text old }

pub ends_taken : (s : State) (number : ℕ) (line : List ℕ) (g : Group) (old : Gathered) (refuses : Bool) (t : State) (new : Gathered) → IsSpelled line end → Changed LineGroup s g.steps old refuses t new
    → IsTaken s number line (Some g) old t None new
ends_taken s number line g old refuses t new h c = record { printed = c.printed; refuses = refuses; takes = runs.ends g c.printed refuses t h c.makes; gathered_is = c.gathered_is }

-- two commands of one line begin with one word
pub one_word : (line : List ℕ) (c d : Command) → IsSpelled line c → IsSpelled line d → keyword c ≡ keyword d
one_word line c d h k = sym (begins line c h) ∙ begins line d k

-- a command that is neither a step nor the end of a group may not stand in one
pub not_in_group : (line : List ℕ) (c : Command) → IsSpelled line c → ((x : Step) → c ≢ change x) → c ≢ end → ¬ StandsInGroup line
not_in_group line c h n e (inl q) = silent line q c h
not_in_group line c h n e (inr (inl k)) = apart c h n k.0 (one_word line c (change k.0) h k.1) k.1
  where
    apart : (c : Command) → IsSpelled line c → ((x : Step) → c ≢ change x) → (x : Step) → keyword c ≡ keyword (change x) → IsSpelled line (change x) → ⊥
    apart (change y) h n x w k = n y refl
    apart begin h n x w k = (no_query x).no_begin (sym (ap lead w))
    apart end h n x w k = (no_query x).no_end (sym (ap lead w))
    apart (insert y) h n x w k = (no_query x).no_insert (sym (ap lead w))
    apart (delete y) h n x w k = (no_query x).no_delete (sym (ap lead w))
    apart (path v f) h n x w k = (no_query x).no_path (sym (ap lead w))
    apart (branch v f) h n x w k = (no_query x).no_branch (sym (ap lead w))
    apart (why v f) h n x w k = (no_query x).no_why (sym (ap lead w))
    apart (check v f) h n x w k = (no_query x).no_check (sym (ap lead w))
    apart (extents v) h n x w k = (no_query x).no_extents (sym (ap lead w))
    apart sizes h n x w k = (no_query x).no_sizes (sym (ap lead w))
    apart save h n x w k = (no_query x).no_save (sym (ap lead w))
    apart (forget v) h n x w k = (no_query x).no_forget (sym (ap lead w))
not_in_group line c h n e (inr (inr k)) = apart c h n e (one_word line c end h k)
  where
    apart : (c : Command) → IsSpelled line c → ((x : Step) → c ≢ change x) → c ≢ end → keyword c ≡ keyword end → ⊥
    apart (change y) h n e w = n y refl
    apart end h n e w = e refl
    apart c h n e w = (let l = ap lead w in omega (arith, l))

-- nor may a line that passes a limit
pub limit_not_in_group : (limits : Limits) (line : List ℕ) → PassesLimit limits line → ¬ StandsInGroup line
limit_not_in_group limits line p s = p_out p s
  where
    step_free : (x : Step) → IsSpelled line (change x) → ¬ PassesLimit limits line
    step_free (node t) h = node_free limits line h.0 h.1
    step_free (link u v) h = free limits line (change (link u v)) h tt
    step_free (unlink u v) h = free limits line (change (unlink u v)) h tt
    step_free (drop u) h = free limits line (change (drop u)) h tt
    step_free (relabel u t) h = relabel_free limits line u h.0 (h.1, h.2)

    p_out : PassesLimit limits line → StandsInGroup line → ⊥
    p_out p (inl q) = quiet_free line q p.0
    p_out p (inr (inl k)) = step_free k.0 k.1 p
    p_out p (inr (inr k)) = free limits line end k tt p

pub nothing_not_in_group : (limits : Limits) (line : List ℕ) → SpellsNothing limits line → ¬ StandsInGroup line
nothing_not_in_group limits line n (inl q) = n.0.0 q
nothing_not_in_group limits line n (inr (inl k)) = n.0.1 (change k.0) k.1
nothing_not_in_group limits line n (inr (inr k)) = n.0.1 end k

-- a command that doesn't stand alone, and is neither the first nor the last line of a group, writes a file
pub marks_save : (c : Command) → ¬ IsAlone c → c ≢ begin → c ≢ end → c ≡ save
marks_save begin n b e = absurd (b refl)
marks_save end n b e = absurd (e refl)
marks_save save n b e = refl
marks_save c n b e = absurd (n tt)

-- no group is open where the code has none
pub none_kept : (kept : Option OpenGroup) → kept ≡ None → IsKeptAs None kept
none_kept kept e = subst (IsKeptAs None) (sym e) tt
