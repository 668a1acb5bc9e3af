-- What the next line, or the end of the script, makes of a run.
use Rattle.std.proofs.Common.{◌≡◌, ℕ, ◌+◌, ◌++◌, ◌≤◌, Bool, true, List, length, Option, None, Some, Result, Ok, Err, IfOk, false, refl, sym, ◌∙◌, ap, subst}
use Rattle.std.specs.Prelude.{◌||◌, OnErr, is_some, if◌then◌else◌}
use Rattle.px_base.specs.ReaderStates.{ReaderState, ReadsLine, Finishes, IsPast, IsReadable}
use Rattle.graph_spec.specs.Lines.{cut}
use Rattle.graph_spec.specs.ProgramLimits.{program_limits}
use Rattle.script_interpreter.specs.Rules.{rules_for}
use Rattle.script_interpreter.specs.LineTexts.{bad_line}
use Rattle.script_interpreter.specs.Outputs.{Gathered, with_printed}
use Rattle.script_interpreter.specs.States.{State}
use Rattle.script_read.specs.Commands.{save}
use Rattle.script_interpreter.specs.Runs.{Group, IsWithinScript, TakesLine, outside, command, saves, IsBadIn, text_at_end}
use Rattle.script_interpreter.specs.OpenGroups.{IsKeptAs}
use Rattle.script_interpreter.specs.RunSteps.{IsTaken, IsLeft, IsDue, FirstIsBad, Goes, CanRead, progress}
use Rattle.script_interpreter.specs.declared.group.OpenGroup.{OpenGroup}
use Rattle.script_interpreter.specs.declared.script.Next.{Next}
use Rattle.script_interpreter.specs.declared.script.Next.TheVariants.{Taken, Saves, AtBad, AtEnd}
use Rattle.script_interpreter.specs.declared.script.Stop.{Stop}

-- what a step of the run comes to, whatever group the code has
abbrev Steps : State → State → Option OpenGroup → Option OpenGroup → ReaderState → ReaderState → Option (List ℕ) → Option (List ℕ) → Gathered → Gathered → Next → Type 0
Steps s t kept kept2 r r2 before after old new next =
    (was : Option Group) → IsKeptAs was kept → (left : Option Group) × IsKeptAs left kept2 × (new.printing ≡ old.printing)
    × Goes (rules_for old.printing) (progress s was old.refused r) before old.text next (progress t left new.refused r2) after new.text

swapped : (a b : Bool) → (a || b) ≡ (b || a)
swapped true true = refl
swapped true false = refl
swapped false true = refl
swapped false false = refl

-- a line was taken
pub taken_goes : (s t : State) (kept kept2 : Option OpenGroup) (number : ℕ) (line : List ℕ) (r r2 : ReaderState) (is_open : Bool) (before after : Option (List ℕ)) (old new : Gathered)
    → CanRead r is_open → ReadsLine r r2 before after → line ≡ r2.line → number ≡ r2.number
    → ((was : Option Group) → IsKeptAs was kept → (left : Option Group) × IsKeptAs left kept2 × IsTaken s number line was old t left new)
    → Steps s t kept kept2 r r2 before after old new Taken
taken_goes s t kept kept2 number line r r2 is_open before after old new can reads is count takes was k =
    let x = takes was k in
    let same : line ≡ reads.first.text = is ∙ ap (λ (y : ReaderState). y.line) reads.passed in
    let next : number ≡ r.number + 1 = count ∙ ap (λ (y : ReaderState). y.number) reads.passed in
    let h = x.2 in (
      x.0,
      x.1,
      ap (λ (g : Gathered). g.printing) h.gathered_is,
      (
        reads.first,
        h.printed,
        reads.observable,
        record {
          within = (subst (λ n. length reads.first.text ≤ n) can.line_limit reads.within.0, subst (λ n. r.taken + length reads.first.text + length reads.first.end ≤ n) can.text_limit reads.within.1);
          refuses = h.refuses;
          takes = subst (λ n. TakesLine (rules_for old.printing) s n reads.first.text was h.printed h.refuses t x.0) next
              (subst (λ l. TakesLine (rules_for old.printing) s number l was h.printed h.refuses t x.0) same h.takes);
          refused = ap (λ (g : Gathered). g.refused) h.gathered_is ∙ swapped h.refuses old.refused;
          lines = ap (λ (y : ReaderState). y.number) reads.passed;
          bytes = ap (λ (y : ReaderState). y.taken) reads.passed;
        },
        ap (λ (g : Gathered). g.text) h.gathered_is,
      ),
    )

refuses_nothing : (b : Bool) → b ≡ (b || false)
refuses_nothing true = refl
refuses_nothing false = refl

-- a line asks for a file
pub save_goes : (s t : State) (kept kept2 : Option OpenGroup) (line : List ℕ) (r r2 : ReaderState) (is_open : Bool) (before after : Option (List ℕ)) (old new : Gathered)
    → CanRead r is_open → ReadsLine r r2 before after → line ≡ r2.line
    → ((was : Option Group) → IsKeptAs was kept → (left : Option Group) × IsKeptAs left kept2 × IsDue s line was old t left new)
    → Steps s t kept kept2 r r2 before after old new Saves
save_goes s t kept kept2 line r r2 is_open before after old new can reads is due was k =
    let x = due was k in
    let same : line ≡ reads.first.text = is ∙ ap (λ (y : ReaderState). y.line) reads.passed in
    let h = x.2 in (
      x.0,
      x.1,
      ap (λ (g : Gathered). g.printing) h.gathered_is,
      (
        reads.first,
        reads.observable,
        λ text shows. record {
          within = (subst (λ n. length reads.first.text ≤ n) can.line_limit reads.within.0, subst (λ n. r.taken + length reads.first.text + length reads.first.end ≤ n) can.text_limit reads.within.1);
          refuses = false;
          takes = subst (λ w. TakesLine (rules_for old.printing) s (r.number + 1) reads.first.text w text false t x.0) (sym h.outside)
              (subst (λ l. TakesLine (rules_for old.printing) s (r.number + 1) reads.first.text None text false t l) (sym h.left_is)
              (subst (λ u. TakesLine (rules_for old.printing) s (r.number + 1) reads.first.text None text false u None) (sym h.state)
              (subst (λ l. TakesLine (rules_for old.printing) s (r.number + 1) l None text false s None) same
              (outside text false s (command save h.spelled h.free text false s (saves text shows))))));
          refused = ap (λ (g : Gathered). g.refused) h.gathered_is ∙ refuses_nothing old.refused;
          lines = ap (λ (y : ReaderState). y.number) reads.passed;
          bytes = ap (λ (y : ReaderState). y.taken) reads.passed;
        },
        h.state,
        ap (λ (g : Gathered). g.text) h.gathered_is,
      ),
    )

first_bad : (old : Gathered) (s : State) (group : Option Group) (r r2 : ReaderState) (before after : Option (List ℕ)) → ReadsLine r r2 before after
    → IsBadIn program_limits group r2.line → FirstIsBad (rules_for old.printing) (progress s group old.refused r) before
first_bad old s group r r2 None after reads bad = tt
first_bad old s group r r2 (Some text) None reads bad = absurd reads.observable
first_bad old s group r r2 (Some text) (Some rest) reads bad =
    (reads.first, cut rest, reads.observable, λ _. subst (IsBadIn program_limits group) (ap (λ (x : ReaderState). x.line) reads.passed) bad)

-- the run ends at a line that was read
pub bad_goes : (result : Result Next Stop) (s t : State) (kept kept2 : Option OpenGroup) (line : List ℕ) (number : ℕ) (r r2 : ReaderState) (before after : Option (List ℕ)) (old mid new : Gathered)
    → ReadsLine r r2 before after → line ≡ r2.line → number ≡ r2.number
    → ((was : Option Group) → IsKeptAs was kept → (left : Option Group) × IsKeptAs left kept2 × IsLeft s line was old t mid)
    → IfOk result (λ next. (next ≡ AtBad) × (new ≡ with_printed mid (bad_line number) false))
    → IfOk result (Steps s t kept kept2 r r2 before after old new)
bad_goes (Err e) s t kept kept2 line number r r2 before after old mid new reads is count bad ended = tt
bad_goes (Ok next) s t kept kept2 line number r r2 before after old mid new reads is count bad ended =
    subst (Steps s t kept kept2 r r2 before after old new) (sym ended.0)
    (λ was k. (let x = bad was k in (x.0, x.1, ap (λ (g : Gathered). g.printing) (ended.1 ∙ ap (λ (g : Gathered). with_printed g (bad_line number) false) x.2.gathered_is), (first_bad old s was r r2 before after reads (subst (IsBadIn program_limits was) is x.2.bad), x.2.state, text x.2.gathered_is))))
  where
    text : mid ≡ old → new.text ≡ old.text ++ bad_line (r.number + 1)
    text e =
        ap (λ (g : Gathered). g.text) ended.1 ∙ ap (λ (g : Gathered). g.text ++ bad_line number) e
        ∙ ap (λ n. old.text ++ bad_line n) (count ∙ ap (λ (x : ReaderState). x.number) reads.passed)

-- or memory runs out there, and nothing is gathered
pub bad_gathered : (result : Result Next Stop) (s t : State) (kept kept2 : Option OpenGroup) (line : List ℕ) (old mid new : Gathered)
    → ((was : Option Group) → IsKeptAs was kept → (left : Option Group) × IsKeptAs left kept2 × IsLeft s line was old t mid) → OnErr result (new ≡ mid)
    → OnErr result ((was : Option Group) → IsKeptAs was kept → new ≡ old)
bad_gathered (Ok next) s t kept kept2 line old mid new bad same = tt
bad_gathered (Err e) s t kept kept2 line old mid new bad same = λ was k. (let x = bad was k in same ∙ x.2.gathered_is)

past_bad : (old : Gathered) (s : State) (group : Option Group) (r : ReaderState) (is_open : Bool) (before : Option (List ℕ)) → CanRead r is_open → IsPast r before
    → FirstIsBad (rules_for old.printing) (progress s group old.refused r) before
past_bad old s group r is_open None can past = tt
past_bad old s group r is_open (Some text) can past = (past.0, past.1, past.2, λ w. absurd (past.3 (within w)))
  where
    within : IsWithinScript (progress s group old.refused r) past.0 → IsReadable r past.0
    within w = (subst (λ n. length past.0.text ≤ n) (sym can.line_limit) w.0, subst (λ n. r.taken + length past.0.text + length past.0.end ≤ n) (sym can.text_limit) w.1)

-- or at one that passes a limit
pub past_goes : (result : Result Next Stop) (s : State) (kept : Option OpenGroup) (number : ℕ) (r r2 : ReaderState) (is_open : Bool) (before after : Option (List ℕ)) (old new : Gathered)
    → CanRead r is_open → IsPast r before → number ≡ r.number + 1
    → IfOk result (λ next. (next ≡ AtBad) × (new ≡ with_printed old (bad_line number) false))
    → IfOk result (Steps s s kept kept r r2 before after old new)
past_goes (Err e) s kept number r r2 is_open before after old new can past count ended = tt
past_goes (Ok next) s kept number r r2 is_open before after old new can past count ended =
    subst (Steps s s kept kept r r2 before after old new) (sym ended.0)
    (λ was k. (was, k, ap (λ (g : Gathered). g.printing) ended.1, (past_bad old s was r is_open before can past, refl, ap (λ (g : Gathered). g.text) ended.1 ∙ ap (λ n. old.text ++ bad_line n) count)))

-- or at the end of the script
pub end_goes : (result : Result Next Stop) (s : State) (kept : Option OpenGroup) (r r2 : ReaderState) (before after : Option (List ℕ)) (old new : Gathered)
    → Finishes r r2 before after
    → IfOk result (λ next. (next ≡ AtEnd) × ((was : Option Group) → IsKeptAs was kept → new ≡ with_printed old (text_at_end was) false))
    → IfOk result (Steps s s kept kept r r2 before after old new)
end_goes (Err e) s kept r r2 before after old new over ended = tt
end_goes (Ok next) s kept r r2 before after old new over ended =
    subst (Steps s s kept kept r r2 before after old new) (sym ended.0)
    (λ was k.
    (let g = ended.1 was k in
    (was, k, ap (λ (x : Gathered). x.printing) g, (over.over_before, refl, ap (λ (x : Gathered). if is_some was then 4 else (if x.refused then 1 else 0)) g, ap (λ (x : Gathered). x.text) g))))
