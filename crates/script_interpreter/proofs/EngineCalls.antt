-- What each call of the engine makes of the state of a run.
use Rattle.std.proofs.Common.{◌≡◌, Bool, true, false, List, [], ◌∷◌, length, ◌≤◌, ◌+◌, ◌^◌, Some, Ok, Err, refl, sym, ap, ◌∙◌, subst, cond, true≢false, arith}
use Rattle.std.specs.Prelude.{◌||◌, ◌-◌, ℕ, All, is_err, not}
use Rattle.graph_spec.specs.Graphs.{Graph}
use Rattle.std.specs.List.{filter}
use Rattle.graph_spec.specs.declared.refusal.Refusal.{Refusal}
use Rattle.graph_spec.specs.declared.refusal.Refusal.TheVariants.{NoIndex}
use Rattle.graph_spec.specs.ProgramLimits.{program_limits}
use Rattle.change_spec.specs.Steps.{Step, apply, after, is_new}
use Rattle.bisim_spec.specs.declared.kind.Kind.{Kind}
use Rattle.graph_update.specs.declared.staging.Applied.{Applied}
use Rattle.graph_update.specs.StagedChanges.{applied_of}
use Rattle.index_api.specs.declared.kinds.Via.{Via}
use Rattle.index_api.specs.declared.kinds.Via.TheVariants.{Data}
use Rattle.index_api.specs.Meanings.{Meaning, IsBuilt}
use Rattle.index_api.specs.IndexKinds.{is_kind, has_kind, kinds_of, is_kept}
use Rattle.branch_query.specs.Queries.{Query, of_path, of_branch}
use Rattle.triple_names.specs.Names.{Names}
use Rattle.script_read.specs.Commands.{change, extents, sizes, forget}
use Rattle.pathindex_core.specs.Engines.{Opened, EngineSeen, EachBecomes, IsKeptFor, AreKeptFor, IsSound, graph_in}
use Rattle.pathindex_core.specs.Calls.{IsMade, IsForgotten, KeepsAllButViews}
use Rattle.pathindex_core.specs.Updates.{IsUpdated, graph_or, outcome_in, opened_after}
use Rattle.script_interpreter.specs.declared.printing.Printing.{Printing}
use Rattle.script_interpreter.specs.Rules.{if_whole, rules_for}
use Rattle.script_interpreter.specs.declared.group.Scope.{Scope}
use Rattle.script_interpreter.specs.declared.group.Scope.TheVariants.{OneLine}
use Rattle.script_interpreter.specs.LineTexts.{made_lines, refused_line, ok_line, reply}
use Rattle.script_interpreter.specs.Outputs.{Gathered, with_printed}
use Rattle.script_interpreter.specs.States.{State, BeginsRun}
use Rattle.script_interpreter.specs.EngineStates.{IsOpenForProgram, state_in}
use Rattle.script_interpreter.specs.Indexes.{ShowsAnswers, ShowsExtents, unkept, ShowsSizes}
use Rattle.script_interpreter.specs.Runs.{IsChanged, Becomes, Obeys, changes, asks_path, asks_branch, lists, measures, forgets, lacks}
use Rattle.script_interpreter.specs.RunSteps.{query_command, Changed, Obeyed}
use Rattle.script_interpreter.proofs.EngineLemmas.{first_state, accepted_after, changed_state, forgotten_state}

pub open_same : (e f : EngineSeen) → f ≡ e → IsOpenForProgram e → IsOpenForProgram f
open_same e f h o = subst IsOpenForProgram (sym h) o

-- the indexes of an open engine
fits_in : (e : EngineSeen) (o : Opened) → e.opened ≡ Some o → IsSound e → All (IsKeptFor o) e.boxes
fits_in e o h s = (subst (λ x. AreKeptFor x e.boxes) h s.fit).1

seen_as : (n : Names) (e : EngineSeen) (o : Opened) → e.opened ≡ Some o → state_in (record { boxes = e.boxes; opened = Some o }) n ≡ state_in e n
seen_as n e o h i = state_in (record { boxes = e.boxes; opened = sym h i }) n

-- what is an answer is no error
pub no_refusal : {T E P : Type 0} (x : T) (e : E) → (P → Ok x ≡ Err e) → P → ⊥
no_refusal x e f p = (let z = f p in cc)

-- an engine after a change that was made
pub open_made : (c : List Step) (e f : EngineSeen) (answer : Applied) → IsOpenForProgram e → IsSound f → IsMade c e f answer → IsOpenForProgram f
open_made c e f answer o sound m = record {
  sound = sound;
  opened = record o.opened { graph = graph_or o.opened.graph (apply c o.opened.graph o.opened.limits) };
  opened_is = m.opened ∙ ap (opened_after c) o.opened_is;
  limits_are = o.limits_are;
}

pub made_changed : (n : Names) (scope : Scope) (c : List Step) (e f : EngineSeen) (answer : Applied) (old new : Gathered) → IsOpenForProgram e → IsMade c e f answer → ((r : Refusal) → outcome_in c e.opened ≡ Err r → ⊥)
    → new ≡ with_printed old (if_whole old.printing (made_lines scope answer)) false → Changed scope (state_in e n) c old false (state_in f n) new
made_changed n scope c e f answer old new ready m accepted g =
    let o = ready.opened in
    elim (apply c o.graph o.limits) as (λ x. apply c o.graph o.limits ≡ x → Changed scope (state_in e n) c old false (state_in f n) new) [
      | Ok h ↦ λ q.
          (let p : Opened = record o { graph = h } in
          let f_is : f.opened ≡ Some p = m.opened ∙ ap (opened_after c) ready.opened_is ∙ ap (λ x. Some (record o { graph = graph_or o.graph x })) q in
          let updated = subst (λ x. EachBecomes (IsUpdated c (graph_in x)) e.boxes f.boxes) ready.opened_is m.updated in
          let still : is_new c o.graph ≡ false → state_in (record { boxes = f.boxes; opened = Some p }) n ≡ state_in (record { boxes = e.boxes; opened = Some o }) n =
          λ s. seen_as n f p f_is ∙ ap (λ x. state_in x n) (m.still (ap (λ x. is_new c (graph_in x)) ready.opened_is ∙ s)) ∙ sym (seen_as n e o ready.opened_is) in
          let moved = changed_state n c o p h e.boxes f.boxes q refl updated still m.kinds in
          let changed : IsChanged (state_in e n) c h (state_in f n) = subst (λ t. IsChanged (state_in e n) c h t) (seen_as n f p f_is) (subst (λ s. IsChanged s c h (state_in (record { boxes = f.boxes; opened = Some p }) n)) (seen_as n e o ready.opened_is) moved) in
          let outcome : apply c (graph_in e.opened) program_limits ≡ Ok h = ap (λ x. apply c (graph_in x) program_limits) ready.opened_is ∙ ap (apply c o.graph) (sym ready.limits_are) ∙ q in
          record {
            printed = if_whole old.printing (made_lines scope (applied_of c (graph_in e.opened)));
            makes = record {
              becomes = subst (λ x. Becomes (state_in e n) c x (state_in f n)) (sym outcome) changed;
              printed_is = ap (reply old.printing scope c (graph_in e.opened)) (sym outcome);
              refuses_is = ap is_err (sym outcome);
            };
            gathered_is = g ∙ ap (λ a. with_printed old (if_whole old.printing (made_lines scope a)) false) m.applied;
          })
      | Err r ↦ λ q. absurd (accepted r (ap (outcome_in c) ready.opened_is ∙ q))
    ] refl

-- a change was refused, and all is as it was
pub refused_changed : (n : Names) (scope : Scope) (c : List Step) (e f : EngineSeen) (r : Refusal) (old new : Gathered) → IsOpenForProgram e → f ≡ e → outcome_in c e.opened ≡ Err r
    → new ≡ with_printed old (refused_line r) true → Changed scope (state_in e n) c old true (state_in f n) new
refused_changed n scope c e f r old new ready same q g =
    let o = ready.opened in
    let outcome : apply c (graph_in e.opened) program_limits ≡ Err r =
    ap (λ x. apply c (graph_in x) program_limits) ready.opened_is ∙ ap (apply c o.graph) (sym ready.limits_are) ∙ ap (outcome_in c) (sym ready.opened_is) ∙ q in
    record {
      printed = refused_line r;
      makes = record {
        becomes = subst (λ x. Becomes (state_in e n) c x (state_in f n)) (sym outcome) (ap (λ x. state_in x n) same);
        printed_is = ap (reply old.printing scope c (graph_in e.opened)) (sym outcome);
        refuses_is = ap is_err (sym outcome);
      };
      gathered_is = g;
    }

-- a change of one step is a command
pub changed_obeyed : (s : State) (x : Step) (old : Gathered) (refuses : Bool) (t : State) (new : Gathered) → Changed OneLine s (x ∷ []) old refuses t new → Obeyed s (change x) old t new
changed_obeyed s x old refuses t new c = record { printed = c.printed; refuses = refuses; obeys = changes x c.printed refuses t c.makes; gathered_is = c.gathered_is }

-- the numbers that an accepted change allocates are few, if those of the graph before and after it are
pub few_numbers : (c : List Step) (e f : EngineSeen) (answer : Applied) (before after_it : ℕ) → IsOpenForProgram e → IsMade c e f answer → ((r : Refusal) → outcome_in c e.opened ≡ Err r → ⊥)
    → before ≡ length (graph_in e.opened).allocated → before ≤ 2 ^ 30 → after_it ≡ length (graph_in f.opened).allocated → after_it ≤ 2 ^ 30
    → answer.first + answer.added ≤ 2 ^ 30
few_numbers c e f answer before after_it ready m accepted b few a few_after =
    let o = ready.opened in
    elim (apply c o.graph o.limits) as (λ x. apply c o.graph o.limits ≡ x → answer.first + answer.added ≤ 2 ^ 30) [
      | Ok h ↦ λ q.
          (let f_is : graph_in f.opened ≡ h = ap graph_in (m.opened ∙ ap (opened_after c) ready.opened_is) ∙ ap (graph_or o.graph) q in
          let e_is : graph_in e.opened ≡ o.graph = ap graph_in ready.opened_is in
          let made_is : h ≡ after c o.graph = accepted_after c o.graph h o.limits q in
          let first : answer.first ≡ length (graph_in e.opened).allocated = ap (λ (x : Applied). x.first) m.applied in
          let added : answer.added ≡ length (after c (graph_in e.opened)).allocated - length (graph_in e.opened).allocated = ap (λ (x : Applied). x.added) m.applied in
          let last : after_it ≡ length (after c (graph_in e.opened)).allocated = a ∙ ap (λ (x : Graph). length x.allocated) (f_is ∙ made_is ∙ ap (after c) (sym e_is)) in
          omega (arith, first, added, last, b, few, few_after))
      | Err r ↦ λ q. absurd (accepted r (ap (outcome_in c) ready.opened_is ∙ q))
    ] refl

pub open_asked : (e f : EngineSeen) → IsOpenForProgram e → IsSound f → KeepsAllButViews e f → IsOpenForProgram f
open_asked e f o sound a = record { sound = sound; opened = o.opened; opened_is = a.opened ∙ o.opened_is; limits_are = o.limits_are }

pub same_asked : (n : Names) (e f : EngineSeen) → KeepsAllButViews e f → state_in f n ≡ state_in e n
same_asked n e f a i = record { graph = graph_in (a.opened i); kept = a.kept i; names = n }

asks_query : (printing : Printing) (s : State) (via : Via) (q : Query) (text : List ℕ) (refuses : Bool) → ShowsAnswers printing s q via text refuses → Obeys (rules_for printing) s (query_command via q) text refuses s
asks_query printing s via (of_path e) text refuses h = asks_path via e text refuses h
asks_query printing s via (of_branch q) text refuses h = asks_branch via q text refuses h

pub query_obeyed : (n : Names) (e f : EngineSeen) (via : Via) (q : Query) (text : List ℕ) (refuses : Bool) (old new : Gathered) → KeepsAllButViews e f
    → ShowsAnswers old.printing (state_in e n) q via text refuses → new ≡ with_printed old text refuses → Obeyed (state_in e n) (query_command via q) old (state_in f n) new
query_obeyed n e f via q text refuses old new a s g = record {
  printed = text;
  refuses = refuses;
  obeys = subst (Obeys (rules_for old.printing) (state_in e n) (query_command via q) text refuses) (sym (same_asked n e f a)) (asks_query old.printing (state_in e n) via q text refuses s);
  gathered_is = g;
}

pub list_obeyed : (n : Names) (e f : EngineSeen) (via : Via) (text : List ℕ) (refuses : Bool) (old new : Gathered) → KeepsAllButViews e f
    → ShowsExtents (state_in e n) via text refuses → new ≡ with_printed old text refuses → Obeyed (state_in e n) (extents via) old (state_in f n) new
list_obeyed n e f via text refuses old new a s g = record {
  printed = text;
  refuses = refuses;
  obeys = subst (Obeys (rules_for old.printing) (state_in e n) (extents via) text refuses) (sym (same_asked n e f a)) (lists via text refuses s);
  gathered_is = g;
}

pub sizes_obeyed : (n : Names) (e f : EngineSeen) (text : List ℕ) (old new : Gathered) → KeepsAllButViews e f
    → ShowsSizes (state_in e n) text → new ≡ with_printed old text false → Obeyed (state_in e n) sizes old (state_in f n) new
sizes_obeyed n e f text old new a s g = record {
  printed = text;
  refuses = false;
  obeys = subst (Obeys (rules_for old.printing) (state_in e n) sizes text false) (sym (same_asked n e f a)) (measures text s);
  gathered_is = g;
}

pub open_forgotten : (kind : Kind) (e f : EngineSeen) → IsOpenForProgram e → IsSound f → IsForgotten kind e f → IsOpenForProgram f
open_forgotten kind e f o sound a = record { sound = sound; opened = o.opened; opened_is = a.opened ∙ o.opened_is; limits_are = o.limits_are }

pub forget_obeyed : (n : Names) (kind : Kind) (e f : EngineSeen) (old new : Gathered) → IsForgotten kind e f → has_kind (kinds_of e.boxes) kind ≡ true
    → new ≡ with_printed old (if_whole old.printing ok_line) false → Obeyed (state_in e n) (forget kind) old (state_in f n) new
forget_obeyed n kind e f old new a h g = record {
  printed = if_whole old.printing ok_line;
  refuses = false;
  obeys = subst (Obeys (rules_for old.printing) (state_in e n) (forget kind) (if_whole old.printing ok_line) false) (sym (forgotten_state n kind e f a.opened a.boxes)) (forgets kind h);
  gathered_is = g;
}

all_left : (kind : Kind) (boxes : List Meaning) → has_kind (kinds_of boxes) kind ≡ false → filter (λ m. not (is_kind kind m.kind)) boxes ≡ boxes
all_left kind [] h = refl
all_left kind (m ∷ ms) h =
    elim (is_kind kind m.kind) as (λ t. (t || has_kind (kinds_of ms) kind) ≡ false → cond (not t) (m ∷ filter (λ x. not (is_kind kind x.kind)) ms) (filter (λ x. not (is_kind kind x.kind)) ms) ≡ m ∷ ms) [
      | true ↦ λ e. absurd (true≢false e)
      | false ↦ λ e. ap (λ xs. m ∷ xs) (all_left kind ms e)
    ] h

-- none of that kind is kept, and all is as it was
pub lacks_obeyed : (n : Names) (kind : Kind) (e f : EngineSeen) (old new : Gathered) → IsForgotten kind e f → has_kind (kinds_of e.boxes) kind ≡ false
    → new ≡ with_printed old (refused_line NoIndex) true → Obeyed (state_in e n) (forget kind) old (state_in f n) new
lacks_obeyed n kind e f old new a h g = record {
  printed = refused_line NoIndex;
  refuses = true;
  obeys = subst (Obeys (rules_for old.printing) (state_in e n) (forget kind) (refused_line NoIndex) true) (sym (ap (λ x. state_in x n) same)) (lacks kind h);
  gathered_is = g;
}
  where
    same : f ≡ e
    same i = record { boxes = (a.boxes ∙ all_left kind e.boxes h) i; opened = a.opened i }

-- the list of the graph itself is refused
pub data_obeyed : (n : Names) (e : EngineSeen) (via : Via) (old new : Gathered) → via ≡ Data → new ≡ with_printed old (refused_line NoIndex) true
    → Obeyed (state_in e n) (extents via) old (state_in e n) new
data_obeyed n e via old new d g = record {
  printed = refused_line NoIndex;
  refuses = true;
  obeys = lists via (refused_line NoIndex) true (unkept via (ap (is_kept (state_in e n).kept) d));
  gathered_is = g;
}

-- the state with which a run begins
pub opened_first : (n : Names) (e f : EngineSeen) (o : Opened) → f.opened ≡ Some o → EachBecomes (λ a b. IsBuilt a b o.graph o.k) e.boxes f.boxes → kinds_of f.boxes ≡ kinds_of e.boxes → IsSound f
    → BeginsRun (graph_in f.opened) n (kinds_of e.boxes) o.k (state_in f n)
opened_first n e f o h built kinds s =
    subst (λ x. BeginsRun x.graph n (kinds_of e.boxes) o.k x) (seen_as n f o h) (first_state n o.graph o e.boxes f.boxes refl built kinds (fits_in f o h s))
