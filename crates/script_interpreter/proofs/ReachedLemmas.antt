-- How far a run has come, as its loop keeps it.
use Rattle.std.proofs.Common.{◌≡◌, ℕ, ◌+◌, Bool, List, [], ◌∷◌, ◌++◌, refl, sym, ap, ◌∙◌, append_assoc, append-nil, subst, Option, None, Some, inr, Result, Ok, Err}
use Rattle.std.specs.Prelude.{IfOk, OnOk, OnErr}
use Rattle.std.specs.Io.KnownBytes.{Appends, prepend_known}
use Rattle.std.proofs.KnownBytes.{Appends-nil, Appends-trans}
use Rattle.script_interpreter.specs.Rules.{Rules}
use Rattle.graph_spec.specs.Lines.{Line, cut}
use Rattle.px_base.specs.Files.{AppendsPrefix}
use Rattle.px_base.specs.ReaderStates.{ReaderState, IsFirst, IsOver}
use Rattle.script_interpreter.specs.LineTexts.{bad_line}
use Rattle.script_interpreter.specs.States.{State}
use Rattle.script_interpreter.specs.Runs.{Progress, Group, RunsLine, RunsLines, start, end_text, end_status, RunsPrefix}
use Rattle.script_interpreter.specs.Observable.{RanObservable, PrefixObservable}
use Rattle.script_interpreter.specs.RunSteps.{progress, FirstIsBad, Writes}
use Rattle.script_interpreter.specs.Pieces.{Wrote, WrotePart}
use Rattle.script_interpreter.specs.OpenGroups.{IsKeptAs}
use Rattle.script_interpreter.specs.declared.group.OpenGroup.{OpenGroup}
use Rattle.index_file.specs.WholeFiles.{HasLabels}
use Rattle.script_interpreter.proofs.LabelledRuns.{run_labels}
use Rattle.script_interpreter.proofs.PrefixLemmas.{prefix_of, prefix_of_taken}

-- the lines of the one text are these lines and then those of the other, if the texts are observable
abbrev pub Precede : List Line → Option (List ℕ) → Option (List ℕ) → Type 0
Precede lines None after = Unit {0}
Precede lines (Some text) None = ⊥
Precede lines (Some text) (Some rest) = cut text ≡ lines ++ cut rest

-- Some first lines were taken; what they print is written up to what is gathered.
pub record Reached (rules : Rules) (first : State) (before after old new : Option (List ℕ)) (gathered : List ℕ) (p : Progress) : Type 0 where
  pub lines : List Line
  pub printed : List ℕ
  pub prefix : List ℕ
  pub takes : RunsLines rules (start first) lines printed p
  pub observable : Precede lines before after
  pub written : Appends old new prefix
  pub printed_is : printed ≡ prefix ++ gathered

-- the same, where the code has the group that isn't ended and the labels of the first graph are labels
pub record Stands (rules : Rules) (first : State) (before after old new : Option (List ℕ)) (gathered : List ℕ) (s : State) (kept : Option OpenGroup) (refused : Bool) (r : ReaderState) : Type 0 where
  pub group : Option Group
  pub is_kept : IsKeptAs group kept
  pub reached : HasLabels first.graph → Reached rules first before after old new gathered (progress s group refused r)

-- The labels of the graph that is reached are labels too.
pub labels_reached : {rules : Rules} {first : State} {a b old new : Option (List ℕ)} {out : List ℕ} {p : Progress} → Reached rules first a b old new out p → HasLabels first.graph → HasLabels p.state.graph
labels_reached {rules} {first} {p = p} r labels = run_labels rules first r.lines r.printed p r.takes labels

takes_push : {rules : Rules} (p : Progress) (lines : List Line) (printed : List ℕ) (q : Progress) (l : Line) (text : List ℕ) (r : Progress)
    → RunsLines rules p lines printed q → RunsLine rules q l text r → RunsLines rules p (lines ++ l ∷ []) (printed ++ text) r
takes_push {rules} p [] printed q l text r h k =
    (text, [], r, subst (λ x. RunsLine rules x l text r) h.1 k, (refl, refl), ap (λ x. x ++ text) h.0 ∙ sym (append-nil text))
takes_push {rules} p (m ∷ ms) printed q l text r h k =
    (h.0, h.1 ++ text, h.2, h.3, takes_push h.2 ms h.1 q l text r h.4 k, ap (λ x. x ++ text) h.5 ∙ append_assoc h.0 h.1 text)

precede-nil : (before : Option (List ℕ)) → Precede [] before (prepend_known [] before)
precede-nil None = tt
precede-nil (Some text) = refl

precede-push : (lines : List Line) (l : Line) (a b c : Option (List ℕ)) → Precede lines a b → IsFirst l b c → Precede (lines ++ l ∷ []) a c
precede-push lines l None b c p q = tt
precede-push lines l (Some x) None c p q = absurd p
precede-push lines l (Some x) (Some y) None p q = absurd q
precede-push lines l (Some x) (Some y) (Some z) p q = p ∙ ap (λ r. lines ++ r) q ∙ sym (append_assoc lines (l ∷ []) (cut z))

pub reached-start : (rules : Rules) (first : State) (before old : Option (List ℕ)) → Reached rules first before (prepend_known [] before) old old [] (start first)
reached-start rules first before old = record {
  lines = [];
  printed = [];
  prefix = [];
  takes = (refl, refl);
  observable = precede-nil before;
  written = Appends-nil old;
  printed_is = refl;
}

pub reached-more : {rules : Rules} {first : State} {a b old new : Option (List ℕ)} {out : List ℕ} {p : Progress} → Reached rules first a b old new out p
    → (l : Line) (text : List ℕ) (q : Progress) (c : Option (List ℕ)) (gathered : List ℕ) → IsFirst l b c → RunsLine rules p l text q → gathered ≡ out ++ text
    → Reached rules first a c old new gathered q
reached-more {first = first} {a = a} {b = b} {out = out} {p = p} r l text q c gathered is_first takes e = record {
  lines = r.lines ++ l ∷ [];
  printed = r.printed ++ text;
  prefix = r.prefix;
  takes = takes_push (start first) r.lines r.printed p l text q r.takes takes;
  observable = precede-push r.lines l a b c r.observable is_first;
  written = r.written;
  printed_is = ap (λ x. x ++ text) r.printed_is ∙ append_assoc r.prefix out text ∙ ap (λ x. r.prefix ++ x) (sym e);
}

-- what was gathered is written, or a prefix of it
pub reached-written : {rules : Rules} {first : State} {a b old new : Option (List ℕ)} {out : List ℕ} {p : Progress} → Reached rules first a b old new out p
    → (newer : Option (List ℕ)) (left : List ℕ) → Writes new newer out left → Reached rules first a b old newer left p
reached-written {old = old} {new = new} {out = out} r newer left w = record {
  lines = r.lines;
  printed = r.printed;
  prefix = r.prefix ++ w.0;
  takes = r.takes;
  observable = r.observable;
  written = Appends-trans old new newer r.prefix w.0 r.written w.1;
  printed_is = r.printed_is ∙ ap (λ x. r.prefix ++ x) w.2 ∙ sym (append_assoc r.prefix w.0 left);
}

-- The script is over, and all that was gathered is written, what the end prints too.
pub ran-over : {rules : Rules} {first : State} (a b : Option (List ℕ)) {old new : Option (List ℕ)} {out : List ℕ} {p : Progress} → Reached rules first a b old new out p
    → IsOver b → (newer : Option (List ℕ)) (gathered : List ℕ) → gathered ≡ out ++ end_text p → Appends new newer gathered
    → (Last : State → Type 0) → Last p.state → RanObservable rules first a old newer (end_status p) Last
ran-over None b r over newer gathered e w Last h = tt
ran-over (Some x) None r over newer gathered e w Last h = absurd r.observable
ran-over (Some x) (Some y) {old = old} {new = new} {out = out} {p = p} r over newer gathered e w Last h = record {
  output = r.prefix ++ gathered;
  last = p;
  written = Appends-trans old new newer r.prefix gathered r.written w;
  is_run = record {
    before = r.lines;
    left = [];
    printed = r.printed;
    ending = end_text p;
    script_is = r.observable ∙ ap (λ t. r.lines ++ cut t) over;
    takes = r.takes;
    ends = (refl, refl);
    output_is = ap (λ g. r.prefix ++ g) e ∙ sym (append_assoc r.prefix out (end_text p)) ∙ ap (λ x. x ++ end_text p) (sym r.printed_is);
  };
  ends_in = h;
}

-- The next line is bad, and all that was gathered is written.
pub ran-bad : {rules : Rules} {first : State} (a b : Option (List ℕ)) {old new : Option (List ℕ)} {out : List ℕ} {p : Progress} → Reached rules first a b old new out p
    → FirstIsBad rules p b → (newer : Option (List ℕ)) (gathered : List ℕ) → gathered ≡ out ++ bad_line (p.lines + 1) → Appends new newer gathered
    → (Last : State → Type 0) → Last p.state → RanObservable rules first a old newer 4 Last
ran-bad None b r bad newer gathered e w Last h = tt
ran-bad (Some x) None r bad newer gathered e w Last h = absurd r.observable
ran-bad (Some x) (Some y) {old = old} {new = new} {out = out} {p = p} r bad newer gathered e w Last h = record {
  output = r.prefix ++ gathered;
  last = p;
  written = Appends-trans old new newer r.prefix gathered r.written w;
  is_run = record {
    before = r.lines;
    left = bad.0 ∷ bad.1;
    printed = r.printed;
    ending = bad_line (p.lines + 1);
    script_is = r.observable ∙ ap (λ t. r.lines ++ t) bad.2;
    takes = r.takes;
    ends = (bad.3, refl, refl);
    output_is = ap (λ g. r.prefix ++ g) e ∙ sym (append_assoc r.prefix out (bad_line (p.lines + 1))) ∙ ap (λ x. x ++ bad_line (p.lines + 1)) (sym r.printed_is);
  };
  ends_in = h;
}

-- the prefix that is written of what was to be written
pub record PartWritten (new newer : Option (List ℕ)) (gathered : List ℕ) : Type 0 where
  pub prefix : List ℕ
  pub rest : List ℕ
  pub gathered_is : gathered ≡ prefix ++ rest
  pub written : Appends new newer prefix

pub part_written : (new newer : Option (List ℕ)) (gathered : List ℕ) → AppendsPrefix new newer gathered → PartWritten new newer gathered
part_written None newer gathered w = record { prefix = []; rest = gathered; gathered_is = refl; written = tt }
part_written (Some x) None gathered w = absurd w
part_written (Some x) (Some y) gathered w = record { prefix = w.0; rest = w.1; gathered_is = w.2; written = w.3 }

pub nothing_written : (new : Option (List ℕ)) (gathered : List ℕ) → PartWritten new new gathered
nothing_written new gathered = record { prefix = []; rest = gathered; gathered_is = refl; written = Appends-nil new }

-- a prefix of what was gathered is written, and no more
pub prefix-part : {rules : Rules} {first : State} (a b : Option (List ℕ)) {old new : Option (List ℕ)} {out : List ℕ} {p : Progress} → Reached rules first a b old new out p
    → (newer : Option (List ℕ)) → PartWritten new newer out → PrefixObservable rules first a old newer
prefix-part None b r newer w = tt
prefix-part (Some x) None r newer w = absurd r.observable
prefix-part {rules} {first} (Some x) (Some y) {old = old} {new = new} {p = p} r newer w = (
  r.prefix ++ w.prefix,
  Appends-trans old new newer r.prefix w.prefix r.written w.written,
  subst (λ ls. RunsPrefix rules (start first) ls (r.prefix ++ w.prefix)) (sym r.observable)
      (prefix_of_taken (start first) r.lines r.printed p r.takes (cut y) (r.prefix ++ w.prefix) w.rest
      (r.printed_is ∙ ap (λ g. r.prefix ++ g) w.gathered_is ∙ sym (append_assoc r.prefix w.prefix w.rest))),
)

-- the same, if the line that is bad was gathered too
pub prefix-bad : {rules : Rules} {first : State} (a b : Option (List ℕ)) {old new : Option (List ℕ)} {out : List ℕ} {p : Progress} → Reached rules first a b old new out p
    → FirstIsBad rules p b → (newer : Option (List ℕ)) (gathered : List ℕ) → gathered ≡ out ++ bad_line (p.lines + 1) → PartWritten new newer gathered → PrefixObservable rules first a old newer
prefix-bad None b r bad newer gathered e w = tt
prefix-bad (Some x) None r bad newer gathered e w = absurd r.observable
prefix-bad {rules} {first} (Some x) (Some y) {old = old} {new = new} {out = out} {p = p} r bad newer gathered e w = (
  r.prefix ++ w.prefix,
  Appends-trans old new newer r.prefix w.prefix r.written w.written,
  subst (λ ls. RunsPrefix rules (start first) ls (r.prefix ++ w.prefix)) (sym (r.observable ∙ ap (λ t. r.lines ++ t) bad.2))
      (prefix_of (start first) r.lines r.printed p r.takes (bad.0 ∷ bad.1) (bad_line (p.lines + 1))
      (λ f m n. inr (m, inr (4, (bad.3, sym n, refl)))) (r.prefix ++ w.prefix) w.rest
      (ap (λ z. z ++ bad_line (p.lines + 1)) r.printed_is ∙ append_assoc r.prefix out (bad_line (p.lines + 1)) ∙ ap (λ g. r.prefix ++ g) (sym e ∙ w.gathered_is)
      ∙ sym (append_assoc r.prefix w.prefix w.rest))),
)

-- the same, if what the end prints was gathered too
pub prefix-over : {rules : Rules} {first : State} (a b : Option (List ℕ)) {old new : Option (List ℕ)} {out : List ℕ} {p : Progress} → Reached rules first a b old new out p
    → IsOver b → (newer : Option (List ℕ)) (gathered : List ℕ) → gathered ≡ out ++ end_text p → PartWritten new newer gathered → PrefixObservable rules first a old newer
prefix-over None b r over newer gathered e w = tt
prefix-over (Some x) None r over newer gathered e w = absurd r.observable
prefix-over {rules} {first} (Some x) (Some y) {old = old} {new = new} {out = out} {p = p} r over newer gathered e w = (
  r.prefix ++ w.prefix,
  Appends-trans old new newer r.prefix w.prefix r.written w.written,
  subst (λ ls. RunsPrefix rules (start first) ls (r.prefix ++ w.prefix)) (sym (r.observable ∙ ap (λ t. r.lines ++ cut t) over))
      (prefix_of (start first) r.lines r.printed p r.takes [] (end_text p)
      (λ f m n. inr (m, inr (end_status p, (sym n, refl)))) (r.prefix ++ w.prefix) w.rest
      (ap (λ z. z ++ end_text p) r.printed_is ∙ append_assoc r.prefix out (end_text p) ∙ ap (λ g. r.prefix ++ g) (sym e ∙ w.gathered_is)
      ∙ sym (append_assoc r.prefix w.prefix w.rest))),
)

-- A line is taken once a text is written, which may be any that is right: what was gathered is written before it.
due : {rules : Rules} {first : State} {a b old new : Option (List ℕ)} {out : List ℕ} {p : Progress} → Reached rules first a b old new out p
    → (l : Line) (text : List ℕ) (q : Progress) (c mid : Option (List ℕ)) → IsFirst l b c → RunsLine rules p l text q → Appends new mid out → Reached rules first a c old mid text q
due {out = out} r l text q c mid is_first takes flushed = reached-more (reached-written r mid [] (out, flushed, sym (append-nil out))) l text q c text is_first takes refl

pub reached-saved : {rules : Rules} {first : State} {a b old new : Option (List ℕ)} {out : List ℕ} {p : Progress} → Reached rules first a b old new out p
    → (l : Line) (q : Progress) (c mid newer : Option (List ℕ)) (Is : List ℕ → Type 0) → IsFirst l b c → ((text : List ℕ) → Is text → RunsLine rules p l text q) → Appends new mid out → Wrote Is mid newer
    → Reached rules first a c old newer [] q
reached-saved r l q c mid newer Is is_first takes flushed w = reached-written (due r l w.text q c mid is_first (takes w.text w.is) flushed) newer [] (w.text, w.written, sym (append-nil w.text))

pub prefix-saved : {rules : Rules} {first : State} (a b : Option (List ℕ)) {old new : Option (List ℕ)} {out : List ℕ} {p : Progress} → Reached rules first a b old new out p
    → (l : Line) (q : Progress) (c mid newer : Option (List ℕ)) (Is : List ℕ → Type 0) → IsFirst l b c → ((text : List ℕ) → Is text → RunsLine rules p l text q) → Appends new mid out → WrotePart Is mid newer
    → PrefixObservable rules first a old newer
prefix-saved a b r l q c mid newer Is is_first takes flushed w = prefix-part a c (due r l w.text q c mid is_first (takes w.text w.is) flushed) newer (part_written mid newer w.text w.written)

-- a fact of an answer, by what its call ensures
pub ok_fact : {T E : Type 0} (r : Result T E) (t : T) (A : Type 0) (P : T → Type 0) → IfOk r (λ s. s ≡ t) → OnOk r A → (A → P t) → IfOk r P
ok_fact (Ok s) t A P e a f = subst P (sym e) (f a)
ok_fact (Err x) t A P e a f = tt

pub err_fact : {T E : Type 0} (r : Result T E) (A B : Type 0) → OnErr r A → (A → B) → OnErr r B
err_fact (Ok s) A B a f = tt
err_fact (Err x) A B a f = f a

-- an answer has one error
pub err_value : {T E : Type 0} (x y : E) (r : Result T E) → r ≡ Err x → r ≡ Err y → x ≡ y
err_value x y r h k = cc

pub all_written : (new newer : Option (List ℕ)) (gathered : List ℕ) → Appends new newer gathered → PartWritten new newer gathered
all_written new newer gathered w = record { prefix = gathered; rest = []; gathered_is = sym (append-nil gathered); written = w }
