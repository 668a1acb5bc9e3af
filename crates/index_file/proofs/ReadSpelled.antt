-- A text is read as the file that it spells.
use Rattle.std.proofs.Common.{◌≡◌, ℕ, ◌+◌, ◌⊎◌, List, [], ◌∷◌, Option, Some, None, IsTrue, length, refl, sym, ap, ◌∙◌, subst, inl, inr, arith}
use Rattle.std.proofs.lemmas.Bool.{cases_Bool, cases_lt}
use Rattle.px_base.specs.declared.lines.TheConstants.{LINE_BYTES, GRAPH_BYTES}
use Rattle.px_base.specs.Files.{File}
use Rattle.graph_spec.specs.declared.limits.Limits.{Limits}
use Rattle.graph_spec.specs.Lines.{Line, cut}
use Rattle.index_file.specs.SavedFiles.{SavedFile}
use Rattle.index_file.specs.Readings.{Reading, exceeds, is_complete, file_of}
use Rattle.index_file.specs.Reads.{ReadOutcome, holds, bad_syntax, past_limit, ReadPlace, read_past, read_start, TakesAll, Spelled, IsWithinIndexFile, ReadsLine, takes, over, wrong, EndsFile, complete, early, ReadsFrom, Reads}
use Rattle.index_file.specs.ReadSteps.{ReadsObservable, TellsOutcome}
use Rattle.index_file.specs.ReadFiles.{SpelledIn, RefusesNone, IsWithin}
use Rattle.index_file.specs.declared.reading.SavedError.{SavedError}
use Rattle.index_file.specs.declared.reading.SavedError.TheVariants as error
use Rattle.index_file.proofs.OneOutcome.{one_outcome}

some_one : (a b : Reading) → Some a ≡ Some b → a ≡ b
some_one a b e = cc

-- the lines from a reading on spell a file
record SpellsRest (lines : List Line) (r : Reading) (file : SavedFile) : Type 0 where
  last : Reading
  takes_all : TakesAll lines r last
  is_end : IsTrue (is_complete last)
  file_is : file ≡ file_of last

not_limit : (n : ℕ) (f : SavedFile) → past_limit n ≡ holds f → ⊥
not_limit n f e = cc

not_syntax : (n : ℕ) (f : SavedFile) → bad_syntax n ≡ holds f → ⊥
not_syntax n f e = cc

one_held : (f h : SavedFile) → holds f ≡ holds h → f ≡ h
one_held f h e = cc

-- ---- what is read is spelled

end_spelled : (p : ReadPlace) (o : ReadOutcome) (f : SavedFile) → EndsFile p o → o ≡ holds f → SpellsRest [] p.reading f
end_spelled p _ f (complete h) e = record { last = p.reading; takes_all = refl; is_end = h; file_is = sym (one_held (file_of p.reading) f e) }
end_spelled p _ f (early h) e = absurd (not_syntax (p.lines + 1) f e)

module _ (limits : Limits) (l : Line) (ls : List Line) (from : (q : ReadPlace) (o : ReadOutcome) (f : SavedFile) → ReadsFrom limits ls q o → o ≡ holds f → SpellsRest ls q.reading f) where
  line_spelled : (p : ReadPlace) (o : ReadOutcome) (f : SavedFile) → ReadsLine limits p l (ReadsFrom limits ls) o → o ≡ holds f → SpellsRest (l ∷ ls) p.reading f
  line_spelled p _ f (takes r t o h) e =
      let rest = from (read_past p l r) o f h e in
      record { last = rest.last; takes_all = (t.statement, r, t.says, t.next, rest.takes_all); is_end = rest.is_end; file_is = rest.file_is }
  line_spelled p _ f (over t) e = absurd (not_limit (p.lines + 1) f e)
  line_spelled p _ f (wrong t) e = absurd (not_syntax (p.lines + 1) f e)

from_spelled : (limits : Limits) (ls : List Line) (p : ReadPlace) (o : ReadOutcome) (f : SavedFile) → ReadsFrom limits ls p o → o ≡ holds f → SpellsRest ls p.reading f
from_spelled limits [] p o f h e = end_spelled p o f h e
from_spelled limits (l ∷ ls) p o f (inl (past_it, is)) e = absurd (not_limit (p.lines + 1) f (sym is ∙ e))
from_spelled limits (l ∷ ls) p o f (inr (within, h)) e = line_spelled limits l ls (from_spelled limits ls) p o f h e

-- what is read of a text is spelled by it
pub read_spelled : (limits : Limits) (text : List ℕ) (f : SavedFile) → Reads limits text (holds f) → Spelled text f
read_spelled limits text f h =
    let all = from_spelled limits (cut text) read_start (holds f) f h refl in
    record { last = all.last; takes = all.takes_all; complete = all.is_end; holds = all.file_is }

-- ---- what is spelled is read, or passes a limit

-- the outcome of a text that spells a file
data IsReadOr (f : SavedFile) : ReadOutcome → Type 0 where
  is_read : IsReadOr f (holds f)
  is_past : (n : ℕ) → IsReadOr f (past_limit n)

record ReadsSo (limits : Limits) (ls : List Line) (p : ReadPlace) (f : SavedFile) : Type 0 where
  outcome : ReadOutcome
  reads : ReadsFrom limits ls p outcome
  is : IsReadOr f outcome

file_fits : (p : ReadPlace) (l : Line) → IsWithinIndexFile p l ⊎ (¬ IsWithinIndexFile p l)
file_fits p l = elim (cases_lt LINE_BYTES (length l.text)) [
  | inl long ↦ inr (λ w. let a = w.0 in omega (arith, long, a))
  | inr short ↦ elim (cases_lt GRAPH_BYTES (p.bytes + length l.text + length l.end)) [
    | inl long ↦ inr (λ w. let a = w.1 in omega (arith, long, a))
    | inr fits ↦ inl (short, fits)
  ]
]

so_from : (limits : Limits) (ls : List Line) (p : ReadPlace) (f : SavedFile) → SpellsRest ls p.reading f → ReadsSo limits ls p f
so_from limits [] p f h =
    record { outcome = holds (file_of p.reading); reads = complete (subst (λ r. IsTrue (is_complete r)) (sym h.takes_all) h.is_end); is = subst (λ x. IsReadOr x (holds (file_of p.reading))) (ap file_of h.takes_all ∙ sym h.file_is) is_read }
so_from limits (l ∷ ls) p f h =
    let s = h.takes_all.0 in
    let mid = h.takes_all.1 in
    let says = h.takes_all.2 in
    let step = h.takes_all.3 in
    elim (file_fits p l) [
      | inl within ↦ elim (cases_Bool (exceeds limits s p.reading)) [
        | inl past_it ↦ record { outcome = past_limit (p.lines + 1); reads = inr (within, over (record { statement = s; says = says; over = past_it })); is = is_past (p.lines + 1) }
        | inr fits ↦ (
            let rest = so_from limits ls (read_past p l mid) f (record { last = h.last; takes_all = h.takes_all.4; is_end = h.is_end; file_is = h.file_is }) in
            record {
              outcome = rest.outcome;
              reads = inr (within, takes mid (record { statement = s; says = says; within = fits; next = step }) rest.outcome rest.reads);
              is = rest.is;
            })
      ]
      | inr long ↦ record { outcome = past_limit (p.lines + 1); reads = inl (long, refl); is = is_past (p.lines + 1) }
    ]

spelled_so : (limits : Limits) (text : List ℕ) (f : SavedFile) → Spelled text f → ReadsSo limits (cut text) read_start f
spelled_so limits text f h = so_from limits (cut text) read_start f (record { last = h.last; takes_all = h.takes; is_end = h.complete; file_is = h.holds })

read_or_past : (limits : Limits) (text : List ℕ) (f : SavedFile) (o : ReadOutcome) → IsWithin limits text → Reads limits text o → IsReadOr f o → Reads limits text (holds f)
read_or_past limits text f _ within h is_read = h
read_or_past limits text f _ within h (is_past n) = absurd (within n h)

-- a text that spells a file is read as that file, unless a line passes a limit
pub spelled_read : (limits : Limits) (text : List ℕ) (f : SavedFile) → Spelled text f → IsWithin limits text → Reads limits text (holds f)
spelled_read limits text f h within = let so = spelled_so limits text f h in read_or_past limits text f so.outcome within so.reads so.is

no_syntax : (n : ℕ) (f : SavedFile) (o : ReadOutcome) → bad_syntax n ≡ o → IsReadOr f o → ⊥
no_syntax n f _ e is_read = not_syntax n f e
no_syntax n f _ e (is_past m) = (let impossible : bad_syntax n ≡ past_limit m = e in absurd (cc))

-- a text of which a line can't stand there, or is missing, spells nothing
pub syntax_unspelled : (limits : Limits) (text : List ℕ) (n : ℕ) → Reads limits text (bad_syntax n) → (f : SavedFile) → Spelled text f → ⊥
syntax_unspelled limits text n h f s =
    let so = spelled_so limits text f s in
    no_syntax n f so.outcome (one_outcome limits text (bad_syntax n) so.outcome h so.reads) so.is

-- ---- the same of the files of a shelf

pub spelled_in : (limits : Limits) (files : Option (List File)) (name : List ℕ) (f : SavedFile) → ReadsObservable limits files name (holds f) → SpelledIn files name f
spelled_in limits None name f h = tt
spelled_in limits (Some files) name f h = (h.0, h.1, read_spelled limits h.0 f h.2)

pub refuses_none : (limits : Limits) (files : Option (List File)) (name : List ℕ) (e : SavedError) → TellsOutcome (ReadsObservable limits files name) e → RefusesNone files name e
refuses_none limits None name (error.Syntax l) h = tt
refuses_none limits (Some files) name (error.Syntax l) h = (h.0, h.1, λ f s. syntax_unspelled limits h.0 l h.2 f s)
refuses_none limits files name (error.Limit l) h = tt
refuses_none limits files name error.Missing h = tt
refuses_none limits files name error.Fault h = tt
refuses_none limits files name error.Memory h = tt
