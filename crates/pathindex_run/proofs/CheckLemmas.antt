-- From an index file that is read to what a check of it does.
use Rattle.std.proofs.Common.{◌≡◌, ◌≢◌, ℕ, ◌<◌, ◌≤◌, List, Option, None, Some, ◌⊎◌, inl, inr, refl, sym, ◌∙◌, arith, subst}
use Rattle.std.specs.Io.KnownBytes.{Keeps}
use Rattle.std.proofs.KnownBytes.{Keeps-refl}
use Rattle.px_base.specs.Causes.{MayHaveRisen}
use Rattle.px_base.specs.Files.{File, content_of}
use Rattle.graph_spec.specs.ProgramLimits.{program_limits}
use Rattle.command_line.specs.Forms.{Form, Settings, runs, makes, checks, neither}
use Rattle.index_api.specs.declared.kinds.Via.{Via}
use Rattle.index_file.specs.Reads.{ReadOutcome, Reads, holds}
use Rattle.index_file.specs.ReadSteps.{ReadsObservable, LacksFile}
use Rattle.index_file.specs.SavedFiles.{SavedFile}
use Rattle.pathindex_run.specs.CheckedFiles.{ChecksNamed, ChecksFileText, EndsCheck, ShowsFit, ShowsOutcome}
use Rattle.pathindex_run.specs.Headline.{ChecksWhole, HasStatus, MayLackDueFile, NoFault}
use Rattle.pathindex_run.specs.ShownLines.{ShowsLine}

-- ---- what is written

stopped_text : (text old : Option (List ℕ)) (status : ℕ) → (status ≡ 5) ⊎ (status ≡ 7) → ChecksFileText text old old status
stopped_text None old status e = (Keeps-refl old, e)
stopped_text (Some t) old status e = inr (Keeps-refl old, e)

-- nothing was written, since a call failed before anything was, the file isn't there, or memory ran out
pub check_stopped : (files : Option (List File)) (name : List ℕ) (old : Option (List ℕ)) (status : ℕ) → (status ≡ 5) ⊎ (status ≡ 7)
    → ChecksNamed files name old old status
check_stopped None name old status e = tt
check_stopped (Some fs) name old status e = stopped_text (content_of fs name) old status e

kept_text : (text old new : Option (List ℕ)) (status : ℕ) → (status ≡ 7) × Keeps old new → ChecksFileText text old new status
kept_text None old new status k = (k.1, inr k.0)
kept_text (Some t) old new status k = inr (k.1, inr k.0)

shown_text : (text : Option (List ℕ)) (t : List ℕ) (o : ReadOutcome) (old new : Option (List ℕ)) (status : ℕ) → text ≡ Some t → Reads program_limits t o
    → ShowsOutcome o old new status → ChecksFileText text old new status
shown_text None t o old new status e r s = cc
shown_text (Some u) t o old new status e r s = (let same : u ≡ t = cc in inl (o, subst (λ x. Reads program_limits x o) (sym same) r, s))

-- the file was read, and what that gives was written, or memory ran out
pub check_shown : (files : Option (List File)) (name : List ℕ) (o : ReadOutcome) (old new : Option (List ℕ)) (status : ℕ)
    → ReadsObservable program_limits files name o → ShowsOutcome o old new status ⊎ ((status ≡ 7) × Keeps old new) → ChecksNamed files name old new status
check_shown None name o old new status r s = tt
check_shown (Some fs) name o old new status r (inl s) = shown_text (content_of fs name) r.0 o old new status r.1 r.2 s
check_shown (Some fs) name o old new status r (inr k) = kept_text (content_of fs name) old new status k

-- ---- the status

-- whether each view fits, or which is the first that doesn't, was shown
pub fit_ends : (misfit : Option Via) (old new : Option (List ℕ)) (status : ℕ) → ShowsFit misfit old new status → EndsCheck status
fit_ends None old new status (inl e) = inl e.0
fit_ends None old new status (inr (inl e)) = inr (inr (inl e.0))
fit_ends None old new status (inr (inr e)) = inr (inr (inr e.0))
fit_ends (Some via) old new status (inl e) = inr (inl e.0)
fit_ends (Some via) old new status (inr (inl e)) = inr (inr (inl e.0))
fit_ends (Some via) old new status (inr (inr e)) = inr (inr (inr e.0))

-- of a check whose file was read, or refused
abbrev EndsRead : ℕ → Type 0
EndsRead status = (status ≡ 3) ⊎ EndsCheck status

line_ends : (line : List ℕ) (old new : Option (List ℕ)) (status : ℕ) → ShowsLine line 3 old new status → EndsRead status
line_ends line old new status (inl e) = inl e.0
line_ends line old new status (inr (inl e)) = inr (inr (inr (inl e.0)))
line_ends line old new status (inr (inr e)) = inr (inr (inr (inr e.0)))

six : (status : ℕ) → EndsRead status → (status ≡ 6) ⊎ (status ≢ 6)
six status (inl e) = inr (λ f. omega (arith, e, f))
six status (inr (inl e)) = inr (λ f. omega (arith, e, f))
six status (inr (inr (inl e))) = inr (λ f. omega (arith, e, f))
six status (inr (inr (inr (inl e)))) = inl e
six status (inr (inr (inr (inr e)))) = inr (λ f. omega (arith, e, f))

small : (status : ℕ) → EndsRead status → status ≤ 8
small status (inl e) = omega (arith, e)
small status (inr (inl e)) = omega (arith, e)
small status (inr (inr (inl e))) = omega (arith, e)
small status (inr (inr (inr (inl e)))) = omega (arith, e)
small status (inr (inr (inr (inr e)))) = omega (arith, e)

-- it isn't that of a script, of malformed words or of a missing file
none_other : (status n : ℕ) → EndsRead status → status ≡ n → (n ≡ 1) ⊎ ((n ≡ 2) ⊎ ((n ≡ 4) ⊎ (n ≡ 5))) → ⊥
none_other status n (inl e) f (inl g) = omega (arith, e, f, g)
none_other status n (inl e) f (inr (inl g)) = omega (arith, e, f, g)
none_other status n (inl e) f (inr (inr (inl g))) = omega (arith, e, f, g)
none_other status n (inl e) f (inr (inr (inr g))) = omega (arith, e, f, g)
none_other status n (inr (inl e)) f (inl g) = omega (arith, e, f, g)
none_other status n (inr (inl e)) f (inr (inl g)) = omega (arith, e, f, g)
none_other status n (inr (inl e)) f (inr (inr (inl g))) = omega (arith, e, f, g)
none_other status n (inr (inl e)) f (inr (inr (inr g))) = omega (arith, e, f, g)
none_other status n (inr (inr (inl e))) f (inl g) = omega (arith, e, f, g)
none_other status n (inr (inr (inl e))) f (inr (inl g)) = omega (arith, e, f, g)
none_other status n (inr (inr (inl e))) f (inr (inr (inl g))) = omega (arith, e, f, g)
none_other status n (inr (inr (inl e))) f (inr (inr (inr g))) = omega (arith, e, f, g)
none_other status n (inr (inr (inr (inl e)))) f (inl g) = omega (arith, e, f, g)
none_other status n (inr (inr (inr (inl e)))) f (inr (inl g)) = omega (arith, e, f, g)
none_other status n (inr (inr (inr (inl e)))) f (inr (inr (inl g))) = omega (arith, e, f, g)
none_other status n (inr (inr (inr (inl e)))) f (inr (inr (inr g))) = omega (arith, e, f, g)
none_other status n (inr (inr (inr (inr e)))) f (inl g) = omega (arith, e, f, g)
none_other status n (inr (inr (inr (inr e)))) f (inr (inl g)) = omega (arith, e, f, g)
none_other status n (inr (inr (inr (inr e)))) f (inr (inr (inl g))) = omega (arith, e, f, g)
none_other status n (inr (inr (inr (inr e)))) f (inr (inr (inr g))) = omega (arith, e, f, g)

-- The status where no call of the shelf failed, by the counts of faults.
ended : (name : List ℕ) (files : Option (List File)) (h h2 k k2 status : ℕ) → EndsRead status → h2 ≡ h
    → (status ≡ 6 → MayHaveRisen k k2) → (status ≢ 6 → k2 ≡ k) → (k ≤ k2) × (k < k2 → status ≡ 6) → HasStatus (checks name) files h h2 k k2 status
ended name files h h2 k k2 status e same cause kept rose = record {
  is_one = small status e;
  some_refused = λ f. absurd (none_other status 1 e f (inl refl));
  bad_line = λ f. absurd (none_other status 4 e f (inr (inr (inl refl))));
  usage = λ f. absurd (none_other status 2 e f (inr (inl refl)));
  refused = λ _. tt;
  differs = λ _. tt;
  missing = λ f. absurd (none_other status 5 e f (inr (inr (inr refl))));
  reads = λ _. tt;
  sink = cause;
  shelf_never_falls = omega (arith, same);
  sink_never_falls = rose.0;
  shelf_kept = λ _. same;
  sink_kept = kept;
  shelf_rose = λ r. absurd (omega (arith, r, same));
  sink_rose = rose.1;
}

rises : (k k2 status : ℕ) → (status ≡ 6) ⊎ (status ≢ 6) → (status ≡ 6 → MayHaveRisen k k2) → (status ≢ 6 → k2 ≡ k) → (k ≤ k2) × (k < k2 → status ≡ 6)
rises k k2 status (inl e) cause kept = ((cause e).0, λ _. e)
rises k k2 status (inr n) cause kept = (let same = kept n in (omega (arith, same), λ r. absurd (omega (arith, r, same))))

-- the file was read, and its views were checked
pub views_status : (name : List ℕ) (files : Option (List File)) (h h2 k k2 status : ℕ) → EndsCheck status → h2 ≡ h
    → (status ≡ 6 → MayHaveRisen k k2) → (status ≢ 6 → k2 ≡ k) → HasStatus (checks name) files h h2 k k2 status
views_status name files h h2 k k2 status e same cause kept =
    ended name files h h2 k k2 status (inr e) same cause kept (rises k k2 status (six status (inr e)) cause kept)

-- a line of it was refused
pub refused_status : (name line : List ℕ) (old new : Option (List ℕ)) (files : Option (List File)) (h h2 k k2 status : ℕ) → ShowsLine line 3 old new status → h2 ≡ h
    → (status ≡ 6 → MayHaveRisen k k2) → (status ≢ 6 → k2 ≡ k) → HasStatus (checks name) files h h2 k k2 status
refused_status name line old new files h h2 k k2 status s same cause kept =
    let e = line_ends line old new status s in
    ended name files h h2 k k2 status e same cause kept (rises k k2 status (six status e) cause kept)

-- it isn't there, or couldn't be read
pub missing_status : (name : List ℕ) (files : Option (List File)) (h h2 k : ℕ) → MayHaveRisen h h2 ⊎ ((h2 ≡ h) × MayLackDueFile (checks name) files)
    → HasStatus (checks name) files h h2 k k 5
missing_status name files h h2 k why = record {
  is_one = omega arith;
  some_refused = λ f. absurd (omega (arith, f));
  bad_line = λ f. absurd (omega (arith, f));
  usage = λ f. absurd (omega (arith, f));
  refused = λ f. absurd (omega (arith, f));
  differs = λ f. absurd (omega (arith, f));
  missing = λ _. elim why [ inl r ↦ inl r | inr l ↦ inr l.1 ];
  reads = λ _. tt;
  sink = λ f. absurd (omega (arith, f));
  shelf_never_falls = elim why [ inl r ↦ r.0 | inr l ↦ (let same = l.0 in omega (arith, same)) ];
  sink_never_falls = omega arith;
  shelf_kept = λ n. absurd (n refl);
  sink_kept = λ _. refl;
  shelf_rose = λ _. refl;
  sink_rose = λ r. absurd (omega (arith, r));
}

-- a file that isn't there
pub check_missing : (files : Option (List File)) (name : List ℕ) → LacksFile files name → MayLackDueFile (checks name) files
check_missing None name l = tt
check_missing (Some fs) name l = l

-- no call failed, so that no count rose
pub none_rose : (before now : ℕ) → NoFault before now → MayHaveRisen before now → ⊥
none_rose before now n (l, inl r) = (let e = n.0 in omega (arith, e, r))
none_rose before now n (l, inr r) = (let e = n.1 in omega (arith, e, r))

-- the views were checked, or memory ran out
pub views_whole : (form : Form) (files : Option (List File)) (h h2 k k2 status : ℕ)
    → EndsCheck status → (status ≡ 6 → MayHaveRisen k k2) → ChecksWhole form files h h2 k k2 status
views_whole form files h h2 k k2 status (inl e) c w f g = inl e
views_whole form files h h2 k k2 status (inr (inl e)) c w f g = inr (inl e)
views_whole form files h h2 k k2 status (inr (inr (inl e))) c w f g = absurd (none_rose k k2 g (c e))
views_whole form files h h2 k k2 status (inr (inr (inr e))) c w f g = inr (inr e)

-- a line of the file was refused, so that it isn't spelled within limits
pub refused_whole : (files : Option (List File)) (name : List ℕ) (o : ReadOutcome) (h h2 k k2 status : ℕ) → ReadsObservable program_limits files name o
    → ((s : SavedFile) → o ≡ holds s → ⊥) → ((text : List ℕ) (a b : ReadOutcome) → Reads program_limits text a → Reads program_limits text b → a ≡ b)
    → ChecksWhole (checks name) files h h2 k k2 status
refused_whole None name o h h2 k k2 status r other once w f g = absurd w
refused_whole (Some fs) name o h h2 k k2 status r other once w f g =
    let same : r.0 ≡ w.0 = (let z : Some r.0 ≡ Some w.0 = sym r.1 ∙ w.1 in cc) in
    absurd (other w.2 (once w.0 o (holds w.2) (subst (λ t. Reads program_limits t o) same r.2) w.3))

-- the file isn't there
pub missing_whole : (files : Option (List File)) (name : List ℕ) (h h2 k k2 status : ℕ) → LacksFile files name → ChecksWhole (checks name) files h h2 k k2 status
missing_whole None name h h2 k k2 status l w f g = absurd w
missing_whole (Some fs) name h h2 k k2 status l w f g = (let z : None ≡ Some w.0 = sym l ∙ w.1 in cc)

-- it couldn't be read
pub fault_whole : (form : Form) (files : Option (List File)) (h h2 k k2 status : ℕ) → MayHaveRisen h h2 → ChecksWhole form files h h2 k k2 status
fault_whole form files h h2 k k2 status r w f g = absurd (none_rose h h2 f r)

-- ---- other forms

pub not_run : (form : Form) (s : Settings) (file : List ℕ) → runs s ≡ form → form ≡ checks file → ⊥
not_run form s file e f = (let z : runs s ≡ checks file = e ∙ f in cc)

pub not_made : (form : Form) (seed : ℕ) (file : List ℕ) → makes seed ≡ form → form ≡ checks file → ⊥
not_made form seed file e f = (let z : makes seed ≡ checks file = e ∙ f in cc)

pub not_neither : (form : Form) (file : List ℕ) → neither ≡ form → form ≡ checks file → ⊥
not_neither form file e f = (let z : neither ≡ checks file = e ∙ f in cc)

-- no file is checked
pub none_named : (form : Form) (files : Option (List File)) (h h2 k k2 status : ℕ) → ((file : List ℕ) → form ≡ checks file → ⊥)
    → ChecksWhole form files h h2 k k2 status
none_named neither files h h2 k k2 status n w f g = absurd w
none_named (makes seed) files h h2 k k2 status n w f g = absurd w
none_named (runs s) files h h2 k k2 status n w f g = absurd w
none_named (checks file) files h h2 k k2 status n w f g = absurd (n file refl)
