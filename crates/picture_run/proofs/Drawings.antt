-- From an index graph and a loaded file to what a run draws.
use Rattle.std.proofs.Common.{◌≡◌, ◌≢◌, ◌≤◌, ℕ, List, Option, None, Some, ◌⊎◌, inl, inr, refl, sym, subst, arith}
use Rattle.std.specs.Io.KnownBytes.{Appends}
use Rattle.std.proofs.KnownBytes.{Keeps-refl}
use Rattle.px_base.specs.Files.{File}
use Rattle.graph_spec.specs.Graphs.{Graph}
use Rattle.graph_spec.specs.Shapes.{shape_of}
use Rattle.graph_spec.specs.ProgramLimits.{program_limits}
use Rattle.bisim_spec.specs.declared.kind.Kind.{Kind}
use Rattle.bisim_spec.specs.Partitions.{IsPartition}
use Rattle.triple_names.specs.Names.{Names}
use Rattle.graph_load.specs.Loads.{loaded}
use Rattle.graph_load.specs.LoadSteps.{LoadsObservable, NamesObservable}
use Rattle.quotient.specs.Quotients.{Quotient, view_of}
use Rattle.index_api.specs.declared.kinds.Via.{Via}
use Rattle.index_api.specs.declared.kinds.Via.TheVariants.{Data, A, One, Fb, B}
use Rattle.index_api.specs.IndexOrder.{place_of}
use Rattle.index_eval.specs.Exactness.{FitsVia}
use Rattle.index_picture.specs.NamedTerms.{AreTermNames}
use Rattle.index_picture.specs.Pictures.{dot_text}
use Rattle.picture_run.specs.DrawnFiles.{Draws, DrawsFile, HasDrawn, IsAsked, IsWhole, ShowsPicture}
use Rattle.picture_run.specs.Settings.{Settings}
use Rattle.picture_run.specs.ShownTexts.{ShowsLine}

-- ---- what is asked for

pub place_none : (via : Via) → place_of via ≡ None → via ≡ Data
place_none Data e = refl
place_none (A i) e = cc
place_none One e = cc
place_none Fb e = cc
place_none (B i) e = cc

pub place_some : (via : Via) (p : Kind × ℕ) → place_of via ≡ Some p → via ≢ Data
place_some Data p e f = cc
place_some (A i) p e f = cc
place_some One p e f = cc
place_some Fb p e f = cc
place_some (B i) p e f = cc

-- a view of the index is what is asked for
pub index_asked : (via : Via) (g : Graph) (q : Quotient) → FitsVia via g (view_of q) → IsPartition (shape_of g) q.blocks.block_of → IsAsked via g q
index_asked Data g q f n = absurd f
index_asked (A i) g q f n = record { fits = f; nodes = n }
index_asked One g q f n = record { fits = f; nodes = n }
index_asked Fb g q f n = record { fits = f; nodes = n }
index_asked (B i) g q f n = record { fits = f; nodes = n }

-- so are the nodes themselves, where the graph is asked for
pub whole_asked : (via : Via) (g : Graph) (q : Quotient) → via ≡ Data → IsWhole g q → IsAsked via g q
whole_asked via g q e w = subst (λ v. IsAsked v g q) (sym e) w

-- ---- what is shown

-- the picture of what is asked for
pub shows_asked : (s : Settings) (g : Graph) (names : List (List ℕ)) (q : Quotient) (old new : Option (List ℕ)) (status : ℕ) → IsAsked s.via g q
    → ShowsLine (dot_text g q names s.blocks s.members) 0 old new status → ShowsPicture s g names old new status
shows_asked s g names q old new status asked shown =
    inl (dot_text g q names s.blocks s.members, record { drawn = q; asked = asked; text_is = refl }, shown)

-- a file that loads
pub draws_loaded : (s : Settings) (files : Option (List File)) (g : Graph) (terms : Names) (names : List (List ℕ)) (old new : Option (List ℕ)) (status : ℕ)
    → LoadsObservable program_limits files s.file (loaded g) → NamesObservable program_limits files s.file g terms → AreTermNames terms.terms names
    → ShowsPicture s g names old new status → DrawsFile s files old new status
draws_loaded s files g terms names old new status loads numbers named (inl p) =
    inl (p.0, record { graph = g; terms = terms; names = names; loads = loads; numbers = numbers; named = named; picture = p.1 }, p.2)
draws_loaded s files g terms names old new status loads numbers named (inr e) = inr (inr (e.1, inr e.0))

-- nothing was written, since a call failed before anything was, the file isn't there, or memory ran out
pub draws_nothing : (s : Settings) (files : Option (List File)) (old : Option (List ℕ)) (status : ℕ) → (status ≡ 5) ⊎ (status ≡ 7) → DrawsFile s files old old status
draws_nothing s files old status e = inr (inr (Keeps-refl old, e))

-- nothing was written, since there was no memory for the words
pub unread : (s : Option Settings) (files : Option (List File)) (old : Option (List ℕ)) → Draws s files old old 7
unread None files old = inr (inr (refl, Keeps-refl old))
unread (Some s) files old = draws_nothing s files old 7 (inr refl)

-- ---- the status 0

-- a text that is no picture has another status
none_shown : (text : List ℕ) (own : ℕ) (old new : Option (List ℕ)) (status : ℕ) → status ≡ 0 → 1 ≤ own → ShowsLine text own old new status → ⊥
none_shown text own old new status z some (inl e) = (let f = e.0 in omega (arith, f, z, some))
none_shown text own old new status z some (inr (inl e)) = (let f = e.0 in omega (arith, f, z))
none_shown text own old new status z some (inr (inr e)) = (let f = e.0 in omega (arith, f, z))

picture_shown : (text : List ℕ) (old new : Option (List ℕ)) (status : ℕ) → status ≡ 0 → ShowsLine text 0 old new status → Appends old new text
picture_shown text old new status z (inl e) = e.1
picture_shown text old new status z (inr (inl e)) = (let f = e.0 in absurd (omega (arith, f, z)))
picture_shown text old new status z (inr (inr e)) = (let f = e.0 in absurd (omega (arith, f, z)))

drawn_file : (s : Settings) (files : Option (List File)) (old new : Option (List ℕ)) (status : ℕ) → status ≡ 0 → DrawsFile s files old new status
    → HasDrawn (Some s) files old new
drawn_file s files old new status z (inl p) = (p.0, p.1, picture_shown p.0 old new status z p.2)
drawn_file s files old new status z (inr (inl (inl r))) = absurd (none_shown _ 3 old new status z (omega arith) r.2)
drawn_file s files old new status z (inr (inl (inr r))) = absurd (none_shown _ 3 old new status z (omega arith) r.2)
drawn_file s files old new status z (inr (inr (k, inl e))) = absurd (omega (arith, e, z))
drawn_file s files old new status z (inr (inr (k, inr e))) = absurd (omega (arith, e, z))

-- only a picture has the status 0
pub has_drawn : (s : Option Settings) (files : Option (List File)) (old new : Option (List ℕ)) (status : ℕ) → Draws s files old new status → status ≡ 0
    → HasDrawn s files old new
has_drawn None files old new status d z = none_shown _ 2 old new status z (omega arith) d
has_drawn (Some s) files old new status d z = drawn_file s files old new status z d
