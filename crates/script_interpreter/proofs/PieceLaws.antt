-- Index files that are written piece by piece.
use Rattle.std.proofs.Common.{◌≡◌, ℕ, ◌+◌, ◌≤◌, ◌^◌, length, is_some, Bool, true, false, List, [], ◌∷◌, ◌++◌, Option, Some, None, inl, inr, take, drop, refl, sym, ◌∙◌, ap, subst, slice_get, append_assoc, append-nil, true≢false}
use Rattle.std.proofs.lemmas.List.{take-append-drop}
use Rattle.std.specs.Io.KnownBytes.{Appends}
use Rattle.std.proofs.KnownBytes.{Appends-nil, Appends-trans}
use Rattle.graph_spec.specs.Graphs.{Graph, IsGraph}
use Rattle.graph_spec.proofs.GraphLaws.{is_shape}
use Rattle.graph_spec.specs.Shapes.{IsShape, shape_of}
use Rattle.bisim_spec.specs.Tests.{bis, both, fb, together}
use Rattle.bisim_spec.proofs.BisimilarTests.{bis_decides, both_decides, fb_decides}
use Rattle.bisim_spec.proofs.StabilityTests.{together_decides}
use Rattle.px_base.specs.Files.{AppendsPrefix}
use Rattle.index_api.specs.declared.kinds.Via.{Via}
use Rattle.index_api.specs.declared.kinds.Via.TheVariants.{Data, A, One, Fb, B}
use Rattle.index_api.specs.IndexOrder.{all_indexes}
use Rattle.index_api.specs.IndexKinds.{KeptIndexes, is_kept}
use Rattle.extent_report.specs.PrintedLists.{ShowsIndex}
use Rattle.index_file.specs.WrittenFiles.{head_text, view_text}
use Rattle.index_file.specs.GraphParts.{Gave}
use Rattle.index_file.specs.SavedIndexes.{SavesIndex, SavesIndexes, SavesFile, count_kept}
use Rattle.index_file.specs.WholeFiles.{HasLabels}
use Rattle.pathindex_core.specs.Engines.{EngineSeen, graph_in, level_in, kept_in}
use Rattle.pathindex_core.specs.Calls.{KeepsAllButViews}
use Rattle.script_interpreter.specs.EngineStates.{IsOpenForProgram}
use Rattle.script_interpreter.specs.Indexes.{IsSaved, ShowsFile}
use Rattle.script_interpreter.specs.States.{State}
use Rattle.script_interpreter.specs.Pieces.{Wrote, WrotePart, WroteNext, SavesParts}
use Rattle.index_saving.proofs.SavedFileLaws.{first_more, all_taken, saves_append, saves_same, whole_file}

-- nothing is a prefix of each text
pub nothing_yet : (w : Option (List ℕ)) (text : List ℕ) → AppendsPrefix w w text
nothing_yet None text = tt
nothing_yet (Some xs) text = ([], text, refl, sym (append-nil xs))

pub prefix_behind : (a b c : Option (List ℕ)) (front text : List ℕ) → Appends a b front → AppendsPrefix b c text → AppendsPrefix a c (front ++ text)
prefix_behind None b c front text p q = tt
prefix_behind (Some x) None c front text p q = absurd p
prefix_behind (Some x) (Some y) None front text p q = absurd q
prefix_behind (Some x) (Some y) (Some z) front text p q =
    (front ++ q.0, q.1, ap (λ t. front ++ t) q.2 ∙ sym (append_assoc front q.0 q.1), q.3 ∙ ap (λ t. t ++ q.0) p ∙ append_assoc x front q.0)

pub prefix_more : (a c : Option (List ℕ)) (text rest : List ℕ) → AppendsPrefix a c text → AppendsPrefix a c (text ++ rest)
prefix_more None c text rest q = tt
prefix_more (Some x) None text rest q = absurd q
prefix_more (Some x) (Some z) text rest q = (q.0, q.1 ++ rest, ap (λ t. t ++ rest) q.2 ∙ append_assoc q.0 q.1 rest, q.3)

-- the lines that were given to an empty buffer, once they are written
given_are : (before after left rest : List ℕ) → before ≡ [] → Gave before after left rest → left ≡ after ++ rest
given_are before after left rest e x = x.left_is ∙ ap (λ t. t ++ rest) (sym (x.given ∙ ap (λ t. t ++ x.lines) e))

pub next_written : (before after left rest : List ℕ) (a b : Option (List ℕ)) → before ≡ [] → Gave before after left rest → Appends a b after → WroteNext a b left rest
next_written before after left rest a b e x w = record { text = after; written = w; left_is = given_are before after left rest e x }

pub next_part : (before after left rest : List ℕ) (a b : Option (List ℕ)) → before ≡ [] → Gave before after left rest → AppendsPrefix a b after → AppendsPrefix a b left
next_part before after left rest a b e x w = subst (AppendsPrefix a b) (sym (given_are before after left rest e x)) (prefix_more a b after rest w)

-- one part after another
pub no_part_yet : (a : Option (List ℕ)) (left : List ℕ) → WroteNext a a left left
no_part_yet a left = record { text = []; written = Appends-nil a; left_is = refl }

pub next_twice : (a b c : Option (List ℕ)) (left middle rest : List ℕ) → WroteNext a b left middle → WroteNext b c middle rest → WroteNext a c left rest
next_twice a b c left middle rest x y = record {
  text = x.text ++ y.text;
  written = Appends-trans a b c x.text y.text x.written y.written;
  left_is = x.left_is ∙ ap (λ t. x.text ++ t) y.left_is ∙ sym (append_assoc x.text y.text rest);
}

pub all_parts : (a b : Option (List ℕ)) (left rest : List ℕ) → rest ≡ [] → WroteNext a b left rest → Appends a b left
all_parts a b left rest e x = subst (Appends a b) (sym (x.left_is ∙ ap (λ t. x.text ++ t) e ∙ append-nil x.text)) x.written

pub part_behind : (a b c : Option (List ℕ)) (left rest : List ℕ) → WroteNext a b left rest → AppendsPrefix b c rest → AppendsPrefix a c left
part_behind a b c left rest x w = subst (AppendsPrefix a c) (sym x.left_is) (prefix_behind a b c x.text rest x.written w)

-- what is written of a text that is right in one sense is so in a wider one
pub wrote_as : (Is As : List ℕ → Type 0) (a b : Option (List ℕ)) → ((text : List ℕ) → Is text → As text) → Wrote Is a b → Wrote As a b
wrote_as Is As a b f w = record { text = w.text; is = f w.text w.is; written = w.written }

pub part_as : (Is As : List ℕ → Type 0) (a b : Option (List ℕ)) → ((text : List ℕ) → Is text → As text) → WrotePart Is a b → WrotePart As a b
part_as Is As a b f w = record { text = w.text; is = f w.text w.is; written = w.written }

-- each index that is kept has a view
view_exists : (g : Graph) (kept : KeptIndexes) → IsShape (shape_of g) → (via : Via) → is_kept kept via ≡ true → (r : ℕ → ℕ → Bool) × ShowsIndex g kept via r
view_exists g kept s Data k = absurd (true≢false (sym k))
view_exists g kept s (A level) k = (bis (shape_of g) level, record { is_kept = k; decides = bis_decides (shape_of g) s level })
view_exists g kept s One k = (together kept.one, record { is_kept = k; decides = together_decides kept.one })
view_exists g kept s Fb k = (fb (shape_of g), record { is_kept = k; decides = fb_decides (shape_of g) s })
view_exists g kept s (B level) k = (both (shape_of g) level, record { is_kept = k; decides = both_decides (shape_of g) s level })

pub index_exists : (g : Graph) (kept : KeptIndexes) → IsShape (shape_of g) → (via : Via) → (text : List ℕ) × SavesIndex g kept via text
index_exists g kept s via = by (is_kept kept via) refl
  where
    by : (b : Bool) → is_kept kept via ≡ b → (text : List ℕ) × SavesIndex g kept via text
    by false k = ([], inr (k, refl))
    by true k = (let v = view_exists g kept s via k in (view_text (shape_of g) v.0 via, inl (record { test = v.0; shows = v.1; lines_are = refl })))

indexes_exist : (g : Graph) (kept : KeptIndexes) → IsShape (shape_of g) → (vias : List Via) → (text : List ℕ) × SavesIndexes g kept vias text
indexes_exist g kept s [] = ([], refl)
indexes_exist g kept s (via ∷ vias) =
    let one = index_exists g kept s via in
    let rest = indexes_exist g kept s vias in
    (one.0 ++ rest.0, (one.0, rest.0, one.1, rest.1, refl))

-- a piece that is the view of an index, and what is written of it
pub wrote_index : (g : Graph) (kept : KeptIndexes) (via : Via) (text : List ℕ) (a b : Option (List ℕ)) → SavesIndex g kept via text → Appends a b text → Wrote (SavesIndex g kept via) a b
wrote_index g kept via text a b s w = record { text = text; is = s; written = w }

pub part_index : (g : Graph) (kept : KeptIndexes) (via : Via) (text : List ℕ) (a b : Option (List ℕ)) → SavesIndex g kept via text → AppendsPrefix a b text → WrotePart (SavesIndex g kept via) a b
part_index g kept via text a b s w = record { text = text; is = s; written = w }

pub no_index_yet : (g : Graph) (kept : KeptIndexes) (via : Via) (a : Option (List ℕ)) → IsShape (shape_of g) → WrotePart (SavesIndex g kept via) a a
no_index_yet g kept via a s = let x = index_exists g kept s via in record { text = x.0; is = x.1; written = nothing_yet a x.0 }

-- the views of the first n indexes
pub no_indexes_yet : (g : Graph) (kept : KeptIndexes) (vias : List Via) (a : Option (List ℕ)) → Wrote (SavesIndexes g kept (take 0 vias)) a a
no_indexes_yet g kept vias a = record { text = []; is = refl; written = Appends-nil a }

pub one_more : (g : Graph) (kept : KeptIndexes) (vias : List Via) (n : ℕ) (via : Via) (a b c : Option (List ℕ)) → slice_get vias n ≡ Some via
    → Wrote (SavesIndexes g kept (take n vias)) a b → Wrote (SavesIndex g kept via) b c → Wrote (SavesIndexes g kept (take (n + 1) vias)) a c
one_more g kept vias n via a b c e w v =
    let one : SavesIndexes g kept (via ∷ []) v.text = (v.text, [], v.is, refl, sym (append-nil v.text)) in
    record {
      text = w.text ++ v.text;
      is = subst (λ vs. SavesIndexes g kept vs (w.text ++ v.text)) (sym (first_more vias n via e)) (saves_append g kept (take n vias) (via ∷ []) w.text v.text w.is one);
      written = Appends-trans a b c w.text v.text w.written v.written;
    }

pub one_part : (g : Graph) (kept : KeptIndexes) (vias : List Via) (n : ℕ) (via : Via) (a b c : Option (List ℕ)) → IsShape (shape_of g) → slice_get vias n ≡ Some via
    → Wrote (SavesIndexes g kept (take n vias)) a b → WrotePart (SavesIndex g kept via) b c → WrotePart (SavesIndexes g kept vias) a c
one_part g kept vias n via a b c s e w v =
    let one : SavesIndexes g kept (via ∷ []) v.text = (v.text, [], v.is, refl, sym (append-nil v.text)) in
    let front : SavesIndexes g kept (take (n + 1) vias) (w.text ++ v.text) =
    subst (λ vs. SavesIndexes g kept vs (w.text ++ v.text)) (sym (first_more vias n via e)) (saves_append g kept (take n vias) (via ∷ []) w.text v.text w.is one) in
    let rest = indexes_exist g kept s (drop (n + 1) vias) in
    record {
      text = (w.text ++ v.text) ++ rest.0;
      is = subst (λ vs. SavesIndexes g kept vs ((w.text ++ v.text) ++ rest.0)) (take-append-drop (n + 1) vias) (saves_append g kept (take (n + 1) vias) (drop (n + 1) vias) (w.text ++ v.text) rest.0 front rest.1);
      written = prefix_more a c (w.text ++ v.text) rest.0 (prefix_behind a b c w.text v.text w.written v.written);
    }

pub all_wrote : (g : Graph) (kept : KeptIndexes) (vias : List Via) (n : ℕ) (a b : Option (List ℕ)) → slice_get vias n ≡ None → Wrote (SavesIndexes g kept (take n vias)) a b
    → Wrote (SavesIndexes g kept vias) a b
all_wrote g kept vias n a b e w = record { text = w.text; is = subst (λ vs. SavesIndexes g kept vs w.text) (all_taken vias n e) w.is; written = w.written }

-- the same of an engine that was asked before
pub wrote_same : (e f : EngineSeen) (via : Via) (a b : Option (List ℕ)) → KeepsAllButViews e f → Wrote (SavesIndex (graph_in f.opened) (kept_in f) via) a b
    → Wrote (SavesIndex (graph_in e.opened) (kept_in e) via) a b
wrote_same e f via a b k w = wrote_as (SavesIndex (graph_in f.opened) (kept_in f) via) (SavesIndex (graph_in e.opened) (kept_in e) via) a b (λ text s. saves_same e f via text k s) w

pub part_same : (e f : EngineSeen) (via : Via) (a b : Option (List ℕ)) → KeepsAllButViews e f → WrotePart (SavesIndex (graph_in f.opened) (kept_in f) via) a b
    → WrotePart (SavesIndex (graph_in e.opened) (kept_in e) via) a b
part_same e f via a b k w = part_as (SavesIndex (graph_in f.opened) (kept_in f) via) (SavesIndex (graph_in e.opened) (kept_in e) via) a b (λ text s. saves_same e f via text k s) w

-- the lines of the graph, and then the views
pub parts_wrote : (g : Graph) (kept : KeptIndexes) (k count : ℕ) (a b c : Option (List ℕ)) → Appends a b (head_text g k count) → Wrote (SavesIndexes g kept (all_indexes k)) b c
    → Wrote (SavesParts g kept k count) a c
parts_wrote g kept k count a b c h w = record { text = head_text g k count ++ w.text; is = (w.text, w.is, refl); written = Appends-trans a b c (head_text g k count) w.text h w.written }

pub parts_part : (g : Graph) (kept : KeptIndexes) (k count : ℕ) (a b c : Option (List ℕ)) → Appends a b (head_text g k count) → WrotePart (SavesIndexes g kept (all_indexes k)) b c
    → WrotePart (SavesParts g kept k count) a c
parts_part g kept k count a b c h w = record { text = head_text g k count ++ w.text; is = (w.text, w.is, refl); written = prefix_behind a b c (head_text g k count) w.text h w.written }

pub head_part : (g : Graph) (kept : KeptIndexes) (k count : ℕ) (a b : Option (List ℕ)) → IsShape (shape_of g) → AppendsPrefix a b (head_text g k count) → WrotePart (SavesParts g kept k count) a b
head_part g kept k count a b s h =
    let v = indexes_exist g kept s (all_indexes k) in
    record { text = head_text g k count ++ v.0; is = (v.0, v.1, refl); written = prefix_more a b (head_text g k count) v.0 h }

-- with the level and the count of an engine these are the file
is_saved : (e f : EngineSeen) (k count : ℕ) (text : List ℕ) → KeepsAllButViews e f → k ≡ level_in e.opened → count ≡ count_kept (kept_in e) (all_indexes k)
    → SavesParts (graph_in f.opened) (kept_in f) k count text → SavesFile (graph_in e.opened) (kept_in e) text
is_saved e f k count text a level c p =
    let here : SavesParts (graph_in e.opened) (kept_in e) k (count_kept (kept_in e) (all_indexes k)) text =
    subst (λ n. SavesParts (graph_in e.opened) (kept_in e) k n text) c
    (subst (λ g. SavesParts g (kept_in e) k count text) (ap graph_in a.opened) (subst (λ kept. SavesParts (graph_in f.opened) kept k count text) a.kept p)) in
    subst (λ j. SavesParts (graph_in e.opened) (kept_in e) j (count_kept (kept_in e) (all_indexes j)) text) level here

-- which is an index file, if the labels are labels
is_whole : (e : EngineSeen) → IsOpenForProgram e → IsGraph (graph_in e.opened) → length (graph_in e.opened).allocated ≤ 2 ^ 30 → HasLabels (graph_in e.opened) → (text : List ℕ) → SavesFile (graph_in e.opened) (kept_in e) text
    → IsSaved (graph_in e.opened) (kept_in e) text
is_whole e o graph few labels text s = record { written = s; file = whole_file e text (ap is_some o.opened_is) o.sound graph few labels s }

pub file_wrote : (e f : EngineSeen) (k count : ℕ) (a b : Option (List ℕ)) → IsOpenForProgram e → IsGraph (graph_in e.opened) → length (graph_in e.opened).allocated ≤ 2 ^ 30 → HasLabels (graph_in e.opened)
    → KeepsAllButViews e f → k ≡ level_in e.opened → count ≡ count_kept (kept_in e) (all_indexes k) → Wrote (SavesParts (graph_in f.opened) (kept_in f) k count) a b → Wrote (IsSaved (graph_in e.opened) (kept_in e)) a b
file_wrote e f k count a b o graph few labels s level c w =
    wrote_as (SavesParts (graph_in f.opened) (kept_in f) k count) (IsSaved (graph_in e.opened) (kept_in e)) a b (λ text p. is_whole e o graph few labels text (is_saved e f k count text s level c p)) w

pub file_part : (e f : EngineSeen) (k count : ℕ) (a b : Option (List ℕ)) → IsOpenForProgram e → IsGraph (graph_in e.opened) → length (graph_in e.opened).allocated ≤ 2 ^ 30 → HasLabels (graph_in e.opened)
    → KeepsAllButViews e f → k ≡ level_in e.opened → count ≡ count_kept (kept_in e) (all_indexes k) → WrotePart (SavesParts (graph_in f.opened) (kept_in f) k count) a b → WrotePart (IsSaved (graph_in e.opened) (kept_in e)) a b
file_part e f k count a b o graph few labels s level c w =
    part_as (SavesParts (graph_in f.opened) (kept_in f) k count) (IsSaved (graph_in e.opened) (kept_in e)) a b (λ text p. is_whole e o graph few labels text (is_saved e f k count text s level c p)) w

pub no_file_yet : (e : EngineSeen) (a : Option (List ℕ)) → IsOpenForProgram e → IsGraph (graph_in e.opened) → length (graph_in e.opened).allocated ≤ 2 ^ 30 → HasLabels (graph_in e.opened)
    → WrotePart (IsSaved (graph_in e.opened) (kept_in e)) a a
no_file_yet e a o graph few labels =
    let k = (kept_in e).k in
    let head = head_text (graph_in e.opened) k (count_kept (kept_in e) (all_indexes k)) in
    let v = indexes_exist (graph_in e.opened) (kept_in e) (is_shape (graph_in e.opened) graph) (all_indexes k) in
    record { text = head ++ v.0; is = is_whole e o graph few labels (head ++ v.0) (v.0, v.1, refl); written = nothing_yet a (head ++ v.0) }

-- the file of the one state is that of the other
pub file_of : (s t : State) (a b : Option (List ℕ)) → t ≡ s → Wrote (ShowsFile t) a b → Wrote (ShowsFile s) a b
file_of s t a b e w = subst (λ x. Wrote (ShowsFile x) a b) e w

pub part_of : (s t : State) (a b : Option (List ℕ)) → t ≡ s → WrotePart (ShowsFile t) a b → WrotePart (ShowsFile s) a b
part_of s t a b e w = subst (λ x. WrotePart (ShowsFile x) a b) e w
