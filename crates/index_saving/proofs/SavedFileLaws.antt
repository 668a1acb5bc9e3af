-- The text of an index file, index by index.
use Rattle.std.proofs.Common.{◌≡◌, ◌≢◌, ℕ, zero, suc, ◌+◌, ◌<◌, ◌≤◌, Bool, true, false, List, [], ◌∷◌, ◌++◌, Option, Some, None, Ok, Err, ◌⊎◌, inl, inr, length, take, arith, refl, sym, ◌∙◌, ap, subst, slice_get, get_or, append_assoc, append-nil, true≢false}
use Rattle.std.specs.Prelude.{◌^◌, ◌↔◌, IsSome, is_some, if◌then◌else◌}
use Rattle.std.proofs.lemmas.List.{take_more, take_all}
use Rattle.std.proofs.lemmas.Option.{slice_get_within, get_or_from_slice_get, slice_get-get_or}
use Rattle.std.proofs.lemmas.Bool.{cases_lt}
use Rattle.graph_spec.specs.Graphs.{Graph, IsGraph}
use Rattle.graph_spec.specs.Shapes.{shape_of}
use Rattle.bisim_spec.specs.Tests.{together}
use Rattle.bisim_spec.specs.IndexGraphs.{View}
use Rattle.index_api.specs.declared.kinds.Via.{Via}
use Rattle.index_api.specs.declared.kinds.Via.TheVariants.{Data, A, One, Fb, B}
use Rattle.index_api.specs.IndexOrder.{levels_below, all_indexes}
use Rattle.index_api.specs.IndexKinds.{KeptIndexes, kept_of, is_kept}
use Rattle.index_api.specs.Meanings.{Meaning, KeepsViews}
use Rattle.index_file.specs.WrittenFiles.{head_text, view_text}
use Rattle.index_file.specs.FittingViews.{IsStableMinimal}
use Rattle.index_file.specs.WholeFiles.{HasLabels, CanBeSaved, IsIndexFile}
use Rattle.index_file.proofs.FittingFiles.{saved_whole}
use Rattle.index_file.specs.SavedIndexes.{IsViewOf, SavesIndex, SavesIndexes, SavesFile, count_kept}
use Rattle.pathindex_core.specs.Engines.{Opened, EngineSeen, EachBecomes, AreKeptFor, IsSound, graph_in, level_in, kept_in}
use Rattle.pathindex_core.specs.Calls.{KeepsAllButViews, IsViewIn}
use Rattle.pathindex_core.proofs.Refreshed.{keeps_itself}
use Rattle.index_saving.proofs.KeptOne.{HasOne, has_one}

-- an engine that is asked nothing, or twice
each_itself : (xs : List Meaning) → EachBecomes KeepsViews xs xs
each_itself xs = record { length_kept = refl; each = λ i d w. keeps_itself (get_or xs i d) }

both_kept : (a b c : Meaning) → KeepsViews a b → KeepsViews b c → KeepsViews a c
both_kept a b c h k = record { kind = k.kind ∙ h.kind; count = k.count ∙ h.count; kept = λ i v e. k.kept i v (h.kept i v e) }

each_both : (xs ys zs : List Meaning) → EachBecomes KeepsViews xs ys → EachBecomes KeepsViews ys zs → EachBecomes KeepsViews xs zs
each_both xs ys zs h k = record {
  length_kept = k.length_kept ∙ h.length_kept;
  each = λ i d w. both_kept (get_or xs i d) (get_or ys i d) (get_or zs i d) (h.each i d w) (k.each i d (let same = h.length_kept in omega (arith, w, same)));
}

pub asked_nothing : (e : EngineSeen) → KeepsAllButViews e e
asked_nothing e = record { opened = refl; keeps = each_itself e.boxes; kept = refl }

pub asked_twice : (e f h : EngineSeen) → KeepsAllButViews e f → KeepsAllButViews f h → KeepsAllButViews e h
asked_twice e f h a b = record { opened = b.opened ∙ a.opened; keeps = each_both e.boxes f.boxes h.boxes a.keeps b.keeps; kept = b.kept ∙ a.kept }

-- an engine that was asked is still open
pub still_open : (e f : EngineSeen) → IsSome e.opened → KeepsAllButViews e f → IsSome f.opened
still_open e f o a = ap is_some a.opened ∙ o

-- the highest level of an engine
few_levels : (o : Option Opened) (boxes : List Meaning) → AreKeptFor o boxes → level_in o ≤ 8
few_levels None boxes h = omega arith
few_levels (Some o) boxes h = h.0

pub level_few : (e : EngineSeen) → IsSound e → level_in e.opened ≤ 8
level_few e sound = few_levels e.opened e.boxes sound.fit

-- none of these is the graph itself
abbrev AreIndexes : List Via → Type 0
AreIndexes [] = Unit {0}
AreIndexes (via ∷ vias) = (via ≢ Data) × AreIndexes vias

both_are : (vias more : List Via) → AreIndexes vias → AreIndexes more → AreIndexes (vias ++ more)
both_are [] more h k = k
both_are (via ∷ vias) more h k = (h.0, both_are vias more h.1 k)

levels_are : (at_level : ℕ → Via) → ((i : ℕ) → at_level i ≢ Data) → (n : ℕ) → AreIndexes (levels_below at_level n)
levels_are at_level never zero = tt
levels_are at_level never (suc n) = both_are (levels_below at_level n) (at_level n ∷ []) (levels_are at_level never n) (never n, tt)

all_are : (k : ℕ) → AreIndexes (all_indexes k)
all_are k =
    both_are (levels_below A (suc k)) (One ∷ Fb ∷ levels_below B (suc k)) (levels_are A (λ i e. cc) (suc k))
    ((λ e. cc), ((λ e. cc), levels_are B (λ i e. cc) (suc k)))

one_is : (vias : List Via) (n : ℕ) → n < length vias → AreIndexes vias → get_or vias n Data ≢ Data
one_is [] n w h e = omega (arith, w)
one_is (via ∷ vias) zero w h e = h.0 e
one_is (via ∷ vias) (suc n) w h e = one_is vias n (omega (arith, w)) h.1 e

pub no_data : (k n : ℕ) (via : Via) → slice_get (all_indexes k) n ≡ Some via → via ≢ Data
no_data k n via e d = one_is (all_indexes k) n (slice_get_within (all_indexes k) n via e) (all_are k) (get_or_from_slice_get (all_indexes k) n via Data e ∙ d)

-- one more of these indexes, and all of them
pub first_more : (vias : List Via) (n : ℕ) (via : Via) → slice_get vias n ≡ Some via → take (n + 1) vias ≡ take n vias ++ via ∷ []
first_more vias n via e = take_more vias n via (slice_get_within vias n via e) ∙ ap (λ v. take n vias ++ v ∷ []) (get_or_from_slice_get vias n via via e)

pub all_taken : (vias : List Via) (n : ℕ) → slice_get vias n ≡ None → take n vias ≡ vias
all_taken vias n e = take_all n vias (past (cases_lt n (length vias)))
  where
    some_none : {v : Via} → Some v ≡ None → ⊥
    some_none h = cc

    past : (n < length vias) ⊎ (length vias ≤ n) → length vias ≤ n
    past (inl within) = absurd (some_none (sym (slice_get-get_or vias n Data within) ∙ e))
    past (inr over) = over

-- what an answer without an error says of an index
pub kept_kind : {T E : Type 0} (b : Bool) (x : T) (e : E) → (Ok x ≡ Err e) ↔ (b ≡ false) → b ≡ true
kept_kind true x e h = refl
kept_kind false x e h = absurd (let z = h.1 refl in cc)

-- counting
count_append : (kept : KeptIndexes) (vias more : List Via) → count_kept kept (vias ++ more) ≡ count_kept kept vias + count_kept kept more
count_append kept [] more = omega arith
count_append kept (via ∷ vias) more = let e = count_append kept vias more in omega (arith, e)

pub few_one : (b : Bool) → (if b then 1 else 0) ≤ 1
few_one true = omega arith
few_one false = omega arith

pub count_more : (kept : KeptIndexes) (vias : List Via) (n : ℕ) (via : Via) (count one : ℕ) → slice_get vias n ≡ Some via → count ≡ count_kept kept (take n vias)
    → one ≡ (if is_kept kept via then 1 else 0) → count + one ≡ count_kept kept (take (n + 1) vias)
count_more kept vias n via count one e c o =
    let all : count_kept kept (take (n + 1) vias) ≡ count_kept kept (take n vias) + count_kept kept (via ∷ []) = ap (count_kept kept) (first_more vias n via e) ∙ count_append kept (take n vias) (via ∷ []) in
    let last : count_kept kept (via ∷ []) ≡ (if is_kept kept via then 1 else 0) + 0 = refl in
    omega (arith, all, last, c, o)

pub count_all : (kept : KeptIndexes) (vias : List Via) (n count : ℕ) → slice_get vias n ≡ None → count ≡ count_kept kept (take n vias) → count ≡ count_kept kept vias
count_all kept vias n count e c = c ∙ ap (count_kept kept) (all_taken vias n e)

-- the view of an index that is kept, as it is written
pub is_view_of : (e : EngineSeen) (via : Via) (v : View) (text : List ℕ) → IsViewIn e via v → text ≡ view_text (shape_of (graph_in e.opened)) (together v.block_of) via
    → IsViewOf (graph_in e.opened) (kept_in e) via text
is_view_of e via v text h t = record { test = together v.block_of; shows = h.shows; lines_are = t }

pub saves_view : (e f : EngineSeen) (via : Via) (text : List ℕ) → KeepsAllButViews e f → IsViewOf (graph_in f.opened) (kept_in f) via text → SavesIndex (graph_in e.opened) (kept_in e) via text
saves_view e f via text a v =
    inl (subst (λ g. IsViewOf g (kept_in e) via text) (ap graph_in a.opened) (subst (λ kept. IsViewOf (graph_in f.opened) kept via text) a.kept v))

pub saves_none : (g : Graph) (kept : KeptIndexes) (via : Via) (text : List ℕ) → is_kept kept via ≡ false → text ≡ [] → SavesIndex g kept via text
saves_none g kept via text k t = inr (k, t)

pub saves_append : (g : Graph) (kept : KeptIndexes) (vias more : List Via) (text rest : List ℕ) → SavesIndexes g kept vias text → SavesIndexes g kept more rest → SavesIndexes g kept (vias ++ more) (text ++ rest)
saves_append g kept [] more text rest h k = subst (λ t. SavesIndexes g kept more (t ++ rest)) (sym h) k
saves_append g kept (via ∷ vias) more text rest h k =
    (h.0, h.1 ++ rest, h.2, saves_append g kept vias more h.1 rest h.3 k, ap (λ t. t ++ rest) h.4 ∙ append_assoc h.0 h.1 rest)

-- behind a head stand the views of the first n indexes
pub record AreFirstViews (g : Graph) (kept : KeptIndexes) (vias : List Via) (n : ℕ) (head out : List ℕ) : Type 0 where
  pub lines : List ℕ
  pub saves : SavesIndexes g kept (take n vias) lines
  pub out_is : out ≡ head ++ lines

pub no_views : (g : Graph) (kept : KeptIndexes) (vias : List Via) (head out : List ℕ) → out ≡ head → AreFirstViews g kept vias 0 head out
no_views g kept vias head out e = record { lines = []; saves = refl; out_is = e ∙ sym (append-nil head) }

pub more_views : (g : Graph) (kept : KeptIndexes) (vias : List Via) (n : ℕ) (via : Via) (head out lines gathered : List ℕ) → slice_get vias n ≡ Some via → AreFirstViews g kept vias n head out
    → SavesIndex g kept via lines → gathered ≡ out ++ lines → AreFirstViews g kept vias (n + 1) head gathered
more_views g kept vias n via head out lines gathered e s l t =
    let one : SavesIndexes g kept (via ∷ []) lines = (lines, [], l, refl, sym (append-nil lines)) in
    record {
      lines = s.lines ++ lines;
      saves = subst (λ vs. SavesIndexes g kept vs (s.lines ++ lines)) (sym (first_more vias n via e)) (saves_append g kept (take n vias) (via ∷ []) s.lines lines s.saves one);
      out_is = t ∙ ap (λ x. x ++ lines) s.out_is ∙ append_assoc head s.lines lines;
    }

pub all_views : (g : Graph) (kept : KeptIndexes) (vias : List Via) (n : ℕ) (head out : List ℕ) → slice_get vias n ≡ None → AreFirstViews g kept vias n head out
    → (lines : List ℕ) × SavesIndexes g kept vias lines × (out ≡ head ++ lines)
all_views g kept vias n head out e s = (s.lines, subst (λ vs. SavesIndexes g kept vs s.lines) (all_taken vias n e) s.saves, s.out_is)

-- the same view of an engine that was asked before
pub saves_same : (e f : EngineSeen) (via : Via) (text : List ℕ) → KeepsAllButViews e f → SavesIndex (graph_in f.opened) (kept_in f) via text → SavesIndex (graph_in e.opened) (kept_in e) via text
saves_same e f via text a s = subst (λ g. SavesIndex g (kept_in e) via text) (ap graph_in a.opened) (subst (λ kept. SavesIndex (graph_in f.opened) kept via text) a.kept s)

-- the head and the views are the file
pub is_file : (e f : EngineSeen) (k count : ℕ) (head out text : List ℕ) → KeepsAllButViews e f → k ≡ level_in e.opened → count ≡ count_kept (kept_in e) (all_indexes k)
    → head ≡ head_text (graph_in f.opened) k count → (lines : List ℕ) × SavesIndexes (graph_in f.opened) (kept_in f) (all_indexes k) lines × (out ≡ head ++ lines) → text ≡ out
    → SavesFile (graph_in e.opened) (kept_in e) text
is_file e f k count head out text a level c h v t =
    let g : graph_in f.opened ≡ graph_in e.opened = ap graph_in a.opened in
    let lines_saved : SavesIndexes (graph_in e.opened) (kept_in e) (all_indexes k) v.0 =
    subst (λ x. SavesIndexes x (kept_in e) (all_indexes k) v.0) g (subst (λ kept. SavesIndexes (graph_in f.opened) kept (all_indexes k) v.0) a.kept v.1) in
    let head_is : head ≡ head_text (graph_in e.opened) k (count_kept (kept_in e) (all_indexes k)) = h ∙ ap (λ x. head_text x k count) g ∙ ap (head_text (graph_in e.opened) k) c in
    subst (λ j. (lines : List ℕ) × SavesIndexes (graph_in e.opened) (kept_in e) (all_indexes j) lines × (text ≡ head_text (graph_in e.opened) j (count_kept (kept_in e) (all_indexes j)) ++ lines)) level
    (v.0, lines_saved, t ∙ v.2 ∙ ap (λ x. x ++ v.0) head_is)

-- the 1-index of an open engine is stable and minimal
one_minimal : (boxes : List Meaning) (o : Opened) → AreKeptFor (Some o) boxes → is_kept (kept_of boxes o.k) One ≡ true → IsStableMinimal (shape_of o.graph) (kept_of boxes o.k).one
one_minimal boxes o fit h =
    let one : HasOne o.graph boxes = has_one o boxes fit.1 h in
    subst (λ b. IsStableMinimal (shape_of o.graph) b) (sym one.blocks) (record { stable = one.fits.index.stable; minimal = one.fits.index.minimal })

minimal_in : (boxes : List Meaning) (o : Option Opened) → IsSome o → AreKeptFor o boxes → is_kept (kept_of boxes (level_in o)) One ≡ true
    → IsStableMinimal (shape_of (graph_in o)) (kept_of boxes (level_in o)).one
minimal_in boxes None is_open fit h = absurd (true≢false (sym is_open))
minimal_in boxes (Some o) is_open fit h = one_minimal boxes o fit h

-- what an engine has can be saved
can_be_saved : (e : EngineSeen) → IsSome e.opened → IsSound e → IsGraph (graph_in e.opened) → length (graph_in e.opened).allocated ≤ 2 ^ 30 → HasLabels (graph_in e.opened)
    → CanBeSaved (graph_in e.opened) (kept_in e)
can_be_saved e is_open sound graph few labels = record {
  graph = graph;
  numbers = omega (arith, few);
  level = level_few e sound;
  labels = labels;
  one = minimal_in e.boxes e.opened is_open sound.fit;
}

-- and then the text is an index file
pub whole_file : (e : EngineSeen) (text : List ℕ) → IsSome e.opened → IsSound e → IsGraph (graph_in e.opened) → length (graph_in e.opened).allocated ≤ 2 ^ 30 → HasLabels (graph_in e.opened)
    → SavesFile (graph_in e.opened) (kept_in e) text → IsIndexFile (graph_in e.opened) (kept_in e) text
whole_file e text is_open sound graph few labels saves = saved_whole (graph_in e.opened) (kept_in e) text (can_be_saved e is_open sound graph few labels) saves
