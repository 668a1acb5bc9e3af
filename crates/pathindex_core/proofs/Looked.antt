-- Views that are looked at.
use Rattle.std.proofs.Common.{◌≡◌, ◌≢◌, ℕ, Bool, true, false, List, Option, Some, None, IsSome, IsTrue, ◌⊎◌, inl, inr, refl, sym, ◌∙◌, ap, subst, true≢false}
use Rattle.std.specs.Prelude.{◌↔◌, IfSome, option_map, option_and_then}
use Rattle.graph_spec.specs.Graphs.{Graph}
use Rattle.graph_spec.specs.Shapes.{Shape, shape_of}
use Rattle.bisim_spec.specs.declared.kind.Kind.TheVariants as kind
use Rattle.bisim_spec.specs.Bisimilarity.{SameLabel, Bis, Both, FB, node_count}
use Rattle.bisim_spec.specs.Partitions.{IsPartition, Agrees}
use Rattle.bisim_spec.specs.Tests.{together}
use Rattle.bisim_spec.specs.IndexGraphs.{View}
use Rattle.bisim_spec.specs.Fits.{view_at}
use Rattle.bisim_spec.proofs.Bisimilar.{label_sym, label_node, bis_label, both_label}
use Rattle.bisim_spec.proofs.StabilityTests.{together_decides}
use Rattle.index_api.specs.declared.kinds.Via.{Via}
use Rattle.index_api.specs.declared.kinds.Via.TheVariants.{Data, A, One, Fb, B}
use Rattle.index_api.specs.Meanings.{Meaning, blocks_in}
use Rattle.index_api.specs.IndexKinds.{KeptIndexes, has_kind, is_kept, index_of, kept_of}
use Rattle.extent_report.specs.ListedBlocks.{DecidesEach}
use Rattle.extent_report.specs.PrintedLists.{ShowsIndex}
use Rattle.index_eval.specs.Exactness.{FitsVia}
use Rattle.pathindex_core.specs.Engines.{Opened, EngineSeen, IsKeptFor, IsSound}
use Rattle.pathindex_core.specs.Calls.{IsViewIn, LacksView}
use Rattle.pathindex_core.specs.Boxes.{IsFbComputed, via_view}
use Rattle.pathindex_core.proofs.Refreshed.{nothing_due}
use Rattle.pathindex_core.proofs.ShownViews.{IsThere, IsAbsent, asked, view_there, view_absent}

-- Blocks that are the classes of a relation decide it, if it relates nodes alone.
blocks_decide : (s : Shape) (block : List (Option ℕ)) (R : ℕ → ℕ → Type 0) → ((u v : ℕ) → R u v → SameLabel s u v) → Agrees s block R → DecidesEach (together block) R
blocks_decide s block R label a u v = (
  λ t. a.related u v ((together_decides block u v).0 t),
  λ r. (together_decides block u v).1 (a.grouped u v (label_node s u v (label u v r)) (label_node s v u (label_sym s u v (label u v r))) r),
)

view_nodes : (g : Graph) (via : Via) (v : View) → FitsVia via g v → IsPartition (shape_of g) v.block_of
view_nodes g Data v h = absurd h
view_nodes g (A level) v h = h.agrees.partition
view_nodes g One v h = h.index.stable.partition
view_nodes g Fb v h = h.agrees.partition
view_nodes g (B level) v h = h.agrees.partition

view_shows : (g : Graph) (kept : KeptIndexes) (via : Via) (v : View) → is_kept kept via ≡ true → (via ≡ One → kept.one ≡ v.block_of) → FitsVia via g v → ShowsIndex g kept via (together v.block_of)
view_shows g kept Data v k one h = absurd h
view_shows g kept (A level) v k one h = record { is_kept = k; decides = blocks_decide (shape_of g) v.block_of (Bis (shape_of g) level) (bis_label (shape_of g) level) h.agrees }
view_shows g kept One v k one h = record { is_kept = k; decides = λ a b. rw (one refl) (together_decides v.block_of a b) }
view_shows g kept Fb v k one h =
    record { is_kept = k; decides = blocks_decide (shape_of g) v.block_of (FB (shape_of g)) (both_label (shape_of g) (node_count (shape_of g))) h.agrees }
view_shows g kept (B level) v k one h = record { is_kept = k; decides = blocks_decide (shape_of g) v.block_of (Both (shape_of g) level) (both_label (shape_of g) level) h.agrees }

some_view : (v w : View) → Some v ≡ Some w → w ≡ v
some_view v w e = cc

-- where the view of the forward and backward index is found, it is computed
computed_by_view : (boxes : List Meaning) (via : Via) (v : View) → Some v ≡ via_view boxes via → via ≡ Fb → IsFbComputed boxes
computed_by_view boxes via v e fb =
    let here : Some v ≡ option_and_then (λ m. view_at m.views 0) (index_of boxes kind.Fb) = e ∙ ap (via_view boxes) fb in
    record { computed = λ m f. subst IsSome (here ∙ ap (λ x. option_and_then (λ m. view_at m.views 0) x) f) refl }

one_blocks : (boxes : List Meaning) (k : ℕ) (via : Via) (v : View) → Some v ≡ via_view boxes via → via ≡ One → (kept_of boxes k).one ≡ v.block_of
one_blocks boxes k via v e one = ap blocks_in (sym (e ∙ ap (via_view boxes) one))

is_view : (o : Opened) (boxes : List Meaning) (via : Via) (v : View) → IsSound (record { boxes = boxes; opened = Some o }) → Some v ≡ via_view boxes via
    → IsViewIn (record { boxes = boxes; opened = Some o }) via v
is_view o boxes via v sound e =
    let there : IsThere o.graph (kept_of boxes o.k) via (Some v) = view_there o boxes sound.fit.1 via v (computed_by_view boxes via v e) e in
    let fits : FitsVia via o.graph v = subst (FitsVia via o.graph) (some_view v there.view there.is) there.fits_via in
    record { fits = fits; nodes = view_nodes o.graph via v fits; shows = view_shows o.graph (kept_of boxes o.k) via v there.kept_is (one_blocks boxes o.k via v e) fits }

-- what is looked at is the view of an index that is kept
pub looked : {S : Type 0} (f : S → View) (r : Option S) (boxes : List Meaning) (x : Option Opened) (via : Via) → IsSome x → IsSound (record { boxes = boxes; opened = x })
    → option_map f r ≡ via_view boxes via → IfSome r (λ s. IsViewIn (record { boxes = boxes; opened = x }) via (f s))
looked f None boxes x via is_open sound e = tt
looked f (Some s) boxes None via is_open sound e = absurd (true≢false (sym is_open))
looked f (Some s) boxes (Some o) via is_open sound e = is_view o boxes via (f s) sound e

a_apart : (level : ℕ) → A level ≢ Fb
a_apart level e = cc

one_apart : One ≢ Fb
one_apart e = cc

b_apart : (level : ℕ) → B level ≢ Fb
b_apart level e = cc

-- an index that has no view
no_view : (o : Opened) (boxes : List Meaning) (via : Via) → IsSound (record { boxes = boxes; opened = Some o }) → via_view boxes via ≡ None → LacksView (record { boxes = boxes; opened = Some o }) via
no_view o boxes Data sound e = inl refl
no_view o boxes (A level) sound e = inl (view_absent o boxes sound.fit.1 (A level) (λ f. absurd (a_apart level f)) (sym e))
no_view o boxes One sound e = inl (view_absent o boxes sound.fit.1 One (λ f. absurd (one_apart f)) (sym e))
no_view o boxes (B level) sound e = inl (view_absent o boxes sound.fit.1 (B level) (λ f. absurd (b_apart level f)) (sym e))
no_view o boxes Fb sound e = by (is_kept (kept_of boxes o.k) Fb) refl
  where
    by : (b : Bool) → is_kept (kept_of boxes o.k) Fb ≡ b → LacksView (record { boxes = boxes; opened = Some o }) Fb
    by false k = inl k
    by true k = inr (refl, λ c. true≢false (sym k ∙ view_absent o boxes sound.fit.1 Fb (λ f. c) (sym e)))

-- where the index isn't kept, there is nothing to compute
unkept_computed : (boxes : List Meaning) (k : ℕ) (via : Via) → is_kept (kept_of boxes k) via ≡ false → via ≡ Fb → IsFbComputed boxes
unkept_computed boxes k via h fb = nothing_due boxes (sym (ap (is_kept (kept_of boxes k)) fb) ∙ h)

lacks : (o : Opened) (boxes : List Meaning) (via : Via) → IsSound (record { boxes = boxes; opened = Some o }) → LacksView (record { boxes = boxes; opened = Some o }) via → via_view boxes via ≡ None
lacks o boxes via sound (inl k) = by (asked o boxes sound.fit.1 via (unkept_computed boxes o.k via k))
  where
    by : IsAbsent (kept_of boxes o.k) via (via_view boxes via) ⊎ IsThere o.graph (kept_of boxes o.k) via (via_view boxes via) → via_view boxes via ≡ None
    by (inl a) = a.is
    by (inr t) = absurd (true≢false (sym t.kept_is ∙ k))
lacks o boxes via sound (inr n) = by (via_view boxes via) refl
  where
    by : (x : Option View) → via_view boxes via ≡ x → via_view boxes via ≡ None
    by None e = e
    by (Some v) e = absurd (n.1 (computed_by_view boxes via v (sym e) n.0))

map_none : {S : Type 0} (f : S → View) (r : Option S) → option_map f r ≡ None → r ≡ None
map_none f None e = refl
map_none f (Some s) e = absurd (some_none (f s) e)
  where
    some_none : (v : View) → Some v ≡ None → ⊥
    some_none v h = cc

-- nothing is found exactly where the index has no view
pub looked_none : {S : Type 0} (f : S → View) (r : Option S) (boxes : List Meaning) (x : Option Opened) (via : Via) → IsSome x → IsSound (record { boxes = boxes; opened = x })
    → option_map f r ≡ via_view boxes via → (r ≡ None) ↔ LacksView (record { boxes = boxes; opened = x }) via
looked_none f r boxes None via is_open sound e = absurd (true≢false (sym is_open))
looked_none f r boxes (Some o) via is_open sound e = (
  λ n. no_view o boxes via sound (sym e ∙ ap (option_map f) n),
  λ l. map_none f r (e ∙ lacks o boxes via sound l),
)
