-- The views of a family, and those that it will have once a draft is settled.
use Rattle.std.proofs.Common.{◌≡◌, ℕ, zero, suc, ◌+◌, ◌<◌, ◌≤◌, List, [], ◌∷◌, Option, Some, None, length, arith, refl, sym, ap, ◌∙◌, subst}
use Rattle.std.proofs.lemmas.List.{get_or-map, length-map, get_or_past, ext_get_or}
use Rattle.graph_spec.specs.Graphs.{Graph}
use Rattle.graph_spec.specs.Shapes.{shape_of}
use Rattle.bisim_spec.specs.Partitions.{Agrees}
use Rattle.bisim_spec.specs.IndexGraphs.{View, ViewFits}
use Rattle.bisim_spec.specs.declared.sides.Sides.{Sides}
use Rattle.bisim_spec.specs.declared.sides.Sides.TheVariants.{Parents, Both}
use Rattle.bisim_spec.specs.SidedLevels.{AtLevel}
use Rattle.bisim_spec.specs.Fits.{Fits, FitsLevel, FitsAt, HasCount, kind_of, view_at, view_count}
use Rattle.change_spec.specs.Steps.{Step}
use Rattle.quotient.specs.Quotients.{view_of}
use Rattle.quotient_draft.specs.Drafts.{settled_view}
use Rattle.keyed_quotient.specs.KeyedQuotients.{KeyedQuotient, no_level}
use Rattle.keyed_quotient.specs.Changes.{KeyedChanges}
use Rattle.ak_family.specs.Families.{level_at, blocks_at}
use Rattle.ak_family.specs.LevelDrafts.{changes_at, AreSeenAs, AreSettled}
use Rattle.level_update.specs.FamilyDrafts.{FamilyFits, ShownFit}
use Rattle.index_api.specs.Meanings.{BeginsFull, IsViewStep}
use Rattle.kept_levels.specs.KeptFamilies.{views_of, settled_from, settled_views}

-- the view of a level
pub view_level : (levels : List KeyedQuotient) (i : ℕ) → i < length levels → view_at (views_of levels) i ≡ Some (view_of (level_at levels i).quotient)
view_level levels i h = get_or-map (λ l. Some (view_of l.quotient)) levels i no_level None h

pub no_view_past : (levels : List KeyedQuotient) (i : ℕ) → length levels ≤ i → view_at (views_of levels) i ≡ None
no_view_past levels i h = get_or_past (views_of levels) i None (let e = length-map levels (λ l. Some (view_of l.quotient)) in omega (arith, h, e))

pub view_total : (levels : List KeyedQuotient) → length (views_of levels) ≡ length levels
view_total levels = length-map levels (λ l. Some (view_of l.quotient))

-- the view of a level once the draft is settled
settled_level_from : (levels : List KeyedQuotient) (d : List KeyedChanges) (i j : ℕ) → j < length levels
    → view_at (settled_from levels d i) j ≡ Some (settled_view (level_at levels j).quotient (changes_at d (i + j)).drafted)
settled_level_from [] d i j h = absurd (omega (arith, h))
settled_level_from (l ∷ levels) d i zero h = let place : i ≡ i + 0 = omega arith in ap (λ n. Some (settled_view l.quotient (changes_at d n).drafted)) place
settled_level_from (l ∷ levels) d i (suc j) h =
    let place : i + 1 + j ≡ i + suc j = omega arith in
    settled_level_from levels d (i + 1) j (omega (arith, h)) ∙ ap (λ n. Some (settled_view (level_at levels j).quotient (changes_at d n).drafted)) place

pub settled_level : (f : List KeyedQuotient) (d : List KeyedChanges) (i : ℕ) → i < length f
    → view_at (settled_views f d) i ≡ Some (settled_view (level_at f i).quotient (changes_at d i).drafted)
settled_level f d i h =
    let place : 0 + i ≡ i = omega arith in settled_level_from f d 0 i h ∙ ap (λ n. Some (settled_view (level_at f i).quotient (changes_at d n).drafted)) place

settled_total_from : (levels : List KeyedQuotient) (d : List KeyedChanges) (i : ℕ) → length (settled_from levels d i) ≡ length levels
settled_total_from [] d i = refl
settled_total_from (l ∷ levels) d i = ap suc (settled_total_from levels d (i + 1))

pub settled_total : (f : List KeyedQuotient) (d : List KeyedChanges) → length (settled_views f d) ≡ length f
settled_total f d = settled_total_from f d 0

-- the levels of a family that is built fit the graph
pub levels_fit : (sides : Sides) (g : Graph) (f : List KeyedQuotient) (k : ℕ) → length f ≡ k + 1 → ((i : ℕ) → i ≤ k → ViewFits g (view_of (level_at f i).quotient))
    → ((i : ℕ) → i ≤ k → Agrees (shape_of g) (blocks_at f i) (AtLevel sides (shape_of g) i)) → FamilyFits sides g f
levels_fit sides g f k count views agrees i h = record { view = views i (omega (arith, h, count)); agrees = agrees i (omega (arith, h, count)) }

-- what a view of such a family must be
at_kind : (sides : Sides) (g : Graph) (i : ℕ) (v : View) → FitsLevel sides g i v → FitsAt (kind_of sides) g i (Some v)
at_kind Parents g i v h = h
at_kind Both g i v h = h

of_kind : (sides : Sides) (g : Graph) (i : ℕ) (v : View) → FitsAt (kind_of sides) g i (Some v) → FitsLevel sides g i v
of_kind Parents g i v h = h
of_kind Both g i v h = h

some_views : (sides : Sides) (n : ℕ) → 1 ≤ n → HasCount (kind_of sides) n
some_views Parents n h = h
some_views Both n h = h

pub views_some : (sides : Sides) (n : ℕ) → HasCount (kind_of sides) n → 1 ≤ n
views_some Parents n h = h
views_some Both n h = h

pub level_count : (sides : Sides) (k : ℕ) → view_count (kind_of sides) k ≡ k + 1
level_count Parents k = refl
level_count Both k = refl

-- nothing is said of how such a view begins, or moves
pub begins_so : (sides : Sides) (g : Graph) (o : Option View) → BeginsFull (kind_of sides) g o
begins_so Parents g o = tt
begins_so Both g o = tt

pub moves_so : (sides : Sides) (g : Graph) (o next : Option View) (c : List Step) → IsViewStep (kind_of sides) g o c next
moves_so Parents g o next c = tt
moves_so Both g o next c = tt

-- the levels of a graph fit it as views, and the other way round
pub family_fits : (sides : Sides) (g : Graph) (f : List KeyedQuotient) → 0 < length f → FamilyFits sides g f → Fits (kind_of sides) (views_of f) g
family_fits sides g f some fits =
    let total = view_total f in
    record {
      count = some_views sides (length (views_of f)) (omega (arith, some, total));
      each = λ i w. (let within : i < length f = omega (arith, w, total) in
          subst (FitsAt (kind_of sides) g i) (sym (view_level f i within)) (at_kind sides g i (view_of (level_at f i).quotient) (fits i within)));
    }

pub fits_family : (sides : Sides) (g : Graph) (f : List KeyedQuotient) → Fits (kind_of sides) (views_of f) g → FamilyFits sides g f
fits_family sides g f fits i h =
    let total = view_total f in
    of_kind sides g i (view_of (level_at f i).quotient) (subst (FitsAt (kind_of sides) g i) (view_level f i h) (fits.each i (omega (arith, h, total))))

pub shown_fits : (sides : Sides) (g : Graph) (f : List KeyedQuotient) (d : List KeyedChanges) → 0 < length f → ShownFit sides g f d → Fits (kind_of sides) (settled_views f d) g
shown_fits sides g f d some fits =
    let total = settled_total f d in
    record {
      count = some_views sides (length (settled_views f d)) (omega (arith, some, total));
      each = λ i w. (let within : i < length f = omega (arith, w, total) in
          subst (FitsAt (kind_of sides) g i) (sym (settled_level f d i within)) (at_kind sides g i (settled_view (level_at f i).quotient (changes_at d i).drafted) (fits i within)));
    }

-- a family that is the same but for reserved capacity has the same views
pub same_views : (f f2 : List KeyedQuotient) → AreSeenAs f f2 → views_of f2 ≡ views_of f
same_views f f2 same =
    let total = view_total f in
    let total2 = view_total f2 in
    let count = same.count in
    ext_get_or None (views_of f2) (views_of f) (omega (arith, total, total2, count)) (λ i h.
    (let within2 : i < length f2 = omega (arith, h, total2) in
    view_level f2 i within2 ∙ ap (λ (v : View). Some v) (same.views i) ∙ sym (view_level f i (omega (arith, within2, count)))))

-- the views of a family in which the draft is settled
pub views_settled : (f new : List KeyedQuotient) (d : List KeyedChanges) → AreSettled f d new → settled_views f d ≡ views_of new
views_settled f new d settled =
    let total = settled_total f d in
    let total2 = view_total new in
    let count = settled.count in
    ext_get_or None (settled_views f d) (views_of new) (omega (arith, total, total2, count)) (λ i h.
    (let within : i < length f = omega (arith, h, total) in
    settled_level f d i within ∙ ap (λ (v : View). Some v) (sym (settled.each i within).view) ∙ sym (view_level new i (omega (arith, within, count)))))
