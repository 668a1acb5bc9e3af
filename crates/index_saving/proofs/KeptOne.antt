-- The 1-index among the indexes that are kept.
use Rattle.std.proofs.Common.{◌≡◌, ℕ, suc, true, false, List, [], ◌∷◌, length, Option, None, Some, refl, ap, ◌∙◌, sym, subst, arith, cond, true≢false}
use Rattle.std.specs.Prelude.{◌||◌, All, option_and_then}
use Rattle.graph_spec.specs.Graphs.{Graph}
use Rattle.bisim_spec.specs.declared.kind.Kind.{Kind}
use Rattle.bisim_spec.specs.declared.kind.Kind.TheVariants as kind
use Rattle.bisim_spec.specs.IndexGraphs.{View}
use Rattle.bisim_spec.specs.Fits.{Fits, FitsAt, FitsOne, view_at}
use Rattle.index_api.specs.Meanings.{Meaning, blocks_in}
use Rattle.index_api.specs.IndexKinds.{is_kind, has_kind, kinds_of, index_of, kept_view}
use Rattle.pathindex_core.specs.Engines.{Opened, IsKeptFor}

-- what is found is of that kind, and P holds of it if it holds of each
pub found_all : (P : Meaning → Type 0) (k : Kind) (boxes : List Meaning) → All P boxes → (m : Meaning) → index_of boxes k ≡ Some m → P m × (is_kind k m.kind ≡ true)
found_all P k [] all m e = absurd (cc)
found_all P k (a ∷ xs) all m e =
    elim (is_kind k a.kind) as (λ t. is_kind k a.kind ≡ t → cond t (Some a) (index_of xs k) ≡ Some m → P m × (is_kind k m.kind ≡ true)) [
      | true ↦ λ t f. (let same : a ≡ m = cc in (subst P same (all 0 a (omega arith)), ap (λ x. is_kind k x.kind) (sym same) ∙ t))
      | false ↦ λ t f. found_all P k xs (λ i d l. all (suc i) d (omega (arith, l))) m f
    ] refl e

pub some_found : (k : Kind) (boxes : List Meaning) → has_kind (kinds_of boxes) k ≡ true → (m : Meaning) × (index_of boxes k ≡ Some m)
some_found k [] h = absurd (true≢false (sym h))
some_found k (a ∷ xs) h =
    elim (is_kind k a.kind) as (λ t. (t || has_kind (kinds_of xs) k) ≡ true → (m : Meaning) × (cond t (Some a) (index_of xs k) ≡ Some m)) [
      | true ↦ λ e. (a, refl)
      | false ↦ λ e. some_found k xs e
    ] h

pub is_one : (k : Kind) → is_kind kind.One k ≡ true → k ≡ kind.One
is_one kind.A h = absurd (true≢false (sym h))
is_one kind.One h = refl
is_one kind.Fb h = absurd (true≢false (sym h))
is_one kind.B h = absurd (true≢false (sym h))

-- the blocks of the 1-index among the boxes
abbrev pub one_in : List Meaning → List (Option ℕ)
one_in boxes = blocks_in (kept_view boxes kind.One 0)

view_fits : (g : Graph) (o : Option View) → FitsAt kind.One g 0 o → (v : View) × (o ≡ Some v) × FitsOne g v
view_fits g None h = absurd h
view_fits g (Some v) h = (v, refl, h)

-- the 1-index that is kept for a graph has a view of it
pub record HasOne (g : Graph) (boxes : List Meaning) : Type 0 where
  pub index : Meaning
  pub index_is : index_of boxes kind.One ≡ Some index
  pub of_kind : index.kind ≡ kind.One
  pub view : View
  pub view_is : view_at index.views 0 ≡ Some view
  pub fits : FitsOne g view
  pub blocks : one_in boxes ≡ view.block_of

pub has_one : (o : Opened) (boxes : List Meaning) → All (IsKeptFor o) boxes → has_kind (kinds_of boxes) kind.One ≡ true → HasOne o.graph boxes
has_one o boxes all h =
    let m = some_found kind.One boxes h in
    let f = found_all (IsKeptFor o) kind.One boxes all m.0 m.1 in
    let one = is_one m.0.kind f.1 in
    let fits = f.0.ready.fits in
    let count : length m.0.views ≡ 1 = subst (λ k. Fits k m.0.views o.graph → length m.0.views ≡ 1) (sym one) (λ x. x.count) fits in
    let v = view_fits o.graph (view_at m.0.views 0) (subst (λ k. FitsAt k o.graph 0 (view_at m.0.views 0)) one (fits.each 0 (omega (arith, count)))) in
    record {
      index = m.0;
      index_is = m.1;
      of_kind = one;
      view = v.0;
      view_is = v.1;
      fits = v.2;
      blocks = ap (λ x. blocks_in (option_and_then (λ b. view_at b.views 0) x)) m.1 ∙ ap blocks_in v.1;
    }
