-- Lists of neighbours of which one is written among the cells.
use Rattle.std.proofs.Common.{◌≡◌, ◌≢◌, ℕ, zero, suc, ◌+◌, ◌<◌, ◌≤◌, List, [], ◌∷◌, ◌++◌, Some, length, refl, sym, ap, ◌∙◌, subst, arith, get_or, set, ◌⊎◌, inl, inr, map as map_list}
use Rattle.std.specs.Prelude.{slice_get, slice_index, swap_remove}
use Rattle.std.specs.List.Sorted.{IsPermutation}
use Rattle.std.proofs.lemmas.List.{map-set, set-get_or}
use Rattle.std.proofs.lemmas.Option.{slice_get-get_or, slice_get_within}
use Rattle.cell_lists.specs.declared.segment.Segment.{Segment}
use Rattle.cell_lists.specs.Segments.{items_in, LiesWithin, IsApart, Begins, Writes}
use Rattle.cell_lists.proofs.SegmentLemmas.{items-length, items-none, items-more, longer, turned}
use Rattle.quotient.specs.NeighbourCells.{AreHeld, spare_in}
use Rattle.quotient.specs.QuotientNeighbours.{list_at}
use Rattle.quotient.specs.QuotientTables.{GivesMore}
use Rattle.quotient.proofs.Pairs.{item_at}
use Rattle.quotient.proofs.ReservedCapacity.{list_here, list_taken}

only : (s t : Segment) → Some s ≡ Some t → s ≡ t
only s t e = cc

further : (n i : ℕ) (u t : Segment) (P : Type 0) → ((i ≡ n) × (u ≡ t)) ⊎ ((i ≢ n) × P) → ((suc i ≡ suc n) × (u ≡ t)) ⊎ ((suc i ≢ suc n) × P)
further n i u t P (inl (e, f)) = inl (ap suc e, f)
further n i u t P (inr (e, f)) = inr ((λ h. e (omega (arith, h))), f)

lists-set : (ss : List Segment) (n : ℕ) (t : Segment) (i : ℕ) (u : Segment) → slice_get (set ss n t) i ≡ Some u → ((i ≡ n) × (u ≡ t)) ⊎ ((i ≢ n) × (slice_get ss i ≡ Some u))
lists-set [] n t i u e = absurd cc
lists-set (y ∷ ys) zero t zero u e = inl (refl, sym (only t u e))
lists-set (y ∷ ys) zero t (suc i) u e = inr ((λ q. absurd (omega (arith, q))), e)
lists-set (y ∷ ys) (suc n) t zero u e = inr ((λ q. absurd (omega (arith, q))), e)
lists-set (y ∷ ys) (suc n) t (suc i) u e = further n i u t _ (lists-set ys n t i u e)

same-map : (f g : Segment → List ℕ) (ss : List Segment) → ((m : ℕ) (u : Segment) → slice_get ss m ≡ Some u → f u ≡ g u) → map_list f ss ≡ map_list g ss
same-map f g [] h = refl
same-map f g (x ∷ xs) h = ap (λ y. y ∷ map_list f xs) (h 0 x refl) ∙ ap (λ l. g x ∷ l) (same-map f g xs (λ m u e. h (suc m) u e))

set-others : (f g : Segment → List ℕ) (ss : List Segment) (n : ℕ) (y : List ℕ) → ((m : ℕ) (u : Segment) → m ≢ n → slice_get ss m ≡ Some u → f u ≡ g u) → set (map_list f ss) n y ≡ set (map_list g ss) n y
set-others f g [] n y h = refl
set-others f g (x ∷ xs) zero y h = ap (λ l. y ∷ l) (same-map f g xs (λ m u e. h (suc m) u (λ q. absurd (omega (arith, q))) e))
set-others f g (x ∷ xs) (suc n) y h =
    ap (λ z. z ∷ set (map_list f xs) n y) (h 0 x (λ q. absurd (omega (arith, q))) refl)
    ∙ ap (λ l. g x ∷ l) (set-others f g xs n y (λ m u ne e. h (suc m) u (λ q. ne (omega (arith, q))) e))

-- one list, s, is at place n
module _ (cells : List ℕ) (ss : List Segment) (n : ℕ) (s : Segment) (below : n < length ss) (is : s ≡ get_or ss n s) (h : AreHeld cells ss) where
  there : slice_get ss n ≡ Some s
  there = slice_get-get_or ss n s below ∙ ap (λ x. Some x) (sym is)

  pub list-within : LiesWithin (length cells) s
  list-within = h.within n s there

  pub list-there : list_at (map_list (items_in cells) ss) n ≡ items_in cells s
  list-there = item_at (items_in cells) ss n s below is

  -- a place of the list
  pub place-within : (i b : ℕ) → slice_get (list_at (map_list (items_in cells) ss) n) i ≡ Some b → i < s.len
  place-within i b at = omega (arith, slice_get_within (items_in cells s) i b (ap (λ l. slice_get l i) (sym list-there) ∙ at), items-length cells s list-within)

  -- it is written, and is t
  module _ (more : List ℕ) (t : Segment) (w : Writes cells more s t) where
    within-new : (i : ℕ) (u : Segment) → ((i ≡ n) × (u ≡ t)) ⊎ ((i ≢ n) × (slice_get ss i ≡ Some u)) → LiesWithin (length more) u
    within-new i u (inl (e, f)) = subst (LiesWithin (length more)) (sym f) w.within
    within-new i u (inr (e, f)) = let o = h.within i u f in record { fits = o.fits; ends = λ l. omega (arith, o.ends l, w.longer) }

    apart-new : (i j : ℕ) (u v : Segment) → i ≢ j → ((i ≡ n) × (u ≡ t)) ⊎ ((i ≢ n) × (slice_get ss i ≡ Some u))
        → ((j ≡ n) × (v ≡ t)) ⊎ ((j ≢ n) × (slice_get ss j ≡ Some v)) → IsApart u v
    apart-new i j u v ne (inl (e, f)) (inl (g, l)) = absurd (ne (e ∙ sym g))
    apart-new i j u v ne (inl (e, f)) (inr (g, l)) =
        subst (λ x. IsApart x v) (sym f) (w.apart v (h.within j v l) (h.apart n j s v (λ q. g (sym q)) there l))
    apart-new i j u v ne (inr (e, f)) (inl (g, l)) =
        subst (IsApart u) (sym l) (turned t u (w.apart u (h.within i u f) (h.apart n i s u (λ q. e (sym q)) there f)))
    apart-new i j u v ne (inr (e, f)) (inr (g, l)) = h.apart i j u v ne f l

    pub held-set : AreHeld more (set ss n t)
    held-set = record {
      within = λ i u e. within-new i u (lists-set ss n t i u e);
      apart = λ i j u v ne e f. apart-new i j u v ne (lists-set ss n t i u e) (lists-set ss n t j v f);
    }

    -- the other lists are as they were
    pub lists-written : map_list (items_in more) (set ss n t) ≡ set (map_list (items_in cells) ss) n (items_in more t)
    lists-written =
        map-set (items_in more) ss n t
        ∙ set-others (items_in more) (items_in cells) ss n (items_in more t) (λ m u ne e. w.others u (h.within m u e) (h.apart n m s u (λ q. ne (sym q)) there e))

    pub len-kept : items_in more t ≡ items_in cells s → t.len ≡ s.len
    len-kept e = omega (arith, ap length e, items-length cells s list-within, items-length more t w.within)

    pub lists-kept : items_in more t ≡ items_in cells s → map_list (items_in more) (set ss n t) ≡ map_list (items_in cells) ss
    lists-kept e = lists-written ∙ ap (set (map_list (items_in cells) ss) n) (e ∙ sym list-there) ∙ set-get_or (map_list (items_in cells) ss) n []

    pub lists-pushed : (b : ℕ) → items_in more t ≡ items_in cells s ++ b ∷ []
        → map_list (items_in more) (set ss n t) ≡ set (map_list (items_in cells) ss) n (list_at (map_list (items_in cells) ss) n ++ b ∷ [])
    lists-pushed b e = lists-written ∙ ap (set (map_list (items_in cells) ss) n) (e ∙ ap (λ l. l ++ b ∷ []) (sym list-there))

    pub lists-taken : map_list (items_in more) (set ss n t) ≡ set (map_list (items_in cells) ss) n (list_at (map_list (items_in more) (set ss n t)) n)
    lists-taken = lists-written ∙ ap (set (map_list (items_in cells) ss) n) (sym (list_here (items_in more) ss n t below))

    -- a number is taken out of it by its place
    pub number-taken : (i b : ℕ) → slice_get (list_at (map_list (items_in cells) ss) n) i ≡ Some b → items_in more t ≡ swap_remove (items_in cells s) i 0
        → IsPermutation (list_at (map_list (items_in cells) ss) n) (b ∷ list_at (map_list (items_in more) (set ss n t)) n)
    number-taken i b at e =
        subst (λ l. IsPermutation (list_at (map_list (items_in cells) ss) n) (b ∷ l)) (sym (list_here (items_in more) ss n t below))
        (list_taken (list_at (map_list (items_in cells) ss) n) (items_in cells s) (items_in more t) i b list-there at e)

-- a list without numbers is put behind
pushed-one : (ss : List Segment) (e : Segment) (i : ℕ) (u : Segment) → slice_get (ss ++ e ∷ []) i ≡ Some u → (slice_get ss i ≡ Some u) ⊎ (u ≡ e)
pushed-one [] e zero u h = inr (sym (only e u h))
pushed-one [] e (suc i) u h = inl h
pushed-one (x ∷ xs) e zero u h = inl h
pushed-one (x ∷ xs) e (suc i) u h = pushed-one xs e i u h

pushed-at : (ss : List Segment) (e : Segment) (i : ℕ) (u : Segment) → slice_get (ss ++ e ∷ []) i ≡ Some u → (slice_get ss i ≡ Some u) ⊎ ((i ≡ length ss) × (u ≡ e))
pushed-at [] e zero u h = inr (refl, sym (only e u h))
pushed-at [] e (suc i) u h = inl h
pushed-at (x ∷ xs) e zero u h = inl h
pushed-at (x ∷ xs) e (suc i) u h = elim (pushed-at xs e i u h) [
  | inl f ↦ inl f
  | inr g ↦ inr (ap suc g.0, g.1)
]

pub lists-behind : (cells : List ℕ) (ss : List Segment) (e : Segment) → e.len ≡ 0 → map_list (items_in cells) (ss ++ e ∷ []) ≡ map_list (items_in cells) ss ++ [] ∷ []
lists-behind cells [] e none = ap (λ l. l ∷ []) (items-none cells e none)
lists-behind cells (x ∷ xs) e none = ap (λ l. items_in cells x ∷ l) (lists-behind cells xs e none)

more-behind : (ss : List Segment) (e : Segment) (m : ℕ) → slice_index (map_list spare_in ss) m ≤ slice_index (map_list spare_in (ss ++ e ∷ [])) m
more-behind [] e m = omega arith
more-behind (x ∷ xs) e zero = omega arith
more-behind (x ∷ xs) e (suc m) = more-behind xs e m

pub reserved-behind : (ss : List Segment) (e : Segment) → GivesMore (map_list spare_in ss) (map_list spare_in (ss ++ e ∷ []))
reserved-behind ss e = record { rest = more-behind ss e }

pub held-none : (cells : List ℕ) → AreHeld cells []
held-none cells = record { within = λ i s e. absurd cc; apart = λ i j s t ne e f. absurd cc }

module _ (cells : List ℕ) (ss : List Segment) (e : Segment) (short : e.reserved < 2) (none : e.len ≡ 0) (h : AreHeld cells ss) where
  within-push : (i : ℕ) (u : Segment) → (slice_get ss i ≡ Some u) ⊎ (u ≡ e) → LiesWithin (length cells) u
  within-push i u (inl f) = h.within i u f
  within-push i u (inr f) = subst (LiesWithin (length cells)) (sym f) (record { fits = omega (arith, none); ends = λ l. absurd (omega (arith, short, l)) })

  apart-push : (i j : ℕ) (u v : Segment) → i ≢ j → (slice_get ss i ≡ Some u) ⊎ (u ≡ e) → (slice_get ss j ≡ Some v) ⊎ (v ≡ e) → IsApart u v
  apart-push i j u v ne (inl f) (inl g) = h.apart i j u v ne f g
  apart-push i j u v ne (inr f) g = subst (λ x. IsApart x v) (sym f) (λ a b. absurd (omega (arith, short, a)))
  apart-push i j u v ne (inl f) (inr g) = subst (IsApart u) (sym g) (λ a b. absurd (omega (arith, short, b)))

  pub held-push : AreHeld cells (ss ++ e ∷ [])
  held-push = record {
    within = λ i u f. within-push i u (pushed-one ss e i u f);
    apart = λ i j u v ne f g. apart-push i j u v ne (pushed-one ss e i u f) (pushed-one ss e j v g);
  }

-- cells are put behind
module _ (cells new : List ℕ) (ss : List Segment) (more : Begins cells new) (h : AreHeld cells ss) where
  within-longer : (i : ℕ) (u : Segment) → slice_get ss i ≡ Some u → LiesWithin (length new) u
  within-longer i u f = let w = h.within i u f in record { fits = w.fits; ends = λ l. omega (arith, w.ends l, longer cells new more) }

  pub held-longer : AreHeld new ss
  held-longer = record { within = within-longer; apart = h.apart }

  pub lists-longer : map_list (items_in new) ss ≡ map_list (items_in cells) ss
  lists-longer = same-map (items_in new) (items_in cells) ss (λ m u f. items-more cells new u more (h.within m u f))

  -- and a list that takes them
  module _ (e : Segment) (first : e.first ≡ length cells) (none : e.len ≡ 0) (ends : e.first + e.reserved ≤ length new) where
    within-behind : (i : ℕ) (u : Segment) → (slice_get ss i ≡ Some u) ⊎ (u ≡ e) → LiesWithin (length new) u
    within-behind i u (inl f) = within-longer i u f
    within-behind i u (inr f) = subst (LiesWithin (length new)) (sym f) (record { fits = omega (arith, none); ends = λ l. ends })

    before : (i : ℕ) (u : Segment) → slice_get ss i ≡ Some u → IsApart u e
    before i u f long other = inl (let w = (h.within i u f).ends long in omega (arith, w, first))

    apart-behind : (i j : ℕ) (u v : Segment) → i ≢ j → (slice_get ss i ≡ Some u) ⊎ ((i ≡ length ss) × (u ≡ e)) → (slice_get ss j ≡ Some v) ⊎ ((j ≡ length ss) × (v ≡ e)) → IsApart u v
    apart-behind i j u v ne (inl f) (inl g) = h.apart i j u v ne f g
    apart-behind i j u v ne (inl f) (inr g) = subst (IsApart u) (sym g.1) (before i u f)
    apart-behind i j u v ne (inr f) (inl g) = subst (λ x. IsApart x v) (sym f.1) (turned v e (before j v g))
    apart-behind i j u v ne (inr f) (inr g) = absurd (ne (f.0 ∙ sym g.0))

    pub held-behind : AreHeld new (ss ++ e ∷ [])
    held-behind = record {
      within = λ i u f. within-behind i u (pushed-one ss e i u f);
      apart = λ i j u v ne f g. apart-behind i j u v ne (pushed-at ss e i u f) (pushed-at ss e j v g);
    }
