-- The place of the box of a kind, and the list without it.
use Rattle.std.proofs.Common.{◌≡◌, ◌≢◌, ℕ, zero, suc, ◌+◌, ◌<◌, Bool, true, false, not, List, [], ◌∷◌, ◌++◌, length, map, take, drop, arith, refl, sym, ◌∙◌, ap, get_or, below_more, ◌||◌, inl, inr}
use Rattle.std.specs.List.{AllPairs, filter}
use Rattle.std.proofs.lemmas.List.{get_or-map, length-map}
use Rattle.std.proofs.lemmas.Bool.{cases_lt}
use Rattle.bisim_spec.specs.declared.kind.Kind.{Kind}
use Rattle.bisim_spec.specs.declared.kind.Kind.TheVariants.{A, One, Fb, B}
use Rattle.index_api.specs.Meanings.{Meaning}
use Rattle.index_api.specs.IndexKinds.{is_kind, kinds_of, has_kind}
use Rattle.pathindex_core.specs.Boxes.{StandsAt}

pub neither : (a b : Bool) → (a || b) ≡ false → (a ≡ false) × (b ≡ false)
neither true b e = absurd (cc)
neither false b e = (refl, e)

pub same_kind : (a b : Kind) → is_kind a b ≡ true → a ≡ b
same_kind A A e = refl
same_kind A One e = absurd (cc)
same_kind A Fb e = absurd (cc)
same_kind A B e = absurd (cc)
same_kind One A e = absurd (cc)
same_kind One One e = refl
same_kind One Fb e = absurd (cc)
same_kind One B e = absurd (cc)
same_kind Fb A e = absurd (cc)
same_kind Fb One e = absurd (cc)
same_kind Fb Fb e = refl
same_kind Fb B e = absurd (cc)
same_kind B A e = absurd (cc)
same_kind B One e = absurd (cc)
same_kind B Fb e = absurd (cc)
same_kind B B e = refl

other_kind : (a b : Kind) → a ≢ b → is_kind a b ≡ false
other_kind A A e = absurd (e refl)
other_kind A One e = refl
other_kind A Fb e = refl
other_kind A B e = refl
other_kind One A e = refl
other_kind One One e = absurd (e refl)
other_kind One Fb e = refl
other_kind One B e = refl
other_kind Fb A e = refl
other_kind Fb One e = refl
other_kind Fb Fb e = absurd (e refl)
other_kind Fb B e = refl
other_kind B A e = refl
other_kind B One e = refl
other_kind B Fb e = refl
other_kind B B e = absurd (e refl)

-- where no box is of the kind, none is kept
pub none_kept : (boxes : List Meaning) (kind : Kind) → ((k : ℕ) (d : Meaning) → k < length boxes → is_kind kind (get_or boxes k d).kind ≡ false) → has_kind (kinds_of boxes) kind ≡ false
none_kept [] kind h = refl
none_kept (m ∷ boxes) kind h = rw (h 0 m (omega arith)) (none_kept boxes kind (λ k d within. h (suc k) d (omega (arith, within))))

-- where a box stands, its kind is kept
pub is_kept_at : (boxes : List Meaning) (kind : Kind) (i : ℕ) → StandsAt boxes kind i → has_kind (kinds_of boxes) kind ≡ true
is_kept_at [] kind i s = let h = s.within in absurd (omega (arith, h))
is_kept_at (m ∷ boxes) kind zero s = rw (s.of_kind m) refl
is_kept_at (m ∷ boxes) kind (suc i) s =
    let h = s.within in
    let rest = is_kept_at boxes kind i (record { within = omega (arith, h); of_kind = s.of_kind; first = λ j d below. s.first (suc j) d (omega (arith, below)) }) in
    elim (is_kind kind m.kind) as (λ b. (b || has_kind (kinds_of boxes) kind) ≡ true) [ true ↦ refl | false ↦ rest ]

-- one more isn't of the kind
pub place_step : {Box : Type 0} (f : Box → Meaning) (xs : List Box) (i : ℕ) (x : Box) (kind : Kind) → i < length xs → x ≡ get_or xs i x
    → ((k : ℕ) (d : Meaning) → k < i → is_kind kind (get_or (map f xs) k d).kind ≡ false) → is_kind kind (f x).kind ≡ false → (k : ℕ) (d : Meaning) → k < i + 1
    → is_kind kind (get_or (map f xs) k d).kind ≡ false
place_step f xs i x kind h e before here k d below =
    let P : ℕ → Type 0 = λ k. is_kind kind (get_or (map f xs) k d).kind ≡ false in
    below_more P i (λ j jb. before j d jb) (rw (get_or-map f xs i x d h, ← e) here) k below

-- the box at the place
pub stands_here : {Box : Type 0} (f : Box → Meaning) (xs : List Box) (i : ℕ) (x : Box) (kind : Kind) → i < length xs → x ≡ get_or xs i x
    → ((k : ℕ) (d : Meaning) → k < i → is_kind kind (get_or (map f xs) k d).kind ≡ false) → is_kind kind (f x).kind ≡ true → StandsAt (map f xs) kind i
stands_here f xs i x kind h e before is = record { within = rw (length-map xs f) h; of_kind = λ d. rw (get_or-map f xs i x d h, ← e) is; first = before }

all_others : (boxes : List Meaning) (kind : Kind) → ((k : ℕ) (d : Meaning) → k < length boxes → is_kind kind (get_or boxes k d).kind ≡ false) → filter (λ m. not (is_kind kind m.kind)) boxes ≡ boxes
all_others [] kind h = refl
all_others (m ∷ boxes) kind h = rw (h 0 m (omega arith)) (ap (λ xs. m ∷ xs) (all_others boxes kind (λ k d within. h (suc k) d (omega (arith, within)))))

-- the boxes of other kinds are those around the place
others : (boxes : List Meaning) (kind : Kind) (i : ℕ) → StandsAt boxes kind i → ((k : ℕ) (d : Meaning) → k < length boxes → k ≢ i → is_kind kind (get_or boxes k d).kind ≡ false)
    → take i boxes ++ drop (i + 1) boxes ≡ filter (λ m. not (is_kind kind m.kind)) boxes
others [] kind i s h = let w = s.within in absurd (omega (arith, w))
others (m ∷ boxes) kind zero s h = rw (s.of_kind m) (sym (all_others boxes kind (λ k d within. h (suc k) d (omega (arith, within)) (omega arith))))
others (m ∷ boxes) kind (suc i) s h =
    let w = s.within in
    let rest = others boxes kind i (record { within = omega (arith, w); of_kind = s.of_kind; first = λ j d below. s.first (suc j) d (omega (arith, below)) }) (λ k d within ne. h (suc k) d (omega (arith, within)) (omega (arith, ne))) in
    let next : suc i + 1 ≡ suc (i + 1) = omega arith in
    rw (h 0 m (omega arith) (omega arith), next) (ap (λ xs. m ∷ xs) rest)

kind_apart : (boxes : List Meaning) (kind : Kind) (i k : ℕ) (d : Meaning) → StandsAt boxes kind i → AllPairs (λ a b. a.kind ≢ b.kind) boxes → k < length boxes → k ≢ i
    → is_kind kind (get_or boxes k d).kind ≡ false
kind_apart boxes kind i k d s apart within ne =
    let there = same_kind kind (get_or boxes i d).kind (s.of_kind d) in
    other_kind kind (get_or boxes k d).kind (λ e. elim (cases_lt k i) [
      | inl below ↦ apart k i d below s.within (sym e ∙ there)
      | inr above ↦ apart i k d (let w = above in omega (arith, w, ne)) within (sym there ∙ e)
    ])

-- of boxes of distinct kinds, those of other kinds are those around the place
pub without : (boxes : List Meaning) (kind : Kind) (i : ℕ) → StandsAt boxes kind i → AllPairs (λ a b. a.kind ≢ b.kind) boxes
    → take i boxes ++ drop (i + 1) boxes ≡ filter (λ m. not (is_kind kind m.kind)) boxes
without boxes kind i s apart = others boxes kind i s (λ k d within ne. kind_apart boxes kind i k d s apart within ne)

-- where no box is of the kind, the others are all
pub all_stay : (boxes : List Meaning) (kind : Kind) → has_kind (kinds_of boxes) kind ≡ false → boxes ≡ filter (λ m. not (is_kind kind m.kind)) boxes
all_stay [] kind h = refl
all_stay (m ∷ boxes) kind h =
    let parts = neither (is_kind kind m.kind) (has_kind (kinds_of boxes) kind) h in
    rw (parts.0) (ap (λ xs. m ∷ xs) (all_stay boxes kind parts.1))
