-- Items that are the same are equal; what a list of triples has as parts and as joins.
use Rattle.std.proofs.Common.{◌≡◌, ◌≢◌, ◌⊎◌, Bool, true, false, ◌&&◌, ◌||◌, not, List, [], ◌∷◌, ◌++◌, refl, sym, ap, ◌∙◌, subst, inl, inr, true≢false, filter}
use Rattle.std.specs.Prelude.{bytes_eq, if◌then◌else◌}
use Rattle.std.specs.List.{list_any, IsDistinct, AllByRecursion}
use Rattle.std.proofs.lemmas.Bool.{cases_Bool, and_parts, and_from, or_cases, or_left, or_right, false_from_ne_true}
use Rattle.std.proofs.Math.Bool.{or-false}
use Rattle.std.proofs.lemmas.List.Folds.{list_any-append}
use Rattle.std.proofs.lemmas.Map.Keys.{IsDistinct-head, IsDistinct-tail, IsDistinct-cons}
use Rattle.std.proofs.lemmas.Map.Views.{any-filter_same}
use Rattle.triples_read.specs.declared.term.Triple.{Triple}
use Rattle.term_table.specs.Terms.{same_term}
use Rattle.term_table.proofs.SameTerms.{term_is, term_same, same_bytes, bytes_same}
use Rattle.triple_names.specs.Items.{Item, of_term, of_triple, same_triple, same_item, is_part, joins, has_item, has_join}
use Rattle.triple_names.specs.Represented.{is_among, with_triple, without_triple}

pub triple_is : (t u : Triple) → same_triple t u ≡ true → t ≡ u
triple_is t u h =
    let p = and_parts (same_term t.subject u.subject) (bytes_eq t.predicate u.predicate && same_term t.object u.object) h in
    let q = and_parts (bytes_eq t.predicate u.predicate) (same_term t.object u.object) p.1 in
    let s = term_is t.subject u.subject p.0 in
    let v = same_bytes t.predicate u.predicate q.0 in
    let o = term_is t.object u.object q.1 in
    λ i. record { subject = s i; predicate = v i; object = o i }

pub triple_same : (t : Triple) → same_triple t t ≡ true
triple_same t =
    and_from (same_term t.subject t.subject) (bytes_eq t.predicate t.predicate && same_term t.object t.object) (term_same t.subject)
    (and_from (bytes_eq t.predicate t.predicate) (same_term t.object t.object) (bytes_same t.predicate) (term_same t.object))

pub item_is : (p q : Item) → same_item p q ≡ true → p ≡ q
item_is (of_term x) (of_term y) h = ap of_term (term_is x y h)
item_is (of_triple t) (of_triple u) h = ap of_triple (triple_is t u h)
item_is (of_term x) (of_triple u) h = absurd (true≢false (sym h))
item_is (of_triple t) (of_term y) h = absurd (true≢false (sym h))

pub item_same : (p : Item) → same_item p p ≡ true
item_same (of_term x) = term_same x
item_same (of_triple t) = triple_same t

pub same_by : (p q : Item) → p ≡ q → same_item p q ≡ true
same_by p q e = subst (λ r. same_item p r ≡ true) e (item_same p)

pub item_tells : (p q : Item) → ((same_item p q ≡ true) × (p ≡ q)) ⊎ ((same_item p q ≡ false) × (p ≢ q))
item_tells p q = elim (cases_Bool (same_item p q)) [
  | inl on ↦ inl (on, item_is p q on)
  | inr off ↦ inr (off, λ e. true≢false (sym (same_by p q e) ∙ off))
]

pub item_apart : (p q : Item) → p ≢ q → same_item p q ≡ false
item_apart p q apart = false_from_ne_true (same_item p q) (λ h. apart (item_is p q h))

-- two tests that follow from each other agree
pub agree : (a b : Bool) → (a ≡ true → b ≡ true) → (b ≡ true → a ≡ true) → a ≡ b
agree true b f k = sym (f refl)
agree false b f k = sym (false_from_ne_true b (λ h. true≢false (sym (k h))))

-- ---- lists of triples

-- a triple of the list passes
pub find_one : (p : Triple → Bool) (s : List Triple) → list_any p s ≡ true → (t : Triple) × (is_among s t ≡ true) × (p t ≡ true)
find_one p [] h = absurd (true≢false (sym h))
find_one p (x ∷ xs) h = elim (or_cases (p x) (list_any p xs) h) [
  | inl first ↦ (x, or_left (same_triple x x) (list_any (same_triple x) xs) (triple_same x), first)
  | inr later ↦ (let w = find_one p xs later in (w.0, or_right (same_triple w.0 x) (list_any (same_triple w.0) xs) w.1, w.2))
]

-- one that passes is enough
pub found_one : (p : Triple → Bool) (s : List Triple) (t : Triple) → is_among s t ≡ true → p t ≡ true → list_any p s ≡ true
found_one p [] t h k = absurd (true≢false (sym h))
found_one p (x ∷ xs) t h k = elim (or_cases (same_triple t x) (list_any (same_triple t) xs) h) [
  | inl first ↦ or_left (p x) (list_any p xs) (subst (λ y. p y ≡ true) (triple_is t x first) k)
  | inr later ↦ or_right (p x) (list_any p xs) (found_one p xs t later k)
]

pub any_with : (p : Triple → Bool) (s : List Triple) (t : Triple) → list_any p (with_triple s t) ≡ (list_any p s || p t)
any_with p s t = elim (cases_Bool (is_among s t)) [
  | inl on ↦ ap (λ b. list_any p (if b then s else s ++ t ∷ [])) on ∙ agree (list_any p s) (list_any p s || p t) (or_left (list_any p s) (p t)) (λ h. elim (or_cases (list_any p s) (p t) h) [
    | inl old ↦ old
    | inr new ↦ found_one p s t on new
  ])
  | inr off ↦ ap (λ b. list_any p (if b then s else s ++ t ∷ [])) off ∙ list_any-append p s (t ∷ []) ∙ ap (λ b. list_any p s || b) (or-false (p t))
]

pub among_without : (s : List Triple) (t u : Triple) → is_among (without_triple s t) u ≡ (not (same_triple t u) && is_among s u)
among_without s t u = any-filter_same (same_triple u) (λ v. not (same_triple t v)) (not (same_triple t u)) (λ v h. ap (λ w. not (same_triple t w)) (sym (triple_is u v h))) s

-- what is among the others is among all, and isn't the triple
pub among_others : (s : List Triple) (t u : Triple) → is_among (without_triple s t) u ≡ true → (is_among s u ≡ true) × (t ≢ u)
among_others s t u h =
    let both = and_parts (not (same_triple t u)) (is_among s u) (sym (among_without s t u) ∙ h) in
    (both.1, λ e. true≢false (sym both.0 ∙ ap not (subst (λ v. same_triple t v ≡ true) e (triple_same t))))

pub others_among : (s : List Triple) (t u : Triple) → is_among s u ≡ true → t ≢ u → is_among (without_triple s t) u ≡ true
others_among s t u h apart =
    among_without s t u
    ∙ and_from (not (same_triple t u)) (is_among s u) (ap not (false_from_ne_true (same_triple t u) (λ e. apart (triple_is t u e)))) h

-- ---- they stay distinct

all_left : {X : Type 0} (P : X → Type 0) (p : X → Bool) (xs : List X) → AllByRecursion P xs → AllByRecursion P (filter p xs)
all_left P p [] h = tt
all_left P p (x ∷ xs) h = by (p x) (all_left P p xs h.1)
  where
    by : (b : Bool) → AllByRecursion P (filter p xs) → AllByRecursion P (if b then x ∷ filter p xs else filter p xs)
    by true rest = (h.0, rest)
    by false rest = rest

distinct_left : (p : Triple → Bool) (s : List Triple) → IsDistinct same_triple s → IsDistinct same_triple (filter p s)
distinct_left p [] d = d
distinct_left p (x ∷ xs) d = by (p x) (distinct_left p xs (IsDistinct-tail same_triple x xs d))
  where
    by : (b : Bool) → IsDistinct same_triple (filter p xs) → IsDistinct same_triple (if b then x ∷ filter p xs else filter p xs)
    by true rest = IsDistinct-cons same_triple x (filter p xs) (all_left (λ y. same_triple x y ≡ false) p xs (IsDistinct-head same_triple x xs d)) rest
    by false rest = rest

pub distinct_without : (s : List Triple) (t : Triple) → IsDistinct same_triple s → IsDistinct same_triple (without_triple s t)
distinct_without s t d = distinct_left (λ u. not (same_triple t u)) s d

apart_last : (t x : Triple) (s : List Triple) → AllByRecursion (λ y. same_triple x y ≡ false) s → same_triple x t ≡ false → AllByRecursion (λ y. same_triple x y ≡ false) (s ++ t ∷ [])
apart_last t x [] h k = (k, tt)
apart_last t x (y ∷ ys) h k = (h.0, apart_last t x ys h.1 k)

distinct_last : (s : List Triple) (t : Triple) → IsDistinct same_triple s → is_among s t ≡ false → IsDistinct same_triple (s ++ t ∷ [])
distinct_last [] t d h = IsDistinct-cons same_triple t [] tt d
distinct_last (x ∷ xs) t d h =
    IsDistinct-cons same_triple x (xs ++ t ∷ [])
    (apart_last t x xs (IsDistinct-head same_triple x xs d) (false_from_ne_true (same_triple x t) (λ e. true≢false (sym (here e) ∙ h))))
    (distinct_last xs t (IsDistinct-tail same_triple x xs d) (false_from_ne_true (is_among xs t) (λ e. true≢false (sym (or_right (same_triple t x) (is_among xs t) e) ∙ h))))
  where
    here : same_triple x t ≡ true → is_among (x ∷ xs) t ≡ true
    here e = or_left (same_triple t x) (is_among xs t) (subst (λ y. same_triple t y ≡ true) (sym (triple_is x t e)) (triple_same t))

pub distinct_with : (s : List Triple) (t : Triple) → IsDistinct same_triple s → IsDistinct same_triple (with_triple s t)
distinct_with s t d = by (is_among s t) refl
  where
    by : (b : Bool) → is_among s t ≡ b → IsDistinct same_triple (if b then s else s ++ t ∷ [])
    by true h = d
    by false h = distinct_last s t d h

-- ---- parts and joins of a triple

pub subject_part : (t : Triple) → is_part t (of_term t.subject) ≡ true
subject_part t = or_left (same_item (of_term t.subject) (of_term t.subject)) (same_term t.subject t.object) (term_same t.subject)

pub triple_part : (t : Triple) → is_part t (of_triple t) ≡ true
triple_part t = or_left (same_triple t t) false (triple_same t)

pub object_part : (t : Triple) → is_part t (of_term t.object) ≡ true
object_part t = or_right (same_term t.object t.subject) (same_term t.object t.object) (term_same t.object)

-- what is a part is one of the three
pub part_cases : (t : Triple) (p : Item) → is_part t p ≡ true → (p ≡ of_term t.subject) ⊎ ((p ≡ of_triple t) ⊎ (p ≡ of_term t.object))
part_cases t p h = elim (or_cases (same_item p (of_term t.subject)) (same_item p (of_triple t) || same_item p (of_term t.object)) h) [
  | inl a ↦ inl (item_is p (of_term t.subject) a)
  | inr rest ↦ elim (or_cases (same_item p (of_triple t)) (same_item p (of_term t.object)) rest) [
    | inl b ↦ inr (inl (item_is p (of_triple t) b))
    | inr c ↦ inr (inr (item_is p (of_term t.object) c))
  ]
]

-- a term that is a part is the subject or the object; a triple that is one is the triple
pub part_triple : (t u : Triple) → is_part t (of_triple u) ≡ true → u ≡ t
part_triple t u h = triple_is u t (sym (or-false (same_triple u t)) ∙ h)

pub joins_from : (t : Triple) → joins t (of_term t.subject) (of_triple t) ≡ true
joins_from t =
    or_left (same_term t.subject t.subject && same_triple t t) (false && false) (and_from (same_term t.subject t.subject) (same_triple t t) (term_same t.subject) (triple_same t))

pub joins_onto : (t : Triple) → joins t (of_triple t) (of_term t.object) ≡ true
joins_onto t = and_from (same_triple t t) (same_term t.object t.object) (triple_same t) (term_same t.object)

-- what is joined is the subject and the triple, or the triple and the object
pub join_cases : (t : Triple) (p q : Item) → joins t p q ≡ true → ((p ≡ of_term t.subject) × (q ≡ of_triple t)) ⊎ ((p ≡ of_triple t) × (q ≡ of_term t.object))
join_cases t p q h = elim (or_cases (same_item p (of_term t.subject) && same_item q (of_triple t)) (same_item p (of_triple t) && same_item q (of_term t.object)) h) [
  | inl a ↦ inl (let w = and_parts (same_item p (of_term t.subject)) (same_item q (of_triple t)) a in (item_is p (of_term t.subject) w.0, item_is q (of_triple t) w.1))
  | inr b ↦ inr (let w = and_parts (same_item p (of_triple t)) (same_item q (of_term t.object)) b in (item_is p (of_triple t) w.0, item_is q (of_term t.object) w.1))
]

pub join_parts : (t : Triple) (p q : Item) → joins t p q ≡ true → (is_part t p ≡ true) × (is_part t q ≡ true)
join_parts t p q h = elim (join_cases t p q h) [
  | inl a ↦ (subst (λ r. is_part t r ≡ true) (sym a.0) (subject_part t), subst (λ r. is_part t r ≡ true) (sym a.1) (triple_part t))
  | inr b ↦ (subst (λ r. is_part t r ≡ true) (sym b.0) (triple_part t), subst (λ r. is_part t r ≡ true) (sym b.1) (object_part t))
]

-- each edge joins items that have nodes
pub joined_items : (s : List Triple) (p q : Item) → has_join s p q ≡ true → (has_item s p ≡ true) × (has_item s q ≡ true)
joined_items s p q h =
    let w = find_one (λ t. joins t p q) s h in
    let parts = join_parts w.0 p q w.2 in
    (found_one (λ t. is_part t p) s w.0 w.1 parts.0, found_one (λ t. is_part t q) s w.0 w.1 parts.1)
