-- What staging leaves: tables in which places are reserved, and the numbers as they were.
use Rattle.std.proofs.Common.{◌≡◌, ℕ, ◌<◌, Bool, true, false, ◌&&◌, ◌||◌, cond, List, [], ◌∷◌, ◌++◌, length, Option, Some, None, refl, sym, ap, ◌∙◌, subst, arith, true≢false, is_some, nat_eq, position, bytes_eq, IsSome, if◌then◌else◌, OnOk, OnErr, Result, Ok, Err}
use Rattle.std.specs.List.{list_any, AllByRecursion}
use Rattle.std.specs.Map.{keys_of, lookup}
use Rattle.std.proofs.lemmas.Bool.Decides.{nat_tests}
use Rattle.std.proofs.lemmas.List.{length-map}
use Rattle.std.proofs.lemmas.List.Folds.{list_any-append}
use Rattle.std.proofs.lemmas.List.Quantifiers.{position-Some}
use Rattle.triples_read.specs.declared.term.Term.{Term}
use Rattle.triples_read.specs.declared.term.Triple.{Triple}
use Rattle.term_table.specs.Entries.{Begins}
use Rattle.term_table.specs.Terms.{same_term, number_of, place_in}
use Rattle.term_table.proofs.SameTerms.{term_is}
use Rattle.triple_names.specs.declared.triple_table.Key.{Key}
use Rattle.triple_names.specs.Items.{of_term, of_triple, same_triple}
use Rattle.triple_names.specs.Names.{AreSameNames}
use Rattle.triple_names.specs.Represented.{is_among}
use Rattle.triple_names.specs.TableIndexes.{is_key_of, same_key, with_predicate, IsKeyIn, AreKeysIn, HasKey}
use Rattle.triple_names.specs.NameTables.{later_or, later_at, term_number, number_by_key, names_by, with_entry, HasPlace, HasPlaces, IsSetAt, NumbersStay, AreNameTables}
use Rattle.triple_names.proofs.ItemLaws.{triple_is}
use Rattle.triple_names.proofs.PlaceLaws.{begins_same, begins_trans, is_some-position, is_some-lookup, position_append, stands_same, keys_push, lookup_push, lookup_none}
use Rattle.triple_names.proofs.KeyLaws.{placed_at, itself, key_of_same, known_number, key_in, place_still, keys_still, term_place, numbers_stay, or_value, or_none, lookup_behind, lookup_new}
use Rattle.triple_names.proofs.TableLaws.{none_by, term_by, triple_by, any_at}

-- ---- one more entry

pub entry_there : {K V : Type 0} (test : K → Bool) (e : K × V) (es : List (K × V)) → is_some (lookup test es) ≡ true → es ≡ with_entry test e es
entry_there test e es h = ap (λ b. if b then es else es ++ e ∷ []) (sym h)

pub entry_new : {K V : Type 0} (test : K → Bool) (e : K × V) (es : List (K × V)) → is_some (lookup test es) ≡ false → es ++ e ∷ [] ≡ with_entry test e es
entry_new test e es h = ap (λ b. if b then es else es ++ e ∷ []) (sym h)

-- the key has an entry
pub entry_reserved : {K V : Type 0} (test : K → Bool) (k : K) (v : V) (es : List (K × V)) → test k ≡ true → is_some (lookup test (with_entry test (k, v) es)) ≡ true
entry_reserved test k v es own = by (is_some (lookup test es)) refl
  where
    by : (b : Bool) → is_some (lookup test es) ≡ b → is_some (lookup test (if b then es else es ++ (k, v) ∷ [])) ≡ true
    by true h = h
    by false h = ap is_some (lookup_push test es k v own (none_by (lookup test es) h))

-- and so has each that had one
pub entry_kept : {K V : Type 0} (p test : K → Bool) (k : K) (v : V) (es : List (K × V)) → is_some (lookup p es) ≡ true → is_some (lookup p (with_entry test (k, v) es)) ≡ true
entry_kept {K} {V} p test k v es h = by (is_some (lookup test es))
  where
    more : (o new : Option V) → is_some o ≡ true → is_some (or_value o new) ≡ true
    more None new e = absurd (true≢false (sym e))
    more (Some w) new e = refl

    by : (b : Bool) → is_some (lookup p (if b then es else es ++ (k, v) ∷ [])) ≡ true
    by true = h
    by false = ap is_some (lookup_behind p es k v) ∙ more (lookup p es) (cond (p k) (Some v) None) h

-- an entry with the number that its key has already leaves the numbers
pub entry_numbers : {K : Type 0} (p test : K → Bool) (k : K) (v : Option ℕ) (es : List (K × Option ℕ)) (n : Option ℕ) → (p k ≡ true → lookup p es ≡ lookup test es) → (p k ≡ true → v ≡ n)
    → later_or (lookup p (with_entry test (k, v) es)) n ≡ later_or (lookup p es) n
entry_numbers p test k v es n alike is = by (is_some (lookup test es)) refl
  where
    here : (c : Bool) → p k ≡ c → is_some (lookup test es) ≡ false → later_or (or_value (lookup p es) (cond c (Some v) None)) n ≡ later_or (lookup p es) n
    here false off h = ap (λ o. later_or o n) (or_none (lookup p es))
    here true on h =
        let none : lookup p es ≡ None = alike on ∙ none_by (lookup test es) h in
        ap (λ o. later_or (or_value o (Some v)) n) none ∙ is on ∙ sym (ap (λ o. later_or o n) none)

    by : (b : Bool) → is_some (lookup test es) ≡ b → later_or (lookup p (if b then es else es ++ (k, v) ∷ [])) n ≡ later_or (lookup p es) n
    by true h = refl
    by false h = ap (λ o. later_or o n) (lookup_behind p es k v) ∙ here (p k) refl h

-- each key passes, where those that were there do and the new one does
entry_all : {K V : Type 0} (P : K → Type 0) (test : K → Bool) (k : K) (v : V) (es : List (K × V)) → AllByRecursion (λ e. P e.0) es → P k → AllByRecursion (λ e. P e.0) (with_entry test (k, v) es)
entry_all {K} {V} P test k v es h new = by (is_some (lookup test es))
  where
    pushed : (fs : List (K × V)) → AllByRecursion (λ e. P e.0) fs → AllByRecursion (λ e. P e.0) (fs ++ (k, v) ∷ [])
    pushed [] all = (new, tt)
    pushed (f ∷ fs) all = (all.0, pushed fs all.1)

    by : (b : Bool) → AllByRecursion (λ e. P e.0) (if b then es else es ++ (k, v) ∷ [])
    by true = h
    by false = pushed es h

-- ---- terms

pub stay_same : (terms : List (Term × ℕ)) (later : List (ℕ × Option ℕ)) → NumbersStay terms later terms later
stay_same terms later = record { grows = begins_same terms; numbers = λ x. refl; places = λ n h. h }

pub stay_trans : (terms terms2 terms3 : List (Term × ℕ)) (later later2 later3 : List (ℕ × Option ℕ)) → NumbersStay terms later terms2 later2 → NumbersStay terms2 later2 terms3 later3
    → NumbersStay terms later terms3 later3
stay_trans terms terms2 terms3 later later2 later3 h k = record {
  grows = begins_trans terms terms2 terms3 h.grows k.grows;
  numbers = λ x. k.numbers x ∙ h.numbers x;
  places = λ n e. k.places n (h.places n e);
}

-- a place stays
pub place_stays : (terms terms2 : List (Term × ℕ)) (later later2 : List (ℕ × Option ℕ)) (x : Term) (place : ℕ) → NumbersStay terms later terms2 later2
    → HasPlace terms later x place → HasPlace terms2 later2 x place
place_stays terms terms2 later later2 x place stay h = record {
  place = ap (λ ts. place_in ts x) stay.grows.1 ∙ place_still terms stay.grows.0 [] [] x place h.place;
  reserved = stay.places place h.reserved;
}

-- the places of two terms are the same exactly where they are the same term
pub same_place : (terms : List (Term × ℕ)) (x y : Term) (k j : ℕ) → place_in terms x ≡ Some k → place_in terms y ≡ Some j → same_term y x ≡ nat_eq j k
same_place terms x y k j h e =
    sym (stands_same same_term term_is (keys_of terms) y x k (placed_at (same_term x) (keys_of terms) (Some k) k h ∙ itself k))
    ∙ placed_at (same_term y) (keys_of terms) (Some j) k e

pub equal : (j k : ℕ) → nat_eq j k ≡ true → j ≡ k
equal j k h = grind (arith, nat_tests, h)

-- a place with the number that its term has already
pub number_stays : (terms : List (Term × ℕ)) (later : List (ℕ × Option ℕ)) (x : Term) (place m : ℕ) → place_in terms x ≡ Some place → number_of terms x ≡ Some m
    → NumbersStay terms later terms (with_entry (nat_eq place) (place, Some m) later)
number_stays terms later x place m there number = record {
  grows = begins_same terms;
  numbers = λ y. by y (place_in terms y) refl;
  places = λ n h. entry_kept (nat_eq n) (nat_eq place) place (Some m) later h;
}
  where
    by : (y : Term) (o : Option ℕ) → place_in terms y ≡ o → later_or (later_at (with_entry (nat_eq place) (place, Some m) later) o) (number_of terms y) ≡ later_or (later_at later o) (number_of terms y)
    by y None none = refl
    by y (Some j) stands =
        entry_numbers (nat_eq j) (nat_eq place) place (Some m) later (number_of terms y) (λ on. ap (λ n. lookup (nat_eq n) later) (equal j place on))
        (λ on. sym (ap (number_of terms) (term_is y x (same_place terms x y place j there stands ∙ on)) ∙ number))

-- what is noted of a place leaves all places
pub set_kept : (place : ℕ) (v : Option ℕ) (later new : List (ℕ × Option ℕ)) → IsSetAt place v later new → (n : ℕ) → is_some (lookup (nat_eq n) later) ≡ true → is_some (lookup (nat_eq n) new) ≡ true
set_kept place v later new set n h = ap is_some (set n) ∙ by (nat_eq place n)
  where
    by : (b : Bool) → is_some (if b then Some v else lookup (nat_eq n) later) ≡ true
    by true = refl
    by false = h

-- a term stands before the end
before_end : (terms : List (Term × ℕ)) (y : Term) (j : ℕ) → place_in terms y ≡ Some j → nat_eq (length terms) j ≡ false
before_end terms y j h =
    let inside = (position-Some (same_term y) (keys_of terms) j y h).0 in
    let size = length-map terms (λ e. e.0) in
    grind (arith, nat_tests, inside, size)

-- what is noted of the next place leaves the numbers, while no term stands there
pub place_ahead : (terms : List (Term × ℕ)) (later new : List (ℕ × Option ℕ)) (v : Option ℕ) → IsSetAt (length terms) v later new → NumbersStay terms later terms new
place_ahead terms later new v set = record {
  grows = begins_same terms;
  numbers = λ y. by y (place_in terms y) refl;
  places = set_kept (length terms) v later new set;
}
  where
    by : (y : Term) (o : Option ℕ) → place_in terms y ≡ o → later_or (later_at new o) (number_of terms y) ≡ later_or (later_at later o) (number_of terms y)
    by y None none = refl
    by y (Some j) stands =
        ap (λ o. later_or o (number_of terms y)) (set j ∙ ap (λ b. if b then Some v else lookup (nat_eq j) later) (before_end terms y j stands))

-- and then a new term, of which it is noted that it has no number
module _ (terms : List (Term × ℕ)) (later new : List (ℕ × Option ℕ)) (x : Term) (absent : place_in terms x ≡ None) (set : IsSetAt (length terms) None later new) where
  lacks : (z : Term) → place_in terms z ≡ None → list_any (same_term z) (keys_of terms) ≡ false
  lacks z h = sym (is_some-position (same_term z) (keys_of terms)) ∙ ap is_some h

  unnumbered : (z : Term) → place_in terms z ≡ None → number_of terms z ≡ None
  unnumbered z h = lookup_none (same_term z) terms (lacks z h)

  keys : keys_of (terms ++ (x, 0) ∷ []) ≡ keys_of terms ++ x ∷ []
  keys = keys_push terms x 0

  number : (y : Term) → number_of (terms ++ (x, 0) ∷ []) y ≡ cond (same_term y x) (Some 0) (number_of terms y)
  number y = lookup_new same_term term_is terms x 0 (unnumbered x absent) y

  last : (y : Term) → same_term y x ≡ true → place_in (terms ++ (x, 0) ∷ []) y ≡ Some (length terms)
  last y same = ap (place_in (terms ++ (x, 0) ∷ [])) (term_is y x same) ∙ term_place terms x 0 (unnumbered x absent)

  nowhere : (y : Term) → same_term y x ≡ false → place_in terms y ≡ None → place_in (terms ++ (x, 0) ∷ []) y ≡ None
  nowhere y other h =
      none_by (place_in (terms ++ (x, 0) ∷ []) y)
      (is_some-position (same_term y) (keys_of (terms ++ (x, 0) ∷ [])) ∙ ap (list_any (same_term y)) keys ∙ list_any-append (same_term y) (keys_of terms) (x ∷ [])
      ∙ (λ i. lacks y h i || (other i || false)))

  there : lookup (nat_eq (length terms)) new ≡ Some None
  there = set (length terms) ∙ ap (λ b. if b then Some None else lookup (nat_eq (length terms)) later) (itself (length terms))

  by : (y : Term) (b : Bool) → same_term y x ≡ b → (o : Option ℕ) → place_in terms y ≡ o → term_number (terms ++ (x, 0) ∷ []) new y ≡ later_or (later_at later o) (number_of terms y)
  by y true same None h =
      (λ i. later_or (later_at new (last y same i)) (number_of (terms ++ (x, 0) ∷ []) y)) ∙ ap (λ o. later_or o (number_of (terms ++ (x, 0) ∷ []) y)) there ∙ sym (unnumbered y h)
  by y true same (Some j) h = absurd (true≢false (ap is_some (sym h ∙ ap (place_in terms) (term_is y x same) ∙ absent)))
  by y false other None h =
      (λ i. later_or (later_at new (nowhere y other h i)) (number y i)) ∙ ap (λ b. cond b (Some 0) (number_of terms y)) other
  by y false other (Some j) h =
      (λ i. later_or (later_at new (place_still terms ((x, 0) ∷ []) [] [] y j h i)) (number y i))
      ∙ (λ i. later_or ((set j ∙ ap (λ b. if b then Some None else lookup (nat_eq j) later) (before_end terms y j h)) i) (cond (other i) (Some 0) (number_of terms y)))

  pub term_added : NumbersStay terms later (terms ++ (x, 0) ∷ []) new
  term_added = record {
    grows = ((x, 0) ∷ [], refl);
    numbers = λ y. by y (same_term y x) refl (place_in terms y) refl;
    places = set_kept (length terms) None later new set;
  }

  pub place_added : HasPlace (terms ++ (x, 0) ∷ []) new x (length terms)
  place_added = record { place = term_place terms x 0 (unnumbered x absent); reserved = ap is_some there }

-- ---- predicates

pub interned : {X E : Type 0} (r : Result X E) (old new : List (List ℕ)) (iri : List ℕ) → OnOk r (new ≡ with_predicate old iri) → OnErr r (new ≡ old) → Begins old new
interned (Ok x) old new iri ok err = subst (Begins old) (sym ok) (by (list_any (bytes_eq iri) old))
  where
    by : (b : Bool) → Begins old (if b then old else old ++ iri ∷ [])
    by true = begins_same old
    by false = (iri ∷ [], refl)
interned (Err e) old new iri ok err = subst (Begins old) (sym err) (begins_same old)

-- ---- triples

pub places_stay : (later later2 : List (ℕ × Option ℕ)) → ((n : ℕ) → IsSome (lookup (nat_eq n) later) → IsSome (lookup (nat_eq n) later2)) → (es : List (Key × Option ℕ))
    → AllByRecursion (λ e. HasPlaces later e.0) es → AllByRecursion (λ e. HasPlaces later2 e.0) es
places_stay later later2 kept [] h = tt
places_stay later later2 kept (e ∷ es) h = (record { subject = kept e.0.subject h.0.subject; object = kept e.0.object h.0.object }, places_stay later later2 kept es h.1)

module _ (terms terms2 : List (Term × ℕ)) (predicates predicates2 : List (List ℕ)) (entries : List (Key × ℕ)) (later later2 : List (ℕ × Option ℕ)) (triples : List (Key × Option ℕ))
    (stay : NumbersStay terms later terms2 later2) (more : Begins predicates predicates2) (tables : AreNameTables terms predicates entries later triples) where
  pub tables_stay : AreNameTables terms2 predicates2 entries later2 triples
  tables_stay = record {
    known = keys_still terms terms2 predicates predicates2 stay.grows more entries tables.known;
    later = keys_still terms terms2 predicates predicates2 stay.grows more triples tables.later;
    places = places_stay later later2 stay.places triples tables.places;
  }

  lookup_stays : {V : Type 0} (es : List (Key × V)) (t : Triple) → AreKeysIn terms predicates es → lookup (is_key_of terms2 predicates2 t) es ≡ lookup (is_key_of terms predicates t) es
  lookup_stays es t h = (λ i. lookup (is_key_of (stay.grows.1 i) (more.1 i) t) es) ∙ numbers_stay terms stay.grows.0 predicates more.0 t es h

  pub names_stay : AreSameNames (names_by terms2 predicates2 entries later2 triples).names (names_by terms predicates entries later triples).names
  names_stay (of_term x) = term_by terms2 later2 x ∙ stay.numbers x ∙ sym (term_by terms later x)
  names_stay (of_triple t) =
      triple_by terms2 predicates2 entries triples t tables_stay.known tables_stay.later
      ∙ (λ i. later_or (lookup_stays triples t tables.later i) (lookup_stays entries t tables.known i))
      ∙ sym (triple_by terms predicates entries triples t tables.known tables.later)

  pub reserved_stay : (t : Triple) → is_among (names_by terms predicates entries later triples).reserved t ≡ true → is_among (names_by terms2 predicates2 entries later2 triples).reserved t ≡ true
  reserved_stay t h =
      any_at terms2 predicates2 triples t tables_stay.later ∙ sym (is_some-lookup (is_key_of terms2 predicates2 t) triples)
      ∙ ap is_some (lookup_stays triples t tables.later) ∙ is_some-lookup (is_key_of terms predicates t) triples
      ∙ sym (any_at terms predicates triples t tables.later) ∙ h

-- the key of a triple, with the number that it has already
module _ (terms : List (Term × ℕ)) (predicates : List (List ℕ)) (entries : List (Key × ℕ)) (later : List (ℕ × Option ℕ)) (triples : List (Key × Option ℕ)) (t : Triple) (k : Key)
    (has : HasKey terms predicates t k) (places : HasPlaces later k) (tables : AreNameTables terms predicates entries later triples) where
  abbrev with_key : List (Key × Option ℕ)
  with_key = with_entry (same_key k) (k, lookup (same_key k) entries) triples

  pub tables_with : AreNameTables terms predicates entries later with_key
  tables_with = record {
    known = tables.known;
    later = entry_all (IsKeyIn terms predicates) (same_key k) k (lookup (same_key k) entries) triples tables.later (key_in terms predicates t k has.subject has.predicate has.object);
    places = entry_all (HasPlaces later) (same_key k) k (lookup (same_key k) entries) triples tables.places places;
  }

  by_key : {V : Type 0} (es : List (Key × V)) (u : Triple) → is_key_of terms predicates u k ≡ true → lookup (is_key_of terms predicates u) es ≡ lookup (same_key k) es
  by_key es u on =
      ap (λ v. lookup (is_key_of terms predicates v) es) (triple_is u t (sym (key_of_same terms predicates t k has.subject has.predicate has.object u) ∙ on))
      ∙ sym (known_number terms predicates t es k has.subject has.predicate has.object)

  pub names_with : AreSameNames (names_by terms predicates entries later with_key).names (names_by terms predicates entries later triples).names
  names_with (of_term x) = refl
  names_with (of_triple u) =
      triple_by terms predicates entries with_key u tables_with.known tables_with.later
      ∙ entry_numbers (is_key_of terms predicates u) (same_key k) k (lookup (same_key k) entries) triples (lookup (is_key_of terms predicates u) entries) (by_key triples u) (λ on. sym (by_key entries u on))
      ∙ sym (triple_by terms predicates entries triples u tables.known tables.later)

  pub reserved_with : is_among (names_by terms predicates entries later with_key).reserved t ≡ true
  reserved_with =
      any_at terms predicates with_key t tables_with.later ∙ sym (is_some-lookup (is_key_of terms predicates t) with_key)
      ∙ ap is_some (sym (known_number terms predicates t with_key k has.subject has.predicate has.object))
      ∙ entry_reserved (same_key k) k (lookup (same_key k) entries) triples (λ i. itself k.subject i && (itself k.predicate i && itself k.object i))

  pub reserved_more : (u : Triple) → is_among (names_by terms predicates entries later triples).reserved u ≡ true → is_among (names_by terms predicates entries later with_key).reserved u ≡ true
  reserved_more u h =
      any_at terms predicates with_key u tables_with.later ∙ sym (is_some-lookup (is_key_of terms predicates u) with_key)
      ∙ entry_kept (is_key_of terms predicates u) (same_key k) k (lookup (same_key k) entries) triples
      (is_some-lookup (is_key_of terms predicates u) triples ∙ sym (any_at terms predicates triples u tables.later) ∙ h)

-- a triple that is staged: its parts are put in, and then its key
module _ (terms terms2 : List (Term × ℕ)) (predicates predicates2 : List (List ℕ)) (entries : List (Key × ℕ)) (later later2 : List (ℕ × Option ℕ)) (triples : List (Key × Option ℕ))
    (stay : NumbersStay terms later terms2 later2) (more : Begins predicates predicates2) (tables : AreNameTables terms predicates entries later triples)
    (t : Triple) (k : Key) (has : HasKey terms2 predicates2 t k) (places : HasPlaces later2 k) where
  grown : AreNameTables terms2 predicates2 entries later2 triples
  grown = tables_stay terms terms2 predicates predicates2 entries later later2 triples stay more tables

  pub tables_staged : AreNameTables terms2 predicates2 entries later2 (with_entry (same_key k) (k, lookup (same_key k) entries) triples)
  tables_staged = tables_with terms2 predicates2 entries later2 triples t k has places grown

  pub names_staged : AreSameNames (names_by terms2 predicates2 entries later2 (with_entry (same_key k) (k, lookup (same_key k) entries) triples)).names (names_by terms predicates entries later triples).names
  names_staged p =
      names_with terms2 predicates2 entries later2 triples t k has places grown p
      ∙ names_stay terms terms2 predicates predicates2 entries later later2 triples stay more tables p

  pub reserved_staged : is_among (names_by terms2 predicates2 entries later2 (with_entry (same_key k) (k, lookup (same_key k) entries) triples)).reserved t ≡ true
  reserved_staged = reserved_with terms2 predicates2 entries later2 triples t k has places grown

  pub kept_staged : (u : Triple) → is_among (names_by terms predicates entries later triples).reserved u ≡ true
      → is_among (names_by terms2 predicates2 entries later2 (with_entry (same_key k) (k, lookup (same_key k) entries) triples)).reserved u ≡ true
  kept_staged u h =
      reserved_more terms2 predicates2 entries later2 triples t k has places grown u
      (reserved_stay terms terms2 predicates predicates2 entries later later2 triples stay more tables u h)
