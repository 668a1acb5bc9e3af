-- What the numbers are once those of a triple's parts are noted.
use Rattle.std.proofs.Common.{◌≡◌, ℕ, Bool, true, false, ◌&&◌, ◌||◌, cond, List, [], ◌∷◌, Option, Some, None, refl, sym, ap, ◌∙◌, subst, inl, inr, ◌⊎◌, arith, true≢false, is_some, nat_eq, position, bytes_eq, if◌then◌else◌}
use Rattle.std.specs.List.{list_any, AllByRecursion}
use Rattle.std.specs.Map.{keys_of, lookup}
use Rattle.std.proofs.lemmas.Bool.{and_parts}
use Rattle.std.proofs.lemmas.Bool.Decides.{nat_tests}
use Rattle.triples_read.specs.declared.term.Term.{Term}
use Rattle.triples_read.specs.declared.term.Triple.{Triple}
use Rattle.term_table.specs.Terms.{same_term, number_of, place_in}
use Rattle.term_table.proofs.SameTerms.{term_is}
use Rattle.triple_names.specs.declared.inserting.Placed.{Placed}
use Rattle.triple_names.specs.declared.triple_table.Key.{Key}
use Rattle.triple_names.specs.Items.{of_term, of_triple, same_triple}
use Rattle.triple_names.specs.Names.{AreSameNames}
use Rattle.triple_names.specs.TripleChanges.{noted}
use Rattle.triple_names.specs.Represented.{is_among}
use Rattle.triple_names.specs.TableIndexes.{is_key_of, same_key, IsKeyIn, HasKey, LacksKey}
use Rattle.triple_names.specs.NameTables.{later_or, later_at, term_number, number_by_key, names_by, HasPlaces, IsSetAt, IsSetAtKey, AreNameTables}
use Rattle.triple_names.proofs.NumberLaws.{number_noted}
use Rattle.triple_names.proofs.PlaceLaws.{is_some-lookup, lookup_none}
use Rattle.triple_names.proofs.KeyLaws.{unknown_subject, unknown_predicate, unknown_object, key_test, key_of_same, known_number}
use Rattle.triple_names.proofs.TableLaws.{term_by, triple_by, any_at}
use Rattle.triple_names.proofs.StagedLaws.{equal, same_place, set_kept, places_stay}

swapped : (j k : ℕ) → nat_eq j k ≡ nat_eq k j
swapped j k = grind (arith, nat_tests)

-- ---- terms

-- a term that stands nowhere is none of those that stand somewhere
other_term : (terms : List (Term × ℕ)) (x y : Term) (k : ℕ) → place_in terms x ≡ Some k → place_in terms y ≡ None → (b : Bool) → same_term y x ≡ b → b ≡ false
other_term terms x y k h none false off = refl
other_term terms x y k h none true on = absurd (true≢false (ap is_some (sym h ∙ ap (place_in terms) (sym (term_is y x on)) ∙ none)))

-- a number that is set at the place of a term is that term's
pub term_noted : (terms : List (Term × ℕ)) (later new : List (ℕ × Option ℕ)) (x : Term) (place m : ℕ) → place_in terms x ≡ Some place → IsSetAt place (Some m) later new
    → (y : Term) → term_number terms new y ≡ cond (same_term y x) (Some m) (term_number terms later y)
term_noted terms later new x place m there set y = by (place_in terms y) refl
  where
    nowhere : (a : Bool) (n : Option ℕ) → a ≡ false → n ≡ cond a (Some m) n
    nowhere true n e = absurd (true≢false e)
    nowhere false n e = refl

    somewhere : (a : Bool) (old : Option (Option ℕ)) (n : Option ℕ) → later_or (if a then Some (Some m) else old) n ≡ cond a (Some m) (later_or old n)
    somewhere true old n = refl
    somewhere false old n = refl

    by : (o : Option ℕ) → place_in terms y ≡ o → later_or (later_at new o) (number_of terms y) ≡ cond (same_term y x) (Some m) (later_or (later_at later o) (number_of terms y))
    by None none = nowhere (same_term y x) (number_of terms y) (other_term terms x y place there none (same_term y x) refl)
    by (Some j) stands =
        ap (λ o. later_or o (number_of terms y)) (set j) ∙ somewhere (nat_eq place j) (lookup (nat_eq j) later) (number_of terms y)
        ∙ ap (λ b. cond b (Some m) (later_or (lookup (nat_eq j) later) (number_of terms y))) (swapped place j ∙ sym (same_place terms x y place j there stands))

-- ---- triples

module _ (terms : List (Term × ℕ)) (predicates : List (List ℕ)) where
  -- a triple has a key, or none is its
  key_cases : (u : Triple) → ((k : Key) × HasKey terms predicates u k) ⊎ LacksKey terms predicates u
  key_cases u = by (place_in terms u.subject) refl (position (bytes_eq u.predicate) predicates) refl (place_in terms u.object) refl
    where
      by : (a : Option ℕ) → place_in terms u.subject ≡ a → (b : Option ℕ) → position (bytes_eq u.predicate) predicates ≡ b → (c : Option ℕ) → place_in terms u.object ≡ c
          → ((k : Key) × HasKey terms predicates u k) ⊎ LacksKey terms predicates u
      by None s b p c o = inr (λ ks. unknown_subject terms predicates u ks s)
      by (Some a) s None p c o = inr (λ ks. unknown_predicate terms predicates u ks p)
      by (Some a) s (Some b) p None o = inr (λ ks. unknown_object terms predicates u ks o)
      by (Some a) s (Some b) p (Some c) o = inl (record { subject = a; predicate = b; object = c }, record { subject = s; predicate = p; object = o })

  module _ (later new : List (Key × Option ℕ)) (t : Triple) (k : Key) (m : ℕ) (has : HasKey terms predicates t k) (set : IsSetAtKey k m later new) where
    alone : (u : Triple) → is_key_of terms predicates u k ≡ same_triple u t
    alone u = key_of_same terms predicates t k has.subject has.predicate has.object u

    -- what is set at the key is set for its triple
    set_by_key : (u : Triple) → lookup (is_key_of terms predicates u) new ≡ (if same_triple u t then Some (Some m) else lookup (is_key_of terms predicates u) later)
    set_by_key u = by (key_cases u)
      where
        other : (b : Bool) → (b || false) ≡ false → b ≡ false
        other true h = h
        other false h = refl

        by : ((q : Key) × HasKey terms predicates u q) ⊎ LacksKey terms predicates u
            → lookup (is_key_of terms predicates u) new ≡ (if same_triple u t then Some (Some m) else lookup (is_key_of terms predicates u) later)
        by (inl (q, h)) =
            let turned : same_key k q ≡ same_key q k = λ i. swapped k.subject q.subject i && (swapped k.predicate q.predicate i && swapped k.object q.object i) in
            let same : same_key k q ≡ same_triple u t = turned ∙ sym (key_test terms predicates u q h.subject h.predicate h.object k) ∙ alone u in
            sym (known_number terms predicates u new q h.subject h.predicate h.object) ∙ set q
            ∙ (λ i. if same i then Some (Some m) else known_number terms predicates u later q h.subject h.predicate h.object i)
        by (inr lacks) =
            lookup_none (is_key_of terms predicates u) new (lacks (keys_of new)) ∙ sym (lookup_none (is_key_of terms predicates u) later (lacks (keys_of later)))
            ∙ ap (λ b. if b then Some (Some m) else lookup (is_key_of terms predicates u) later) (sym (sym (alone u) ∙ other (is_key_of terms predicates u k) (lacks (k ∷ []))))

    pub triple_noted : (entries : List (Key × ℕ)) (u : Triple) → number_by_key terms predicates entries new u ≡ cond (same_triple u t) (Some m) (number_by_key terms predicates entries later u)
    triple_noted entries u = ap (λ o. later_or o (lookup (is_key_of terms predicates u) entries)) (set_by_key u) ∙ by (same_triple u t)
      where
        by : (b : Bool) → later_or (if b then Some (Some m) else lookup (is_key_of terms predicates u) later) (lookup (is_key_of terms predicates u) entries)
            ≡ cond b (Some m) (later_or (lookup (is_key_of terms predicates u) later) (lookup (is_key_of terms predicates u) entries))
        by true = refl
        by false = refl

-- ---- a triple that is staged

key_is : (k l : Key) → same_key k l ≡ true → k ≡ l
key_is k l h =
    let p = and_parts (nat_eq k.subject l.subject) (nat_eq k.predicate l.predicate && nat_eq k.object l.object) h in
    let q = and_parts (nat_eq k.predicate l.predicate) (nat_eq k.object l.object) p.1 in
    let s = equal k.subject l.subject p.0 in
    let v = equal k.predicate l.predicate q.0 in
    let o = equal k.object l.object q.1 in
    λ i. record { subject = s i; predicate = v i; object = o i }

module _ (terms : List (Term × ℕ)) (predicates : List (List ℕ)) (entries : List (Key × ℕ)) (later : List (ℕ × Option ℕ)) (triples : List (Key × Option ℕ)) (t : Triple)
    (tables : AreNameTables terms predicates entries later triples) (staged : is_among (names_by terms predicates entries later triples).reserved t ≡ true) where
  has_entry : list_any (is_key_of terms predicates t) (keys_of triples) ≡ true
  has_entry = sym (any_at terms predicates triples t tables.later) ∙ staged

  -- it has a key,
  pub staged_key : LacksKey terms predicates t → ⊥
  staged_key lacks = true≢false (sym has_entry ∙ lacks (keys_of triples))

  -- which has an entry,
  pub staged_entry : (k : Key) → HasKey terms predicates t k → is_some (lookup (same_key k) triples) ≡ true
  staged_entry k has = ap is_some (known_number terms predicates t triples k has.subject has.predicate has.object) ∙ is_some-lookup (is_key_of terms predicates t) triples ∙ has_entry

  -- and numbers of its terms can be noted
  pub staged_places : (k : Key) → HasKey terms predicates t k → HasPlaces later k
  staged_places k has = by triples tables.places (staged_entry k has)
    where
      by : (es : List (Key × Option ℕ)) → AllByRecursion (λ e. HasPlaces later e.0) es → is_some (lookup (same_key k) es) ≡ true → HasPlaces later k
      by [] h s = absurd (true≢false (sym s))
      by (e ∷ es) h s = here (by es h.1) (same_key k e.0) refl
        where
          here : (is_some (lookup (same_key k) es) ≡ true → HasPlaces later k) → (b : Bool) → same_key k e.0 ≡ b → HasPlaces later k
          here rest true on = subst (HasPlaces later) (sym (key_is k e.0 on)) h.0
          here rest false off = rest (sym (ap (λ b. is_some (cond b (Some e.1) (lookup (same_key k) es))) off) ∙ s)

module _ (terms : List (Term × ℕ)) (predicates : List (List ℕ)) (entries : List (Key × ℕ)) (later later1 later2 : List (ℕ × Option ℕ)) (triples triples2 : List (Key × Option ℕ))
    (t : Triple) (p : Placed) (k : Key) (has : HasKey terms predicates t k) (tables : AreNameTables terms predicates entries later triples)
    (subject : IsSetAt k.subject (Some p.subject) later later1) (object : IsSetAt k.object (Some p.object) later1 later2)
    (keys : keys_of triples2 ≡ keys_of triples) (triple : IsSetAtKey k p.triple triples triples2) where
  place_kept : (n : ℕ) → is_some (lookup (nat_eq n) later) ≡ true → is_some (lookup (nat_eq n) later2) ≡ true
  place_kept n h = set_kept k.object (Some p.object) later1 later2 object n (set_kept k.subject (Some p.subject) later later1 subject n h)

  all_keys : (P : Key → Type 0) (es fs : List (Key × Option ℕ)) → keys_of fs ≡ keys_of es → AllByRecursion (λ e. P e.0) es → AllByRecursion (λ e. P e.0) fs
  all_keys P es fs same h = from fs (subst (AllByRecursion P) (sym same) (onto es h))
    where
      onto : (es : List (Key × Option ℕ)) → AllByRecursion (λ e. P e.0) es → AllByRecursion P (keys_of es)
      onto [] h = tt
      onto (e ∷ es) h = (h.0, onto es h.1)

      from : (es : List (Key × Option ℕ)) → AllByRecursion P (keys_of es) → AllByRecursion (λ e. P e.0) es
      from [] h = tt
      from (e ∷ es) h = (h.0, from es h.1)

  pub tables_noted : AreNameTables terms predicates entries later2 triples2
  tables_noted = record {
    known = tables.known;
    later = all_keys (IsKeyIn terms predicates) triples triples2 keys tables.later;
    places = all_keys (HasPlaces later2) triples triples2 keys (places_stay later later2 place_kept triples tables.places);
  }

  pub names_noted : AreSameNames (names_by terms predicates entries later2 triples2).names (noted t p (names_by terms predicates entries later triples).names)
  names_noted (of_term y) =
      term_by terms later2 y ∙ term_noted terms later1 later2 t.object k.object p.object has.object object y
      ∙ ap (cond (same_term y t.object) (Some p.object))
      (term_noted terms later later1 t.subject k.subject p.subject has.subject subject y ∙ ap (cond (same_term y t.subject) (Some p.subject)) (sym (term_by terms later y)))
      ∙ sym (number_noted (names_by terms predicates entries later triples).names t p (of_term y))
  names_noted (of_triple u) =
      triple_by terms predicates entries triples2 u tables_noted.known tables_noted.later
      ∙ triple_noted terms predicates triples triples2 t k p.triple has triple entries u
      ∙ ap (cond (same_triple u t) (Some p.triple)) (sym (triple_by terms predicates entries triples u tables.known tables.later))
      ∙ sym (number_noted (names_by terms predicates entries later triples).names t p (of_triple u))
