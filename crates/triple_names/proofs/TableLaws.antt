-- The numbers that the tables of names give.
use Rattle.std.proofs.Common.{◌≡◌, ℕ, Bool, true, false, ◌||◌, cond, List, [], ◌∷◌, ◌++◌, Option, Some, None, refl, sym, ap, ◌∙◌, true≢false, is_some}
use Rattle.std.specs.List.{list_any}
use Rattle.std.specs.Map.{keys_of, lookup}
use Rattle.std.proofs.lemmas.List.{map-append}
use Rattle.std.proofs.lemmas.List.Folds.{list_any-append}
use Rattle.triples_read.specs.declared.term.Term.{Term}
use Rattle.triples_read.specs.declared.term.Triple.{Triple}
use Rattle.term_table.specs.Terms.{same_term, number_of, place_in}
use Rattle.term_table.proofs.SameTerms.{term_is}
use Rattle.triple_names.specs.declared.triple_table.Key.{Key}
use Rattle.triple_names.specs.Items.{same_triple}
use Rattle.triple_names.specs.Names.{triple_number}
use Rattle.triple_names.specs.TableIndexes.{is_key_of, same_key, triple_at, AreKeysIn, HasKey, LacksKey}
use Rattle.triple_names.specs.NameTables.{later_or, later_at, term_number, number_by_key, with_item, numbered, triples_at}
use Rattle.triple_names.proofs.ItemLaws.{triple_is}
use Rattle.triple_names.proofs.PlaceLaws.{is_some-position, lookup_none}
use Rattle.triple_names.proofs.KeyLaws.{key_of_same, known_number}

pub none_by : {X : Type 0} (o : Option X) → is_some o ≡ false → o ≡ None
none_by None h = refl
none_by (Some x) h = absurd (true≢false h)

-- the number of each item in a list of those that have one
pub lookup_numbered : {X : Type 0} (same : X → X → Bool) → ((x y : X) → same x y ≡ true → x ≡ y) → (f : X → Option ℕ) (xs : List X) (x : X)
    → lookup (same x) (numbered f xs) ≡ cond (list_any (same x) xs) (f x) None
lookup_numbered same is f [] x = refl
lookup_numbered same is f (y ∷ ys) x = by (lookup_numbered same is f ys x) (f y) refl
  where
    either : (b : Bool) → f x ≡ None → cond b (f x) None ≡ None
    either true h = h
    either false h = refl

    skipped : (b : Bool) → same x y ≡ b → f y ≡ None → cond (list_any (same x) ys) (f x) None ≡ cond (b || list_any (same x) ys) (f x) None
    skipped true on none = let h = ap f (is x y on) ∙ none in either (list_any (same x) ys) h ∙ sym h
    skipped false off none = refl

    found : lookup (same x) (numbered f ys) ≡ cond (list_any (same x) ys) (f x) None → (b : Bool) (n : ℕ) → same x y ≡ b → f y ≡ Some n
        → cond b (Some n) (lookup (same x) (numbered f ys)) ≡ cond (b || list_any (same x) ys) (f x) None
    found rest true n on some = sym (ap f (is x y on) ∙ some)
    found rest false n off some = rest

    by : lookup (same x) (numbered f ys) ≡ cond (list_any (same x) ys) (f x) None → (o : Option ℕ) → f y ≡ o
        → lookup (same x) (with_item y o (numbered f ys)) ≡ cond (same x y || list_any (same x) ys) (f x) None
    by rest None none = rest ∙ skipped (same x y) refl none
    by rest (Some n) some = found rest (same x y) n refl some

-- a term has the number that the tables give
pub term_by : (terms : List (Term × ℕ)) (later : List (ℕ × Option ℕ)) (x : Term) → number_of (numbered (term_number terms later) (keys_of terms)) x ≡ term_number terms later x
term_by terms later x = lookup_numbered same_term term_is (term_number terms later) (keys_of terms) x ∙ by (list_any (same_term x) (keys_of terms)) refl
  where
    by : (b : Bool) → list_any (same_term x) (keys_of terms) ≡ b → cond b (term_number terms later x) None ≡ term_number terms later x
    by true there = refl
    by false absent =
        let place = none_by (place_in terms x) (is_some-position (same_term x) (keys_of terms) ∙ absent) in
        sym (λ i. later_or (later_at later (place i)) (lookup_none (same_term x) terms absent i))

nothing_later : (o : Option ℕ) (n : Option ℕ) → later_or (later_at [] o) n ≡ n
nothing_later None n = refl
nothing_later (Some p) n = refl

-- of a load, that of its table
pub term_of_load : (terms : List (Term × ℕ)) (x : Term) → number_of (numbered (term_number terms []) (keys_of terms)) x ≡ number_of terms x
term_of_load terms x = term_by terms [] x ∙ nothing_later (place_in terms x) (number_of terms x)

module _ (terms : List (Term × ℕ)) (predicates : List (List ℕ)) where
  -- the triples with these keys are among those that the keys give
  pub any_at : {V : Type 0} (entries : List (Key × V)) (t : Triple) → AreKeysIn terms predicates entries
      → list_any (same_triple t) (triples_at terms predicates (keys_of entries)) ≡ list_any (is_key_of terms predicates t) (keys_of entries)
  any_at [] t h = refl
  any_at (e ∷ es) t h =
      (λ i. sym (key_of_same terms predicates (triple_at terms predicates e.0) e.0 h.0.subject h.0.predicate h.0.object t) i || any_at es t h.1 i)

  -- a triple has the number that the tables give
  pub triple_by : (entries : List (Key × ℕ)) (later : List (Key × Option ℕ)) (t : Triple) → AreKeysIn terms predicates entries → AreKeysIn terms predicates later
      → triple_number (numbered (number_by_key terms predicates entries later) (triples_at terms predicates (keys_of entries ++ keys_of later))) t ≡ number_by_key terms predicates entries later t
  triple_by entries later t known staged =
      lookup_numbered same_triple triple_is (number_by_key terms predicates entries later) (triples_at terms predicates (keys_of entries ++ keys_of later)) t
      ∙ ap (λ b. cond b (number_by_key terms predicates entries later t) None) any_of
      ∙ by (list_any (is_key_of terms predicates t) (keys_of entries)) refl (list_any (is_key_of terms predicates t) (keys_of later)) refl
    where
      any_of : list_any (same_triple t) (triples_at terms predicates (keys_of entries ++ keys_of later)) ≡ (list_any (is_key_of terms predicates t) (keys_of entries) || list_any (is_key_of terms predicates t) (keys_of later))
      any_of =
          ap (list_any (same_triple t)) (map-append (triple_at terms predicates) (keys_of entries) (keys_of later))
          ∙ list_any-append (same_triple t) (triples_at terms predicates (keys_of entries)) (triples_at terms predicates (keys_of later))
          ∙ (λ i. any_at entries t known i || any_at later t staged i)

      by : (b : Bool) → list_any (is_key_of terms predicates t) (keys_of entries) ≡ b → (c : Bool) → list_any (is_key_of terms predicates t) (keys_of later) ≡ c
          → cond (b || c) (number_by_key terms predicates entries later t) None ≡ number_by_key terms predicates entries later t
      by true there c h = refl
      by false absent true h = refl
      by false absent false h =
          sym (λ i. later_or (lookup_none (is_key_of terms predicates t) later h i) (lookup_none (is_key_of terms predicates t) entries absent i))

  module _ (entries : List (Key × ℕ)) (later : List (Key × Option ℕ)) (t : Triple) (known : AreKeysIn terms predicates entries) (staged : AreKeysIn terms predicates later) where
    abbrev number : Option ℕ
    number = triple_number (numbered (number_by_key terms predicates entries later) (triples_at terms predicates (keys_of entries ++ keys_of later))) t

    pub number_lacking : LacksKey terms predicates t → None ≡ number
    number_lacking lacks =
        sym (λ i. later_or (lookup_none (is_key_of terms predicates t) later (lacks (keys_of later)) i) (lookup_none (is_key_of terms predicates t) entries (lacks (keys_of entries)) i))
        ∙ sym (triple_by entries later t known staged)

    pub number_at : (k : Key) → HasKey terms predicates t k → later_or (lookup (same_key k) later) (lookup (same_key k) entries) ≡ number
    number_at k has =
        (λ i. later_or (known_number terms predicates t later k has.subject has.predicate has.object i) (known_number terms predicates t entries k has.subject has.predicate has.object i))
        ∙ sym (triple_by entries later t known staged)
