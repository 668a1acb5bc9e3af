-- Which keys are those of a triple, and what their numbers are.
use Rattle.std.proofs.Common.{◌≡◌, ℕ, zero, suc, ◌<◌, Bool, true, false, ◌&&◌, ◌||◌, cond, List, [], ◌∷◌, ◌++◌, length, Option, Some, None, refl, sym, ap, ◌∙◌, subst, arith}
use Rattle.std.specs.Prelude.{is_some, nat_eq, position, bytes_eq, unwrap_or, slice_get}
use Rattle.std.specs.List.{list_any}
use Rattle.std.specs.Map.{keys_of, lookup}
use Rattle.std.proofs.lemmas.List.{map-append, length-map}
use Rattle.std.proofs.lemmas.Bool.Decides.{nat_tests}
use Rattle.std.proofs.lemmas.List.Quantifiers.{position-Some}
use Rattle.std.proofs.lemmas.Option.{unwrap_or-slice_get}
use Rattle.triples_read.specs.declared.term.Term.TheVariants.{Iri}
use Rattle.term_table.specs.Entries.{Begins}
use Rattle.triples_read.specs.declared.term.Term.{Term}
use Rattle.triples_read.specs.declared.term.Triple.{Triple}
use Rattle.term_table.specs.Terms.{same_term, number_of, place_in}
use Rattle.term_table.proofs.SameTerms.{term_is, term_same, same_bytes}
use Rattle.triple_names.specs.declared.triple_table.Key.{Key}
use Rattle.triple_names.specs.Items.{same_triple}
use Rattle.triple_names.specs.TableIndexes.{stands, is_key_of, same_key, term_at, predicate_at, IsKeyIn, AreKeysIn}
use Rattle.triple_names.proofs.PlaceLaws.{is_at, stands_at, stands_append, stands_same, position_append, position_push, keys_push, is_some-lookup}

pub any_same : {X : Type 0} (p q : X → Bool) (xs : List X) → ((x : X) → p x ≡ q x) → list_any p xs ≡ list_any q xs
any_same p q xs h = ap (λ r. list_any r xs) (λ i x. h x i)

pub any_false : {X : Type 0} (p : X → Bool) (xs : List X) → ((x : X) → p x ≡ false) → list_any p xs ≡ false
any_false p [] h = refl
any_false p (x ∷ xs) h = ap (λ b. b || list_any p xs) (h x) ∙ any_false p xs h

false_last : (b : Bool) → (b && false) ≡ false
false_last true = refl
false_last false = refl

-- where the parts stand
pub placed_at : {X : Type 0} (p : X → Bool) (xs : List X) (o : Option ℕ) (k : ℕ) → position p xs ≡ o → stands p xs k ≡ is_at o k
placed_at p xs o k h = stands_at p xs k ∙ ap (λ q. is_at q k) h

pub term_at_place : (terms : List (Term × ℕ)) (x : Term) (o : Option ℕ) (k : ℕ) → place_in terms x ≡ o → stands (same_term x) (keys_of terms) k ≡ is_at o k
term_at_place terms x o k h = placed_at (same_term x) (keys_of terms) o k h

predicate_found : (predicates : List (List ℕ)) (iri : List ℕ) (o : Option ℕ) (k : ℕ) → position (bytes_eq iri) predicates ≡ o → stands (bytes_eq iri) predicates k ≡ is_at o k
predicate_found predicates iri o k h = placed_at (bytes_eq iri) predicates o k h

module _ (terms : List (Term × ℕ)) (predicates : List (List ℕ)) (t : Triple) where
  pub unknown_subject : (ks : List Key) → place_in terms t.subject ≡ None → list_any (is_key_of terms predicates t) ks ≡ false
  unknown_subject ks h = any_false _ ks (λ k. ap (λ b. b && (stands (bytes_eq t.predicate) predicates k.predicate && stands (same_term t.object) (keys_of terms) k.object)) (term_at_place terms t.subject None k.subject h))

  pub unknown_predicate : (ks : List Key) → position (bytes_eq t.predicate) predicates ≡ None → list_any (is_key_of terms predicates t) ks ≡ false
  unknown_predicate ks h = any_false _ ks (λ k.
      ap (λ b. stands (same_term t.subject) (keys_of terms) k.subject && (b && stands (same_term t.object) (keys_of terms) k.object)) (predicate_found predicates t.predicate None k.predicate h)
      ∙ false_last (stands (same_term t.subject) (keys_of terms) k.subject))

  pub unknown_object : (ks : List Key) → place_in terms t.object ≡ None → list_any (is_key_of terms predicates t) ks ≡ false
  unknown_object ks h = any_false _ ks (λ k.
      ap (λ b. stands (same_term t.subject) (keys_of terms) k.subject && (stands (bytes_eq t.predicate) predicates k.predicate && b)) (term_at_place terms t.object None k.object h)
      ∙ ap (λ b. stands (same_term t.subject) (keys_of terms) k.subject && b) (false_last (stands (bytes_eq t.predicate) predicates k.predicate))
      ∙ false_last (stands (same_term t.subject) (keys_of terms) k.subject))

  -- the key of a triple whose parts all have a place
  pub key_test : (key : Key) → place_in terms t.subject ≡ Some key.subject → position (bytes_eq t.predicate) predicates ≡ Some key.predicate
      → place_in terms t.object ≡ Some key.object → (k : Key) → is_key_of terms predicates t k ≡ same_key key k
  key_test key s p o k =
      (λ i. term_at_place terms t.subject (Some key.subject) k.subject s i && (predicate_found predicates t.predicate (Some key.predicate) k.predicate p i && term_at_place terms t.object (Some key.object) k.object o i))

  pub known_key : (ks : List Key) (key : Key) → place_in terms t.subject ≡ Some key.subject → position (bytes_eq t.predicate) predicates ≡ Some key.predicate
      → place_in terms t.object ≡ Some key.object → list_any (same_key key) ks ≡ list_any (is_key_of terms predicates t) ks
  known_key ks key s p o = sym (any_same _ (same_key key) ks (key_test key s p o))

  pub known_number : {V : Type 0} (entries : List (Key × V)) (key : Key) → place_in terms t.subject ≡ Some key.subject → position (bytes_eq t.predicate) predicates ≡ Some key.predicate
      → place_in terms t.object ≡ Some key.object → lookup (same_key key) entries ≡ lookup (is_key_of terms predicates t) entries
  known_number entries key s p o = sym (ap (λ r. lookup r entries) (λ i k. key_test key s p o k i))

pub itself : (n : ℕ) → nat_eq n n ≡ true
itself n = grind (arith, nat_tests)

-- a key is that of its own triple alone
pub key_of_same : (terms : List (Term × ℕ)) (predicates : List (List ℕ)) (t : Triple) (key : Key) → place_in terms t.subject ≡ Some key.subject
    → position (bytes_eq t.predicate) predicates ≡ Some key.predicate → place_in terms t.object ≡ Some key.object
    → (u : Triple) → is_key_of terms predicates u key ≡ same_triple u t
key_of_same terms predicates t key s p o u =
    (λ i. stands_same same_term term_is (keys_of terms) u.subject t.subject key.subject (term_at_place terms t.subject (Some key.subject) key.subject s ∙ itself key.subject) i
    && (stands_same bytes_eq same_bytes predicates u.predicate t.predicate key.predicate (predicate_found predicates t.predicate (Some key.predicate) key.predicate p ∙ itself key.predicate) i
    && stands_same same_term term_is (keys_of terms) u.object t.object key.object (term_at_place terms t.object (Some key.object) key.object o ∙ itself key.object) i))

-- ---- tables that grow

get_front : {X : Type 0} (xs ys : List X) (i : ℕ) → i < length xs → slice_get (xs ++ ys) i ≡ slice_get xs i
get_front [] ys i h = absurd (omega (arith, h))
get_front (x ∷ xs) ys zero h = refl
get_front (x ∷ xs) ys (suc i) h = get_front xs ys i (omega (arith, h))

-- the places of a key are in the tables
pub record AreInside (terms : List (Term × ℕ)) (predicates : List (List ℕ)) (k : Key) : Type 0 where
  pub subject : k.subject < length (keys_of terms)
  pub predicate : k.predicate < length predicates
  pub object : k.object < length (keys_of terms)

pub key_inside : (terms : List (Term × ℕ)) (predicates : List (List ℕ)) (k : Key) → IsKeyIn terms predicates k → AreInside terms predicates k
key_inside terms predicates k h = record {
  subject = (position-Some (same_term (term_at terms k.subject)) (keys_of terms) k.subject (term_at terms k.subject) h.subject).0;
  predicate = (position-Some (bytes_eq (predicate_at predicates k.predicate)) predicates k.predicate [] h.predicate).0;
  object = (position-Some (same_term (term_at terms k.object)) (keys_of terms) k.object (term_at terms k.object) h.object).0;
}

-- what stands at the place of a term, and of a predicate
pub term_is_at : (terms : List (Term × ℕ)) (x : Term) (i : ℕ) → place_in terms x ≡ Some i → term_at terms i ≡ x
term_is_at terms x i h = unwrap_or-slice_get (keys_of terms) i (Iri []) ∙ sym (term_is x _ (position-Some (same_term x) (keys_of terms) i (Iri []) h).1)

pub iri_is_at : (predicates : List (List ℕ)) (iri : List ℕ) (i : ℕ) → position (bytes_eq iri) predicates ≡ Some i → predicate_at predicates i ≡ iri
iri_is_at predicates iri i h = unwrap_or-slice_get predicates i [] ∙ sym (same_bytes iri _ (position-Some (bytes_eq iri) predicates i [] h).1)

-- the key of a triple whose parts all have a place
pub key_in : (terms : List (Term × ℕ)) (predicates : List (List ℕ)) (t : Triple) (k : Key) → place_in terms t.subject ≡ Some k.subject → position (bytes_eq t.predicate) predicates ≡ Some k.predicate
    → place_in terms t.object ≡ Some k.object → IsKeyIn terms predicates k
key_in terms predicates t k s p o = record {
  subject = ap (place_in terms) (term_is_at terms t.subject k.subject s) ∙ s;
  predicate = ap (λ iri. position (bytes_eq iri) predicates) (iri_is_at predicates t.predicate k.predicate p) ∙ p;
  object = ap (place_in terms) (term_is_at terms t.object k.object o) ∙ o;
}

module _ (terms more : List (Term × ℕ)) (predicates others : List (List ℕ)) where
  keys_grown : keys_of (terms ++ more) ≡ keys_of terms ++ keys_of more
  keys_grown = map-append (λ e. e.0) terms more

  term_still : (i : ℕ) → i < length (keys_of terms) → term_at (terms ++ more) i ≡ term_at terms i
  term_still i h = ap (λ xs. unwrap_or (slice_get xs i) (Iri [])) keys_grown ∙ ap (λ o. unwrap_or o (Iri [])) (get_front (keys_of terms) (keys_of more) i h)

  pub place_still : (x : Term) (i : ℕ) → place_in terms x ≡ Some i → place_in (terms ++ more) x ≡ Some i
  place_still x i h = ap (position (same_term x)) keys_grown ∙ position_append (same_term x) (keys_of terms) (keys_of more) i h

  pub key_grown : (k : Key) → IsKeyIn terms predicates k → IsKeyIn (terms ++ more) (predicates ++ others) k
  key_grown k h =
      let inside = key_inside terms predicates k h in
      record {
        subject = ap (place_in (terms ++ more)) (term_still k.subject inside.subject) ∙ place_still (term_at terms k.subject) k.subject h.subject;
        predicate =
            ap (λ o. position (bytes_eq (unwrap_or o [])) (predicates ++ others)) (get_front predicates others k.predicate inside.predicate)
            ∙ position_append (bytes_eq (predicate_at predicates k.predicate)) predicates others k.predicate h.predicate;
        object = ap (place_in (terms ++ more)) (term_still k.object inside.object) ∙ place_still (term_at terms k.object) k.object h.object;
      }

  pub keys_in_grown : {V : Type 0} (entries : List (Key × V)) → AreKeysIn terms predicates entries → AreKeysIn (terms ++ more) (predicates ++ others) entries
  keys_in_grown [] h = tt
  keys_in_grown (e ∷ es) h = (key_grown e.0 h.0, keys_in_grown es h.1)

  module _ (t : Triple) where
    key_stays : (k : Key) → IsKeyIn terms predicates k → is_key_of (terms ++ more) (predicates ++ others) t k ≡ is_key_of terms predicates t k
    key_stays k w =
        let inside = key_inside terms predicates k w in
        (λ i. (ap (λ xs. stands (same_term t.subject) xs k.subject) keys_grown ∙ stands_append (same_term t.subject) (keys_of terms) (keys_of more) k.subject inside.subject) i
        && (stands_append (bytes_eq t.predicate) predicates others k.predicate inside.predicate i
        && (ap (λ xs. stands (same_term t.object) xs k.object) keys_grown ∙ stands_append (same_term t.object) (keys_of terms) (keys_of more) k.object inside.object) i))

    -- what numbers have stays
    pub numbers_stay : {V : Type 0} (entries : List (Key × V)) → AreKeysIn terms predicates entries → lookup (is_key_of (terms ++ more) (predicates ++ others) t) entries ≡ lookup (is_key_of terms predicates t) entries
    numbers_stay [] h = refl
    numbers_stay (e ∷ es) h = λ i. cond (key_stays e.0 h.0 i) (Some e.1) (numbers_stay es h.1 i)

-- keys stay so where tables grow
pub keys_still : {V : Type 0} (old terms : List (Term × ℕ)) (before predicates : List (List ℕ)) → Begins old terms → Begins before predicates → (entries : List (Key × V))
    → AreKeysIn old before entries → AreKeysIn terms predicates entries
keys_still old terms before predicates b d entries h = subst (λ ts. AreKeysIn ts predicates entries) (sym b.1) (subst (λ ps. AreKeysIn (old ++ b.0) ps entries) (sym d.1) (keys_in_grown old b.0 before d.0 entries h))

-- a new term stands behind the others
pub term_place : (terms : List (Term × ℕ)) (x : Term) (n : ℕ) → number_of terms x ≡ None → place_in (terms ++ (x, n) ∷ []) x ≡ Some (length terms)
term_place terms x n none =
    ap (position (same_term x)) (keys_push terms x n)
    ∙ position_push (same_term x) (keys_of terms) x (term_same x) (sym (is_some-lookup (same_term x) terms) ∙ ap is_some none)
    ∙ ap Some (length-map terms (λ e. e.0))

-- one more key, and one more triple beside it
abbrev pub or_value : {V : Type 0} → Option V → Option V → Option V
or_value None o = o
or_value (Some v) o = Some v

pub lookup_behind : {K V : Type 0} (p : K → Bool) (es : List (K × V)) (k : K) (v : V) → lookup p (es ++ (k, v) ∷ []) ≡ or_value (lookup p es) (cond (p k) (Some v) None)
lookup_behind p [] k v = refl
lookup_behind p (e ∷ es) k v = by (p e.0) (lookup_behind p es k v)
  where
    by : (b : Bool) → lookup p (es ++ (k, v) ∷ []) ≡ or_value (lookup p es) (cond (p k) (Some v) None)
        → cond b (Some e.1) (lookup p (es ++ (k, v) ∷ [])) ≡ or_value (cond b (Some e.1) (lookup p es)) (cond (p k) (Some v) None)
    by true rest = refl
    by false rest = rest

pub pushed_alike : {K L V : Type 0} (p : K → Bool) (q : L → Bool) (es : List (K × V)) (fs : List (L × V)) (k : K) (l : L) (v : V) → lookup p es ≡ lookup q fs → p k ≡ q l
    → lookup p (es ++ (k, v) ∷ []) ≡ lookup q (fs ++ (l, v) ∷ [])
pushed_alike p q es fs k l v h e = lookup_behind p es k v ∙ (λ i. or_value (h i) (cond (e i) (Some v) None)) ∙ sym (lookup_behind q fs l v)

pub or_none : {X : Type 0} (o : Option X) → or_value o None ≡ o
or_none None = refl
or_none (Some w) = refl

-- a key that isn't there gets a value behind the others
pub lookup_new : {K V : Type 0} (same : K → K → Bool) → ((a b : K) → same a b ≡ true → a ≡ b) → (es : List (K × V)) (k : K) (v : V) → lookup (same k) es ≡ None
    → (q : K) → lookup (same q) (es ++ (k, v) ∷ []) ≡ cond (same q k) (Some v) (lookup (same q) es)
lookup_new same is es k v none q = lookup_behind (same q) es k v ∙ by (same q k) refl
  where
    by : (b : Bool) → same q k ≡ b → or_value (lookup (same q) es) (cond b (Some v) None) ≡ cond b (Some v) (lookup (same q) es)
    by true e = ap (λ o. or_value o (Some v)) (ap (λ z. lookup (same z) es) (is q k e) ∙ none)
    by false e = or_none (lookup (same q) es)
