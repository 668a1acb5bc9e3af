-- Where the first element that passes a test stands.
use Rattle.std.proofs.Common.{◌≡◌, ℕ, zero, suc, ◌<◌, Bool, true, false, ◌&&◌, ◌||◌, cond, List, [], ◌∷◌, ◌++◌, length, Option, Some, None, option_map, refl, sym, ap, ◌∙◌, arith, true≢false, get_or, append-nil, append_assoc}
use Rattle.indexmap.specs.IndexSet.{insert_key}
use Rattle.std.specs.Prelude.{if◌then◌else◌, not, is_some, nat_eq, position, bytes_eq}
use Rattle.std.specs.List.{list_any}
use Rattle.std.specs.Map.{keys_of, lookup}
use Rattle.std.proofs.lemmas.Bool.Decides.{nat_tests}
use Rattle.std.proofs.lemmas.List.{map-append}
use Rattle.std.proofs.lemmas.List.Quantifiers.{position-Some}
use Rattle.std.proofs.lemmas.Option.{unwrap_or-slice_get}
use Rattle.change_spec.specs.Steps.{Step, node}
use Rattle.term_table.specs.Entries.{Begins}
use Rattle.term_table.proofs.Positions.{position-cons}
use Rattle.triple_names.specs.Items.{predicate_label}
use Rattle.triple_names.specs.TableIndexes.{stands, AddLabels, predicate_at, with_predicate}
use Rattle.term_table.proofs.SameTerms.{same_bytes}

pub begins_same : {X : Type 0} (xs : List X) → Begins xs xs
begins_same xs = ([], sym (append-nil xs))

pub begins_trans : {X : Type 0} (xs ys zs : List X) → Begins xs ys → Begins ys zs → Begins xs zs
begins_trans xs ys zs h k = (h.0 ++ k.0, k.1 ∙ ap (λ l. l ++ k.0) h.1 ∙ append_assoc xs h.0 k.0)

-- whether the place is this one
abbrev pub is_at : Option ℕ → ℕ → Bool
is_at None k = false
is_at (Some i) k = nat_eq i k

at_shifted : (o : Option ℕ) (k : ℕ) → is_at (option_map suc o) (suc k) ≡ is_at o k
at_shifted None k = refl
at_shifted (Some i) k = grind (arith, nat_tests)

at_zero : (o : Option ℕ) → is_at (option_map suc o) 0 ≡ false
at_zero None = refl
at_zero (Some i) = grind (arith, nat_tests)

stands_zero : (b : Bool) (o : Option ℕ) → b ≡ is_at (cond b (Some 0) (option_map suc o)) 0
stands_zero true o = refl
stands_zero false o = sym (at_zero o)

stands_suc : (b c : Bool) (o : Option ℕ) (k : ℕ) → c ≡ is_at o k → (not b && c) ≡ is_at (cond b (Some 0) (option_map suc o)) (suc k)
stands_suc true c o k h = grind (arith, nat_tests)
stands_suc false c o k h = h ∙ sym (at_shifted o k)

pub stands_at : {X : Type 0} (p : X → Bool) (xs : List X) (k : ℕ) → stands p xs k ≡ is_at (position p xs) k
stands_at p [] k = refl
stands_at p (x ∷ xs) zero = stands_zero (p x) (position p xs) ∙ ap (λ o. is_at o 0) (sym (position-cons p x xs))
stands_at p (x ∷ xs) (suc k) = stands_suc (p x) _ (position p xs) k (stands_at p xs k) ∙ ap (λ o. is_at o (suc k)) (sym (position-cons p x xs))

-- more elements behind don't matter
pub stands_append : {X : Type 0} (p : X → Bool) (xs ys : List X) (k : ℕ) → k < length xs → stands p (xs ++ ys) k ≡ stands p xs k
stands_append p [] ys k h = absurd (omega (arith, h))
stands_append p (x ∷ xs) ys zero h = refl
stands_append p (x ∷ xs) ys (suc k) h = ap (λ b. not (p x) && b) (stands_append p xs ys k (omega (arith, h)))

kept_place : (b : Bool) (o more : Option ℕ) (i : ℕ) → ((j : ℕ) → o ≡ Some j → more ≡ Some j) → cond b (Some 0) (option_map suc o) ≡ Some i → cond b (Some 0) (option_map suc more) ≡ Some i
kept_place true o more i rest h = h
kept_place false None more i rest h = absurd (true≢false (sym (ap is_some h)))
kept_place false (Some j) more i rest h = ap (option_map suc) (rest j refl) ∙ h

pub position_append : {X : Type 0} (p : X → Bool) (xs ys : List X) (i : ℕ) → position p xs ≡ Some i → position p (xs ++ ys) ≡ Some i
position_append p [] ys i h = absurd (true≢false (sym (ap is_some h)))
position_append p (x ∷ xs) ys i h = position-cons p x (xs ++ ys) ∙ kept_place (p x) _ _ i (position_append p xs ys) (sym (position-cons p x xs) ∙ h)

last_place : (b c : Bool) (o : Option ℕ) (n : ℕ) → (c ≡ false → o ≡ Some n) → (b || c) ≡ false → cond b (Some 0) (option_map suc o) ≡ Some (suc n)
last_place true c o n rest h = absurd (true≢false h)
last_place false c o n rest h = ap (option_map suc) (rest h)

-- the place of a new element is the last
pub position_push : {X : Type 0} (p : X → Bool) (xs : List X) (y : X) → p y ≡ true → list_any p xs ≡ false → position p (xs ++ y ∷ []) ≡ Some (length xs)
position_push p [] y e h = position-cons p y [] ∙ ap (λ b. cond b (Some 0) (option_map suc (position p []))) e
position_push p (x ∷ xs) y e h = position-cons p x (xs ++ y ∷ []) ∙ last_place (p x) _ _ _ (position_push p xs y e) h

found_more : (b : Bool) (o : Option ℕ) (c : Bool) → is_some o ≡ c → is_some (cond b (Some 0) (option_map suc o)) ≡ (b || c)
found_more true o c h = refl
found_more false None c h = h
found_more false (Some j) c h = h

pub is_some-position : {X : Type 0} (p : X → Bool) (xs : List X) → is_some (position p xs) ≡ list_any p xs
is_some-position p [] = refl
is_some-position p (x ∷ xs) = ap is_some (position-cons p x xs) ∙ found_more (p x) _ _ (is_some-position p xs)

kept_value : {V : Type 0} (b : Bool) (w v : V) (o more : Option V) → (o ≡ Some v → more ≡ Some v) → cond b (Some w) o ≡ Some v → cond b (Some w) more ≡ Some v
kept_value true w v o more rest h = h
kept_value false w v o more rest h = rest h

pub lookup_append : {K V : Type 0} (p : K → Bool) (es fs : List (K × V)) (v : V) → lookup p es ≡ Some v → lookup p (es ++ fs) ≡ Some v
lookup_append p [] fs v h = absurd (true≢false (sym (ap is_some h)))
lookup_append p (e ∷ es) fs v h = kept_value (p e.0) e.1 v _ _ (lookup_append p es fs v) h

new_value : {V : Type 0} (b : Bool) (w v : V) (o more : Option V) → (o ≡ None → more ≡ Some v) → cond b (Some w) o ≡ None → cond b (Some w) more ≡ Some v
new_value true w v o more rest h = absurd (true≢false (ap is_some h))
new_value false w v o more rest h = rest h

pub lookup_push : {K V : Type 0} (p : K → Bool) (es : List (K × V)) (k : K) (v : V) → p k ≡ true → lookup p es ≡ None → lookup p (es ++ (k, v) ∷ []) ≡ Some v
lookup_push p [] k v e h = ap (λ b. cond b (Some v) None) e
lookup_push p (x ∷ es) k v e h = new_value (p x.0) x.1 v _ _ (lookup_push p es k v e) h

-- a look-up finds a value exactly where some key passes
pub is_some-lookup : {K V : Type 0} (p : K → Bool) (es : List (K × V)) → is_some (lookup p es) ≡ list_any p (keys_of es)
is_some-lookup p [] = refl
is_some-lookup p (e ∷ es) = by (p e.0) (is_some-lookup p es)
  where
    by : (b : Bool) → is_some (lookup p es) ≡ list_any p (keys_of es) → is_some (cond b (Some e.1) (lookup p es)) ≡ (b || list_any p (keys_of es))
    by true h = refl
    by false h = h

-- equal tests find the same place, and others another
pub stands_same : {X : Type 0} (same : X → X → Bool) → ((x y : X) → same x y ≡ true → x ≡ y) → (xs : List X) (x y : X) (k : ℕ) → stands (same y) xs k ≡ true → stands (same x) xs k ≡ same x y
stands_same same is [] x y k h = absurd (true≢false (sym h))
stands_same same is (z ∷ zs) x y zero h = ap (same x) (sym (is y z h))
stands_same same is (z ∷ zs) x y (suc k) h = ap (λ b. not (same x z) && b) (stands_same same is zs x y k (second (same y z) _ h)) ∙ by (same x y) refl
  where
    second : (a b : Bool) → (not a && b) ≡ true → b ≡ true
    second true b e = absurd (true≢false (sym e))
    second false b e = e

    first : (a b : Bool) → (not a && b) ≡ true → a ≡ false
    first true b e = absurd (true≢false (sym e))
    first false b e = refl

    by : (b : Bool) → same x y ≡ b → (not (same x z) && b) ≡ b
    by true e = ap (λ b. not b && true) (ap (λ w. same w z) (is x y e) ∙ first (same y z) _ h)
    by false e = none (not (same x z))
      where
        none : (b : Bool) → (b && false) ≡ false
        none true = refl
        none false = refl

pub inserted_key : {K : Type 0} (eq : K → K → Bool) (ks : List K) (k : K) → list_any (eq k) ks ≡ false → insert_key eq ks k ≡ ks ++ k ∷ []
inserted_key eq ks k h = ap (λ b. if b then ks else ks ++ k ∷ []) h

pub added_labels : (es : List (List ℕ × List Step)) (iri : List ℕ) (c : List Step) → AddLabels es → c ≡ node (predicate_label iri) ∷ [] → AddLabels (es ++ (iri, c) ∷ [])
added_labels [] iri c h e = (e, tt)
added_labels (x ∷ xs) iri c h e = (h.0, added_labels xs iri c h.1 e)

pub keys_push : {K V : Type 0} (es : List (K × V)) (k : K) (v : V) → keys_of (es ++ (k, v) ∷ []) ≡ keys_of es ++ k ∷ []
keys_push es k v = map-append (λ e. e.0) es ((k, v) ∷ [])

pub lookup_none : {K V : Type 0} (p : K → Bool) (es : List (K × V)) → list_any p (keys_of es) ≡ false → lookup p es ≡ None
lookup_none p [] h = refl
lookup_none p (e ∷ es) h = by (p e.0) h (lookup_none p es)
  where
    by : (b : Bool) → (b || list_any p (keys_of es)) ≡ false → (list_any p (keys_of es) ≡ false → lookup p es ≡ None) → cond b (Some e.1) (lookup p es) ≡ None
    by true f rest = absurd (true≢false f)
    by false f rest = rest f

pub predicate_there : (xs : List (List ℕ)) (iri : List ℕ) (i : ℕ) → position (bytes_eq iri) xs ≡ Some i → xs ≡ with_predicate xs iri
predicate_there xs iri i h = ap (λ b. if b then xs else xs ++ iri ∷ []) (sym (sym (is_some-position (bytes_eq iri) xs) ∙ ap is_some h))

pub none_passes : {X : Type 0} (p : X → Bool) (xs : List X) → position p xs ≡ None → list_any p xs ≡ false
none_passes p xs h = sym (is_some-position p xs) ∙ ap is_some h

pub predicate_new : (xs : List (List ℕ)) (iri : List ℕ) → position (bytes_eq iri) xs ≡ None → xs ++ iri ∷ [] ≡ with_predicate xs iri
predicate_new xs iri h = ap (λ b. if b then xs else xs ++ iri ∷ []) (sym (none_passes (bytes_eq iri) xs h))

pub predicate_is_at : (xs : List (List ℕ)) (iri : List ℕ) (i : ℕ) → position (bytes_eq iri) xs ≡ Some i → predicate_at xs i ≡ iri
predicate_is_at xs iri i h =
    let place = position-Some (bytes_eq iri) xs i [] h in
    unwrap_or-slice_get xs i [] ∙ sym (same_bytes iri (get_or xs i []) place.1)
