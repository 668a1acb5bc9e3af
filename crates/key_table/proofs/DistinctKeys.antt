-- Tables of distinct keys.
use Rattle.std.proofs.Common.{◌≡◌, ◌≢◌, ℕ, suc, ◌+◌, ◌-◌, ◌^◌, ◌<◌, ◌≤◌, ◌⊎◌, List, [], ◌∷◌, ◌++◌, length, refl, sym, ◌∙◌, ap, subst, arith, inl, inr, drop, slice_get, Option, Some, None, Result, Ok, Err}
use Rattle.std.specs.Prelude.{IfSome, OnOk, OnErr}
use Rattle.std.proofs.lemmas.Option.{slice_get-map, slice_get-get_or, slice_get_within}
use Rattle.std.proofs.lemmas.List.{length-map, length-append, map-append, take-append-le, drop-append-le, get_or_append_left, length-drop}
use Rattle.std.proofs.Math.Seq.{get_or-append_seam, drop-append_seam, take-length}
use Rattle.hash_index.specs.Items.{Items, with_item, hash_at, count_to, IsNewest}
use Rattle.key_table.specs.declared.spans.KeyRange.{KeyRange}
use Rattle.key_table.specs.Hashes.{hash_of}
use Rattle.key_table.specs.Spans.{span_at, key_in, keys_of, IsKeyTable}
use Rattle.key_table.specs.NumberedKeys.{IsAbsent, AreDistinct}

-- the key of a number
pub key_got : (arena : List ℕ) (spans : List KeyRange) (i : ℕ) → i < length spans → slice_get (keys_of arena spans) i ≡ Some (key_in arena (span_at spans i))
key_got arena spans i h = rw (slice_get-map (key_in arena) spans i, slice_get-get_or spans i (record { from = 0; to = 0 }) h) refl

pub found_at : (arena : List ℕ) (spans : List KeyRange) (i : ℕ) (key : List ℕ) → i < length spans → key_in arena (span_at spans i) ≡ key → slice_get (keys_of arena spans) i ≡ Some key
found_at arena spans i key h e = rw (key_got arena spans i h, e) refl

is_at : (arena : List ℕ) (spans : List KeyRange) (i : ℕ) (key : List ℕ) → slice_get (keys_of arena spans) i ≡ Some key → (i < length spans) × (key_in arena (span_at spans i) ≡ key)
is_at arena spans i key g =
    let w : i < length spans = rw (← length-map spans (key_in arena)) (slice_get_within (keys_of arena spans) i key g) in
    let k = key_got arena spans i w in
    (w, cc)

pub distinct_keys : (arena : List ℕ) (index : Items KeyRange) → IsKeyTable arena index → AreDistinct (keys_of arena index.items)
distinct_keys arena index k = record {
  apart = λ i j key g h.
      let a = is_at arena index.items i key g in
      let b = is_at arena index.items j key h in
      k.apart i j a.0 b.0 (a.1 ∙ sym b.1);
}

-- ---- a search: the key isn't among the numbers that were met

pub record IsKeySearch (arena : List ℕ) (index : Items KeyRange) (key : List ℕ) (at : Option ℕ) : Type 0 where
  pub below : count_to at ≤ length index.items
  pub has : IfSome at (λ i. hash_at index.hashes i ≡ hash_of key)
  pub rest : (j : ℕ) → j < length index.items → key_in arena (span_at index.items j) ≡ key → j < count_to at

key_hash : (arena : List ℕ) (index : Items KeyRange) (key : List ℕ) → IsKeyTable arena index → (j : ℕ) → j < length index.items → key_in arena (span_at index.items j) ≡ key → hash_at index.hashes j ≡ hash_of key
key_hash arena index key t j h e = t.hashed j h ∙ ap hash_of e

pub search_start : (arena : List ℕ) (index : Items KeyRange) (key : List ℕ) (at : Option ℕ) → IsKeyTable arena index → IsNewest index.hashes (hash_of key) (length index.hashes) at → IsKeySearch arena index key at
search_start arena index key at t w = record {
  below = rw (← t.even) w.below;
  has = w.has;
  rest = λ j h e. w.covers j (rw t.even h) (key_hash arena index key t j h e);
}

pub search_on : (arena : List ℕ) (index : Items KeyRange) (key : List ℕ) (n : ℕ) (at : Option ℕ) → IsKeyTable arena index → IsKeySearch arena index key (Some n) → key_in arena (span_at index.items n) ≢ key
    → IsNewest index.hashes (hash_at index.hashes n) n at → IsKeySearch arena index key at
search_on arena index key n at t w other next =
    let own : hash_at index.hashes n ≡ hash_of key = w.has in
    record {
      below = (let a = w.below in let b = next.below in omega (arith, a, b));
      has = subst (λ h. IfSome at (λ i. hash_at index.hashes i ≡ h)) own next.has;
      rest = λ j h e.
          let apart : j ≢ n = λ (s : j ≡ n). other (rw (← s) e) in
          let less : j < n = (let r = w.rest j h e in omega (arith, r, apart)) in
          next.covers j less (key_hash arena index key t j h e ∙ sym own);
    }

pub search_end : (arena : List ℕ) (index : Items KeyRange) (key : List ℕ) → IsKeySearch arena index key None → IsAbsent (keys_of arena index.items) key
search_end arena index key w i g =
    let a = is_at arena index.items i key g in
    let r = w.rest i a.0 a.1 in
    omega (arith, r)

-- ---- a key in front of further numbers

key_kept : (arena more : List ℕ) (s : KeyRange) → s.from ≤ s.to → s.to ≤ length arena → key_in (arena ++ more) s ≡ key_in arena s
key_kept arena more s o w =
    let a : s.from ≤ length arena = omega (arith, o, w) in
    let d = length-drop s.from arena in
    let b : s.to - s.from ≤ length (drop s.from arena) = omega (arith, o, w, d) in
    rw (drop-append-le s.from arena more a, take-append-le (s.to - s.from) (drop s.from arena) more b) refl

key_new : (arena key : List ℕ) (s : KeyRange) → s.from ≡ length arena → s.to ≡ length arena + length key → key_in (arena ++ key) s ≡ key
key_new arena key s f t =
    let n : s.to - s.from ≡ length key = omega (arith, f, t) in
    rw (n, f, drop-append_seam arena key, take-length key) refl

more_keys : (arena more : List ℕ) (spans : List KeyRange) → ((i : ℕ) → i < length spans → (span_at spans i).from ≤ (span_at spans i).to) → ((i : ℕ) → i < length spans → (span_at spans i).to ≤ length arena)
    → keys_of (arena ++ more) spans ≡ keys_of arena spans
more_keys arena more [] o w = refl
more_keys arena more (s ∷ spans) o w =
    rw (key_kept arena more s (o 0 (omega arith)) (w 0 (omega arith)), more_keys arena more spans (λ i h. o (suc i) (omega (arith, h))) (λ i h. w (suc i) (omega (arith, h)))) refl

pub keys_kept : (arena more : List ℕ) (index : Items KeyRange) → IsKeyTable arena index → keys_of (arena ++ more) index.items ≡ keys_of arena index.items
keys_kept arena more index t = more_keys arena more index.items t.order t.within

pub table_kept : (arena more : List ℕ) (index : Items KeyRange) → IsKeyTable arena index → length (arena ++ more) < 2 ^ 32 → IsKeyTable (arena ++ more) index
table_kept arena more index t short =
    let m = length-append arena more in
    let old = λ (i : ℕ) (h : i < length index.items). key_kept arena more (span_at index.items i) (t.order i h) (t.within i h) in
    record {
      even = t.even;
      short = short;
      order = t.order;
      within = λ i h. let w = t.within i h in omega (arith, m, w);
      hashed = λ i h. t.hashed i h ∙ ap hash_of (sym (old i h));
      apart = λ i j h l same. t.apart i j h l (sym (old i h) ∙ same ∙ old j l);
    }

-- ---- a new key

pub record IsNewKey (arena : List ℕ) (index : Items KeyRange) (span : KeyRange) (key : List ℕ) (hash : ℕ) : Type 0 where
  pub order : span.from ≤ span.to
  pub within : span.to ≤ length arena
  pub is : key_in arena span ≡ key
  pub hashed : hash ≡ hash_of key
  pub absent : IsAbsent (keys_of arena index.items) key

pub new_key : (arena key : List ℕ) (index : Items KeyRange) (span : KeyRange) (hash : ℕ) → IsKeyTable arena index → IsAbsent (keys_of arena index.items) key → span.from ≡ length arena
    → span.to ≡ length arena + length key → hash ≡ hash_of key → IsNewKey (arena ++ key) index span key hash
new_key arena key index span hash t none from to hashed = record {
  order = omega (arith, from, to);
  within = (let m = length-append arena key in omega (arith, to, m));
  is = key_new arena key span from to;
  hashed = hashed;
  absent = subst (λ ks. IsAbsent ks key) (sym (keys_kept arena key index t)) none;
}

last_or_before : (spans : List KeyRange) (s : KeyRange) (i : ℕ) → i < length (spans ++ s ∷ []) → ((i < length spans) × (span_at (spans ++ s ∷ []) i ≡ span_at spans i)) ⊎ ((i ≡ length spans) × (span_at (spans ++ s ∷ []) i ≡ s))
last_or_before spans s i h =
    let l = length-append spans (s ∷ []) in
    let split : (i < length spans) ⊎ (i ≡ length spans) = grind (arith, l, h) in
    elim split [
      | inl b ↦ inl (b, get_or_append_left spans (s ∷ []) (record { from = 0; to = 0 }) i b)
      | inr e ↦ inr (e, rw e (get_or-append_seam spans s [] (record { from = 0; to = 0 })))
    ]

pub table_added : (arena : List ℕ) (index : Items KeyRange) (span : KeyRange) (key : List ℕ) (hash : ℕ) → IsKeyTable arena index → IsNewKey arena index span key hash → IsKeyTable arena (with_item index hash span)
table_added arena index span key hash t new =
    let n = length-append index.items (span ∷ []) in
    let m = length-append index.hashes (hash ∷ []) in
    let even = t.even in
    let old_hash = λ (i : ℕ) (b : i < length index.items). get_or_append_left index.hashes (hash ∷ []) 0 i (rw even b) in
    let last_hash : hash_at (index.hashes ++ hash ∷ []) (length index.items) ≡ hash = rw (← even) (get_or-append_seam index.hashes hash [] 0) in
    record {
      even = omega (arith, n, m, even);
      short = t.short;
      order = λ i h. elim (last_or_before index.items span i h) [ inl b ↦ rw b.1 (t.order i b.0) | inr s ↦ rw s.1 new.order ];
      within = λ i h. elim (last_or_before index.items span i h) [ inl b ↦ rw b.1 (t.within i b.0) | inr s ↦ rw s.1 new.within ];
      hashed = λ i h. elim (last_or_before index.items span i h) [
        | inl b ↦ rw b.1 (old_hash i b.0 ∙ t.hashed i b.0)
        | inr s ↦ rw (s.1, s.0) (last_hash ∙ new.hashed ∙ ap hash_of (sym new.is))
      ];
      apart = λ i j h l same. elim (last_or_before index.items span i h) [
        | inl b ↦ elim (last_or_before index.items span j l) [
          | inl c ↦ t.apart i j b.0 c.0 (ap (key_in arena) (sym b.1) ∙ same ∙ ap (key_in arena) c.1)
          | inr s ↦ absurd (new.absent i (found_at arena index.items i key b.0 (ap (key_in arena) (sym b.1) ∙ same ∙ ap (key_in arena) s.1 ∙ new.is)))
        ]
        | inr s ↦ elim (last_or_before index.items span j l) [
          | inl c ↦ absurd (new.absent j (found_at arena index.items j key c.0 (ap (key_in arena) (sym c.1) ∙ sym same ∙ ap (key_in arena) s.1 ∙ new.is)))
          | inr u ↦ s.0 ∙ sym u.0
        ]
      ];
    }

pub keys_added : (arena key : List ℕ) (index : Items KeyRange) (span : KeyRange) → IsKeyTable arena index → span.from ≡ length arena → span.to ≡ length arena + length key
    → keys_of (arena ++ key) (index.items ++ span ∷ []) ≡ keys_of arena index.items ++ key ∷ []
keys_added arena key index span t from to =
    rw (map-append (key_in (arena ++ key)) index.items (span ∷ []), keys_kept arena key index t, key_new arena key span from to) refl

-- the table after an item was put in, or wasn't
pub table_pushed : {E : Type 0} (r : Result ℕ E) (arena : List ℕ) (old new : Items KeyRange) (span : KeyRange) (key : List ℕ) (hash : ℕ) → IsKeyTable arena old → IsNewKey arena old span key hash
    → OnOk r (new ≡ with_item old hash span) → OnErr r (new ≡ old) → IsKeyTable arena new
table_pushed (Ok n) arena old new span key hash t is ok err = subst (IsKeyTable arena) (sym ok) (table_added arena old span key hash t is)
table_pushed (Err e) arena old new span key hash t is ok err = subst (IsKeyTable arena) (sym err) t

pub keys_pushed : {E : Type 0} (r : Result ℕ E) (arena key : List ℕ) (old new : Items KeyRange) (span : KeyRange) (hash : ℕ) → IsKeyTable arena old → span.from ≡ length arena → span.to ≡ length arena + length key
    → OnOk r (new ≡ with_item old hash span) → OnOk r (keys_of (arena ++ key) new.items ≡ keys_of arena old.items ++ key ∷ [])
keys_pushed (Ok n) arena key old new span hash t from to ok = ap (λ x. keys_of (arena ++ key) x.items) ok ∙ keys_added arena key old span t from to
keys_pushed (Err e) arena key old new span hash t from to ok = tt

pub keys_left : {E : Type 0} (r : Result ℕ E) (arena key : List ℕ) (old new : Items KeyRange) → IsKeyTable arena old → OnErr r (new ≡ old) → OnErr r (keys_of (arena ++ key) new.items ≡ keys_of arena old.items)
keys_left (Ok n) arena key old new t err = tt
keys_left (Err e) arena key old new t err = ap (λ x. keys_of (arena ++ key) x.items) err ∙ keys_kept arena key old t
