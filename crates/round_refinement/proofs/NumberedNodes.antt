-- Nodes that are numbered by their keys, one after another.
use Rattle.std.proofs.Common.{◌≡◌, ℕ, zero, suc, ◌+◌, ◌<◌, List, [], ◌∷◌, ◌++◌, length, Option, Some, None, IsSome, IsTrue, refl, sym, ◌∙◌, ap, subst, arith, inl, inr, Bool, slice_get}
use Rattle.std.proofs.lemmas.Bool.{cases_lt}
use Rattle.std.proofs.lemmas.Option.{slice_get_within}
use Rattle.std.proofs.lemmas.List.{get_or_push, get_or_append_left, get_or_past, length-append}
use Rattle.key_table.specs.NumberedKeys.{AreDistinct, Interns}
use Rattle.graph_spec.specs.Members.{at}
use Rattle.bisim_spec.proofs.Bisimilar.{some_of, none_or_some, is_some_at}
use Rattle.bisim_spec.proofs.Together.{block_below}
use Rattle.bisim_spec.specs.NodeKeys.{IsKey}
use Rattle.bisim_spec.specs.Refinement.{Refines}
use Rattle.round_refinement.specs.Numbering.{AreNumbered, Numbers}
use Rattle.bisim_spec.proofs.WrittenKeys.{together_from_key, key_from_together}

-- the nodes below n are numbered
pub record NumberedBelow (own : ℕ → Option ℕ) (base : List (Option ℕ)) (neighbour_of : ℕ → ℕ → Bool) (n : ℕ) (keys : List (List ℕ)) (next : List (Option ℕ)) : Type 0 where
  pub length_is : length next ≡ n
  pub none : (m : ℕ) → m < n → own m ≡ None → at next m ≡ None
  pub some : (m b : ℕ) → m < n → own m ≡ Some b
      → (k : ℕ) × (key : List ℕ) × (at next m ≡ Some k) × (slice_get keys k ≡ Some key) × IsKey own base neighbour_of m key
  pub inhabited : (k : ℕ) → k < length keys → (m : ℕ) × (at next m ≡ Some k)

pub get_append : (xs ys : List (List ℕ)) (k : ℕ) (x : List ℕ) → slice_get xs k ≡ Some x → slice_get (xs ++ ys) k ≡ Some x
get_append [] ys k x e = absurd (cc)
get_append (z ∷ xs) ys zero x e = e
get_append (z ∷ xs) ys (suc k) x e = get_append xs ys k x e

pub get_last : (xs : List (List ℕ)) (x : List ℕ) → slice_get (xs ++ x ∷ []) (length xs) ≡ Some x
get_last [] x = refl
get_last (z ∷ xs) x = get_last xs x

-- the number of a key leads to it
pub interned_at : (old new : List (List ℕ)) (key : List ℕ) (k : ℕ) → Interns old new key k → slice_get new k ≡ Some key
interned_at old new key k interned = elim interned [
  | inl (there, same) ↦ ap (λ ks. slice_get ks k) same ∙ there
  | inr (absent, found, added) ↦ ap (λ ks. slice_get ks k) added ∙ ap (λ j. slice_get (old ++ key ∷ []) j) found ∙ get_last old key
]

-- and keys that were there stay
pub interned_stays : (old new : List (List ℕ)) (key : List ℕ) (k : ℕ) → Interns old new key k → (j : ℕ) (x : List ℕ) → slice_get old j ≡ Some x → slice_get new j ≡ Some x
interned_stays old new key k interned j x e = elim interned [
  | inl (there, same) ↦ ap (λ ks. slice_get ks j) same ∙ e
  | inr (absent, found, added) ↦ ap (λ ks. slice_get ks j) added ∙ get_append old (key ∷ []) j x e
]

pub distinct_none : AreDistinct []
distinct_none = record { apart = λ i j key e f. absurd (cc) }

-- a node without a block takes no key
pub numbers_none : (own : ℕ → Option ℕ) (base : List (Option ℕ)) (neighbour_of : ℕ → ℕ → Bool) (n : ℕ) (keys : List (List ℕ)) → own n ≡ None → Numbers own base neighbour_of n keys keys None
numbers_none own base neighbour_of n keys none = record {
  stay = λ k key e. e;
  none = λ e. refl;
  some = λ b e. absurd (let z = none in cc);
  fresh = λ k l m. absurd (omega (arith, l, m));
}

pub numbers_some : (own : ℕ → Option ℕ) (base : List (Option ℕ)) (neighbour_of : ℕ → ℕ → Bool) (n number k : ℕ) (old new : List (List ℕ)) (key : List ℕ) → own n ≡ Some number
    → Interns old new key k → IsKey own base neighbour_of n key → Numbers own base neighbour_of n old new (Some k)
numbers_some own base neighbour_of n number k old new key own_is interned is = elim interned [
  | inl (there, same) ↦ record {
    stay = λ j x e. ap (λ ks. slice_get ks j) same ∙ e;
    none = λ e. absurd (let z = own_is in cc);
    some = λ b e. (k, key, refl, ap (λ ks. slice_get ks k) same ∙ there, is);
    fresh = λ j l m. absurd (let z = ap length same in omega (arith, l, m, z));
  }
  | inr (absent, at, added) ↦ record {
    stay = λ j x e. ap (λ ks. slice_get ks j) added ∙ get_append old (key ∷ []) j x e;
    none = λ e. absurd (let z = own_is in cc);
    some = λ b e. (k, key, refl, ap (λ ks. slice_get ks k) added ∙ ap (λ j. slice_get (old ++ key ∷ []) j) at ∙ get_last old key, is);
    fresh = λ j l m. let z = ap length added in let y = length-append old (key ∷ []) in let same : k ≡ j = omega (arith, l, m, z, y, at) in ap Some same;
  }
]

pub numbered_start : (own : ℕ → Option ℕ) (base : List (Option ℕ)) (neighbour_of : ℕ → ℕ → Bool) → NumberedBelow own base neighbour_of 0 [] []
numbered_start own base neighbour_of = record {
  length_is = refl;
  none = λ m h e. absurd (omega (arith, h));
  some = λ m b h e. absurd (omega (arith, h));
  inhabited = λ k h. absurd (omega (arith, h));
}

at_before : (next : List (Option ℕ)) (o : Option ℕ) (m : ℕ) → m < length next → at (next ++ o ∷ []) m ≡ at next m
at_before next o m h = get_or_append_left next (o ∷ []) None m h

at_last : (next : List (Option ℕ)) (o : Option ℕ) (n : ℕ) → length next ≡ n → at (next ++ o ∷ []) n ≡ o
at_last next o n h = get_or_push next o None n h

pub numbered_more : (own : ℕ → Option ℕ) (base : List (Option ℕ)) (neighbour_of : ℕ → ℕ → Bool) (n : ℕ) (keys keys2 : List (List ℕ)) (next : List (Option ℕ)) (o : Option ℕ)
    → NumberedBelow own base neighbour_of n keys next → Numbers own base neighbour_of n keys keys2 o → NumberedBelow own base neighbour_of (n + 1) keys2 (next ++ o ∷ [])
numbered_more own base neighbour_of n keys keys2 next o w s =
    let long = w.length_is in
    let below : (m : ℕ) → m < n → at (next ++ o ∷ []) m ≡ at next m = λ m h. at_before next o m (omega (arith, long, h)) in
    let last : (m : ℕ) → m ≡ n → at (next ++ o ∷ []) m ≡ o = λ m e. ap (at (next ++ o ∷ [])) e ∙ at_last next o n long in
    record {
      length_is = length-append next (o ∷ []) ∙ ap (λ k. k + 1) long;
      none = λ m h e. elim (cases_lt m n) [
        | inl before ↦ below m before ∙ w.none m before e
        | inr past ↦ (let here : m ≡ n = omega (arith, h, past) in last m here ∙ s.none (ap own (sym here) ∙ e))
      ];
      some = λ m b h e. elim (cases_lt m n) [
        | inl before ↦ (let f = w.some m b before e in (f.0, f.1, below m before ∙ f.2, s.stay f.0 f.1 f.3, f.4))
        | inr past ↦
            (let here : m ≡ n = omega (arith, h, past) in
            let f = s.some b (ap own (sym here) ∙ e) in
            (f.0, f.1, last m here ∙ f.2, f.3, subst (λ k. IsKey own base neighbour_of k f.1) (sym here) f.4))
      ];
      inhabited = λ k h. elim (cases_lt k (length keys)) [
        | inl before ↦ (let f = w.inhabited k before in (f.0, below f.0 (let l = block_below next f.0 (is_some_at (at next f.0) k f.1) in omega (arith, l, long)) ∙ f.1))
        | inr past ↦ (n, last n refl ∙ s.fresh k past h)
      ];
    }

-- when all nodes with a block are numbered
pub numbered_all : (own : ℕ → Option ℕ) (base : List (Option ℕ)) (neighbour_of : ℕ → ℕ → Bool) (n : ℕ) (keys : List (List ℕ)) (next : List (Option ℕ))
    → NumberedBelow own base neighbour_of n keys next → ((m : ℕ) → IsSome (own m) → m < n) → AreNumbered own base neighbour_of next (slice_get keys)
numbered_all own base neighbour_of n keys next w within = record {
  none = λ m e. elim (cases_lt m n) [
    | inl before ↦ w.none m before e
    | inr past ↦ get_or_past next m None (let l = w.length_is in omega (arith, l, past))
  ];
  some = λ m b e. w.some m b (within m (is_some_at (own m) b e)) e;
  inhabited = λ k h. let key = some_of (slice_get keys k) h in w.inhabited k (slice_get_within keys k key.0 key.1);
}

-- a numbered node has a block, and that is the number of its key
pub record KeyAt (own : ℕ → Option ℕ) (base : List (Option ℕ)) (neighbour_of : ℕ → ℕ → Bool) (key : ℕ → Option (List ℕ)) (m k : ℕ) : Type 0 where
  pub own_some : IsSome (own m)
  pub numbers : List ℕ
  pub at : key k ≡ Some numbers
  pub is : IsKey own base neighbour_of m numbers

pub key_of_block : (own : ℕ → Option ℕ) (base : List (Option ℕ)) (neighbour_of : ℕ → ℕ → Bool) (key : ℕ → Option (List ℕ)) (next : List (Option ℕ)) → AreNumbered own base neighbour_of next key
    → (m k : ℕ) → at next m ≡ Some k → KeyAt own base neighbour_of key m k
key_of_block own base neighbour_of key next w m k e = elim (none_or_some (own m)) [
  | inl none ↦ absurd (let z = w.none m none in cc)
  | inr (b, some) ↦
      (let f = w.some m b some in
      let same : f.0 ≡ k = (let z = f.2 in cc) in
      record {
        own_some = is_some_at (own m) b some;
        numbers = f.1;
        at = ap key (sym same) ∙ f.3;
        is = f.4;
      })
]

-- numbers by distinct keys refine the partition
pub numbered_refines : (own : ℕ → Option ℕ) (base : List (Option ℕ)) (neighbour_of : ℕ → ℕ → Bool) (key : ℕ → Option (List ℕ)) (next : List (Option ℕ))
    → ((p n : ℕ) → IsTrue (neighbour_of p n) → (b : ℕ) × (at base p ≡ Some b)) → ((i j : ℕ) (k : List ℕ) → key i ≡ Some k → key j ≡ Some k → i ≡ j)
    → AreNumbered own base neighbour_of next key → Refines own base neighbour_of next
numbered_refines own base neighbour_of key next blocks apart w = record {
  kept = λ m h. let b = some_of (own m) h in let f = w.some m b.0 b.1 in is_some_at (at next m) f.0 f.2;
  only = λ m h. let k = some_of (at next m) h in (key_of_block own base neighbour_of key next w m k.0 k.1).own_some;
  parted = λ u v t.
      let a = key_of_block own base neighbour_of key next w u t.0 t.1 in
      let b = key_of_block own base neighbour_of key next w v t.0 t.2 in
      let same : b.numbers ≡ a.numbers = (let x = a.at in let y = b.at in cc) in
      together_from_key own base neighbour_of u v a.numbers blocks a.is (subst (IsKey own base neighbour_of v) same b.is);
  grouped = λ u v same.
      let f = w.some u same.one_number.0 same.one_number.1 in
      let g = w.some v same.one_number.0 same.one_number.2 in
      let keys_same = key_from_together own base neighbour_of u v f.1 g.1 same f.4 g.4 in
      let numbers : f.0 ≡ g.0 = apart f.0 g.0 g.1 (f.3 ∙ ap Some keys_same) g.3 in
      (f.0, f.2, g.2 ∙ ap Some (sym numbers));
}
