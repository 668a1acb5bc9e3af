-- Tables that grow leave the keys of blocks.
use Rattle.std.proofs.Common.{◌≡◌, ℕ, suc, ◌+◌, ◌<◌, ◌≤◌, List, [], ◌∷◌, length, Option, Some, None, IsSome, is_some, slice_get, nat_eq, refl, sym, ◌∙◌, ap, subst, arith, inl, inr}
use Rattle.std.specs.Map.{lookup}
use Rattle.std.proofs.lemmas.Bool.{cases_lt}
use Rattle.std.proofs.lemmas.Cmp.{nat_eq_equiv}
use Rattle.std.proofs.lemmas.Map.Entries.{lookup_from_place}
use Rattle.std.specs.Option.{option_or}
use Rattle.graph_spec.specs.Members.{at}
use Rattle.key_table.specs.NumberedKeys.{AreDistinct}
use Rattle.keyed_quotient.specs.KeyedQuotients.{KeyedQuotient, key_at}
use Rattle.keyed_quotient.specs.Changes.{KeyedChanges, labels_as_shown, IsKeyedOver, IsKnown}
use Rattle.keyed_quotient.specs.Numberings.{Numbering, numbered_key, keys_from, block_keys, Leads, IsNumbering, Grows}
use Rattle.keyed_quotient.proofs.Numbered.{leads_key}

pub grows_same : (t : Numbering) → Grows t t
grows_same t = record { table = λ k key e. e; block_of = λ k b e. e; number_of = λ b k e. e }

pub grows_twice : (t u v : Numbering) → Grows t u → Grows u v → Grows t v
grows_twice t u v g h = record {
  table = λ k key e. h.table k key (g.table k key e);
  block_of = λ k b e. h.block_of k b (g.block_of k b e);
  number_of = λ b k e. h.number_of b k (g.number_of b k e);
}

pub leads_grown : (t u : Numbering) (k b : ℕ) (key : List ℕ) → Grows t u → Leads t k b key → Leads u k b key
leads_grown t u k b key g l = record { number = g.number_of b k l.number; block = g.block_of k b l.block; key_is = g.table k key l.key_is }

pub numbering_grown : (labels : List (Option ℕ)) (t u : Numbering) → IsNumbering labels t → Grows t u → AreDistinct u.table → length u.table ≤ length u.block_of → IsNumbering labels u
numbering_grown labels t u n g distinct fits = record {
  distinct = distinct;
  fits = fits;
  blocks = λ b h. (let l = n.blocks b h in (l.0, l.1, leads_grown t u l.0 b l.1 g l.2));
}

pub keys_alike : (f g : ℕ → Option (List ℕ)) (from : ℕ) (labels : List (Option ℕ)) → ((b : ℕ) → IsSome (at labels b) → f (from + b) ≡ g (from + b)) → keys_from f from labels ≡ keys_from g from labels
keys_alike f g from [] same = refl
keys_alike f g from (None ∷ labels) same =
    ap (λ ks. None ∷ ks) (keys_alike f g (from + 1) labels (λ b h. let e : from + suc b ≡ from + 1 + b = omega arith in subst (λ n. f n ≡ g n) e (same (suc b) h)))
keys_alike f g from (Some l ∷ labels) same =
    let e0 : from + 0 ≡ from = omega arith in
    let first : f from ≡ g from = subst (λ n. f n ≡ g n) e0 (same 0 refl) in
    let rest = keys_alike f g (from + 1) labels (λ b h. let e : from + suc b ≡ from + 1 + b = omega arith in subst (λ n. f n ≡ g n) e (same (suc b) h)) in
    ap (λ k. k ∷ keys_from f (from + 1) labels) first ∙ ap (λ ks. g from ∷ ks) rest

pub keys_grown : (labels : List (Option ℕ)) (t u : Numbering) → IsNumbering labels t → Grows t u → block_keys labels u ≡ block_keys labels t
keys_grown labels t u n g = keys_alike (numbered_key u) (numbered_key t) 0 labels (λ b h.
    let l = n.blocks b h in
    let e : 0 + b ≡ b = omega arith in
    subst (λ m. numbered_key u m ≡ numbered_key t m) (sym e) (leads_key u l.0 b l.1 (leads_grown t u l.0 b l.1 g l.2) ∙ sym (leads_key t l.0 b l.1 l.2)))

-- the same where the labels are equal
pub keys_stay : (labels labels2 : List (Option ℕ)) (t u : Numbering) → labels2 ≡ labels → IsNumbering labels t → Grows t u → block_keys labels2 u ≡ block_keys labels t
keys_stay labels labels2 t u same n g = ap (λ (ls : List (Option ℕ)). block_keys ls u) same ∙ keys_grown labels t u n g

-- the same where the numbers were made anew before they grew
pub keys_anew : (labels labels2 : List (Option ℕ)) (t v u : Numbering) → labels2 ≡ labels → block_keys labels2 v ≡ block_keys labels2 t → IsNumbering labels2 v → Grows v u → block_keys labels2 u ≡ block_keys labels t
keys_anew labels labels2 t v u same anew n g = keys_grown labels2 v u n g ∙ anew ∙ ap (λ (ls : List (Option ℕ)). block_keys ls t) same

-- the first i keys are known
pub record KnownBelow (keys : List (List ℕ)) (i : ℕ) (old now : Numbering) : Type 0 where
  pub grows : Grows old now
  pub distinct : AreDistinct now.table
  pub fits : length now.table ≤ length now.block_of
  pub known : (j : ℕ) (key : List ℕ) → j < i → slice_get keys j ≡ Some key → IsKnown now.table key

pub known_none : (keys : List (List ℕ)) (t : Numbering) → AreDistinct t.table → length t.table ≤ length t.block_of → KnownBelow keys 0 t t
known_none keys t distinct fits = record { grows = grows_same t; distinct = distinct; fits = fits; known = λ j key h e. absurd (omega (arith, h)) }

known_still : (t u : Numbering) (key : List ℕ) → Grows t u → IsKnown t.table key → IsKnown u.table key
known_still t u key g k = (k.0, g.table k.0 key k.1)

pub known_next : (keys : List (List ℕ)) (i : ℕ) (key : List ℕ) (old now new : Numbering) → slice_get keys i ≡ Some key → KnownBelow keys i old now → Grows now new
    → (AreDistinct now.table → AreDistinct new.table) → length new.table ≤ length new.block_of → IsKnown new.table key → KnownBelow keys (i + 1) old new
known_next keys i key old now new here w g distinct fits known = record {
  grows = grows_twice old now new w.grows g;
  distinct = distinct w.distinct;
  fits = fits;
  known = λ j x h e. elim (cases_lt j i) [
    | inl before ↦ known_still now new x g (w.known j x before e)
    | inr past ↦
        (let at_i : j ≡ i = omega (arith, h, past) in
        let same : key ≡ x = some_same key x (sym here ∙ ap (slice_get keys) (sym at_i) ∙ e) in
        subst (IsKnown new.table) same known)
  ];
} where
  some_same : (x y : List ℕ) → Some x ≡ Some y → x ≡ y
  some_same x y e = cc

-- a further block is below a number that is past each block as shown
pub further_below : (q : KeyedQuotient) (d : KeyedChanges) (span i b : ℕ) (key : List ℕ) → IsKeyedOver q d → ((c : ℕ) → IsSome (at (labels_as_shown q d) c) → c < span) → slice_get d.keys i ≡ Some (b, key) → b < span
further_below q d span i b key o below e =
    let found : lookup (nat_eq b) d.keys ≡ Some key = lookup_from_place nat_eq_equiv d.keys i b key o.once e in
    below b (sym (o.keyed.exactly b) ∙ ap (λ x. is_some (option_or x (key_at q.keys b))) found)
