-- The keys of a draft that is settled.
use Rattle.std.proofs.Common.{◌≡◌, ◌≢◌, ℕ, zero, suc, ◌+◌, List, [], ◌∷◌, length, Option, Some, None, IsSome, is_some, Bool, true, false, true≢false, cond, slice_get, nat_eq, refl, sym, ◌∙◌, ap, subst, arith, inl, inr, ◌⊎◌}
use Rattle.std.specs.List.{IsDistinct}
use Rattle.std.specs.Option.{option_or}
use Rattle.std.specs.Map.{lookup, keys_of}
use Rattle.std.proofs.lemmas.Cmp.{nat_eq_equiv}
use Rattle.std.proofs.lemmas.Map.Entries.{lookup_from_place, place_from_lookup}
use Rattle.std.proofs.lemmas.Map.Keys.{IsDistinct-head, IsDistinct-tail}
use Rattle.std.proofs.lemmas.Option.{slice_get_within}
use Rattle.graph_spec.specs.Members.{at}
use Rattle.key_table.specs.NumberedKeys.{AreDistinct}
use Rattle.bisim_spec.proofs.Bisimilar.{some_of}
use Rattle.quotient_draft.proofs.DraftedMoves.{absent_key}
use Rattle.quotient_draft.specs.Drafts.{has_member, inhabited_from}
use Rattle.keyed_quotient.specs.KeyedQuotients.{KeyedQuotient, key_at}
use Rattle.keyed_quotient.specs.Changes.{KeyedChanges, blocks_as_shown, labels_as_shown, shown_key, settled_key, IsKeyedOver}
use Rattle.keyed_quotient.specs.Numberings.{Numbering, numbered_key, block_keys, Leads, IsNumbering, AreApart, GivenBelow, IsNoneBelow}
use Rattle.keyed_quotient.proofs.Numbered.{test_is, block_key, leads_key, leads_there}
use Rattle.keyed_quotient.proofs.DraftedKeys.{number_is}

none_left : (t : Bool) (o : Option ℕ) → o ≡ None → cond t o None ≡ o
none_left true o e = refl
none_left false o e = sym e

inhabited_at : (block : List (Option ℕ)) (b : ℕ) (labels : List (Option ℕ)) (i : ℕ) → at (inhabited_from block b labels) i ≡ cond (has_member block (b + i)) (at labels i) None
inhabited_at block b [] i = sym (none_left (has_member block (b + i)) (at [] i) refl)
inhabited_at block b (l ∷ labels) zero = ap (λ n. cond (has_member block n) l None) (let e : b ≡ b + zero = omega arith in e)
inhabited_at block b (l ∷ labels) (suc i) = inhabited_at block (b + 1) labels i ∙ ap (λ n. cond (has_member block n) (at labels i) None) (let e : b + 1 + i ≡ b + suc i = omega arith in e)

first_alone : (p : ℕ × List ℕ) (es : List (ℕ × List ℕ)) (j b : ℕ) (x y : List ℕ) → IsDistinct nat_eq (p.0 ∷ keys_of es) → Some p ≡ Some (b, x) → slice_get es j ≡ Some (b, y) → ⊥
first_alone p es j b x y once e f =
    let same : p.0 ≡ b = pair_first p b x e in
    let none : lookup (nat_eq p.0) es ≡ None = absent_key nat_eq p.0 es (IsDistinct-head nat_eq p.0 (keys_of es) once) in
    let here : lookup (nat_eq b) es ≡ Some y = lookup_from_place nat_eq_equiv es j b y (IsDistinct-tail nat_eq p.0 (keys_of es) once) f in
    true≢false (ap is_some (sym here ∙ ap (λ m. lookup (nat_eq m) es) (sym same) ∙ none)) where
      pair_first : (p : ℕ × List ℕ) (b : ℕ) (x : List ℕ) → Some p ≡ Some (b, x) → p.0 ≡ b
      pair_first p b x e = cc

-- the same block stands at one place alone
places_same : (es : List (ℕ × List ℕ)) (i j b : ℕ) (x y : List ℕ) → IsDistinct nat_eq (keys_of es) → slice_get es i ≡ Some (b, x) → slice_get es j ≡ Some (b, y) → i ≡ j
places_same [] i j b x y once e f = absurd (true≢false (sym (ap is_some e)))
places_same (p ∷ es) zero zero b x y once e f = refl
places_same (p ∷ es) zero (suc j) b x y once e f = absurd (first_alone p es j b x y once e f)
places_same (p ∷ es) (suc i) zero b x y once e f = absurd (first_alone p es i b y x once f e)
places_same (p ∷ es) (suc i) (suc j) b x y once e f = ap suc (places_same es i j b x y (IsDistinct-tail nat_eq p.0 (keys_of es) once) e f)

-- the entries of a draft differ in blocks and in keys
pub drafts_apart : (q : KeyedQuotient) (d : KeyedChanges) → IsKeyedOver q d → AreApart d.keys
drafts_apart q d o =
    let shown : (i b : ℕ) (x : List ℕ) → slice_get d.keys i ≡ Some (b, x) → shown_key q d b ≡ Some x =
    λ i b x e. ap (λ y. option_or y (key_at q.keys b)) (lookup_from_place nat_eq_equiv d.keys i b x o.once e) in
    record {
      blocks = λ i j b x y e f. places_same d.keys i j b x y o.once e f;
      keys = λ i j b c x e f.
          let same : b ≡ c = o.keyed.apart b c x (shown i b x e) (shown j c x f) in
          places_same d.keys i j c x x o.once (subst (λ (m : ℕ). slice_get d.keys i ≡ Some (m, x)) same e) f;
    }

lookup_cases : (o p : Option (List ℕ)) (key : List ℕ) → option_or o p ≡ Some key → (o ≡ Some key) ⊎ ((o ≡ None) × (p ≡ Some key))
lookup_cases None p key e = inr (refl, e)
lookup_cases (Some x) p key e = inl e

-- each block as shown is led to by its key
pub all_lead : (q : KeyedQuotient) (d : KeyedChanges) (labels : List (Option ℕ)) (old now : Numbering) → IsKeyedOver q d → q.keys ≡ block_keys labels old → IsNumbering labels old
    → GivenBelow d.keys (length d.keys) old now → (b : ℕ) (key : List ℕ) → shown_key q d b ≡ Some key → (k : ℕ) × Leads now k b key
all_lead q d labels old now o keys n w b key e = elim (lookup_cases (lookup (nat_eq b) d.keys) (key_at q.keys b) key e) [
  | inl found ↦
      (let p = place_from_lookup (nat_eq b) d.keys key found in
      let same : b ≡ p.1 = number_is b p.1 p.3 in
      let l = w.given p.0 p.1 key (slice_get_within d.keys p.0 (p.1, key) p.2) p.2 in
      subst (λ (m : ℕ). (k : ℕ) × Leads now k m key) (sym same) l)
  | inr base ↦
      (let l = leads_there labels old b key n (ap (λ ks. key_at ks b) (sym keys) ∙ base.1) in
      let none : IsNoneBelow d.keys (length d.keys) b key = λ j c x h f.
      let found : lookup (nat_eq c) d.keys ≡ Some x = lookup_from_place nat_eq_equiv d.keys j c x o.once f in
      let shown : shown_key q d c ≡ Some x = ap (λ y. option_or y (key_at q.keys c)) found in
      let other : c ≢ b = λ s. true≢false (ap is_some (sym (subst (λ (m : ℕ). lookup (nat_eq m) d.keys ≡ Some x) s found) ∙ base.0)) in
      (other, λ s. other (o.keyed.apart c b key (shown ∙ ap Some s) e)) in
      (l.0, w.kept l.0 b key l.1 none))
]

pub left_at : (q : KeyedQuotient) (d : KeyedChanges) (labels2 : List (Option ℕ)) → labels2 ≡ inhabited_from (blocks_as_shown q d) 0 (labels_as_shown q d) → (b : ℕ)
    → at labels2 b ≡ cond (has_member (blocks_as_shown q d) b) (at (labels_as_shown q d) b) None
left_at q d labels2 left b =
    ap (λ ls. at ls b) left ∙ inhabited_at (blocks_as_shown q d) 0 (labels_as_shown q d) b
    ∙ ap (λ n. cond (has_member (blocks_as_shown q d) n) (at (labels_as_shown q d) b) None) (let e : 0 + b ≡ b = omega arith in e)

cond_some : (t : Bool) (o : Option ℕ) → IsSome (cond t o None) → IsSome o
cond_some true o h = h
cond_some false o h = absurd (true≢false (sym h))

left_shown : (q : KeyedQuotient) (d : KeyedChanges) (labels2 : List (Option ℕ)) → labels2 ≡ inhabited_from (blocks_as_shown q d) 0 (labels_as_shown q d) → (b : ℕ) → IsSome (at labels2 b)
    → IsSome (at (labels_as_shown q d) b)
left_shown q d labels2 left b h = cond_some (has_member (blocks_as_shown q d) b) (at (labels_as_shown q d) b) (sym (ap is_some (left_at q d labels2 left b)) ∙ h)

-- the tables lead to the blocks that are left
pub settled_numbering : (q : KeyedQuotient) (d : KeyedChanges) (labels labels2 : List (Option ℕ)) (old now : Numbering) → IsKeyedOver q d → q.keys ≡ block_keys labels old → IsNumbering labels old
    → labels2 ≡ inhabited_from (blocks_as_shown q d) 0 (labels_as_shown q d) → GivenBelow d.keys (length d.keys) old now → IsNumbering labels2 now
settled_numbering q d labels labels2 old now o keys n left w = record {
  distinct = subst AreDistinct (sym w.table) n.distinct;
  fits = (let a = n.fits in let t = ap (λ (xs : List (List ℕ)). length xs) w.table in let f = w.fits in omega (arith, a, t, f));
  blocks = λ b h.
      let shown : IsSome (at (labels_as_shown q d) b) = left_shown q d labels2 left b h in
      let key = some_of (shown_key q d b) (o.keyed.exactly b ∙ shown) in
      let l = all_lead q d labels old now o keys n w b key.0 key.1 in
      (l.0, key.0, l.1);
}

no_key : (o : Option (List ℕ)) → is_some o ≡ false → o ≡ None
no_key None e = refl
no_key (Some x) e = absurd (true≢false e)

-- the key of each block that is left is the one that was shown
pub settled_keys : (q : KeyedQuotient) (d : KeyedChanges) (labels labels2 : List (Option ℕ)) (old now : Numbering) → IsKeyedOver q d → q.keys ≡ block_keys labels old → IsNumbering labels old
    → labels2 ≡ inhabited_from (blocks_as_shown q d) 0 (labels_as_shown q d) → GivenBelow d.keys (length d.keys) old now → (b : ℕ) → key_at (block_keys labels2 now) b ≡ settled_key q d b
settled_keys q d labels labels2 old now o keys n left w b = block_key labels2 now b ∙ ap (λ l. cond (is_some l) (numbered_key now b) None) (left_at q d labels2 left b) ∙ elim (test_is (has_member (blocks_as_shown q d) b)) [
  | inr none ↦ ap (λ t. cond (is_some (cond t (at (labels_as_shown q d) b) None)) (numbered_key now b) None) none ∙ sym (ap (λ t. cond t (shown_key q d b) None) none)
  | inl some ↦
      ap (λ t. cond (is_some (cond t (at (labels_as_shown q d) b) None)) (numbered_key now b) None) some
      ∙ elim (test_is (is_some (at (labels_as_shown q d) b))) [
        | inl live ↦
            (let key = some_of (shown_key q d b) (o.keyed.exactly b ∙ live) in
            let l = all_lead q d labels old now o keys n w b key.0 key.1 in
            ap (λ t. cond t (numbered_key now b) None) live ∙ leads_key now l.0 b key.0 l.1 ∙ sym key.1)
        | inr dead ↦ ap (λ t. cond t (numbered_key now b) None) dead ∙ sym (no_key (shown_key q d b) (o.keyed.exactly b ∙ dead))
      ]
      ∙ sym (ap (λ t. cond t (shown_key q d b) None) some)
]
