-- Keys as shown by a draft.
use Rattle.std.proofs.Common.{◌≡◌, ◌↔◌, ℕ, zero, suc, ◌<◌, List, [], ◌∷◌, ◌++◌, length, Option, Some, None, IsSome, is_some, IfSome, Bool, true, false, true≢false, cond, nat_eq, slice_get, refl, sym, ◌∙◌, ap, subst, arith, inl, inr}
use Rattle.std.specs.List.{zip, IsDistinct}
use Rattle.std.specs.Option.{option_or}
use Rattle.std.specs.Map.{lookup, keys_of}
use Rattle.std.proofs.lemmas.Cmp.{nat_eq_equiv}
use Rattle.std.proofs.lemmas.Map.Entries.{lookup_from_place, place_from_lookup}
use Rattle.std.proofs.lemmas.Map.Keys.{IsDistinct-push}
use Rattle.std.proofs.lemmas.Option.{slice_get_within}
use Rattle.std.proofs.lemmas.Bool.Decides.{eqb_tells}
use Rattle.graph_spec.specs.Members.{at, has}
use Rattle.block_partition.specs.LabelledPartitions.{put}
use Rattle.bisim_spec.proofs.Bisimilar.{some_of}
use Rattle.key_table.specs.NumberedKeys.{IsAbsent}
use Rattle.quotient_draft.specs.Drafts.{Drafted, with_added}
use Rattle.quotient_draft.specs.Basis.{IsOver}
use Rattle.block_partition.proofs.PutNumbers.{at_put}
use Rattle.keyed_quotient.specs.KeyedQuotients.{KeyedQuotient, key_at, AreKeyed}
use Rattle.keyed_quotient.specs.Changes.{KeyedChanges, no_keyed_changes, labels_as_shown, shown_key, IsKeyedOver}
use Rattle.keyed_quotient.proofs.Numbered.{test_is, same_some}

pub number_is : (m n : ℕ) → nat_eq m n ≡ true → m ≡ n
number_is m n e = elim (eqb_tells m n) [
  | inl s ↦ s.1
  | inr d ↦ absurd (true≢false (sym e ∙ d.0))
]

-- an entry of a list of blocks with their keys
pub zip_get : (blocks : List ℕ) (keys : List (List ℕ)) (i b : ℕ) (key : List ℕ) → slice_get blocks i ≡ Some b → slice_get keys i ≡ Some key → slice_get (zip blocks keys) i ≡ Some (b, key)
zip_get [] keys i b key e f = absurd (true≢false (sym (ap is_some e)))
zip_get (c ∷ blocks) [] i b key e f = absurd (true≢false (sym (ap is_some f)))
zip_get (c ∷ blocks) (x ∷ keys) zero b key e f = cc
zip_get (c ∷ blocks) (x ∷ keys) (suc i) b key e f = zip_get blocks keys i b key e f

pub zip_got : (blocks : List ℕ) (keys : List (List ℕ)) (i b : ℕ) (key : List ℕ) → slice_get (zip blocks keys) i ≡ Some (b, key) → (slice_get blocks i ≡ Some b) × (slice_get keys i ≡ Some key)
zip_got [] keys i b key e = absurd (true≢false (sym (ap is_some e)))
zip_got (c ∷ blocks) [] i b key e = absurd (true≢false (sym (ap is_some e)))
zip_got (c ∷ blocks) (x ∷ keys) zero b key e =
    let same = same_some {X = ℕ × List ℕ} (c, x) (b, key) e in
    (ap (λ (p : ℕ × List ℕ). Some p.0) same, ap (λ (p : ℕ × List ℕ). Some p.1) same)
zip_got (c ∷ blocks) (x ∷ keys) (suc i) b key e = zip_got blocks keys i b key e

pub zip_more : (blocks : List ℕ) (keys : List (List ℕ)) (b : ℕ) (key : List ℕ) → length blocks ≡ length keys → zip (blocks ++ b ∷ []) (keys ++ key ∷ []) ≡ zip blocks keys ++ (b, key) ∷ []
zip_more [] [] b key e = refl
zip_more [] (x ∷ keys) b key e = absurd (omega (arith, e))
zip_more (c ∷ blocks) [] b key e = absurd (omega (arith, e))
zip_more (c ∷ blocks) (x ∷ keys) b key e = ap (λ es. (c, x) ∷ es) (zip_more blocks keys b key (omega (arith, e)))

pub some_within : (xs : List ℕ) (i : ℕ) → i < length xs → IsSome (slice_get xs i)
some_within [] i h = absurd (omega (arith, h))
some_within (x ∷ xs) zero h = refl
some_within (x ∷ xs) (suc i) h = some_within xs i (omega (arith, h))

-- what is found by its place is found by its block
pub further_found : (blocks : List ℕ) (keys : List (List ℕ)) (i b : ℕ) (key : List ℕ) → IsDistinct nat_eq (keys_of (zip blocks keys)) → slice_get blocks i ≡ Some b → slice_get keys i ≡ Some key
    → lookup (nat_eq b) (zip blocks keys) ≡ Some key
further_found blocks keys i b key once e f = lookup_from_place nat_eq_equiv (zip blocks keys) i b key once (zip_get blocks keys i b key e f)

pub further_absent : (blocks : List ℕ) (keys : List (List ℕ)) (key : List ℕ) → IsAbsent keys key → (b : ℕ) → lookup (nat_eq b) (zip blocks keys) ≡ Some key → ⊥
further_absent blocks keys key absent b e =
    let p = place_from_lookup (nat_eq b) (zip blocks keys) key e in
    absent p.0 (zip_got blocks keys p.0 p.1 key p.2).1

-- a further block has the key as shown
pub shown_further : (q : KeyedQuotient) (d : KeyedChanges) (b : ℕ) (key : List ℕ) → IsKeyedOver q d → lookup (nat_eq b) d.keys ≡ Some key → (c : ℕ) → (Some b ≡ Some c) ↔ (shown_key q d c ≡ Some key)
shown_further q d b key o e c =
    let here : shown_key q d b ≡ Some key = ap (λ x. option_or x (key_at q.keys b)) e in
    (λ s. subst (λ (m : ℕ). shown_key q d m ≡ Some key) (same_some b c s) here, λ f. ap Some (o.keyed.apart b c key here f))

or_none : (a b : Option (List ℕ)) (key : List ℕ) → (a ≡ Some key → ⊥) → option_or a b ≡ Some key → (a ≡ None) × (b ≡ Some key)
or_none None b key fails e = (refl, e)
or_none (Some x) b key fails e = absurd (fails e)

or_both : (a b : Option (List ℕ)) (key : List ℕ) → ((x : List ℕ) → a ≡ Some x → b ≡ None) → b ≡ Some key → option_or a b ≡ Some key
or_both None b key alone e = e
or_both (Some x) b key alone e = absurd (true≢false (ap is_some (sym e ∙ alone x refl)))

-- where no further block has the key, the base is asked
pub shown_base : (q : KeyedQuotient) (d : KeyedChanges) (key : List ℕ) (found : Option ℕ) → IsKeyedOver q d → ((b : ℕ) → lookup (nat_eq b) d.keys ≡ Some key → ⊥)
    → ((b : ℕ) → (found ≡ Some b) ↔ (key_at q.keys b ≡ Some key)) → (b : ℕ) → (found ≡ Some b) ↔ (shown_key q d b ≡ Some key)
shown_base q d key found o absent leads b = (
  λ e. or_both (lookup (nat_eq b) d.keys) (key_at q.keys b) key (o.further b) ((leads b).0 e),
  λ e. (leads b).1 (or_none (lookup (nat_eq b) d.keys) (key_at q.keys b) key (absent b) e).1,
)

-- what has a key as shown is a block as shown
pub shown_live : (q : KeyedQuotient) (d : KeyedChanges) (found : Option ℕ) (key : List ℕ) → IsKeyedOver q d → ((b : ℕ) → (found ≡ Some b) ↔ (shown_key q d b ≡ Some key))
    → IfSome found (λ b. IsSome (at (labels_as_shown q d) b))
shown_live q d None key o leads = tt
shown_live q d (Some b) key o leads = sym (o.keyed.exactly b) ∙ ap is_some ((leads b).0 refl)

-- other changes leave the keys
pub over_kept : (q : KeyedQuotient) (d d2 : KeyedChanges) → IsKeyedOver q d → IsOver q.quotient.blocks.block_of q.quotient.blocks.labels d2.drafted → d2.drafted.added ≡ d.drafted.added
    → d2.keys ≡ d.keys → IsKeyedOver q d2
over_kept q d d2 o over added keys =
    let labels : labels_as_shown q d2 ≡ labels_as_shown q d = ap (with_added q.quotient.blocks.labels) added in
    let key : (b : ℕ) → shown_key q d2 b ≡ shown_key q d b = λ b. ap (λ (es : List (ℕ × List ℕ)). option_or (lookup (nat_eq b) es) (key_at q.keys b)) keys in
    record {
      over = over;
      once = subst (λ (es : List (ℕ × List ℕ)). IsDistinct nat_eq (keys_of es)) (sym keys) o.once;
      further = λ b x e. o.further b x (sym (ap (lookup (nat_eq b)) keys) ∙ e);
      keyed = record {
        exactly = λ b. ap is_some (key b) ∙ o.keyed.exactly b ∙ ap (λ (ls : List (Option ℕ)). is_some (at ls b)) (sym labels);
        apart = λ b c x e f. o.keyed.apart b c x (sym (key b) ∙ e) (sym (key c) ∙ f);
      };
    }

no_numbers : IsDistinct nat_eq []
unfolding IsDistinct
no_numbers = tt

pub over_none : (q : KeyedQuotient) → AreKeyed q.quotient.blocks.labels (key_at q.keys) → IsOver q.quotient.blocks.block_of q.quotient.blocks.labels no_keyed_changes.drafted → IsKeyedOver q no_keyed_changes
over_none q keyed over = record {
  over = over;
  once = no_numbers;
  further = λ b x e. absurd (true≢false (sym (ap is_some e)));
  keyed = record { exactly = keyed.exactly; apart = keyed.apart };
}

-- one entry more
pub lookup_more : (es : List (ℕ × List ℕ)) (b : ℕ) (key : List ℕ) → lookup (nat_eq b) es ≡ None → (c : ℕ) → lookup (nat_eq c) (es ++ (b, key) ∷ []) ≡ cond (nat_eq c b) (Some key) (lookup (nat_eq c) es)
lookup_more [] b key none c = refl
lookup_more (e ∷ es) b key none c = elim (test_is (nat_eq b e.0)) [
  | inl h ↦ absurd (true≢false (ap is_some (sym (ap (λ s. cond s (Some e.1) (lookup (nat_eq b) es)) h) ∙ none)))
  | inr h ↦
      (let rest = lookup_more es b key (sym (ap (λ s. cond s (Some e.1) (lookup (nat_eq b) es)) h) ∙ none) c in
      elim (test_is (nat_eq c e.0)) [
        | inl g ↦
            (let same : c ≡ e.0 = number_is c e.0 g in
            let other : nat_eq c b ≡ false = ap (λ m. nat_eq m b) same ∙ turned e.0 b ∙ h in
            ap (λ s. cond s (Some e.1) (lookup (nat_eq c) (es ++ (b, key) ∷ []))) g ∙ sym (ap (λ s. cond s (Some key) (cond (nat_eq c e.0) (Some e.1) (lookup (nat_eq c) es))) other ∙ ap (λ s. cond s (Some e.1) (lookup (nat_eq c) es)) g))
        | inr g ↦
            ap (λ s. cond s (Some e.1) (lookup (nat_eq c) (es ++ (b, key) ∷ []))) g ∙ rest ∙ ap (cond (nat_eq c b) (Some key)) (sym (ap (λ s. cond s (Some e.1) (lookup (nat_eq c) es)) g))
      ])
] where
  turned : (m n : ℕ) → nat_eq m n ≡ nat_eq n m
  turned m n = (nat_eq_equiv).symm m n

or_cond : (t : Bool) (key : List ℕ) (a b : Option (List ℕ)) → option_or (cond t (Some key) a) b ≡ cond t (Some key) (option_or a b)
or_cond true key a b = refl
or_cond false key a b = refl

-- the keys as shown once a block is added
pub key_more : (q : KeyedQuotient) (d d2 : KeyedChanges) (b : ℕ) (key : List ℕ) → lookup (nat_eq b) d.keys ≡ None → d2.keys ≡ d.keys ++ (b, key) ∷ [] → (c : ℕ)
    → shown_key q d2 c ≡ cond (nat_eq c b) (Some key) (shown_key q d c)
key_more q d d2 b key none added c =
    ap (λ (es : List (ℕ × List ℕ)). option_or (lookup (nat_eq c) es) (key_at q.keys c)) added ∙ ap (λ o. option_or o (key_at q.keys c)) (lookup_more d.keys b key none c)
    ∙ or_cond (nat_eq c b) key (lookup (nat_eq c) d.keys) (key_at q.keys c)

no_lookup : (es : List (ℕ × List ℕ)) (b : ℕ) → lookup (nat_eq b) es ≡ None → has (keys_of es) b ≡ false
no_lookup [] b e = refl
no_lookup (x ∷ es) b e = elim (test_is (nat_eq b x.0)) [
  | inl h ↦ absurd (true≢false (ap is_some (sym (ap (λ s. cond s (Some x.1) (lookup (nat_eq b) es)) h) ∙ e)))
  | inr h ↦ rw h (no_lookup es b (sym (ap (λ s. cond s (Some x.1) (lookup (nat_eq b) es)) h) ∙ e))
]

keys_more : (es : List (ℕ × List ℕ)) (b : ℕ) (key : List ℕ) → keys_of (es ++ (b, key) ∷ []) ≡ keys_of es ++ b ∷ []
keys_more [] b key = refl
keys_more (e ∷ es) b key = ap (λ ks. e.0 ∷ ks) (keys_more es b key)

or_first : (a b : Option (List ℕ)) → is_some (option_or a b) ≡ false → (a ≡ None) × (b ≡ None)
or_first None None e = (refl, refl)
or_first None (Some x) e = absurd (true≢false e)
or_first (Some x) b e = absurd (true≢false e)

-- no block has the number that is the least free, in the base or in the draft
pub free_number : (q : KeyedQuotient) (d : KeyedChanges) (b : ℕ) → IsKeyedOver q d → at (labels_as_shown q d) b ≡ None → (lookup (nat_eq b) d.keys ≡ None) × (key_at q.keys b ≡ None)
free_number q d b o free = or_first (lookup (nat_eq b) d.keys) (key_at q.keys b) (o.keyed.exactly b ∙ ap is_some free)

-- one block more
pub over_more : (q : KeyedQuotient) (d d2 : KeyedChanges) (b l : ℕ) (key : List ℕ) → IsKeyedOver q d → at (labels_as_shown q d) b ≡ None → ((c : ℕ) → shown_key q d c ≡ Some key → ⊥)
    → IsOver q.quotient.blocks.block_of q.quotient.blocks.labels d2.drafted → labels_as_shown q d2 ≡ put (labels_as_shown q d) b l → d2.keys ≡ d.keys ++ (b, key) ∷ [] → IsKeyedOver q d2
over_more q d d2 b l key o free fresh over labels added =
    let none = free_number q d b o free in
    let more : (c : ℕ) → shown_key q d2 c ≡ cond (nat_eq c b) (Some key) (shown_key q d c) = key_more q d d2 b key none.0 added in
    record {
      over = over;
      once = subst (λ (es : List (ℕ × List ℕ)). IsDistinct nat_eq (keys_of es)) (sym added) (subst (IsDistinct nat_eq) (sym (keys_more d.keys b key))
          (IsDistinct-push nat_eq_equiv (keys_of d.keys) b o.once (no_lookup d.keys b none.0)));
      further = λ c x e. elim (test_is (nat_eq c b)) [
        | inl h ↦ ap (key_at q.keys) (number_is c b h) ∙ none.1
        | inr h ↦ o.further c x (sym (ap (lookup (nat_eq c)) added ∙ lookup_more d.keys b key none.0 c ∙ ap (λ s. cond s (Some key) (lookup (nat_eq c) d.keys)) h) ∙ e)
      ];
      keyed = record {
        exactly = λ c. elim (test_is (nat_eq c b)) [
          | inl h ↦
              ap is_some (more c ∙ ap (λ s. cond s (Some key) (shown_key q d c)) h)
              ∙ sym (ap (λ (ls : List (Option ℕ)). is_some (at ls c)) labels ∙ ap is_some (at_put (labels_as_shown q d) b l c ∙ ap (λ s. cond s (Some l) (at (labels_as_shown q d) c)) h))
          | inr h ↦
              ap is_some (more c ∙ ap (λ s. cond s (Some key) (shown_key q d c)) h) ∙ o.keyed.exactly c
              ∙ sym (ap (λ (ls : List (Option ℕ)). is_some (at ls c)) labels ∙ ap is_some (at_put (labels_as_shown q d) b l c ∙ ap (λ s. cond s (Some l) (at (labels_as_shown q d) c)) h))
        ];
        apart = λ c a x e f. elim (test_is (nat_eq c b)) [
          | inl h ↦ elim (test_is (nat_eq a b)) [
            | inl g ↦ number_is c b h ∙ sym (number_is a b g)
            | inr g ↦
                (let is : key ≡ x = same_some key x (sym (more c ∙ ap (λ s. cond s (Some key) (shown_key q d c)) h) ∙ e) in
                absurd (fresh a (sym (more a ∙ ap (λ s. cond s (Some key) (shown_key q d a)) g) ∙ f ∙ ap Some (sym is))))
          ]
          | inr h ↦ elim (test_is (nat_eq a b)) [
            | inl g ↦
                (let is : key ≡ x = same_some key x (sym (more a ∙ ap (λ s. cond s (Some key) (shown_key q d a)) g) ∙ f) in
                absurd (fresh c (sym (more c ∙ ap (λ s. cond s (Some key) (shown_key q d c)) h) ∙ e ∙ ap Some (sym is))))
            | inr g ↦ o.keyed.apart c a x (sym (more c ∙ ap (λ s. cond s (Some key) (shown_key q d c)) h) ∙ e) (sym (more a ∙ ap (λ s. cond s (Some key) (shown_key q d a)) g) ∙ f)
          ]
        ];
      };
    }

-- a key that no block has as shown is in no table of further keys
pub fresh_absent : (q : KeyedQuotient) (d : Drafted) (blocks : List ℕ) (keys : List (List ℕ)) (key : List ℕ) → length blocks ≡ length keys → IsKeyedOver q (record { drafted = d; keys = zip blocks keys })
    → ((b : ℕ) → shown_key q (record { drafted = d; keys = zip blocks keys }) b ≡ Some key → ⊥) → IsAbsent keys key
fresh_absent q d blocks keys key even o fresh i e =
    let within = slice_get_within keys i key e in
    let b = some_of (slice_get blocks i) (some_within blocks i (omega (arith, within, even))) in
    let found : lookup (nat_eq b.0) (zip blocks keys) ≡ Some key = further_found blocks keys i b.0 key o.once b.1 e in
    fresh b.0 (ap (λ x. option_or x (key_at q.keys b.0)) found)
