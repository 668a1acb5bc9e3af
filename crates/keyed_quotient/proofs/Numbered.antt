-- Keys lead to blocks, and blocks to their keys.
use Rattle.std.proofs.Common.{◌≡◌, ◌↔◌, ℕ, zero, suc, ◌+◌, ◌≤◌, List, [], ◌∷◌, length, Option, Some, None, IsSome, is_some, Bool, true, false, true≢false, cond, slice_get, refl, sym, ◌∙◌, ap, subst, arith, inl, inr, ◌⊎◌}
use Rattle.std.specs.Prelude.{option_and_then}
use Rattle.graph_spec.specs.Members.{at}
use Rattle.bisim_spec.proofs.Bisimilar.{some_of}
use Rattle.key_table.specs.NumberedKeys.{IsAbsent, AreDistinct}
use Rattle.keyed_quotient.specs.KeyedQuotients.{key_at, AreKeyed}
use Rattle.keyed_quotient.specs.Numberings.{Numbering, numbered_key, keys_from, block_keys, Leads, IsNumbering}

pub test_is : (b : Bool) → (b ≡ true) ⊎ (b ≡ false)
test_is true = inl refl
test_is false = inr refl

keys_at : (f : ℕ → Option (List ℕ)) (from : ℕ) (labels : List (Option ℕ)) (b : ℕ) → key_at (keys_from f from labels) b ≡ cond (is_some (at labels b)) (f (from + b)) None
keys_at f from [] b = refl
keys_at f from (l ∷ labels) zero = ap (λ n. cond (is_some l) (f n) None) (let e : from ≡ from + zero = omega arith in e)
keys_at f from (l ∷ labels) (suc b) =
    let e : from + 1 + b ≡ from + suc b = omega arith in
    keys_at f (from + 1) labels b ∙ ap (λ n. cond (is_some (at labels b)) (f n) None) e

-- the key of a number: that which its number has, where it is a block
pub block_key : (labels : List (Option ℕ)) (t : Numbering) (b : ℕ) → key_at (block_keys labels t) b ≡ cond (is_some (at labels b)) (numbered_key t b) None
block_key labels t b = keys_at (numbered_key t) 0 labels b ∙ ap (λ n. cond (is_some (at labels b)) (numbered_key t n) None) (let e : 0 + b ≡ b = omega arith in e)

pub leads_key : (t : Numbering) (k b : ℕ) (key : List ℕ) → Leads t k b key → numbered_key t b ≡ Some key
leads_key t k b key l = ap (option_and_then (slice_get t.table)) l.number ∙ l.key_is

-- a block that its number leads to has the key
pub key_there : (labels : List (Option ℕ)) (t : Numbering) (k b : ℕ) (key : List ℕ) → IsSome (at labels b) → Leads t k b key → key_at (block_keys labels t) b ≡ Some key
key_there labels t k b key h l = block_key labels t b ∙ ap (λ s. cond s (numbered_key t b) None) h ∙ leads_key t k b key l

-- only a block has a key
pub block_there : (labels : List (Option ℕ)) (t : Numbering) (b : ℕ) (key : List ℕ) → key_at (block_keys labels t) b ≡ Some key → IsSome (at labels b)
block_there labels t b key e = elim (test_is (is_some (at labels b))) [
  | inl h ↦ h
  | inr none ↦
      (let empty : key_at (block_keys labels t) b ≡ None = block_key labels t b ∙ ap (λ s. cond s (numbered_key t b) None) none in
      let differs : Some key ≡ None = sym e ∙ empty in
      absurd (true≢false (ap is_some differs)))
]

pub same_some : {X : Type 0} (x y : X) → Some x ≡ Some y → x ≡ y
same_some x y e = cc

-- the number that leads to a block with this key
pub leads_there : (labels : List (Option ℕ)) (t : Numbering) (b : ℕ) (key : List ℕ) → IsNumbering labels t → key_at (block_keys labels t) b ≡ Some key → (k : ℕ) × Leads t k b key
leads_there labels t b key n e =
    let h = block_there labels t b key e in
    let l = n.blocks b h in
    let same : l.1 ≡ key = same_some l.1 key (sym (key_there labels t l.0 b l.1 h l.2) ∙ e) in
    (l.0, subst (λ (x : List ℕ). Leads t l.0 b x) same l.2)

-- exactly the blocks have keys, no two the same
pub numbering_keyed : (labels : List (Option ℕ)) (t : Numbering) → IsNumbering labels t → AreKeyed labels (key_at (block_keys labels t))
numbering_keyed labels t n = record {
  exactly = λ b. elim (test_is (is_some (at labels b))) [
    | inl h ↦ (let l = n.blocks b h in ap is_some (key_there labels t l.0 b l.1 h l.2) ∙ sym h)
    | inr none ↦ ap is_some (block_key labels t b ∙ ap (λ s. cond s (numbered_key t b) None) none) ∙ sym none
  ];
  apart = λ b c numbers e f.
      let l = leads_there labels t b numbers n e in
      let m = leads_there labels t c numbers n f in
      let same : l.0 ≡ m.0 = n.distinct.apart l.0 m.0 numbers l.1.key_is m.1.key_is in
      same_some b c (sym l.1.block ∙ ap (slice_get t.block_of) same ∙ m.1.block);
}

-- a block with the key is the one to which the number of the key leads
pub leads_back : (labels : List (Option ℕ)) (t : Numbering) (k b : ℕ) (key : List ℕ) → IsNumbering labels t → slice_get t.table k ≡ Some key → key_at (block_keys labels t) b ≡ Some key → Leads t k b key
leads_back labels t k b key n at_k e =
    let l = leads_there labels t b key n e in
    let same : l.0 ≡ k = n.distinct.apart l.0 k key l.1.key_is at_k in
    subst (λ (m : ℕ). Leads t m b key) same l.1

pub absent_no : (labels : List (Option ℕ)) (t : Numbering) (key : List ℕ) → IsNumbering labels t → IsAbsent t.table key → (b : ℕ) → (None ≡ Some b) ↔ (key_at (block_keys labels t) b ≡ Some key)
absent_no labels t key n absent b = (λ e. absurd (true≢false (sym (ap is_some e))), λ e. let l = leads_there labels t b key n e in absurd (absent l.0 l.1.key_is))

pub blockless_no : (labels : List (Option ℕ)) (t : Numbering) (k : ℕ) (key : List ℕ) → IsNumbering labels t → slice_get t.table k ≡ Some key → slice_get t.block_of k ≡ None
    → (b : ℕ) → (None ≡ Some b) ↔ (key_at (block_keys labels t) b ≡ Some key)
blockless_no labels t k key n at_k none b =
    (λ e. absurd (true≢false (sym (ap is_some e))), λ e. absurd (true≢false (ap is_some (sym (leads_back labels t k b key n at_k e).block ∙ none))))

pub numbered_yes : (labels : List (Option ℕ)) (t : Numbering) (k c : ℕ) (key : List ℕ) → IsNumbering labels t → slice_get t.table k ≡ Some key → slice_get t.block_of k ≡ Some c
    → IsSome (at labels c) → slice_get t.number_of c ≡ Some k → (b : ℕ) → (Some c ≡ Some b) ↔ (key_at (block_keys labels t) b ≡ Some key)
numbered_yes labels t k c key n at_k block h number b =
    let l : Leads t k c key = record { number = number; block = block; key_is = at_k } in
    let here : key_at (block_keys labels t) c ≡ Some key = key_there labels t k c key h l in (
      λ e. subst (λ (m : ℕ). key_at (block_keys labels t) m ≡ Some key) (same_some c b e) here,
      λ e. sym block ∙ (leads_back labels t k b key n at_k e).block,
    )

pub numbered_no : (labels : List (Option ℕ)) (t : Numbering) (k c : ℕ) (key : List ℕ) → IsNumbering labels t → slice_get t.table k ≡ Some key → slice_get t.block_of k ≡ Some c
    → (IsSome (at labels c) → slice_get t.number_of c ≡ Some k → ⊥) → (b : ℕ) → (None ≡ Some b) ↔ (key_at (block_keys labels t) b ≡ Some key)
numbered_no labels t k c key n at_k block unnumbered b = (
  λ e. absurd (true≢false (sym (ap is_some e))),
  λ e. let l = leads_back labels t k b key n at_k e in
      let same : b ≡ c = same_some b c (sym l.block ∙ block) in
      absurd (unnumbered (subst (λ (m : ℕ). IsSome (at labels m)) same (block_there labels t b key e)) (ap (slice_get t.number_of) (sym same) ∙ l.number)),
)

-- the keys of a table, each that of the block with its number
pub counted_numbering : (labels : List (Option ℕ)) (keys : List (List ℕ)) (t : Numbering) → AreKeyed labels (slice_get keys) → t.table ≡ keys → length t.table ≤ length t.block_of
    → ((b : ℕ) (key : List ℕ) → slice_get keys b ≡ Some key → Leads t b b key) → IsNumbering labels t
counted_numbering labels keys t keyed table fits leads = record {
  distinct = subst AreDistinct (sym table) (record { apart = keyed.apart });
  fits = fits;
  blocks = λ b h. (let key = some_of (slice_get keys b) (keyed.exactly b ∙ h) in (b, key.0, leads b key.0 key.1));
}

pub counted_keys : (labels : List (Option ℕ)) (keys : List (List ℕ)) (t : Numbering) → AreKeyed labels (slice_get keys) → ((b : ℕ) (key : List ℕ) → slice_get keys b ≡ Some key → Leads t b b key)
    → (b : ℕ) → key_at (block_keys labels t) b ≡ slice_get keys b
counted_keys labels keys t keyed leads b = elim (test_is (is_some (at labels b))) [
  | inl h ↦ (let key = some_of (slice_get keys b) (keyed.exactly b ∙ h) in key_there labels t b b key.0 h (leads b key.0 key.1) ∙ sym key.1)
  | inr none ↦ block_key labels t b ∙ ap (λ s. cond s (numbered_key t b) None) none ∙ sym (no_key (slice_get keys b) (keyed.exactly b ∙ none))
] where
  no_key : (o : Option (List ℕ)) → is_some o ≡ false → o ≡ None
  no_key None e = refl
  no_key (Some x) e = absurd (true≢false e)
