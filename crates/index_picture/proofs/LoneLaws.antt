-- Blocks of one node each.
use Rattle.std.proofs.Common.{◌≡◌, ℕ, zero, suc, ◌+◌, ◌<◌, ◌≤◌, Bool, true, false, List, [], ◌∷◌, ◌++◌, length, get_or, Option, None, Some, IsSome, is_some, refl, sym, ◌∙◌, ap, arith, inl, inr, true≢false}
use Rattle.std.specs.Prelude.{if◌then◌else◌, slice_get, option_and_then, position, bytes_eq}
use Rattle.std.proofs.lemmas.Bool.{cases_lt, cases_Bool}
use Rattle.std.proofs.lemmas.List.{get_or_append_left, length-append, get_or_past}
use Rattle.std.proofs.lemmas.Option.{slice_get-get_or, slice_get_within}
use Rattle.std.proofs.Math.Seq.{get_or-append_seam}
use Rattle.graph_spec.specs.Graphs.{Graph, is_live, label_of}
use Rattle.graph_spec.specs.Members.{at}
use Rattle.label_graph.specs.GraphViews.{label_number}
use Rattle.bisim_spec.specs.Below.{count_below}
use Rattle.bisim_spec.proofs.BelowLaws.{bit_of, count_few}
use Rattle.block_partition.specs.LabelledPartitions.{Partition}
use Rattle.block_partition.specs.FilledTables.{HaveLabels, SameBlocks}
use Rattle.index_picture.specs.LoneBlocks.{own_block, lone_block, IsLone, AreLoneBelow}

count_next : (n : ℕ) (p : ℕ → Bool) → count_below (n + 1) p ≡ bit_of (p n) + count_below n p
count_next n p = let e : n + 1 ≡ suc n = omega arith in ap (λ k. count_below k p) e

-- fewer come before a number that counts than before a later one
count_later : (p : ℕ → Bool) (m n : ℕ) → m < n → p m ≡ true → count_below m p < count_below n p
count_later p m zero l e = absurd (omega (arith, l))
count_later p m (suc n) l e = elim (cases_lt m n) [
  | inl below ↦ (let a = count_later p m n below e in omega (arith, a))
  | inr past ↦ (
      let same : m ≡ n = omega (arith, l, past) in
      let one : bit_of (p n) ≡ 1 = ap bit_of (ap p (sym same) ∙ e) in
      let as_many : count_below m p ≡ count_below n p = ap (λ k. count_below k p) same in
      omega (arith, one, as_many))
]

-- numbers have labels only where nodes are live
pub labelled_live : (g : Graph) (n l : ℕ) → label_number g n ≡ Some l → is_live g n ≡ true
labelled_live g n l h = by (label_of g n) refl
  where
    by : (o : Option (List ℕ)) → label_of g n ≡ o → is_live g n ≡ true
    by None e = absurd (true≢false (sym (ap is_some h) ∙ ap (λ o. is_some (option_and_then (λ t. position (bytes_eq t) g.seen) o)) e))
    by (Some t) e = ap is_some e

get_left : (xs ys : List ℕ) (i : ℕ) (x : ℕ) → slice_get xs i ≡ Some x → slice_get (xs ++ ys) i ≡ Some x
get_left xs ys i x h =
    let l = slice_get_within xs i x h in
    let len = length-append xs ys in
    slice_get-get_or (xs ++ ys) i 0 (omega (arith, l, len)) ∙ ap Some (get_or_append_left xs ys 0 i l) ∙ sym (slice_get-get_or xs i 0 l) ∙ h

get_seam : (xs : List ℕ) (x : ℕ) → slice_get (xs ++ x ∷ []) (length xs) ≡ Some x
get_seam xs x =
    let len = length-append xs (x ∷ []) in
    slice_get-get_or (xs ++ x ∷ []) (length xs) 0 (omega (arith, len)) ∙ ap Some (get_or-append_seam xs x [] 0)

at_pushed : (block : List (Option ℕ)) (b : Option ℕ) (f : ℕ → Option ℕ) (n : ℕ) → length block ≡ n → f n ≡ b → ((m : ℕ) → m < n → at block m ≡ f m)
    → (m : ℕ) → m < n + 1 → at (block ++ b ∷ []) m ≡ f m
at_pushed block b f n len e h m l = elim (cases_lt m n) [
  | inl below ↦ get_or_append_left block (b ∷ []) None m (omega (arith, len, below)) ∙ h m below
  | inr past ↦ (
      let same : m ≡ length block = omega (arith, l, past, len) in
      let here : length block ≡ n = len in
      ap (at (block ++ b ∷ [])) same ∙ get_or-append_seam block b [] None ∙ sym e ∙ ap f (sym here ∙ sym same))
]

-- one more live node
pub lone_pushed : (g : Graph) (n l : ℕ) (block block2 : List (Option ℕ)) (labels labels2 : List ℕ) → AreLoneBelow g n block labels → is_live g n ≡ true
    → label_number g n ≡ Some l → block2 ≡ block ++ Some (length labels) ∷ [] → labels2 ≡ labels ++ l ∷ [] → AreLoneBelow g (n + 1) block2 labels2
lone_pushed g n l block block2 labels labels2 r live named eb el =
    let own : lone_block g n ≡ Some (length labels) = ap (λ c. if c then Some (own_block g n) else None) live ∙ ap Some (sym r.count) in
    record {
      all = (let a = ap length eb in let b = length-append block (Some (length labels) ∷ []) in let d = r.all in omega (arith, a, b, d));
      count = (
          let a = ap length el in
          let b = length-append labels (l ∷ []) in
          let d = r.count in
          let e = count_next n (is_live g) in
          let f : bit_of (is_live g n) ≡ 1 = ap bit_of live in
          omega (arith, a, b, d, e, f));
      blocks = λ m k. ap (λ bs. at bs m) eb ∙ at_pushed block (Some (length labels)) (lone_block g) n r.all own r.blocks m k;
      labelled = λ m t k h. ap (λ ls. slice_get ls (own_block g m)) el ∙ elim (cases_lt m n) [
        | inl below ↦ get_left labels (l ∷ []) (own_block g m) t (r.labelled m t below h)
        | inr past ↦ (
            let same : n ≡ m = omega (arith, k, past) in
            let last : own_block g m ≡ length labels = ap (own_block g) (sym same) ∙ sym r.count in
            ap (slice_get (labels ++ l ∷ [])) last ∙ get_seam labels l ∙ sym named ∙ ap (label_number g) same ∙ h)
      ];
    }

-- one more node that is gone
pub lone_gone : (g : Graph) (n : ℕ) (block block2 : List (Option ℕ)) (labels labels2 : List ℕ) → AreLoneBelow g n block labels → is_live g n ≡ false
    → block2 ≡ block ++ None ∷ [] → labels2 ≡ labels → AreLoneBelow g (n + 1) block2 labels2
lone_gone g n block block2 labels labels2 r gone eb el =
    let own : lone_block g n ≡ None = ap (λ c. if c then Some (own_block g n) else None) gone in
    record {
      all = (let a = ap length eb in let b = length-append block (None ∷ []) in let d = r.all in omega (arith, a, b, d));
      count = (
          let a = ap length el in
          let d = r.count in
          let e = count_next n (is_live g) in
          let f : bit_of (is_live g n) ≡ 0 = ap bit_of gone in
          omega (arith, a, d, e, f));
      blocks = λ m k. ap (λ bs. at bs m) eb ∙ at_pushed block None (lone_block g) n r.all own r.blocks m k;
      labelled = λ m t k h. ap (λ ls. slice_get ls (own_block g m)) el ∙ elim (cases_lt m n) [
        | inl below ↦ r.labelled m t below h
        | inr past ↦ (
            let same : m ≡ n = omega (arith, k, past) in
            absurd (true≢false (sym (labelled_live g m t h) ∙ ap (is_live g) same ∙ gone)))
      ];
    }

pub few_before : (g : Graph) (n : ℕ) → own_block g n ≤ n
few_before g n = count_few n (is_live g)

-- what the lists say, in tables
pub blocks_within : (g : Graph) (n : ℕ) (block : List (Option ℕ)) (labels : List ℕ) → AreLoneBelow g n block labels → (m b : ℕ) → at block m ≡ Some b → m < n
blocks_within g n block labels r m b h = elim (cases_lt m n) [
  | inl l ↦ l
  | inr past ↦ (
      let d = r.all in
      absurd (true≢false (sym (ap is_some h) ∙ ap is_some (get_or_past block m None (omega (arith, past, d))))))
]

pub numbers_within : (g : Graph) (n : ℕ) (block : List (Option ℕ)) (labels : List ℕ) → AreLoneBelow g n block labels → (m b : ℕ) → at block m ≡ Some b → b < length labels
numbers_within g n block labels r m b h =
    let l = blocks_within g n block labels r m b h in
    by (is_live g m) refl l
  where
    some_same : (x y : ℕ) → Some x ≡ Some y → x ≡ y
    some_same x y e = ap (λ o. get_some o) e
      where
        get_some : Option ℕ → ℕ
        get_some None = 0
        get_some (Some k) = k

    by : (c : Bool) → is_live g m ≡ c → m < n → b < length labels
    by true e l =
        let own : at block m ≡ Some (own_block g m) = r.blocks m l ∙ ap (λ c. if c then Some (own_block g m) else None) e in
        let same : b ≡ own_block g m = some_same b (own_block g m) (sym h ∙ own) in
        let later = count_later (is_live g) m n l e in
        let d = r.count in
        omega (arith, same, later, d)
    by false e l = absurd (true≢false (sym (ap is_some h) ∙ ap is_some (r.blocks m l ∙ ap (λ c. if c then Some (own_block g m) else None) e)))

past_gone : (g : Graph) (n : ℕ) → length g.allocated ≤ n → lone_block g n ≡ None
past_gone g n h = ap (λ c. if c then Some (own_block g n) else None) gone
  where
    gone : is_live g n ≡ false
    gone = ap (λ o. is_some (option_and_then (λ l. l) o)) (none_past g.allocated n h)
      where
        none_past : (xs : List (Option (List ℕ))) (i : ℕ) → length xs ≤ i → slice_get xs i ≡ None
        none_past [] i h = refl
        none_past (x ∷ xs) zero h = absurd (omega (arith, h))
        none_past (x ∷ xs) (suc i) h = none_past xs i (omega (arith, h))

pub is_lone : (g : Graph) (block : List (Option ℕ)) (labels : List ℕ) (p : Partition) → AreLoneBelow g (length g.allocated) block labels
    → SameBlocks p.block_of block → HaveLabels p labels → IsLone g p
is_lone g block labels p r same have = record {
  block = λ n. same n ∙ elim (cases_lt n (length g.allocated)) [
    | inl l ↦ r.blocks n l
    | inr past ↦ (let d = r.all in get_or_past block n None (omega (arith, past, d)) ∙ sym (past_gone g n past))
  ];
  labelled = λ n l h. have (own_block g n) ∙ elim (cases_lt n (length g.allocated)) [
    | inl below ↦ r.labelled n l below h
    | inr past ↦ absurd (true≢false (sym (ap is_some (ap (λ c. if c then Some (own_block g n) else None) (labelled_live g n l h))) ∙ ap is_some (past_gone g n past)))
  ];
}
