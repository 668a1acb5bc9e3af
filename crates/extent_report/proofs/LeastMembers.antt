-- The least members of blocks.
use Rattle.std.proofs.Common.{◌≡◌, ◌≢◌, ℕ, ◌<◌, List, [], ◌∷◌, ◌++◌, length, get_or, Option, Some, None, is_some, refl, sym, ◌∙◌, ap, arith, inl, inr, true, false, Bool, ◌||◌, ◌&&◌, not, true≢false}
use Rattle.std.specs.Prelude.{nat_eq, option_and_then}
use Rattle.std.specs.List.Sorted.{IsStrictlyIncreasing}
use Rattle.std.proofs.lemmas.Bool.{or_left, cases_lt, cases_Bool}
use Rattle.std.proofs.lemmas.Bool.Decides.{eqb_tells}
use Rattle.graph_spec.specs.Words.{node_word}
use Rattle.graph_spec.specs.Members.{at, has, is_this}
use Rattle.block_partition.specs.LabelledPartitions.{Partition, is_member}
use Rattle.bisim_spec.specs.Below.{any_below}
use Rattle.bisim_spec.specs.Tests.{together}
use Rattle.bisim_spec.proofs.BelowLaws.{any_get, any_from}
use Rattle.bisim_spec.proofs.Together.{block_below}
use Rattle.extent_report.specs.ListedBlocks.{texts_below}
use Rattle.extent_report.specs.MemberChains.{is_first_member, word_with}
use Rattle.extent_report.specs.FirstMembers.{is_head, first_member_block}
use Rattle.extent_report.proofs.Chained.{with_is_of}
use Rattle.extent_report.proofs.NumberedTexts.{any_same}
use Rattle.extent_report.proofs.NodeWords.{begun_block}
use Rattle.graph_spec.proofs.MemberLaws.{has_push}
use Rattle.extent_report.proofs.RisingLists.{texts_listed, flat_same, none_before}
use Rattle.std.specs.List.{flat_map, list_any}

-- the first number of a list, if it is put behind others
pub head_pushed : (members list now : List ℕ) (v d : ℕ) → 0 < length members → v ≡ get_or members 0 d → now ≡ list ++ v ∷ [] → (n : ℕ) → has now n ≡ (is_head members n || has list n)
head_pushed [] list now v d l e is n = absurd (omega (arith, l))
head_pushed (x ∷ xs) list now v d l e is n = ap (λ l. has l n) is ∙ has_push list v n ∙ ap (λ w. has list n || nat_eq n w) e ∙ swap (has list n) (nat_eq n x)
  where
    swap : (a b : Bool) → (a || b) ≡ (b || a)
    swap true true = refl
    swap true false = refl
    swap false true = refl
    swap false false = refl

pub head_none : (members : List ℕ) (n : ℕ) → length members ≡ 0 → is_head members n ≡ false
head_none [] n e = refl
head_none (x ∷ xs) n e = absurd (omega (arith, e))

-- the first of rising numbers is the least
pub head_least : (q : ℕ → Bool) (xs : List ℕ) → IsStrictlyIncreasing xs → ((n : ℕ) → has xs n ≡ q n) → (n : ℕ) → is_head xs n ≡ (q n && not (any_below n q))
head_least q [] r h n = ap (λ b. b && not (any_below n q)) (h n)
head_least q (x ∷ xs) r h n = elim (eqb_tells n x) [
  | inl same ↦ (
      let on : q n ≡ true = sym (h n) ∙ or_left (nat_eq n x) (has xs n) same.0 in
      let none : any_below n q ≡ false = elim (cases_Bool (any_below n q)) [
        | inl some ↦ absurd (
            let k = any_get n q some in
            let l = k.1 in
            let e = same.1 in
            true≢false (sym k.2 ∙ sym (h k.0) ∙ none_before x xs k.0 r (omega (arith, l, e))))
        | inr off ↦ off
      ] in
      same.0 ∙ sym (ap (λ b. b && not (any_below n q)) on ∙ ap not none))
  | inr apart ↦ apart.0 ∙ sym (other (q n) refl apart.1)
]
  where
    at_x : q x ≡ true
    at_x = sym (h x) ∙ or_left (nat_eq x x) (has xs x) (elim (eqb_tells x x) [ inl s ↦ s.0 | inr d ↦ absurd (d.1 refl) ])

    other : (b : Bool) → q n ≡ b → n ≢ x → (b && not (any_below n q)) ≡ false
    other false e d = refl
    other true e d = elim (cases_lt x n) [
      | inl above ↦ ap not (any_from n q x above at_x)
      | inr past ↦ absurd (true≢false (sym (h n ∙ e) ∙ none_before x xs n r (omega (arith, past, d))))
    ]

-- the first of a block's members is the block's least one
pub least_is : (p : Partition) (b : ℕ) (members shown : List ℕ) → is_some (at p.labels b) ≡ true → IsStrictlyIncreasing members
    → ((k : ℕ) → has members k ≡ is_member p b k) → shown ≡ members → (n : ℕ) → is_head shown n ≡ first_member_block p b n
least_is p b members shown live rising same is n =
    ap (λ l. is_head l n) is ∙ head_least (is_member p b) members rising same n
    ∙ ap (λ t. t && (is_member p b n && not (any_below n (is_member p b)))) (sym live)

-- if one number alone may pass, it decides
any_only : (xs : List ℕ) (c : ℕ) (f : ℕ → Bool) → ((b : ℕ) → b ≢ c → f b ≡ false) → list_any f xs ≡ (has xs c && f c)
any_only [] c f h = refl
any_only (x ∷ xs) c f h = elim (eqb_tells c x) [
  | inl same ↦
      ap (λ b. b || list_any f xs) (ap f (sym same.1)) ∙ ap (λ b. f c || b) (any_only xs c f h)
      ∙ once (f c) (has xs c) ∙ sym (ap (λ b. (b || has xs c) && f c) same.0)
  | inr apart ↦
      ap (λ b. b || list_any f xs) (h x (λ e. apart.1 (sym e))) ∙ any_only xs c f h ∙ sym (ap (λ b. (b || has xs c) && f c) apart.0)
]
  where
    once : (a b : Bool) → (a || (b && a)) ≡ a
    once true b = refl
    once false true = refl
    once false false = refl

none_any : (xs : List ℕ) (f : ℕ → Bool) → ((b : ℕ) → f b ≡ false) → list_any f xs ≡ false
none_any [] f h = refl
none_any (x ∷ xs) f h = ap (λ b. b || list_any f xs) (h x) ∙ none_any xs f h

and_none : (a : Bool) → (a && false) ≡ false
and_none true = refl
and_none false = refl

and_same : (a b : Bool) → (a && (a && b)) ≡ (a && b)
and_same true b = refl
and_same false b = refl

-- a node are first its block exactly if it is the least member of some block
pub first_member_some : (p : Partition) (live : List ℕ) (n : ℕ) → ((b : ℕ) → has live b ≡ is_some (at p.labels b)) → list_any (λ b. first_member_block p b n) live ≡ is_first_member p n
first_member_some p live n all = by (at p.block_of n) refl
  where
    rest : ℕ → Bool
    rest b = not (any_below n (is_member p b))

    block_at : (b : ℕ) (o : Option ℕ) → at p.block_of n ≡ o → first_member_block p b n ≡ (is_some (at p.labels b) && (is_this b o && rest b))
    block_at b o e = ap (λ m. is_some (at p.labels b) && (is_this b m && rest b)) e

    no_block : (b : ℕ) (t : Bool) → t ≡ false → (is_some (at p.labels b) && (t && rest b)) ≡ false
    no_block b t e = ap (λ m. is_some (at p.labels b) && (m && rest b)) e ∙ and_none (is_some (at p.labels b))

    own_block : (c : ℕ) (t : Bool) → t ≡ true → (is_some (at p.labels c) && (t && rest c)) ≡ (is_some (at p.labels c) && rest c)
    own_block c t e = ap (λ m. is_some (at p.labels c) && (m && rest c)) e

    first_member_at : (o : Option ℕ) → at p.block_of n ≡ o → is_first_member p n ≡ (is_some (option_and_then (at p.labels) o) && not (any_below n (together p.block_of n)))
    first_member_at o e = ap (λ m. is_some (option_and_then (at p.labels) m) && not (any_below n (together p.block_of n))) e

    by : (o : Option ℕ) → at p.block_of n ≡ o → list_any (λ b. first_member_block p b n) live ≡ is_first_member p n
    by None e = none_any live (λ b. first_member_block p b n) (λ b. block_at b None e ∙ no_block b false refl) ∙ sym (first_member_at None e)
    by (Some c) e =
        let apart : (b : ℕ) → b ≢ c → nat_eq b c ≡ false = λ b d. elim (eqb_tells b c) [ inl s ↦ absurd (d s.1) | inr a ↦ a.0 ] in
        let same : nat_eq c c ≡ true = elim (eqb_tells c c) [ inl s ↦ s.0 | inr a ↦ absurd (a.1 refl) ] in
        let equal : any_below n (is_member p c) ≡ any_below n (together p.block_of n) = any_same n (is_member p c) (together p.block_of n) (λ k _. sym (with_is_of p.block_of n c k e)) in
        any_only live c (λ b. first_member_block p b n) (λ b d. block_at b (Some c) e ∙ no_block b (nat_eq b c) (apart b d))
        ∙ ap (λ m. m && first_member_block p c n) (all c)
        ∙ ap (λ m. is_some (at p.labels c) && m) (block_at c (Some c) e ∙ own_block c (nat_eq c c) same)
        ∙ and_same (is_some (at p.labels c)) (rest c)
        ∙ ap (λ m. is_some (at p.labels c) && not m) equal
        ∙ sym (first_member_at (Some c) e)

-- a node that is first in its block has a number that was allocated
pub begun_below : (p : Partition) (n : ℕ) → is_first_member p n ≡ true → n < length p.block_of
begun_below p n h = block_below p.block_of n (begun_block p n h)

-- the members of the block of a node, as they are written
pub words_listed : (p : Partition) (n b : ℕ) (members : List ℕ) → at p.block_of n ≡ Some b → IsStrictlyIncreasing members → ((k : ℕ) → has members k ≡ is_member p b k)
    → flat_map (λ k. 32 ∷ node_word k) members ≡ texts_below (length p.block_of) (word_with p.block_of n)
words_listed p n b members e r same =
    let with : (k : ℕ) → has members k ≡ together p.block_of n k = λ k. same k ∙ sym (with_is_of p.block_of n b k e) in
    flat_same (λ k. 32 ∷ node_word k) (word_with p.block_of n) members (λ k h. sym (spoken k (sym (with k) ∙ h)))
    ∙ sym (texts_listed (word_with p.block_of n) (length p.block_of) members r (λ k h. member_below k (sym (same k) ∙ h)) (λ k h. silent k (sym (with k) ∙ h)))
  where
    spoken : (k : ℕ) → together p.block_of n k ≡ true → word_with p.block_of n k ≡ 32 ∷ node_word k
    spoken k h = rw h refl

    silent : (k : ℕ) → together p.block_of n k ≡ false → word_with p.block_of n k ≡ []
    silent k h = rw h refl

    member_below : (k : ℕ) → is_member p b k ≡ true → k < length p.block_of
    member_below k h = block_below p.block_of k (live (at p.block_of k) h)
      where
        live : (o : Option ℕ) → is_this b o ≡ true → is_some o ≡ true
        live None h = absurd (true≢false (sym h))
        live (Some c) h = refl
