-- The nodes of a block, written along its chain.
use Rattle.std.proofs.Common.{◌≡◌, ℕ, ◌+◌, ◌<◌, List, [], ◌∷◌, ◌++◌, length, Option, Some, None, IsSome, is_some, refl, sym, ◌∙◌, ap, arith, inl, inr, true, false, not, true≢false}
use Rattle.std.specs.Prelude.{option_and_then}
use Rattle.std.proofs.lemmas.Bool.{and_parts, not-true}
use Rattle.graph_spec.specs.Words.{node_word}
use Rattle.graph_spec.specs.Members.{at}
use Rattle.block_partition.specs.LabelledPartitions.{Partition}
use Rattle.bisim_spec.specs.Below.{any_below}
use Rattle.bisim_spec.specs.Partitions.{Together}
use Rattle.bisim_spec.specs.Tests.{same_block, together}
use Rattle.bisim_spec.proofs.BelowLaws.{none_get}
use Rattle.bisim_spec.proofs.Bisimilar.{some_of, is_some_at, none_or_some}
use Rattle.bisim_spec.proofs.Together.{block_below}
use Rattle.bisim_spec.proofs.StabilityTests.{together_decides}
use Rattle.extent_report.specs.ListedBlocks.{texts_below}
use Rattle.extent_report.specs.Summaries.{label_at}
use Rattle.extent_report.specs.MemberChains.{IsLeastFrom, is_first_member, word_with}
use Rattle.extent_report.proofs.NumberedTexts.{texts_past, texts_more}

-- nodes in one block
pub in_one : (block : List (Option ℕ)) (u v : ℕ) → together block u v ≡ true → at block v ≡ at block u
in_one block u v h = let t : Together block u v = (together_decides block u v).0 h in let e = t.1 in let f = t.2 in cc

pub second_live : (block : List (Option ℕ)) (u v : ℕ) → together block u v ≡ true → IsSome (at block v)
second_live block u v h = let t : Together block u v = (together_decides block u v).0 h in is_some_at (at block v) t.0 t.2

row_same : (block : List (Option ℕ)) (u v k : ℕ) → together block u v ≡ true → together block v k ≡ together block u k
row_same block u v k h = ap (λ o. same_block o (at block k)) (in_one block u v h)

-- the next node that is written
pub record Next (block : List (Option ℕ)) (first last node : ℕ) : Type 0 where
  pub with : together block first node ≡ true
  pub rises : last < node
  pub within : node < length block
  pub written : texts_below (node + 1) (word_with block first) ≡ texts_below (last + 1) (word_with block first) ++ (32 ∷ node_word node)

silent : (block : List (Option ℕ)) (first k : ℕ) → together block first k ≡ false → word_with block first k ≡ []
silent block first k h = rw h refl

spoken : (block : List (Option ℕ)) (first k : ℕ) → together block first k ≡ true → word_with block first k ≡ 32 ∷ node_word k
spoken block first k h = rw h refl

pub word_next : (block : List (Option ℕ)) (first last node : ℕ) → together block first last ≡ true → IsLeastFrom (together block last) (last + 1) (Some node) → Next block first last node
word_next block first last node h l =
    let with_first : together block first node ≡ true = sym (row_same block first last node h) ∙ l.1 in
    let above = l.0 in record {
      with = with_first;
      rises = omega (arith, above);
      within = block_below block node (second_live block first node with_first);
      written =
          texts_more node (word_with block first)
          ∙ ap (λ t. t ++ word_with block first node) (texts_past (last + 1) node (word_with block first) above (λ k a b. silent block first k (sym (row_same block first last k h) ∙ l.2 k a b)))
          ∙ ap (λ t. texts_below (last + 1) (word_with block first) ++ t) (spoken block first node with_first);
    }

pub word_end : (block : List (Option ℕ)) (first last : ℕ) → together block first last ≡ true → IsLeastFrom (together block last) (last + 1) None
    → texts_below (length block) (word_with block first) ≡ texts_below (last + 1) (word_with block first)
word_end block first last h l =
    let within = block_below block last (second_live block first last h) in
    texts_past (last + 1) (length block) (word_with block first) (omega (arith, within)) (λ k a b. silent block first k (sym (row_same block first last k h) ∙ l k a))

-- the first node, which are first the others
pub begun_block : (p : Partition) (n : ℕ) → is_first_member p n ≡ true → IsSome (at p.block_of n)
begun_block p n h = elim (none_or_some (at p.block_of n)) [
  | inl none ↦ absurd (true≢false (sym (and_parts (is_some (label_at p n)) (not (any_below n (together p.block_of n))) h).0 ∙ ap (λ o. is_some (option_and_then (at p.labels) o)) none))
  | inr (b, e) ↦ is_some_at (at p.block_of n) b e
]

pub with_itself : (p : Partition) (n : ℕ) → is_first_member p n ≡ true → together p.block_of n n ≡ true
with_itself p n h = let b = some_of (at p.block_of n) (begun_block p n h) in (together_decides p.block_of n n).1 (b.0, b.1, b.1)

pub word_first : (p : Partition) (n : ℕ) → is_first_member p n ≡ true → texts_below (n + 1) (word_with p.block_of n) ≡ 32 ∷ node_word n
word_first p n h =
    let f = word_with p.block_of n in
    let alone = not-true (any_below n (together p.block_of n)) (and_parts (is_some (label_at p n)) (not (any_below n (together p.block_of n))) h).1 in
    texts_more n f
    ∙ ap (λ t. t ++ f n) (texts_past 0 n f (omega arith) (λ k a b. silent p.block_of n k (none_get n (together p.block_of n) alone k b)))
    ∙ spoken p.block_of n n (with_itself p n h)
