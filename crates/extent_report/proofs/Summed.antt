-- What a summary alone says of the lists, in terms of its blocks.
use Rattle.std.proofs.Common.{◌≡◌, ℕ, zero, suc, ◌<◌, List, [], ◌∷◌, ◌++◌, length, Option, Some, None, is_some, unwrap_or, refl, sym, ◌∙◌, ap, arith, true, false, Bool, not, ◌&&◌, cond, append_assoc}
use Rattle.std.specs.Prelude.{codes, decimal, option_and_then, slice_get}
use Rattle.std.proofs.lemmas.Bool.{and_parts}
use Rattle.graph_spec.specs.Words.{node_word}
use Rattle.graph_spec.specs.Members.{at}
use Rattle.block_partition.specs.LabelledPartitions.{Partition}
use Rattle.bisim_spec.specs.Below.{any_below, count_below}
use Rattle.bisim_spec.specs.Tests.{together}
use Rattle.bisim_spec.proofs.BelowLaws.{count_same}
use Rattle.extent_report.specs.ListedBlocks.{texts_below, is_related, is_first, block_line, block_total, extents_text}
use Rattle.extent_report.specs.Summaries.{label_at, shape_of_blocks, LabelsHaveTexts, line_at}
use Rattle.extent_report.specs.MemberChains.{is_first_member, word_with}
use Rattle.extent_report.proofs.NumberedTexts.{texts_same, any_same}
use Rattle.extent_report.proofs.NodeWords.{in_one}

there : (texts : List (List ℕ)) (l : ℕ) → l < length texts → is_some (slice_get texts l) ≡ true
there [] l h = absurd (omega (arith, h))
there (t ∷ texts) zero h = refl
there (t ∷ texts) (suc l) h = there texts l (omega (arith, h))

-- a block's label has a text
texted : (texts : List (List ℕ)) (p : Partition) → LabelsHaveTexts texts p → (n : ℕ) → is_some ((shape_of_blocks texts p).label n) ≡ is_some (label_at p n)
texted texts p h n = by (at p.block_of n)
  where
    label : (o : Option ℕ) → ((l : ℕ) → o ≡ Some l → l < length texts) → is_some (option_and_then (slice_get texts) o) ≡ is_some o
    label None k = refl
    label (Some l) k = there texts l (k l refl)

    by : (o : Option ℕ) → is_some (option_and_then (slice_get texts) (option_and_then (at p.labels) o)) ≡ is_some (option_and_then (at p.labels) o)
    by None = refl
    by (Some b) = label (at p.labels b) (h b)

-- nodes in one block have one label
label_with : (p : Partition) (n m : ℕ) → together p.block_of n m ≡ true → is_some (label_at p m) ≡ is_some (label_at p n)
label_with p n m h = ap (λ o. is_some (option_and_then (at p.labels) o)) (in_one p.block_of n m h)

guarded : (a b c : Bool) → (c ≡ true → a ≡ b) → (a && c) ≡ (b && c)
guarded a b true h = ap (λ x. x && true) (h refl)
guarded true true false h = refl
guarded true false false h = refl
guarded false true false h = refl
guarded false false false h = refl

related_is : (texts : List (List ℕ)) (p : Partition) → LabelsHaveTexts texts p → (n m : ℕ)
    → is_related (shape_of_blocks texts p) (together p.block_of) n m ≡ (is_some (label_at p n) && together p.block_of n m)
related_is texts p h n m =
    guarded (is_some ((shape_of_blocks texts p).label m)) (is_some (label_at p n)) (together p.block_of n m) (λ t. texted texts p h m ∙ label_with p n m t)

-- the first node of a block are first it
pub first_leads : (texts : List (List ℕ)) (p : Partition) → LabelsHaveTexts texts p → (n : ℕ) → is_first (shape_of_blocks texts p) (together p.block_of) n ≡ is_first_member p n
first_leads texts p h n =
    ap (λ b. b && not (any_below n (is_related (shape_of_blocks texts p) (together p.block_of) n))) (texted texts p h n)
    ∙ ap (λ b. is_some (label_at p n) && not b) (any_same n (is_related (shape_of_blocks texts p) (together p.block_of) n) (λ m. is_some (label_at p n) && together p.block_of n m) (λ m _. related_is texts p h n m))
    ∙ by (is_some (label_at p n))
  where
    by : (b : Bool) → (b && not (any_below n (λ m. b && together p.block_of n m))) ≡ (b && not (any_below n (together p.block_of n)))
    by true = refl
    by false = refl

pub total_begun : (texts : List (List ℕ)) (p : Partition) → LabelsHaveTexts texts p → block_total (shape_of_blocks texts p) (together p.block_of) ≡ count_below (length p.block_of) (is_first_member p)
total_begun texts p h = count_same (length p.block_of) (is_first (shape_of_blocks texts p) (together p.block_of)) (is_first_member p) (λ n _. first_leads texts p h n)

-- the line of a block that has a first member
pub line_begun : (texts : List (List ℕ)) (p : Partition) → LabelsHaveTexts texts p → (n b l : ℕ) (t : List ℕ) → is_first_member p n ≡ true → at p.block_of n ≡ Some b → at p.labels b ≡ Some l → slice_get texts l ≡ Some t
    → block_line (shape_of_blocks texts p) (together p.block_of) n ≡ t ++ texts_below (length p.block_of) (word_with p.block_of n) ++ 10 ∷ []
line_begun texts p h n b l t begun e f g =
    let s = shape_of_blocks texts p in
    let own : s.label n ≡ Some t = ap (λ o. option_and_then (slice_get texts) (option_and_then (at p.labels) o)) e ∙ ap (option_and_then (slice_get texts)) f ∙ g in
    let some : is_some (label_at p n) ≡ true = (and_parts (is_some (label_at p n)) (not (any_below n (together p.block_of n))) begun).0 in
    let word : ℕ → List ℕ = λ m. cond (is_related s (together p.block_of) n m) (32 ∷ node_word m) [] in
    ap (λ o. unwrap_or o [] ++ texts_below (length p.block_of) word ++ 10 ∷ []) own
    ∙ ap (λ w. t ++ w ++ 10 ∷ []) (texts_same (length p.block_of) word (word_with p.block_of n) (λ m _.
    ap (λ c. cond c (32 ∷ node_word m) []) (related_is texts p h n m ∙ ap (λ c. c && together p.block_of n m) some)))

pub line_at_begun : (texts : List (List ℕ)) (p : Partition) → LabelsHaveTexts texts p → (n : ℕ) → is_first_member p n ≡ true → line_at texts p n ≡ block_line (shape_of_blocks texts p) (together p.block_of) n
line_at_begun texts p h n begun = rw (first_leads texts p h n ∙ begun) refl

pub line_at_other : (texts : List (List ℕ)) (p : Partition) → LabelsHaveTexts texts p → (n : ℕ) → is_first_member p n ≡ false → line_at texts p n ≡ []
line_at_other texts p h n begun = rw (first_leads texts p h n ∙ begun) refl

-- the text, written by the blocks that nodes begin
pub text_begun : (texts : List (List ℕ)) (p : Partition) → LabelsHaveTexts texts p
    → extents_text (shape_of_blocks texts p) (together p.block_of)
    ≡ codes "blocks " ++ decimal (count_below (length p.block_of) (is_first_member p)) ++ 10 ∷ texts_below (length p.block_of) (line_at texts p)
text_begun texts p h = ap (λ n. codes "blocks " ++ decimal n ++ 10 ∷ texts_below (length p.block_of) (line_at texts p)) (total_begun texts p h)

-- what was written, first the number of blocks and then their lines
pub gathered : (texts : List (List ℕ)) (p : Partition) → LabelsHaveTexts texts p → (n : ℕ) (a b z : List ℕ) → n ≡ count_below (length p.block_of) (is_first_member p)
    → a ≡ [] → b ≡ a ++ (codes "blocks " ++ decimal n ++ 10 ∷ []) → z ≡ b ++ texts_below (length p.block_of) (line_at texts p)
    → z ≡ extents_text (shape_of_blocks texts p) (together p.block_of)
gathered texts p h n a b z count empty first rest =
    let lines = texts_below (length p.block_of) (line_at texts p) in
    rest
    ∙ ap (λ t. t ++ lines) (first ∙ ap (λ t. t ++ (codes "blocks " ++ decimal n ++ 10 ∷ [])) empty)
    ∙ append_assoc (codes "blocks " ++ decimal n) (10 ∷ []) lines
    ∙ ap (λ m. codes "blocks " ++ decimal m ++ 10 ∷ lines) count
    ∙ sym (text_begun texts p h)
