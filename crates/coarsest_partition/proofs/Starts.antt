-- The partition by labels, in tables.
use Rattle.std.proofs.Common.{◌≡◌, ℕ, zero, suc, ◌+◌, ◌<◌, ◌≤◌, List, [], ◌∷◌, ◌++◌, length, Option, Some, IsSome, refl, sym, ◌∙◌, ap, subst, arith, inl, inr, slice_get}
use Rattle.std.proofs.lemmas.Bool.{cases_lt}
use Rattle.std.proofs.lemmas.Option.{slice_get_within}
use Rattle.graph_spec.specs.Graphs.{Graph, IsGraph}
use Rattle.label_graph.specs.ViewLaws.{below_span}
use Rattle.graph_spec.specs.Members.{at}
use Rattle.bisim_spec.specs.Partitions.{IsPartition}
use Rattle.bisim_spec.proofs.Bisimilar.{some_of, none_or_some, is_some_at}
use Rattle.label_graph.specs.GraphViews.{label_number}
use Rattle.block_partition.specs.LabelledPartitions.{Partition}
use Rattle.bisim_levels.specs.NeighbourSides.{no_neighbours}
use Rattle.block_splitting.specs.Chosen.{HasFirst}
use Rattle.block_splitting.specs.Splits.{AreLabelled, AreInhabited}
use Rattle.block_partition.specs.FilledTables.{HaveLabels, SameBlocks}
use Rattle.graph_spec.specs.Shapes.{shape_of}
use Rattle.bisim_levels.specs.Numbering.{AreNumbered, AreBlocksBelow}
use Rattle.bisim_levels.proofs.LabelledNodes.{node_number}

pub nodes_below : (g : Graph) → IsGraph g → (block block2 : List (Option ℕ)) (size : ℕ) → block2 ≡ block → IsPartition (shape_of g) block → size ≡ length g.allocated
    → (n b : ℕ) → at block2 n ≡ Some b → n < size
nodes_below g s block block2 size same p is n b e =
    let l = below_span g n (node_number g s n (p.only n (is_some_at (at block n) b (ap (λ (bs : List (Option ℕ)). at bs n) (sym same) ∙ e)))) in
    omega (arith, l, is)

pub blocks_below : (block block2 : List (Option ℕ)) (count : ℕ) (labels labels2 : List ℕ) → block2 ≡ block → AreBlocksBelow block count → labels2 ≡ labels → length labels ≡ count
    → (n b : ℕ) → at block2 n ≡ Some b → b < length labels2
blocks_below block block2 count labels labels2 same w is long n b e =
    let few = w.below n b (ap (λ (bs : List (Option ℕ)). at bs n) (sym same) ∙ e) in
    let f = ap length is in
    omega (arith, few, f, long)

-- an empty key begins with no number
pub no_beginning : (key : List ℕ) (n r : ℕ) → key ≡ [] → HasFirst key n → r ≡ n
no_beginning key n r none e = absurd (let a = e.is in cc)

get_before : (xs : List ℕ) (x j n : ℕ) → slice_get xs j ≡ Some n → slice_get (xs ++ x ∷ []) j ≡ Some n
get_before [] x j n e = absurd (cc)
get_before (y ∷ ys) x zero n e = e
get_before (y ∷ ys) x (suc j) n e = get_before ys x j n e

get_here : (xs : List ℕ) (x j : ℕ) → j ≡ length xs → slice_get (xs ++ x ∷ []) j ≡ Some x
get_here xs x j e = ap (slice_get (xs ++ x ∷ [])) e ∙ get_end xs x
  where
    get_end : (ys : List ℕ) (y : ℕ) → slice_get (ys ++ y ∷ []) (length ys) ≡ Some y
    get_end [] y = refl
    get_end (z ∷ ys) y = get_end ys y

-- one more first number
pub first_more : (keys : List (List ℕ)) (i : ℕ) (first : List ℕ) (x : ℕ) (here : List ℕ) → length first ≡ i
    → ((b n : ℕ) (key : List ℕ) → b < i → slice_get keys b ≡ Some key → HasFirst key n → slice_get first b ≡ Some n)
    → slice_get keys i ≡ Some here → ((n : ℕ) → HasFirst here n → x ≡ n)
    → (b n : ℕ) (key : List ℕ) → b < i + 1 → slice_get keys b ≡ Some key → HasFirst key n → slice_get (first ++ x ∷ []) b ≡ Some n
first_more keys i first x here long before at begins b n key h e f = elim (cases_lt b i) [
  | inl l ↦ get_before first x b n (before b n key l e f)
  | inr past ↦ (
      let same : b ≡ i = omega (arith, h, past) in
      let keys_same : key ≡ here = (let a = ap (slice_get keys) same in cc) in
      get_here first x b (omega (arith, same, long)) ∙ ap Some (begins n (subst (λ k. HasFirst k n) keys_same f)))
]

pub first_all : (keys : List (List ℕ)) (i : ℕ) (first : List ℕ)
    → ((b n : ℕ) (key : List ℕ) → b < i → slice_get keys b ≡ Some key → HasFirst key n → slice_get first b ≡ Some n) → length keys ≤ i
    → (b n : ℕ) (key : List ℕ) → slice_get keys b ≡ Some key → HasFirst key n → slice_get first b ≡ Some n
first_all keys i first all end b n key e f = all b n key (let l = slice_get_within keys b key e in omega (arith, l, end)) e f

pub start_labelled : (g : Graph) (p : Partition) (block block2 : List (Option ℕ)) (keys : List (List ℕ)) (labels labels2 : List ℕ) → block2 ≡ block → labels2 ≡ labels → SameBlocks p.block_of block2 → HaveLabels p labels2
    → AreNumbered (label_number g) [] no_neighbours block (slice_get keys) → ((b n : ℕ) (key : List ℕ) → slice_get keys b ≡ Some key → HasFirst key n → slice_get labels b ≡ Some n) → AreLabelled g p
start_labelled g p block block2 keys labels labels2 eb el same have w first = record {
  each = λ n b e.
      let here : at block n ≡ Some b = ap (λ (bs : List (Option ℕ)). at bs n) (sym eb) ∙ sym (same n) ∙ e in
      elim (none_or_some (label_number g n)) [
        | inl none ↦ absurd (let f = w.none n none in cc)
        | inr (o, some) ↦ (
            let k = w.some n o some in
            let is = k.4 in
            let f = k.2 in
            let number : k.0 ≡ b = cc in
            have b ∙ ap (λ (ls : List ℕ). slice_get ls b) el ∙ ap (slice_get labels) (sym number) ∙ first k.0 is.number k.1 k.3 (record { around = is.around; is = is.is }) ∙ sym is.own_is)
      ];
}

pub start_inhabited : (p : Partition) (block block2 : List (Option ℕ)) (count : ℕ) (labels labels2 : List ℕ) → block2 ≡ block → labels2 ≡ labels → SameBlocks p.block_of block2 → HaveLabels p labels2
    → AreBlocksBelow block count → length labels ≡ count → AreInhabited p
start_inhabited p block block2 count labels labels2 eb el same have w long = record {
  each = λ b live.
      let l = some_of (slice_get labels b) (subst IsSome (have b ∙ ap (λ (ls : List ℕ). slice_get ls b) el) live) in
      let below = slice_get_within labels b l.0 l.1 in
      let n = w.inhabited b (omega (arith, below, long)) in
      (n.0, same n.0 ∙ ap (λ (bs : List (Option ℕ)). at bs n.0) eb ∙ n.1);
}
