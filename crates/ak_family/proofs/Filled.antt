-- What a quotient says whose tables were filled from a level.
use Rattle.std.proofs.Common.{◌≡◌, ℕ, ◌<◌, List, length, Option, Some, is_some, sym, ◌∙◌, ap, inl, inr, slice_get, nat_lt}
use Rattle.std.specs.Prelude.{option_and_then}
use Rattle.std.proofs.lemmas.Bool.{lt-ltb, le-ltb}
use Rattle.std.proofs.lemmas.Option.{slice_get_within, slice_get_cases}
use Rattle.graph_spec.specs.Graphs.{Graph, IsGraph, label_of}
use Rattle.graph_spec.specs.Shapes.{Shape, shape_of}
use Rattle.label_graph.proofs.Viewed.{viewed_shape}
use Rattle.graph_spec.specs.Members.{at}
use Rattle.block_partition.specs.LabelledPartitions.{Partition}
use Rattle.block_partition.specs.FilledTables.{HaveLabels, SameBlocks}
use Rattle.bisim_spec.specs.Partitions.{IsPartition}
use Rattle.bisim_spec.specs.IndexGraphs.{ViewFits}
use Rattle.bisim_spec.proofs.Bisimilar.{some_of, is_some_at}
use Rattle.quotient.specs.Quotients.{AreSupports, Quotient, view_of}
use Rattle.key_table.specs.NumberedKeys.{AreDistinct}
use Rattle.label_graph.specs.GraphViews.{label_number}
use Rattle.keyed_quotient.specs.KeyedQuotients.{AreKeyed}
use Rattle.ak_family.specs.BlockLabels.{BlocksHaveListedLabels}

is_some_get : {X : Type 0} (xs : List X) (b : ℕ) → is_some (slice_get xs b) ≡ nat_lt b (length xs)
is_some_get xs b = elim (slice_get_cases xs b).1 [
  | inl (x, within, at, read) ↦ ap is_some at ∙ sym (lt-ltb b (length xs) within)
  | inr (past, none) ↦ ap is_some none ∙ sym (le-ltb b (length xs) past)
]

-- the blocks are numbered as the keys are
pub filled_keyed : (p : Partition) (labels : List ℕ) (keys : List (List ℕ)) → HaveLabels p labels → length labels ≡ length keys → AreDistinct keys → AreKeyed p.labels (slice_get keys)
filled_keyed p labels keys have count distinct = record {
  exactly = λ b. is_some_get keys b ∙ ap (nat_lt b) (sym count) ∙ sym (is_some_get labels b) ∙ sym (ap is_some (have b));
  apart = distinct.apart;
}

-- keys that are the same
pub keyed_as : (labels : List (Option ℕ)) (key key2 : ℕ → Option (List ℕ)) → ((b : ℕ) → key2 b ≡ key b) → AreKeyed labels key → AreKeyed labels key2
keyed_as labels key key2 same k = record {
  exactly = λ b. ap is_some (same b) ∙ k.exactly b;
  apart = λ b c x e f. k.apart b c x (sym (same b) ∙ e) (sym (same c) ∙ f);
}

-- each block has the label of its members
pub filled_labels : (g : Graph) (block : List (Option ℕ)) (labels : List ℕ) (q : Quotient) → BlocksHaveListedLabels g block labels → SameBlocks q.blocks.block_of block → HaveLabels q.blocks labels
    → (n b : ℕ) → at q.blocks.block_of n ≡ Some b → at q.blocks.labels b ≡ label_number g n
filled_labels g block labels q is same have n b e = (let l = is n b (sym (same n) ∙ e) in have b ∙ l.1 ∙ sym l.2)

-- the quotient is one of the graph
pub filled_fits : (g : Graph) (block : List (Option ℕ)) (labels : List ℕ) (q : Quotient) → IsGraph g → IsPartition (shape_of g) block → BlocksHaveListedLabels g block labels
    → ((b : ℕ) → b < length labels → (n : ℕ) × (at block n ≡ Some b)) → SameBlocks q.blocks.block_of block → HaveLabels q.blocks labels
    → AreSupports g.edges q.blocks.block_of q.supports → ViewFits g (view_of q)
filled_fits g block labels q s p is inhabited same have counted = record {
  inhabited = λ b h.
      let l = some_of (slice_get labels b) (sym (ap is_some (have b)) ∙ h) in
      let n = inhabited b (slice_get_within labels b l.0 l.1) in
      (n.0, same n.0 ∙ n.1);
  labelled = λ n b e.
      let here : at block n ≡ Some b = sym (same n) ∙ e in
      let l = is n b here in
      let t = some_of (label_of g n) (p.only n (is_some_at (at block n) b here)) in
      let seen : slice_get g.seen l.0 ≡ label_of g n = sym (ap (option_and_then (slice_get g.seen)) l.2) ∙ ap (λ (x : Shape). x.label n) (viewed_shape g s) in
      (l.0, t.0, have b ∙ l.1, seen ∙ t.1, t.1);
  supports = counted;
}
