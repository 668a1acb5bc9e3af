-- A summary that fits a graph lists what the graph's own nodes and labels list.
use Rattle.std.proofs.Common.{◌≡◌, ℕ, ◌<◌, List, length, Option, None, IsSome, IsTrue, is_some, sym, ◌∙◌, ap, inl, inr, Bool, true≢false}
use Rattle.std.specs.Prelude.{option_and_then, slice_get}
use Rattle.std.proofs.lemmas.Option.{slice_get_within}
use Rattle.std.proofs.lemmas.Bool.Decides.{same_from_decides}
use Rattle.graph_spec.specs.Graphs.{Graph, label_of}
use Rattle.graph_spec.specs.Shapes.{IsNode, shape_of}
use Rattle.graph_spec.specs.Members.{at}
use Rattle.bisim_spec.specs.Partitions.{Together, Agrees}
use Rattle.bisim_spec.specs.Tests.{together}
use Rattle.bisim_spec.specs.IndexGraphs.{ViewFits}
use Rattle.bisim_spec.proofs.Bisimilar.{none_or_some, is_some_at}
use Rattle.bisim_spec.proofs.Together.{block_below}
use Rattle.bisim_spec.proofs.StabilityTests.{together_decides}
use Rattle.quotient.specs.Quotients.{Quotient, view_of}
use Rattle.extent_report.specs.ListedBlocks.{extents_text}
use Rattle.extent_report.specs.Summaries.{shape_of_blocks, IsSummaryOf}
use Rattle.extent_report.proofs.AgreeingShapes.{AreAlike, extents_alike}

none_not_some : {A : Type 0} (o : Option A) → o ≡ None → IsSome o → ⊥
none_not_some o e h = true≢false (sym h ∙ ap is_some e)

-- a node of a graph has a number that was allocated
pub allocated_below : (g : Graph) (n : ℕ) → IsNode (shape_of g) n → n < length g.allocated
allocated_below g n h = elim (none_or_some (slice_get g.allocated n)) [
  | inl none ↦ absurd (none_not_some (label_of g n) (ap (option_and_then (λ l. l)) none) h)
  | inr (o, e) ↦ slice_get_within g.allocated n o e
]

module _ (g : Graph) (q : Quotient) (r : ℕ → ℕ → Bool) (fits : ViewFits g (view_of q)) (agrees : Agrees (shape_of g) q.blocks.block_of (λ u v. IsTrue (r u v))) where
  -- the label of a node by its block is that of the graph
  pub labels_agree : (n : ℕ) → (shape_of_blocks g.seen q.blocks).label n ≡ label_of g n
  labels_agree n = elim (none_or_some (at q.blocks.block_of n)) [
    | inl none ↦ elim (none_or_some (label_of g n)) [
      | inl gone ↦ ap (λ o. option_and_then (slice_get g.seen) (option_and_then (at q.blocks.labels) o)) none ∙ sym gone
      | inr (t, e) ↦ absurd (none_not_some (at q.blocks.block_of n) none (agrees.partition.live n (is_some_at (label_of g n) t e)))
    ]
    | inr (b, e) ↦ (
        let l = fits.labelled n b e in
        ap (λ o. option_and_then (slice_get g.seen) (option_and_then (at q.blocks.labels) o)) e ∙ ap (option_and_then (slice_get g.seen)) l.2 ∙ l.3 ∙ sym l.4)
  ]

  own_node : (n : ℕ) → IsNode (shape_of_blocks g.seen q.blocks) n → IsNode (shape_of g) n
  own_node n h = sym (ap is_some (labels_agree n)) ∙ h

  own_block : (n : ℕ) → IsNode (shape_of_blocks g.seen q.blocks) n → IsSome (at q.blocks.block_of n)
  own_block n h = agrees.partition.live n (own_node n h)

  pub fit_alike : AreAlike (shape_of_blocks g.seen q.blocks) (shape_of g) (together q.blocks.block_of) r
  fit_alike = record {
    labels = labels_agree;
    below = λ n h. block_below q.blocks.block_of n (own_block n h);
    below_other = allocated_below g;
    related = λ u v hu hv.
        same_from_decides {P = Together q.blocks.block_of u v} (together q.blocks.block_of u v) (r u v) (together_decides q.blocks.block_of u v)
        (agrees.grouped u v (own_node u hu) (own_node v hv), agrees.related u v);
  }

-- the text of the members
pub listed_extents : (g : Graph) (q : Quotient) (r : ℕ → ℕ → Bool) (texts : List (List ℕ)) → IsSummaryOf g r q → g.seen ≡ texts
    → extents_text (shape_of_blocks texts q.blocks) (together q.blocks.block_of) ≡ extents_text (shape_of g) r
listed_extents g q r texts h seen =
    ap (λ t. extents_text (shape_of_blocks t q.blocks) (together q.blocks.block_of)) (sym seen) ∙ extents_alike (fit_alike g q r h.fits h.agrees)
