-- The keys of a family that fits a graph are those of its nodes.
use Rattle.std.proofs.Common.{◌≡◌, ℕ, suc, ◌+◌, ◌<◌, ◌∷◌, List, length, Option, Some, None, is_some, IsSome, false, true≢false, refl, sym, ◌∙◌, ap}
use Rattle.graph_spec.specs.Graphs.{Graph, IsGraph}
use Rattle.graph_spec.specs.Shapes.{shape_of}
use Rattle.graph_spec.specs.Members.{at}
use Rattle.bisim_spec.specs.Partitions.{Agrees}
use Rattle.bisim_spec.specs.IndexGraphs.{ViewFits, support_at}
use Rattle.bisim_spec.proofs.Bisimilar.{some_of}
use Rattle.keyed_quotient.specs.KeyedQuotients.{KeyedQuotient, key_at}
use Rattle.bisim_spec.specs.declared.sides.Sides.{Sides}
use Rattle.bisim_spec.specs.SidedLevels.{AtLevel}
use Rattle.level_spec.proofs.SupportedKeys.{node_key}
use Rattle.ak_family.specs.Families.{level_at, blocks_at, AreNeighbourKeys, IsKeyedFamily, HaveSupportedKeys}

no_some : (o : Option ℕ) → is_some o ≡ false → o ≡ None
no_some None e = refl
no_some (Some x) e = absurd (true≢false e)

-- Where the view of a level fits, and it and the level below are of bisimilarity, the keys are those of the nodes.
pub neighbour_keys : (sides : Sides) (g : Graph) → IsGraph g → (f : List KeyedQuotient) (i : ℕ) → IsKeyedFamily f → HaveSupportedKeys sides f → (h : i + 1 < length f)
    → ViewFits g (record { block_of = blocks_at f (i + 1); labels = (level_at f (i + 1)).quotient.blocks.labels; supports = (level_at f (i + 1)).quotient.supports })
    → Agrees (shape_of g) (blocks_at f i) (AtLevel sides (shape_of g) i) → Agrees (shape_of g) (blocks_at f (i + 1)) (AtLevel sides (shape_of g) (suc i)) → AreNeighbourKeys sides g f i
neighbour_keys sides g graph f i family keys h fits a a2 =
    let w = keys.above i h in
    let key : ℕ → Option (List ℕ) = key_at (level_at f (i + 1)).keys in
    record {
      none = λ n e. no_some (at (blocks_at f (i + 1)) n) (w.nodes n ∙ ap is_some e);
      some = λ n c e.
          let live : IsSome (at (blocks_at f (i + 1)) n) = w.nodes n ∙ ap is_some e in
          let b = some_of (at (blocks_at f (i + 1)) n) live in
          let k = w.keyed n b.0 b.1 in (
            b.0,
            k.number ∷ k.around,
            b.1,
            k.is,
            node_key sides g graph (blocks_at f i) (blocks_at f (i + 1)) key (support_at (level_at f (i + 1)).quotient.supports) i (record { each = fits.supports }) a a2 w.keyed n b.0 b.1,
          );
      inhabited = λ b live. fits.inhabited b (sym ((family.keyed (i + 1) h).exactly b) ∙ live);
    }
