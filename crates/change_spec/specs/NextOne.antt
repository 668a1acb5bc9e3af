-- How the partition of the 1-index moves with a change that is a list of steps.
use Rattle.std.specs.Prelude.{◌≡◌, ◌↔◌, ℕ, List, [], ◌∷◌, Option, IsFalse}
use Rattle.graph_spec.specs.Graphs.{Graph}
use Rattle.graph_spec.specs.Shapes.{IsNode, shape_of}
use Rattle.bisim_spec.specs.Partitions.{Together}
use Rattle.bisim_spec.specs.Reach.{reach}
use Rattle.bisim_spec.specs.MinimalIndex.{IsMinimalIndex}
use Rattle.bisim_spec.specs.KeptBlocks.{HasOther}
use Rattle.change_spec.specs.Steps.{Step, node, link, unlink, drop, relabel, after}
use Rattle.change_spec.specs.Altered.{targets}

-- the step is a link or an unlink whose end has another parent in the block where its edge begins
abbrev pub StepKeepsParents : Step → Graph → List (Option ℕ) → Type 0
StepKeepsParents (node t) g2 block = ⊥
StepKeepsParents (link u v) g2 block = HasOther (shape_of g2) block u v
StepKeepsParents (unlink u v) g2 block = HasOther (shape_of g2) block u v
StepKeepsParents (drop u) g2 block = ⊥
StepKeepsParents (relabel u t) g2 block = ⊥

-- a change of one step that does so
abbrev pub KeepsParents : List Step → Graph → List (Option ℕ) → Type 0
KeepsParents [] g2 block = ⊥
KeepsParents (s ∷ []) g2 block = StepKeepsParents s g2 block
KeepsParents (s ∷ r ∷ ss) g2 block = ⊥

-- The change c leads from the graph g to g2, and the partition p of the one to p2 of the other. p2 is minimal. Nodes of both graphs
-- that the change doesn't reach are together in p2 exactly where they were in p. Where it is one step that keeps the parent blocks of
-- its target, so are all nodes. That the change is accepted is not said here.
pub record OneStep (g : Graph) (p : List (Option ℕ)) (c : List Step) (g2 : Graph) (p2 : List (Option ℕ)) : Type 0 where
  -- g2 is the graph after the steps
  pub made : g2 ≡ after c g
  -- p2 is stable, no two of its blocks can be merged, and on an acyclic graph it is full bisimilarity
  pub index : IsMinimalIndex (shape_of g2) p2
  -- two nodes of both graphs that the change doesn't reach are together exactly where they were
  pub outside : (u v : ℕ) → IsNode (shape_of g) u → IsNode (shape_of g) v → IsNode (shape_of g2) u → IsNode (shape_of g2) v
      → IsFalse (reach (shape_of g2) (targets c g) u) → IsFalse (reach (shape_of g2) (targets c g) v) → Together p2 u v ↔ Together p u v
  -- so are any two nodes of g2, where the change keeps the parent blocks of its target
  pub still : KeepsParents c g2 p → (u v : ℕ) → IsNode (shape_of g2) u → IsNode (shape_of g2) v → Together p2 u v ↔ Together p u v
