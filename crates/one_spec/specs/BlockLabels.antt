-- Blocks with the labels of their members.
use Rattle.std.specs.Prelude.{◌≡◌, ◌↔◌, ℕ, Bool, List, Option, Some, IsFalse}
use Rattle.graph_spec.specs.Members.{at}
use Rattle.graph_spec.specs.Shapes.{Shape}

-- each node has the label of its block
pub record BlocksHaveLabels (block : List (Option ℕ)) (labels node_labels : ℕ → Option ℕ) : Type 0 where
  -- the block of a node has a label, and the node has the same
  pub is : (n b : ℕ) → at block n ≡ Some b → (d : ℕ) × (labels b ≡ Some d) × (node_labels n ≡ Some d)

-- each node that doesn't pass has the label of its block
pub record BlocksHaveLabelsBut (off : ℕ → Bool) (block : List (Option ℕ)) (labels node_labels : ℕ → Option ℕ) : Type 0 where
  -- where the node doesn't pass, its block has a label, and the node has the same
  pub is : (n b : ℕ) → IsFalse (off n) → at block n ≡ Some b → (d : ℕ) × (labels b ≡ Some d) × (node_labels n ≡ Some d)

-- labels of blocks are equal exactly where those of their members are
pub record IsLabelled (s : Shape) (block : List (Option ℕ)) (labels : ℕ → Option ℕ) : Type 0 where
  -- two blocks with members have equal labels exactly where their members have
  pub same : (u v a b : ℕ) → at block u ≡ Some a → at block v ≡ Some b → labels a ≡ labels b ↔ s.label u ≡ s.label v
