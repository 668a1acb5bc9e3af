-- What is near some targets is near more of them.
use Rattle.std.proofs.Common.{◌≡◌, ℕ, zero, suc, Bool, true, inl, inr}
use Rattle.graph_spec.specs.Shapes.{Shape, IsShape}
use Rattle.bisim_spec.specs.Reach.{within_distance, reach}
use Rattle.bisim_spec.proofs.Reached.{within_cases, within_next, within_step}

pub near_wider : (s : Shape) → IsShape s → (from from2 : ℕ → Bool) → ((n : ℕ) → from n ≡ true → from2 n ≡ true) → (j n : ℕ) → within_distance s from j n ≡ true → within_distance s from2 j n ≡ true
near_wider s shape from from2 more zero n h = more n h
near_wider s shape from from2 more (suc j) n h = elim (within_cases s from j n h) [
  | inl e ↦ within_next s from2 j n (near_wider s shape from from2 more j n e)
  | inr (p, a, e) ↦ within_step s shape from2 j p n (near_wider s shape from from2 more j p a) e
]

pub reach_wider : (s : Shape) → IsShape s → (from from2 : ℕ → Bool) → ((n : ℕ) → from n ≡ true → from2 n ≡ true) → (n : ℕ) → reach s from n ≡ true → reach s from2 n ≡ true
reach_wider s shape from from2 more n h = near_wider s shape from from2 more s.size n h
