-- The edges at a node that steps leave there.
use Rattle.std.specs.Prelude.{ℕ, ◌+◌, ◌-◌, ◌&&◌, not, Bool, if◌then◌else◌}
use Rattle.std.specs.FinSet as set
use Rattle.graph_spec.specs.Graphs.{Graph, has_edge}
use Rattle.change_spec.specs.Steps.{Step, node, link, unlink, drop, relabel, touches}

-- the edge is at the node, and neither of its ends is gone
abbrev pub stays_at : ℕ → (ℕ → Bool) → ℕ × ℕ → Bool
stays_at u gone e = touches u e && (not (gone e.0) && not (gone e.1))

-- how many edges of the graph are at the node, with neither of their ends gone
abbrev pub staying : Graph → ℕ → (ℕ → Bool) → ℕ
staying g u gone = set.len (set.retain g.edges (stays_at u gone))

-- 1 if it holds, else 0
abbrev pub one_for : Bool → ℕ
one_for b = if b then 1 else 0

-- how many edges of the graph at the node a step takes away with another node
abbrev pub lost_by : Graph → ℕ → Step → ℕ
lost_by g u (node t) = 0
lost_by g u (link a b) = 0
lost_by g u (unlink a b) = 0
lost_by g u (drop w) = one_for (has_edge g u w) + one_for (has_edge g w u)
lost_by g u (relabel w t) = 0

-- how many edges that stay at the node come with a step
abbrev pub gained_by : Graph → ℕ → (ℕ → Bool) → Step → ℕ
gained_by h u gone (node t) = 0
gained_by h u gone (link a b) = one_for (stays_at u gone (a, b) && not (has_edge h a b))
gained_by h u gone (unlink a b) = 0
gained_by h u gone (drop w) = 0
gained_by h u gone (relabel w t) = 0

-- and how many go, though both ends stay
abbrev pub cut_by : ℕ → (ℕ → Bool) → Step → ℕ
cut_by u gone (node t) = 0
cut_by u gone (link a b) = 0
cut_by u gone (unlink a b) = one_for (stays_at u gone (a, b))
cut_by u gone (drop w) = 0
cut_by u gone (relabel w t) = 0

-- the count behind a step, of the edges at the node whose ends all steps leave
abbrev pub counted_behind : Graph → ℕ → (ℕ → Bool) → Step → ℕ → ℕ
counted_behind h u gone s count = count + gained_by h u gone s - cut_by u gone s
