-- What holds of each graph whose labels are numbers of its table.
use Rattle.std.specs.Prelude.{◌≡◌, ℕ, ◌<◌, Bool, true, false, List, length, Option, None, Some, refl, IsTrue, IsSome, slice_get, is_some, option_and_then, position, bytes_eq, ◌&&◌}
use Rattle.std.proofs.Common.{sym, true≢false}
use Rattle.std.proofs.lemmas.Option.{slice_get_within}
use Rattle.graph_spec.specs.Graphs.{Graph, has_edge}
use Rattle.label_graph.specs.GraphViews.{label_number, is_linked}

within : (g : Graph) (n : ℕ) (l : Option (Option (List ℕ))) → slice_get g.allocated n ≡ l
    → IsSome (option_and_then (λ t. position (bytes_eq t) g.seen) (option_and_then (λ l. l) l)) → n < length g.allocated
within g n None e h = absurd (true≢false (sym h))
within g n (Some l) e h = slice_get_within g.allocated n l e

-- nodes are below the count of allocated numbers
pub below_span : (g : Graph) (n : ℕ) → IsSome (label_number g n) → n < length g.allocated
below_span g n h = within g n (slice_get g.allocated n) refl h

last_two : (a b c : Bool) → IsTrue (a && (b && c)) → IsTrue b × IsTrue c
last_two true true true h = (h, h)
last_two true true false h = absurd (true≢false (sym h))
last_two true false c h = absurd (true≢false (sym h))
last_two false b c h = absurd (true≢false (sym h))

-- both ends of a link are nodes
pub ends_seen : (g : Graph) (u v : ℕ) → IsTrue (is_linked g u v) → IsSome (label_number g u) × IsSome (label_number g v)
ends_seen g u v h = last_two (has_edge g u v) (is_some (label_number g u)) (is_some (label_number g v)) h
