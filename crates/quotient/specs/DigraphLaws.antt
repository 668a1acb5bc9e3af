-- What holds of each quotient as a graph.
use Rattle.std.specs.Prelude.{ℕ, ◌<◌, ◌&&◌, Bool, true, false, List, length, Option, IsTrue, IsSome, is_some, nat_lt}
use Rattle.std.proofs.Common.{sym, ap, ◌∙◌, inl, inr, None, true≢false}
use Rattle.std.proofs.lemmas.Bool.{cases_lt}
use Rattle.std.proofs.lemmas.List.{get_or_past}
use Rattle.graph_spec.specs.Members.{at}
use Rattle.bisim_spec.specs.IndexGraphs.{support_at}
use Rattle.quotient.specs.Quotients.{Quotient, is_adjacent}

some_below : (xs : List (Option ℕ)) (n : ℕ) → IsSome (at xs n) → n < length xs
some_below xs n h = elim (cases_lt n (length xs)) [
  | inl l ↦ l
  | inr past ↦ absurd (true≢false (sym h ∙ ap is_some (get_or_past xs n None past)))
]

-- blocks are below the length of the list of labels
pub below_span : (q : Quotient) (b : ℕ) → IsSome (at q.blocks.labels b) → b < length q.blocks.labels
below_span q b h = some_below q.blocks.labels b h

last_two : (a b c : Bool) → IsTrue (a && (b && c)) → IsTrue b × IsTrue c
last_two true true true h = (h, h)
last_two true true false h = absurd (true≢false (sym h))
last_two true false c h = absurd (true≢false (sym h))
last_two false b c h = absurd (true≢false (sym h))

-- both ends of an edge are blocks
pub ends_live : (q : Quotient) (a b : ℕ) → IsTrue (is_adjacent q a b) → IsSome (at q.blocks.labels a) × IsSome (at q.blocks.labels b)
ends_live q a b h = last_two (nat_lt 0 (support_at q.supports a b)) (is_some (at q.blocks.labels a)) (is_some (at q.blocks.labels b)) h
