-- What a reservation and an edge make of a graph.
use Rattle.std.proofs.Common.{◌≡◌, ℕ, ◌+◌, ◌<◌, ◌≤◌, ◌^◌, Bool, true, false, map, get_or, arith, true≢false, ◌⊎◌, inl, inr, not, nat_lt, List, [], ◌∷◌, ◌++◌, length, Option, None, Some, refl, sym, ap, ◌∙◌, subst, nat_eq, IsTrue}
use Rattle.std.specs.Prelude.{IsSome, slice_get, is_some, option_and_then, if◌then◌else◌, Result, Ok, Err, OnErr, ◌&&◌, ◌||◌}
use Rattle.std.proofs.lemmas.List.{length-map, length-take-le}
use Rattle.std.proofs.lemmas.Bool.Decides.{nat_tests}
use Rattle.std.proofs.lemmas.Cmp.{nat_eq_equiv}
use Rattle.graph_spec.specs.Graphs.{Graph, is_live}
use Rattle.graph_spec.specs.Changes.{with_edge}
use Rattle.graph_spec.specs.Members.{has}
use Rattle.label_graph.specs.Nodes.{Node, labels_of, number_at, texts_of, children_of, parents_of, SameNodes, HasReserved, UsesReserved, IsLive, IsKept}
use Rattle.label_graph.specs.ReservedGraphs.{ReservedGraph, Reservation, graph_by, reserved_by, has_pair, without_pair, can_be_joined}
use Rattle.label_graph.specs.LabelTable.{LabelTable, entries}
use Rattle.label_graph.specs.Soundness.{IsSoundGraph, HaveLabelNumbers}
use Rattle.label_graph.proofs.EdgeLists.{edges-pushed}
use Rattle.label_graph.proofs.SoundNodes.{label_of-number}
use Rattle.label_graph.proofs.KeepsSound.{edges-same, lists-pushed}
use Rattle.label_graph.proofs.GoneNodes.{live-below}
use Rattle.label_graph.proofs.ReservedPairs.{starting-less, ending-less}

pub on-err : {X E P : Type 0} (r : Result X E) → P → OnErr r P
on-err (Ok x) p = tt
on-err (Err e) p = p

-- how many numbers were allocated
pub allocated-count : (table : LabelTable) (shown : ℕ) (nodes : List Node) → length (graph_by table shown nodes).allocated ≡ length (labels_of shown nodes)
allocated-count table shown nodes = length-map (labels_of shown nodes) (option_and_then (slice_get table.texts))

pub allocated-shown : (table : LabelTable) (shown : ℕ) (nodes : List Node) → shown ≤ length nodes → length (graph_by table shown nodes).allocated ≡ shown
allocated-shown table shown nodes h =
    allocated-count table shown nodes ∙ length-take-le shown (map (λ n. n.label) nodes) (omega (arith, h, length-map nodes (λ n. n.label)))

numbered : (texts : List (List ℕ)) (o : Option ℕ) → IsTrue (is_some (option_and_then (slice_get texts) o)) → IsSome o
numbered texts None h = h
numbered texts (Some l) h = refl

-- a live node has a label's number
pub live-number : (table : LabelTable) (shown : ℕ) (nodes : List Node) (n : ℕ) → IsTrue (is_live (graph_by table shown nodes) n) → IsLive shown nodes n
live-number table shown nodes n h =
    numbered table.texts (number_at (labels_of shown nodes) n) (ap is_some (sym (label_of-number table.texts (labels_of shown nodes) n)) ∙ h)

pub graph-same : (table : LabelTable) (shown : ℕ) (old new : List Node) → SameNodes shown old new → graph_by table shown new ≡ graph_by table shown old
graph-same table shown old new s i = record { allocated = texts_of table.texts (s.labels i); edges = edges-same old new s.children i; seen = table.texts }

-- a node that an edge can be reserved for
pub record IsJoined (shown : ℕ) (nodes : List Node) (n : ℕ) : Type 0 where
  pub below : n < length nodes
  pub kept : IsKept shown nodes n

not-less : (n m : ℕ) → not (nat_lt n m) ≡ true → m ≤ n
not-less n m h = grind (arith, nat_tests)

less : (n m : ℕ) → nat_lt n m ≡ true → n < m
less n m h = grind (arith, nat_tests)

either : (a b c : Bool) → IsTrue (a || (b && c)) → (a ≡ true) ⊎ ((b ≡ true) × (c ≡ true))
either true b c h = inl refl
either false true true h = inr (refl, refl)
either false true false h = absurd (true≢false (sym h))
either false false c h = absurd (true≢false (sym h))

pub joined : (table : LabelTable) (shown : ℕ) (nodes : List Node) (numbers : List ℕ) (pairs : List (ℕ × ℕ)) (relabels : List ℕ) (n : ℕ) → shown + length numbers ≤ length nodes
    → IsTrue (can_be_joined (record { graph = graph_by table shown nodes; reserved = reserved_by table numbers pairs relabels }) n) → IsJoined shown nodes n
joined table shown nodes numbers pairs relabels n rows h =
    let size = allocated-shown table shown nodes (omega (arith, rows)) in
    let labels = length-map numbers (λ l. get_or (entries table) l []) in
    let g = graph_by table shown nodes in
    let first = length g.allocated in
    let last = first + length (reserved_by table numbers pairs relabels).labels in
    elim (either (is_live g n) (not (nat_lt n first)) (nat_lt n last) h) [
      | inl live ↦ let l = live-number table shown nodes n live in record { below = live-below shown nodes n l; kept = λ _. l }
      | inr ahead ↦ record {
        below = omega (arith, less n last ahead.1, size, labels, rows);
        kept = λ early. absurd (omega (arith, early, not-less n first ahead.0, size));
      }
    ]

module _ (table : LabelTable) (shown : ℕ) (old new : List Node) (edges count u v : ℕ) (numbers : List ℕ) (pairs : List (ℕ × ℕ)) (relabels : List ℕ) (o : IsSoundGraph table shown old edges count numbers pairs relabels)
    (labels : labels_of shown new ≡ labels_of shown old)
    (children : (w : ℕ) → children_of new w ≡ children_of old w ++ (if nat_eq w u then v ∷ [] else []))
    (parents : (w : ℕ) → parents_of new w ≡ parents_of old w ++ (if nat_eq w v then u ∷ [] else [])) where
  kept : (w : ℕ) → IsKept shown new w → IsKept shown old w
  kept w k h = subst (λ ls. IsSome (number_at ls w)) labels (k h)

  pub sound-edge : has (children_of old u) v ≡ false → edges < 2 ^ 30 → IsLive shown old u → IsLive shown old v → UsesReserved old new u v → IsTrue (has_pair pairs u v)
      → IsSoundGraph table shown new (edges + 1) count numbers (without_pair pairs u v) relabels
  sound-edge absent few from onto r there = record {
    lists = lists-pushed shown old new edges u v o.lists absent few from onto labels children parents;
    labels = subst (λ l. HaveLabelNumbers table l count) (sym labels) o.labels;
    reserved = record {
      labels = o.reserved.labels;
      relabels = o.reserved.relabels;
      rows = omega (arith, o.reserved.rows, r.size);
      children = λ w k. omega (arith, o.reserved.children w (kept w k), r.child w, starting-less pairs u v w there);
      parents = λ w k. omega (arith, o.reserved.parents w (kept w k), r.parent w, ending-less pairs u v w there);
    };
  }

  -- the graph has one more edge
  pub edge-added : graph_by table shown new ≡ with_edge (graph_by table shown old) u v
  edge-added i = record { allocated = texts_of table.texts (labels i); edges = edges-pushed old new u v children i; seen = table.texts }

-- an edge that is reserved between live nodes fits
pub pair-fits : (table : LabelTable) (shown : ℕ) (nodes : List Node) (edges count u v : ℕ) (numbers : List ℕ) (pairs : List (ℕ × ℕ)) (relabels : List ℕ) → IsSoundGraph table shown nodes edges count numbers pairs relabels
    → IsLive shown nodes u → IsLive shown nodes v → IsTrue (has_pair pairs u v) → HasReserved nodes u v 1 1
pair-fits table shown nodes edges count u v numbers pairs relabels o from onto there = record {
  child = omega (arith, o.reserved.children u (λ _. from), starting-less pairs u v u there, ap {B = ℕ} (λ b. if b then 1 else 0) (nat_eq_equiv.refl u));
  parent = omega (arith, o.reserved.parents v (λ _. onto), ending-less pairs u v v there, ap {B = ℕ} (λ b. if b then 1 else 0) (nat_eq_equiv.refl v));
}

-- the same by equal parts
pub sound-as : (table table2 : LabelTable) (shown shown2 : ℕ) (nodes : List Node) (edges count : ℕ) (numbers numbers2 : List ℕ) (pairs pairs2 : List (ℕ × ℕ)) (relabels relabels2 : List ℕ)
    → table2 ≡ table → shown2 ≡ shown → numbers2 ≡ numbers → pairs2 ≡ pairs → relabels2 ≡ relabels
    → IsSoundGraph table shown nodes edges count numbers pairs relabels → IsSoundGraph table2 shown2 nodes edges count numbers2 pairs2 relabels2
sound-as table table2 shown shown2 nodes edges count numbers numbers2 pairs pairs2 relabels relabels2 t s n p r o =
    subst (λ x. IsSoundGraph x shown2 nodes edges count numbers2 pairs2 relabels2) (sym t)
    (subst (λ x. IsSoundGraph table x nodes edges count numbers2 pairs2 relabels2) (sym s)
    (subst (λ x. IsSoundGraph table shown nodes edges count x pairs2 relabels2) (sym n)
    (subst (λ x. IsSoundGraph table shown nodes edges count numbers x relabels2) (sym p)
    (subst (λ x. IsSoundGraph table shown nodes edges count numbers pairs x) (sym r) o))))

abbrev pub view_of : LabelTable → ℕ → List Node → List ℕ → List (ℕ × ℕ) → List ℕ → ReservedGraph
view_of table shown nodes numbers pairs relabels = record { graph = graph_by table shown nodes; reserved = reserved_by table numbers pairs relabels }

pub view-as : (table table2 : LabelTable) (shown shown2 : ℕ) (nodes : List Node) (numbers numbers2 : List ℕ) (pairs pairs2 : List (ℕ × ℕ)) (relabels relabels2 : List ℕ)
    → table2 ≡ table → shown2 ≡ shown → numbers2 ≡ numbers → pairs2 ≡ pairs → relabels2 ≡ relabels
    → view_of table2 shown2 nodes numbers2 pairs2 relabels2 ≡ view_of table shown nodes numbers pairs relabels
view-as table table2 shown shown2 nodes numbers numbers2 pairs pairs2 relabels relabels2 t s n p r i = view_of (t i) (s i) nodes (n i) (p i) (r i)

pub view-both : (g g2 : Graph) (r r2 : Reservation) → g2 ≡ g → r2 ≡ r → ◌≡◌ {A = ReservedGraph} (record { graph = g2; reserved = r2 }) (record { graph = g; reserved = r })
view-both g g2 r r2 e f i = record { graph = e i; reserved = f i }
