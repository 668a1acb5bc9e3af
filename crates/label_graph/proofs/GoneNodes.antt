-- One node less.
use Rattle.std.proofs.Common.{◌≡◌, ◌≢◌, ℕ, zero, suc, ◌+◌, ◌-◌, ◌<◌, true, cond, List, [], ◌∷◌, length, Option, None, Some, refl, sym, ap, ◌∙◌, subst, arith, IsTrue, true≢false, length-set, length-take, map}
use Rattle.std.specs.Prelude.{slice_get, slice_set, is_some, IsSome, option_and_then}
use Rattle.std.specs.List.{count_by}
use Rattle.std.proofs.lemmas.List.{map-set, length-map}
use Rattle.std.proofs.lemmas.List.Sums.{sum_by-cons}
use Rattle.graph_spec.specs.Graphs.{is_live}
use Rattle.graph_spec.specs.Changes.{without_node}
use Rattle.graph_spec.specs.Members.{has}
use Rattle.label_graph.specs.Nodes.{Node, labels_of, number_at, texts_of, children_of, parents_of, IsLive, IsKept, KeepsReserved}
use Rattle.label_graph.specs.ReservedGraphs.{graph_by}
use Rattle.label_graph.specs.LabelTable.{LabelTable}
use Rattle.label_graph.specs.Soundness.{IsSoundGraph, HaveLabelNumbers}
use Rattle.label_graph.proofs.EdgeLists.{has_edge-children}
use Rattle.label_graph.proofs.KeepsSound.{edges-same, lists-as}
use Rattle.graph_spec.proofs.Uses.{IsBare}

-- the other numbers stay
number-other : (numbers : List (Option ℕ)) (i n : ℕ) → n ≢ i → number_at (slice_set numbers i None) n ≡ number_at numbers n
number-other [] i n h = refl
number-other (x ∷ xs) zero zero h = absurd (h refl)
number-other (x ∷ xs) zero (suc n) h = refl
number-other (x ∷ xs) (suc i) zero h = refl
number-other (x ∷ xs) (suc i) (suc n) h = number-other xs i n (λ e. h (ap suc e))

number-left : (numbers : List (Option ℕ)) (i n l : ℕ) → number_at (slice_set numbers i None) n ≡ Some l → number_at numbers n ≡ Some l
number-left [] i n l e = e
number-left (x ∷ xs) zero zero l e = cc
number-left (x ∷ xs) zero (suc n) l e = e
number-left (x ∷ xs) (suc i) zero l e = e
number-left (x ∷ xs) (suc i) (suc n) l e = number-left xs i n l e

count-less : (texts : List (Option (List ℕ))) (i : ℕ) → is_some (option_and_then (λ l. l) (slice_get texts i)) ≡ true → count_by is_some (slice_set texts i None) + 1 ≡ count_by is_some texts
count-less [] i h = absurd (true≢false (sym h))
count-less (None ∷ xs) zero h = absurd (true≢false (sym h))
count-less (Some x ∷ xs) zero h = omega (arith, sum_by-cons (λ t. cond (is_some t) 1 0) None xs, sum_by-cons (λ t. cond (is_some t) 1 0) (Some x) xs)
count-less (t ∷ xs) (suc i) h = omega (arith, sum_by-cons (λ t. cond (is_some t) 1 0) t (slice_set xs i None), sum_by-cons (λ t. cond (is_some t) 1 0) t xs, count-less xs i h)

number-below : (ls : List (Option ℕ)) (n : ℕ) → IsSome (number_at ls n) → n < length ls
number-below [] n h = absurd (true≢false (sym h))
number-below (x ∷ xs) zero h = omega arith
number-below (x ∷ xs) (suc n) h = omega (arith, number-below xs n h)

pub live-below : (shown : ℕ) (nodes : List Node) (n : ℕ) → IsLive shown nodes n → n < length nodes
live-below shown nodes n h =
    omega (arith, number-below (labels_of shown nodes) n h, length-take shown (map (λ x. x.label) nodes), length-map nodes (λ x. x.label))

pub live-shown : (shown : ℕ) (nodes : List Node) (n : ℕ) → IsLive shown nodes n → n < shown
live-shown shown nodes n h = omega (arith, number-below (labels_of shown nodes) n h, length-take shown (map (λ x. x.label) nodes))

module _ (table : LabelTable) (numbers : List (Option ℕ)) (count u : ℕ) (a : HaveLabelNumbers table numbers count)
    (live : is_some (option_and_then (λ l. l) (slice_get (texts_of table.texts numbers) u)) ≡ true) where
  texts-less : texts_of table.texts (slice_set numbers u None) ≡ slice_set (texts_of table.texts numbers) u None
  texts-less = map-set (option_and_then (slice_get table.texts)) numbers u None

  pub some-node : 0 < count
  some-node = omega (arith, a.node_count_is, count-less (texts_of table.texts numbers) u live)

  labels-less : HaveLabelNumbers table (slice_set numbers u None) (count - 1)
  labels-less =
      let none : Option ℕ = None in
      record {
        few_nodes = omega (arith, a.few_nodes, length-set numbers u none);
        once = a.once;
        below = λ n l e. a.below n l (number-left numbers u n l e);
        node_count_is = omega (arith, a.node_count_is, count-less (texts_of table.texts numbers) u live, ap (count_by is_some) texts-less);
      }

module _ (table : LabelTable) (shown : ℕ) (old new : List Node) (u : ℕ) (live : IsTrue (is_live (graph_by table shown old) u))
    (labels : labels_of shown new ≡ slice_set (labels_of shown old) u None)
    (children : (w : ℕ) → children_of new w ≡ children_of old w) (parents : (w : ℕ) → parents_of new w ≡ parents_of old w) where
  still-live : (w : ℕ) → w ≢ u → IsLive shown old w → IsLive shown new w
  still-live w h l = ap is_some (ap (λ ls. number_at ls w) labels ∙ number-other (labels_of shown old) u w h) ∙ l

  live-before : (w : ℕ) (o : Option ℕ) → number_at (labels_of shown new) w ≡ o → IsSome o → IsLive shown old w
  live-before w None e h = absurd (true≢false (sym h))
  live-before w (Some l) e h = ap is_some (number-left (labels_of shown old) u w l (ap (λ ls. number_at ls w) (sym labels) ∙ e))

  kept : (w : ℕ) → IsKept shown new w → IsKept shown old w
  kept w k h = live-before w (number_at (labels_of shown new) w) refl (k h)

  module _ (bare : IsBare (graph_by table shown old) u) (r : KeepsReserved old new) where
    pub sound-gone : (edges count : ℕ) (numbers : List ℕ) (pairs : List (ℕ × ℕ)) (relabels : List ℕ) → IsSoundGraph table shown old edges count numbers pairs relabels → IsSoundGraph table shown new edges (count - 1) numbers pairs relabels
    sound-gone edges count numbers pairs relabels o = record {
      lists = lists-as shown shown old new edges children parents (λ a b h.
          let e = o.lists.ends a b h in
          let there = has_edge-children old a b ∙ h in
          record {
            from = still-live a (λ s. true≢false (sym (ap (λ k. has (children_of old k) b) (sym s) ∙ h) ∙ sym (has_edge-children old u b) ∙ bare.from b)) e.from;
            onto = still-live b (λ s. true≢false (sym (ap (has (children_of old a)) (sym s) ∙ h) ∙ sym (has_edge-children old a u) ∙ bare.onto a)) e.onto;
          }) o.lists;
      labels = subst (λ ls. HaveLabelNumbers table ls (count - 1)) (sym labels) (labels-less table (labels_of shown old) count u o.labels live);
      reserved = record {
        labels = o.reserved.labels;
        relabels = o.reserved.relabels;
        rows = omega (arith, o.reserved.rows, r.size);
        children = λ w k. omega (arith, o.reserved.children w (kept w k), r.child w);
        parents = λ w k. omega (arith, o.reserved.parents w (kept w k), r.parent w);
      };
    }

  -- the graph has one node less
  pub node-taken : graph_by table shown new ≡ without_node (graph_by table shown old) u
  node-taken i = record {
    allocated = (ap (texts_of table.texts) labels ∙ map-set (option_and_then (slice_get table.texts)) (labels_of shown old) u None) i;
    edges = edges-same old new children i;
    seen = table.texts;
  }
