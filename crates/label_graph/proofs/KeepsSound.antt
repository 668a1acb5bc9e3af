-- What keeps the lists of nodes sound.
use Rattle.std.proofs.Common.{◌≡◌, ℕ, ◌+◌, ◌<◌, ◌≤◌, ◌^◌, Bool, true, false, cond, List, [], ◌∷◌, ◌++◌, length, Option, Some, refl, sym, ap, ◌∙◌, subst, arith, nat_eq, IsTrue, append-nil, append_assoc, length-append, rules, true≢false, ◌⊎◌, inl, inr}
use Rattle.std.specs.Prelude.{IsSome, slice_get, bytes_eq, ◌&&◌, ◌||◌, if◌then◌else◌}
use Rattle.std.specs.List.{IsDistinct}
use Rattle.std.specs.Cmp.{IsEquivalence}
use Rattle.std.specs.Cmp.Rules.{comparing}
use Rattle.std.specs.FinSet as set
use Rattle.std.proofs.lemmas.List.Folds.{list_any-append}
use Rattle.std.proofs.lemmas.Map.Keys.{IsDistinct-push}
use Rattle.std.proofs.lemmas.Bool.{eqb-true}
use Rattle.graph_spec.specs.Graphs.{edge_cmp, is_seen}
use Rattle.graph_spec.specs.Members.{has}
use Rattle.graph_spec.proofs.EdgeOrder.{edge_cmp_total, edge_cmp-IsAntisymmetric}
use Rattle.label_graph.specs.Nodes.{Node, NodeTable, labels_of, number_at, children_of, parents_of, child_reserved, parent_reserved, edges_of, SameNodes, HasReserved, IsLive, IsKept}
use Rattle.label_graph.specs.ReservedGraphs.{starting, ending}
use Rattle.label_graph.specs.LabelTable.{LabelTable, entries, with_ahead}
use Rattle.label_graph.specs.Soundness.{IsSoundGraph, AreSound, HaveLabelNumbers, EndsLive, ReservedFits}
use Rattle.label_graph.proofs.EdgeLists.{has_edge-children, edges-pushed, mirrors-pushed, one}
use Rattle.label_graph.proofs.SoundNodes.{texts-once}
use Rattle.label_graph.proofs.Tables.{distinct-more}
use Rattle.label_graph.proofs.ReservedLabels.{entries-new, entries-kept}
use Rattle.label_graph.proofs.ReservedPairs.{starting-more, ending-more}

pub edges-same : (old new : List Node) → ((w : ℕ) → children_of new w ≡ children_of old w) → edges_of new ≡ edges_of old
edges-same old new c = set.same_set edge_cmp_total edge_cmp-IsAntisymmetric (edges_of new) (edges_of old) (λ q.
    has_edge-children new q.0 q.1 ∙ ap (λ l. has l q.1) (c q.0) ∙ sym (has_edge-children old q.0 q.1))

-- the lists stay, and edges lead from live nodes to live nodes
pub lists-as : (before shown : ℕ) (old new : List Node) (edges : ℕ) → ((w : ℕ) → children_of new w ≡ children_of old w) → ((w : ℕ) → parents_of new w ≡ parents_of old w)
    → ((u v : ℕ) → IsTrue (has (children_of old u) v) → EndsLive shown new u v) → AreSound before old edges → AreSound shown new edges
lists-as before shown old new edges c p ends s = record {
  mirrors = λ u v. ap (λ l. has l v) (c u) ∙ s.mirrors u v ∙ ap (λ l. has l u) (sym (p v));
  children_once = λ n. subst (IsDistinct nat_eq) (sym (c n)) (s.children_once n);
  parents_once = λ n. subst (IsDistinct nat_eq) (sym (p n)) (s.parents_once n);
  ends = λ u v h. ends u v (ap (λ l. has l v) (sym (c u)) ∙ h);
  edge_count_is = s.edge_count_is ∙ ap set.len (sym (edges-same old new c));
  few_edges = s.few_edges;
}

-- the lists stay, and live nodes stay live
pub lists-kept : (before shown : ℕ) (old new : List Node) (edges : ℕ) → ((w : ℕ) → children_of new w ≡ children_of old w) → ((w : ℕ) → parents_of new w ≡ parents_of old w)
    → ((w : ℕ) → IsLive before old w → IsLive shown new w) → AreSound before old edges → AreSound shown new edges
lists-kept before shown old new edges c p live s =
    lists-as before shown old new edges c p (λ u v h. let e = s.ends u v h in record { from = live u e.from; onto = live v e.onto }) s

-- nodes that are kept are kept before
kept-same : (shown : ℕ) (old new : List Node) → labels_of shown new ≡ labels_of shown old → (w : ℕ) → IsKept shown new w → IsKept shown old w
kept-same shown old new e w k h = subst (λ ls. IsSome (number_at ls w)) e (k h)

pub same-nodes : (shown : ℕ) (nodes : List Node) → SameNodes shown nodes nodes
same-nodes shown nodes = record {
  size = omega arith;
  labels = refl;
  children = λ w. refl;
  parents = λ w. refl;
  child_reserves = λ w k. omega arith;
  parent_reserves = λ w k. omega arith;
}

-- nothing is reserved
pub fits-cleared : (table : LabelTable) (shown : ℕ) (nodes : List Node) → shown ≤ length nodes → ReservedFits (record { texts = table.texts; ahead = [] }) shown nodes [] [] []
fits-cleared table shown nodes h = record {
  labels = tt;
  relabels = tt;
  rows = omega (arith, h);
  children = λ w k. omega arith;
  parents = λ w k. omega arith;
}

-- nothing lies ahead of the labels
pub labels-cleared : (table : LabelTable) (numbers : List (Option ℕ)) (count : ℕ) → HaveLabelNumbers table numbers count → HaveLabelNumbers (record { texts = table.texts; ahead = [] }) numbers count
labels-cleared table numbers count a = record {
  few_nodes = a.few_nodes;
  once = subst (IsDistinct bytes_eq) (sym (append-nil table.texts)) (texts-once table a.once);
  below = a.below;
  node_count_is = a.node_count_is;
}

module _ (table : LabelTable) (shown : ℕ) (nodes : List Node) (edges count : ℕ) (numbers : List ℕ) (pairs : List (ℕ × ℕ)) (relabels : List ℕ) (o : IsSoundGraph table shown nodes edges count numbers pairs relabels) where
  pub sound-cleared : IsSoundGraph (record { texts = table.texts; ahead = [] }) shown nodes edges count [] [] []
  sound-cleared = record {
    lists = o.lists;
    labels = labels-cleared table (labels_of shown nodes) count o.labels;
    reserved = fits-cleared table shown nodes (omega (arith, o.reserved.rows));
  }

  -- the same nodes, of which none that isn't gone has less reserved
  module _ (new : List Node) (s : SameNodes shown nodes new) where
    lists-same : AreSound shown new edges
    lists-same = lists-kept shown shown nodes new edges s.children s.parents (λ w l. subst (λ ls. IsSome (number_at ls w)) (sym s.labels) l) o.lists

    labels-same : HaveLabelNumbers table (labels_of shown new) count
    labels-same = subst (λ ls. HaveLabelNumbers table ls count) (sym s.labels) o.labels

    children-same : (w : ℕ) → IsKept shown new w → starting w pairs ≤ child_reserved new w
    children-same w k = let h = kept-same shown nodes new s.labels w k in omega (arith, o.reserved.children w h, s.child_reserves w h)

    parents-same : (w : ℕ) → IsKept shown new w → ending w pairs ≤ parent_reserved new w
    parents-same w k = let h = kept-same shown nodes new s.labels w k in omega (arith, o.reserved.parents w h, s.parent_reserves w h)

    pub sound-same : IsSoundGraph table shown new edges count numbers pairs relabels
    sound-same = record {
      lists = lists-same;
      labels = labels-same;
      reserved = record { labels = o.reserved.labels; relabels = o.reserved.relabels; rows = omega (arith, o.reserved.rows, s.size); children = children-same; parents = parents-same };
    }

    -- one more edge is reserved
    module _ (u v n m : ℕ) (r : HasReserved new u v (n + 1) (m + 1)) (from : n ≡ starting u pairs) (onto : m ≡ ending v pairs) where
      children-more : (w : ℕ) → IsKept shown new w → starting w (pairs ++ (u, v) ∷ []) ≤ child_reserved new w
      children-more w k =
          subst (λ x. x ≤ child_reserved new w) (sym (starting-more pairs u v w)) (elim (nat_eq u w) as (λ b. nat_eq u w ≡ b → starting w pairs + (if b then 1 else 0) ≤ child_reserved new w) [
            | true ↦ λ q. let e = eqb-true u w q in omega (arith, from, r.child, ap (λ x. starting x pairs) e, ap (child_reserved new) e)
            | false ↦ λ q. omega (arith, children-same w k)
          ] refl)

      parents-more : (w : ℕ) → IsKept shown new w → ending w (pairs ++ (u, v) ∷ []) ≤ parent_reserved new w
      parents-more w k =
          subst (λ x. x ≤ parent_reserved new w) (sym (ending-more pairs u v w)) (elim (nat_eq v w) as (λ b. nat_eq v w ≡ b → ending w pairs + (if b then 1 else 0) ≤ parent_reserved new w) [
            | true ↦ λ q. let e = eqb-true v w q in omega (arith, onto, r.parent, ap (λ x. ending x pairs) e, ap (parent_reserved new) e)
            | false ↦ λ q. omega (arith, parents-same w k)
          ] refl)

      pub sound-pair : IsSoundGraph table shown new edges count numbers (pairs ++ (u, v) ∷ []) relabels
      sound-pair = record {
        lists = lists-same;
        labels = labels-same;
        reserved = record { labels = o.reserved.labels; relabels = o.reserved.relabels; rows = omega (arith, o.reserved.rows, s.size); children = children-more; parents = parents-more };
      }

    -- one more label is reserved
    module _ (t : List ℕ) (l : ℕ) (e : slice_get (entries (with_ahead table t)) l ≡ Some t) where
      ahead-once : (b : Bool) → is_seen (entries table) t ≡ b → IsDistinct bytes_eq (entries (record { texts = table.texts; ahead = if b then table.ahead else table.ahead ++ t ∷ [] }))
      ahead-once true e = o.labels.once
      ahead-once false e = subst (IsDistinct bytes_eq) (append_assoc table.texts table.ahead (t ∷ [])) (distinct-more (entries table) t o.labels.once e)

      labels-ahead : HaveLabelNumbers (with_ahead table t) (labels_of shown new) count
      labels-ahead = record {
        few_nodes = labels-same.few_nodes;
        once = ahead-once (is_seen (entries table) t) refl;
        below = labels-same.below;
        node_count_is = labels-same.node_count_is;
      }

      -- for a node to come
      pub sound-label : shown + length numbers < length new → IsSoundGraph (with_ahead table t) shown new edges count (numbers ++ l ∷ []) pairs relabels
      sound-label spare = record {
        lists = lists-same;
        labels = labels-ahead;
        reserved = record {
          labels = entries-new table t l e numbers o.reserved.labels;
          relabels = entries-kept table t relabels o.reserved.relabels;
          rows = omega (arith, spare, length-append numbers (l ∷ []));
          children = children-same;
          parents = parents-same;
        };
      }

      -- for a node that there is
      pub sound-relabel : IsSoundGraph (with_ahead table t) shown new edges count numbers pairs (relabels ++ l ∷ [])
      sound-relabel = record {
        lists = lists-same;
        labels = labels-ahead;
        reserved = record {
          labels = entries-kept table t numbers o.reserved.labels;
          relabels = entries-new table t l e relabels o.reserved.relabels;
          rows = omega (arith, o.reserved.rows, s.size);
          children = children-same;
          parents = parents-same;
        };
      }

nat_laws : IsEquivalence nat_eq
nat_laws = search (comparing, rules)

-- one more number in a list, where a test says so
once-more : (b : Bool) (xs : List ℕ) (v : ℕ) → IsDistinct nat_eq xs → (b ≡ true → has xs v ≡ false) → IsDistinct nat_eq (xs ++ (if b then v ∷ [] else []))
once-more true xs v d h = IsDistinct-push nat_laws xs v d (h refl)
once-more false xs v d h = subst (IsDistinct nat_eq) (sym (append-nil xs)) d

either : (a b c : Bool) → IsTrue (a || (b && c)) → (IsTrue a) ⊎ ((b ≡ true) × (c ≡ true))
either true b c h = inl refl
either false true true h = inr (refl, refl)
either false true false h = absurd (true≢false (sym h))
either false false c h = absurd (true≢false (sym h))

-- an edge is written into both lists
module _ (shown : ℕ) (old new : List Node) (edges u v : ℕ) (s : AreSound shown old edges) (absent : has (children_of old u) v ≡ false) (few : edges < 2 ^ 30)
    (from : IsLive shown old u) (onto : IsLive shown old v) (labels : labels_of shown new ≡ labels_of shown old)
    (children : (w : ℕ) → children_of new w ≡ children_of old w ++ (if nat_eq w u then v ∷ [] else []))
    (parents : (w : ℕ) → parents_of new w ≡ parents_of old w ++ (if nat_eq w v then u ∷ [] else [])) where
  live : (w : ℕ) → IsLive shown old w → IsLive shown new w
  live w l = subst (λ ls. IsSome (number_at ls w)) (sym labels) l

  child-or : (a b : ℕ) → has (children_of new a) b ≡ (has (children_of old a) b || (nat_eq a u && nat_eq b v))
  child-or a b =
      ap (λ l. has l b) (children a) ∙ list_any-append (nat_eq b) (children_of old a) (if nat_eq a u then v ∷ [] else [])
      ∙ ap (λ x. has (children_of old a) b || x) (one (nat_eq a u) b v)

  ends-after : (a b : ℕ) → IsTrue (has (children_of new a) b) → EndsLive shown new a b
  ends-after a b h =
      elim (either (has (children_of old a) b) (nat_eq a u) (nat_eq b v) (sym (child-or a b) ∙ h)) [
        | inl k ↦ let e = s.ends a b k in record { from = live a e.from; onto = live b e.onto }
        | inr k ↦ record {
          from = live a (subst (IsLive shown old) (sym (eqb-true a u k.0)) from);
          onto = live b (subst (IsLive shown old) (sym (eqb-true b v k.1)) onto);
        }
      ]

  pub lists-pushed : AreSound shown new (edges + 1)
  lists-pushed = record {
    mirrors = mirrors-pushed old new u v s.mirrors children parents;
    children_once = λ n. subst (IsDistinct nat_eq) (sym (children n)) (once-more (nat_eq n u) (children_of old n) v (s.children_once n)
        (λ e. ap (λ m. has (children_of old m) v) (eqb-true n u e) ∙ absent));
    parents_once = λ n. subst (IsDistinct nat_eq) (sym (parents n)) (once-more (nat_eq n v) (parents_of old n) u (s.parents_once n)
        (λ e. ap (λ m. has (parents_of old m) u) (eqb-true n v e) ∙ sym (s.mirrors u v) ∙ absent));
    ends = ends-after;
    edge_count_is =
        ap (λ n. n + 1) s.edge_count_is
        ∙ sym (set.len-insert edge_cmp_total (edges_of old) (u, v) ∙ ap (λ b. cond b (set.len (edges_of old)) (set.len (edges_of old) + 1)) (has_edge-children old u v ∙ absent))
        ∙ ap set.len (sym (edges-pushed old new u v children));
    few_edges = omega arith;
  }

empty : IsSoundGraph (record { texts = []; ahead = [] }) 0 [] 0 0 [] [] []
unfolding IsDistinct
empty = record {
  lists = record {
    mirrors = λ u v. refl;
    children_once = λ n. tt;
    parents_once = λ n. tt;
    ends = λ u v h. absurd (true≢false (sym h));
    edge_count_is = sym (set.len-empty edge_cmp);
    few_edges = omega arith;
  };
  labels = record {
    few_nodes = omega arith;
    once = tt;
    below = λ n l e. cc;
    node_count_is = refl;
  };
  reserved = fits-cleared (record { texts = []; ahead = [] }) 0 [] (omega arith);
}

pub sound-empty : (table : LabelTable) (nodes : NodeTable) (numbers : List ℕ) (pairs : List (ℕ × ℕ)) (relabels : List ℕ) → table ≡ record { texts = []; ahead = [] } → nodes ≡ record { nodes = []; shown = 0 } → numbers ≡ [] → pairs ≡ [] → relabels ≡ []
    → IsSoundGraph table nodes.shown nodes.nodes 0 0 numbers pairs relabels
sound-empty table nodes numbers pairs relabels t n l p r =
    subst (λ x. IsSoundGraph x nodes.shown nodes.nodes 0 0 numbers pairs relabels) (sym t)
    (subst (λ x. IsSoundGraph (record { texts = []; ahead = [] }) x.shown x.nodes 0 0 numbers pairs relabels) (sym n)
    (subst (λ x. IsSoundGraph (record { texts = []; ahead = [] }) 0 [] 0 0 x pairs relabels) (sym l)
    (subst (λ x. IsSoundGraph (record { texts = []; ahead = [] }) 0 [] 0 0 [] x relabels) (sym p)
    (subst (λ x. IsSoundGraph (record { texts = []; ahead = [] }) 0 [] 0 0 [] [] x) (sym r) empty))))
