-- What a change makes of a graph in the end, whatever its steps.
use Rattle.std.specs.Prelude.{ℕ, ◌≡◌, ◌&&◌, not, Bool, false, List, [], ◌∷◌, Option, Some, None, IsTrue, nat_eq, slice_get, refl}
use Rattle.std.specs.Coded.{Coded, code_by, coded×, coded_ℕ, coded_list}
use Rattle.std.specs.List.{list_any, IsDistinct}
use Rattle.graph_spec.specs.Graphs.{Graph, is_live, label_of, has_edge}
use Rattle.graph_spec.specs.Changes.{with_edge, without_edge}
use Rattle.graph_spec.specs.Members.{has, Lists}
use Rattle.change_spec.specs.Steps.{is_text}

-- whether the two pairs are the same
abbrev pub same_pair : ℕ × ℕ → ℕ × ℕ → Bool
same_pair e k = nat_eq e.0 k.0 && nat_eq e.1 k.1

-- whether the pair stands in the list
abbrev pub has_pair : List (ℕ × ℕ) → ℕ → ℕ → Bool
has_pair pairs u v = list_any (same_pair (u, v)) pairs

-- the list has just the pairs that pass, each once
pub record ListsPairs (p : ℕ → ℕ → Bool) (pairs : List (ℕ × ℕ)) : Type 0 where
  -- no pair is listed twice
  pub once : IsDistinct same_pair pairs
  -- a pair is listed exactly where it passes
  pub members : (u v : ℕ) → has_pair pairs u v ≡ p u v

-- what a change does to a graph in the end, as lists
pub record EffectLists : Type 0 where
  -- the nodes that come
  pub came : List ℕ
  -- the nodes that go
  pub gone : List ℕ
  -- the nodes that get another label
  pub relabelled : List ℕ
  -- the edges that go, those of nodes that go among them
  pub lost : List (ℕ × ℕ)
  -- the edges that come, those of nodes that come among them
  pub added : List (ℕ × ℕ)
  -- the nodes at which the change alters the graph
  pub targets : List ℕ

-- they are stored as their lists
abbrev EffectParts : Type 0
EffectParts = List ℕ × (List ℕ × (List ℕ × (List (ℕ × ℕ) × (List (ℕ × ℕ) × List ℕ))))

-- the code of the effects is that of their lists
abbrev pub effects_code : Coded EffectLists
effects_code =
    code_by EffectParts
    (coded× (coded_list coded_ℕ)
    (coded× (coded_list coded_ℕ)
    (coded× (coded_list coded_ℕ)
    (coded× (coded_list (coded× coded_ℕ coded_ℕ))
    (coded× (coded_list (coded× coded_ℕ coded_ℕ)) (coded_list coded_ℕ))))))
    (λ e. (e.came, (e.gone, (e.relabelled, (e.lost, (e.added, e.targets))))))
    (λ p. record { came = p.0; gone = p.1.0; relabelled = p.1.1.0; lost = p.1.1.1.0; added = p.1.1.1.1.0; targets = p.1.1.1.1.1 })
    (λ _. refl)

-- whether the number is a node of the second graph alone
abbrev pub is_new_node : Graph → Graph → ℕ → Bool
is_new_node g g2 n = is_live g2 n && not (is_live g n)

-- whether both labels are there and are the same
abbrev pub is_same_label : Option (List ℕ) → Option (List ℕ) → Bool
is_same_label None o = false
is_same_label (Some t) o = is_text t o

-- whether the number is a node of both graphs, with another label in the second
abbrev pub is_relabelled : Graph → Graph → ℕ → Bool
is_relabelled g g2 n = (is_live g n && is_live g2 n) && not (is_same_label (label_of g n) (label_of g2 n))

-- whether the edge is one of the second graph alone
abbrev pub is_new_edge : Graph → Graph → ℕ → ℕ → Bool
is_new_edge g g2 u v = has_edge g2 u v && not (has_edge g u v)

-- The effects lead from the graph g to g2. Nodes and edges come and go, and nodes get other labels, as listed. Labels
-- keep their numbers. The targets are nodes of g2: those that come, those that get another label, those to which an
-- edge comes or goes, and perhaps others.
pub record AreEffects (g g2 : Graph) (e : EffectLists) : Type 0 where
  -- labels keep their numbers
  pub seen : (l : ℕ) (t : List ℕ) → slice_get g.seen l ≡ Some t → slice_get g2.seen l ≡ Some t
  -- the nodes that are new
  pub came : Lists (is_new_node g g2) e.came
  -- the nodes that are no more
  pub gone : Lists (is_new_node g2 g) e.gone
  -- the nodes with another label
  pub relabelled : Lists (is_relabelled g g2) e.relabelled
  -- the edges that are no more
  pub lost : ListsPairs (is_new_edge g2 g) e.lost
  -- the edges that are new
  pub added : ListsPairs (is_new_edge g g2) e.added
  -- each target is live afterwards
  pub nodes : (n : ℕ) → IsTrue (has e.targets n) → IsTrue (is_live g2 n)
  -- each new node is a target
  pub target_came : (n : ℕ) → IsTrue (has e.came n) → IsTrue (has e.targets n)
  -- each node with another label is one
  pub target_relabelled : (n : ℕ) → IsTrue (has e.relabelled n) → IsTrue (has e.targets n)
  -- the end of each new edge is one
  pub target_added : (u v : ℕ) → IsTrue (has_pair e.added u v) → IsTrue (has e.targets v)
  -- the end of each lost edge is one, if it is still live
  pub target_lost : (u v : ℕ) → IsTrue (has_pair e.lost u v) → IsTrue (is_live g2 v) → IsTrue (has e.targets v)

-- the graph without these edges
abbrev pub without_edges : Graph → List (ℕ × ℕ) → Graph
without_edges g [] = g
without_edges g (e ∷ es) = without_edges (without_edge g e.0 e.1) es

-- the graph with these edges too
abbrev pub with_edges : Graph → List (ℕ × ℕ) → Graph
with_edges g [] = g
with_edges g (e ∷ es) = with_edges (with_edge g e.0 e.1) es
