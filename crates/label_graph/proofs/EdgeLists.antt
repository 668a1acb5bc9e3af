-- The set of edges that the lists of children give.
use Rattle.std.proofs.Common.{◌≡◌, ◌≢◌, ℕ, zero, suc, ◌+◌, ◌<◌, Bool, true, false, List, [], ◌∷◌, ◌++◌, map, refl, sym, ap, ◌∙◌, arith, nat_eq, rules}
use Rattle.std.specs.Prelude.{◌||◌, ◌&&◌, if◌then◌else◌}
use Rattle.std.specs.List.{list_any}
use Rattle.std.specs.Ordering.{eq_by_cmp}
use Rattle.std.specs.FinSet as set
use Rattle.std.proofs.lemmas.Bool.{ne_eqb}
use Rattle.std.proofs.lemmas.List.Folds.{list_any-append}
use Rattle.graph_spec.specs.Graphs.{edge_cmp}
use Rattle.graph_spec.proofs.EdgeOrder.{edge_cmp_total, edge_cmp-IsAntisymmetric, eq_pair}
use Rattle.label_graph.specs.Nodes.{Node, children_of, parents_of, pairs_from, edges_of, Mirrors}
use Rattle.std.proofs.Math.Bool.{and-false, or-false}

and_or : (x y z : Bool) → ((x && y) || (x && z)) ≡ (x && (y || z))
and_or true y z = refl
and_or false y z = refl

row : (u v a : ℕ) (ws : List ℕ) → list_any (eq_by_cmp edge_cmp (u, v)) (map (λ w. (a, w)) ws) ≡ (nat_eq u a && list_any (nat_eq v) ws)
row u v a [] = sym (and-false (nat_eq u a))
row u v a (w ∷ ws) =
    ap (λ x. x || list_any (eq_by_cmp edge_cmp (u, v)) (map (λ w. (a, w)) ws)) (eq_pair u v a w)
    ∙ ap (λ x. (nat_eq u a && nat_eq v w) || x) (row u v a ws) ∙ and_or (nat_eq u a) (nat_eq v w) (list_any (nat_eq v) ws)

-- no pair begins before k
none_before : (u v k : ℕ) (nodes : List Node) → u < k → list_any (eq_by_cmp edge_cmp (u, v)) (pairs_from k nodes) ≡ false
none_before u v k [] h = refl
none_before u v k (x ∷ xs) h =
    let ne : u ≢ k = omega arith in
    list_any-append (eq_by_cmp edge_cmp (u, v)) (map (λ w. (k, w)) x.children.items) (pairs_from (k + 1) xs)
    ∙ ap (λ b. b || list_any (eq_by_cmp edge_cmp (u, v)) (pairs_from (k + 1) xs)) (row u v k x.children.items ∙ ap (λ b. b && list_any (nat_eq v) x.children.items) (ne_eqb u k ne))
    ∙ none_before u v (k + 1) xs (omega arith)

same_eqb : (n : ℕ) → nat_eq n n ≡ true
same_eqb n = search rules

pairs_at : (k i v : ℕ) (nodes : List Node) (u : ℕ) → u ≡ k + i → list_any (eq_by_cmp edge_cmp (u, v)) (pairs_from k nodes) ≡ list_any (nat_eq v) (children_of nodes i)
pairs_at k i v [] u e = refl
pairs_at k zero v (x ∷ xs) u e =
    let same : u ≡ k = omega arith in
    list_any-append (eq_by_cmp edge_cmp (u, v)) (map (λ w. (k, w)) x.children.items) (pairs_from (k + 1) xs)
    ∙ ap (λ b. list_any (eq_by_cmp edge_cmp (u, v)) (map (λ w. (k, w)) x.children.items) || b) (none_before u v (k + 1) xs (omega arith))
    ∙ or-false _
    ∙ row u v k x.children.items
    ∙ ap (λ b. b && list_any (nat_eq v) x.children.items) (ap (λ n. nat_eq n k) same ∙ same_eqb k)
pairs_at k (suc i) v (x ∷ xs) u e =
    let ne : u ≢ k = omega arith in
    list_any-append (eq_by_cmp edge_cmp (u, v)) (map (λ w. (k, w)) x.children.items) (pairs_from (k + 1) xs)
    ∙ ap (λ b. b || list_any (eq_by_cmp edge_cmp (u, v)) (pairs_from (k + 1) xs)) (row u v k x.children.items ∙ ap (λ b. b && list_any (nat_eq v) x.children.items) (ne_eqb u k ne))
    ∙ pairs_at (k + 1) i v xs u (omega arith)

-- an edge is there exactly where the child is listed
pub has_edge-children : (nodes : List Node) (u v : ℕ) → set.contains (edges_of nodes) (u, v) ≡ list_any (nat_eq v) (children_of nodes u)
has_edge-children nodes u v = set.contains-from_list edge_cmp_total (pairs_from 0 nodes) (u, v) ∙ pairs_at 0 u v nodes u (omega arith)

pub and_comm : (x y : Bool) → (x && y) ≡ (y && x)
and_comm true true = refl
and_comm true false = refl
and_comm false true = refl
and_comm false false = refl

or_comm : (x y : Bool) → (x || y) ≡ (y || x)
or_comm true true = refl
or_comm true false = refl
or_comm false true = refl
or_comm false false = refl

pub one : (b : Bool) (n v : ℕ) → list_any (nat_eq n) (if b then v ∷ [] else []) ≡ (b && nat_eq n v)
one true n v = or-false (nat_eq n v)
one false n v = refl

module _ (old new : List Node) (u v : ℕ) where
  pub edges-pushed : ((w : ℕ) → children_of new w ≡ children_of old w ++ (if nat_eq w u then v ∷ [] else [])) → edges_of new ≡ set.insert (edges_of old) (u, v)
  edges-pushed children = set.same_set edge_cmp_total edge_cmp-IsAntisymmetric (edges_of new) (set.insert (edges_of old) (u, v)) (λ q.
      has_edge-children new q.0 q.1 ∙ ap (list_any (nat_eq q.1)) (children q.0)
      ∙ list_any-append (nat_eq q.1) (children_of old q.0) (if nat_eq q.0 u then v ∷ [] else [])
      ∙ ap (λ b. list_any (nat_eq q.1) (children_of old q.0) || b) (one (nat_eq q.0 u) q.1 v ∙ sym (eq_pair q.0 q.1 u v))
      ∙ or_comm (list_any (nat_eq q.1) (children_of old q.0)) (eq_by_cmp edge_cmp q (u, v))
      ∙ ap (λ b. eq_by_cmp edge_cmp q (u, v) || b) (sym (has_edge-children old q.0 q.1))
      ∙ sym (set.contains-insert edge_cmp_total (edges_of old) (u, v) q))

  pub mirrors-pushed : Mirrors old
      → ((w : ℕ) → children_of new w ≡ children_of old w ++ (if nat_eq w u then v ∷ [] else []))
      → ((w : ℕ) → parents_of new w ≡ parents_of old w ++ (if nat_eq w v then u ∷ [] else [])) → Mirrors new
  mirrors-pushed mirror children parents a b =
      ap (list_any (nat_eq b)) (children a) ∙ list_any-append (nat_eq b) (children_of old a) (if nat_eq a u then v ∷ [] else [])
      ∙ ap (λ x. x || list_any (nat_eq b) (if nat_eq a u then v ∷ [] else [])) (mirror a b)
      ∙ ap (λ x. list_any (nat_eq a) (parents_of old b) || x) (one (nat_eq a u) b v ∙ and_comm (nat_eq a u) (nat_eq b v) ∙ sym (one (nat_eq b v) a u))
      ∙ sym (list_any-append (nat_eq a) (parents_of old b) (if nat_eq b v then u ∷ [] else []))
      ∙ ap (list_any (nat_eq a)) (sym (parents b))
