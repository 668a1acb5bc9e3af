-- A node loses its edges one by one, and then it goes.
use Rattle.std.proofs.Common.{◌≡◌, ℕ, ◌<◌, true, false, None, refl, sym, ap, ◌∙◌, subst, arith, inl, inr, nat_eq}
use Rattle.std.specs.Prelude.{◌&&◌, ◌||◌, not, slice_set}
use Rattle.std.specs.FinSet as set
use Rattle.std.proofs.Math.Bool.{and-false, and-true, or-true}
use Rattle.std.proofs.lemmas.Bool.{cases_Bool}
use Rattle.std.proofs.lemmas.Bool.Decides.{eqb_tells}
use Rattle.graph_spec.specs.Graphs.{Graph, has_edge}
use Rattle.graph_spec.specs.Changes.{without_edge, is_used}
use Rattle.graph_spec.specs.Changes as change
use Rattle.graph_spec.proofs.EdgeOrder.{edge_cmp_total, edge_cmp-IsAntisymmetric}
use Rattle.graph_spec.proofs.Uses.{bare_unused}
use Rattle.bisim_spec.proofs.EdgeSets.{eq, eq_is, kept, some_len}
use Rattle.change_spec.specs.Steps.{touches, without_node}
use Rattle.change_spec.proofs.KeptEdges.{removed_len}
use Rattle.label_graph.specs.ReservedGraphs.{ReservedGraph}
use Rattle.graph_update.specs.StagedChanges.{LosesEdgesAt}

-- without the node the graph is the same, whether an edge at the node was there or not
edge_lost : (g : Graph) (u a b : ℕ) → touches u (a, b) ≡ true → without_node (without_edge g a b) u ≡ without_node g u
edge_lost g u a b at = ap (λ es. record g { allocated = slice_set g.allocated u None; edges = es })
    (set.same_set edge_cmp_total edge_cmp-IsAntisymmetric (set.retain (set.remove g.edges (a, b)) (λ e. not (touches u e))) (set.retain g.edges (λ e. not (touches u e))) (λ k.
    kept (set.remove g.edges (a, b)) (λ e. not (touches u e)) k
    ∙ ap (λ x. x && not (touches u k)) (set.contains-remove edge_cmp_total g.edges (a, b) k)
    ∙ same k ∙ sym (kept g.edges (λ e. not (touches u e)) k)))
  where
    same : (k : ℕ × ℕ) → ((not (eq k (a, b)) && set.contains g.edges k) && not (touches u k)) ≡ (set.contains g.edges k && not (touches u k))
    same k = elim (cases_Bool (eq k (a, b))) [
      | inl h ↦ (
          let off : not (touches u k) ≡ false = ap (λ e. not (touches u e)) (eq_is k (a, b) h) ∙ ap not at in
          ap (λ x. (not (eq k (a, b)) && set.contains g.edges k) && x) off ∙ and-false (not (eq k (a, b)) && set.contains g.edges k)
          ∙ sym (ap (λ x. set.contains g.edges k && x) off ∙ and-false (set.contains g.edges k)))
      | inr h ↦ ap (λ x. (not x && set.contains g.edges k) && not (touches u k)) h
    ]

pub loses_none : (u : ℕ) (held : ReservedGraph) → LosesEdgesAt u held held
loses_none u held = record { rest = refl; live = refl; reserved = refl }

pub loses_both : (u : ℕ) (old mid new : ReservedGraph) → LosesEdgesAt u old mid → LosesEdgesAt u mid new → LosesEdgesAt u old new
loses_both u old mid new a b = record { rest = b.rest ∙ a.rest; live = b.live ∙ a.live; reserved = b.reserved ∙ a.reserved }

-- one edge more
loses_edge : (u a b : ℕ) (old mid new : ReservedGraph) → touches u (a, b) ≡ true → LosesEdgesAt u old mid → new ≡ record { graph = without_edge mid.graph a b; reserved = mid.reserved }
    → LosesEdgesAt u old new
loses_edge u a b old mid new at lost e =
    let here : LosesEdgesAt u old (record { graph = without_edge mid.graph a b; reserved = mid.reserved }) =
    record { rest = edge_lost mid.graph u a b at ∙ lost.rest; live = lost.live; reserved = lost.reserved } in
    subst (LosesEdgesAt u old) (sym e) here

itself : (n : ℕ) → nat_eq n n ≡ true
itself n = elim (eqb_tells n n) [ inl e ↦ e.0 | inr x ↦ absurd (x.1 refl) ]

pub loses_child : (u v : ℕ) (old mid new : ReservedGraph) → LosesEdgesAt u old mid → new ≡ record { graph = without_edge mid.graph u v; reserved = mid.reserved } → LosesEdgesAt u old new
loses_child u v old mid new = loses_edge u u v old mid new (ap (λ b. b || nat_eq v u) (itself u))

pub loses_parent : (u p : ℕ) (old mid new : ReservedGraph) → LosesEdgesAt u old mid → new ≡ record { graph = without_edge mid.graph p u; reserved = mid.reserved } → LosesEdgesAt u old new
loses_parent u p old mid new = loses_edge u p u old mid new (ap (λ b. nat_eq p u || b) (itself u) ∙ or-true (nat_eq p u))

-- there is one edge fewer
pub fewer_edges : (a b : ℕ) (mid new : ReservedGraph) → has_edge mid.graph a b ≡ true → new ≡ record { graph = without_edge mid.graph a b; reserved = mid.reserved }
    → set.len new.graph.edges < set.len mid.graph.edges
fewer_edges a b mid new there e =
    let some = some_len mid.graph.edges (a, b) there in
    let one = removed_len mid.graph.edges (a, b) there in
    let same = ap (λ h. set.len h.graph.edges) e in
    omega (arith, some, one, same)

-- an edge that isn't there doesn't come
pub stays_absent : (a b p q : ℕ) (mid new : ReservedGraph) → new ≡ record { graph = without_edge mid.graph a b; reserved = mid.reserved } → has_edge mid.graph p q ≡ false → has_edge new.graph p q ≡ false
stays_absent a b p q mid new e off =
    ap (λ h. has_edge h.graph p q) e ∙ set.contains-remove edge_cmp_total mid.graph.edges (a, b) (p, q) ∙ ap (λ x. not (eq (p, q) (a, b)) && x) off ∙ and-false (not (eq (p, q) (a, b)))

-- no edge is at the node
module _ (g : Graph) (u : ℕ) (from : (n : ℕ) → has_edge g u n ≡ false) (onto : (n : ℕ) → has_edge g n u ≡ false) where
  pub unused : is_used g u ≡ false
  unused = bare_unused g u (record { from = from; onto = onto })

  all_kept : (a b : ℕ) → set.contains g.edges (a, b) ≡ (set.contains g.edges (a, b) && not (nat_eq a u || nat_eq b u))
  all_kept a b = elim (eqb_tells a u) [
    | inl e ↦ (let none : set.contains g.edges (a, b) ≡ false = ap (λ n. set.contains g.edges (n, b)) e.1 ∙ from b in none ∙ sym (ap (λ x. x && not (nat_eq a u || nat_eq b u)) none))
    | inr x ↦ elim (eqb_tells b u) [
      | inl e ↦ (let none : set.contains g.edges (a, b) ≡ false = ap (λ n. set.contains g.edges (a, n)) e.1 ∙ onto a in none ∙ sym (ap (λ x. x && not (nat_eq a u || nat_eq b u)) none))
      | inr y ↦ sym (ap (λ x. set.contains g.edges (a, b) && not (x || nat_eq b u)) x.0 ∙ ap (λ x. set.contains g.edges (a, b) && not x) y.0 ∙ and-true (set.contains g.edges (a, b)))
    ]
  ]

  bare_gone : change.without_node g u ≡ without_node g u
  bare_gone = ap (λ es. record g { allocated = slice_set g.allocated u None; edges = es })
      (set.same_set edge_cmp_total edge_cmp-IsAntisymmetric g.edges (set.retain g.edges (λ e. not (touches u e))) (λ k. all_kept k.0 k.1 ∙ sym (kept g.edges (λ e. not (touches u e)) k)))

pub node_gone : (u : ℕ) (old mid new : ReservedGraph) → LosesEdgesAt u old mid → ((n : ℕ) → has_edge mid.graph u n ≡ false) → ((n : ℕ) → has_edge mid.graph n u ≡ false)
    → new ≡ record { graph = change.without_node mid.graph u; reserved = mid.reserved } → new ≡ record { graph = without_node old.graph u; reserved = old.reserved }
node_gone u old mid new lost from onto e =
    e ∙ ap (λ g. record { graph = g; reserved = mid.reserved }) (bare_gone mid.graph u from onto ∙ lost.rest) ∙ ap (λ r. record { graph = without_node old.graph u; reserved = r }) lost.reserved
