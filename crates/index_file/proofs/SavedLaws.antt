-- What is read of a whole file, as it is stored.
use Rattle.std.proofs.Common.{◌≡◌, ℕ, zero, suc, ◌<◌, List, [], ◌∷◌, ◌++◌, length, map, get_or, Option, Some, None, true, false, true≢false, refl, sym, ◌∙◌, ap, subst, arith, inl, inr, nat_eq}
use Rattle.std.specs.Prelude.{bytes_eq, slice_get, option_and_then, if◌then◌else◌, ◌||◌}
use Rattle.std.specs.List.{IsDistinct}
use Rattle.std.proofs.Math.Bool.{or-true}
use Rattle.std.proofs.lemmas.List.Folds.{list_any-append}
use Rattle.std.proofs.lemmas.Bool.{cases_Bool, and_parts, eqb-true}
use Rattle.std.proofs.lemmas.List.{length-map}
use Rattle.graph_spec.specs.Graphs.{IsGraph, is_seen, has_edge}
use Rattle.graph_spec.specs.Members.{Lists}
use Rattle.graph_spec.specs.Changes.{with_label}
use Rattle.label_graph.proofs.Tables.{distinct-more, bytes_laws}
use Rattle.bisim_spec.specs.declared.sides.Side.TheVariants.{Parents, Children}
use Rattle.adjacency.specs.Rows.{row, rows_of, edges_in}
use Rattle.adjacency.specs.Targets.{targets_of, own_first, from_own, BeginBelow}
use Rattle.adjacency.proofs.RowLaws.{row_first, rows_count}
use Rattle.index_file.specs.declared.due.Due.{Due}
use Rattle.index_file.specs.declared.due.Due.TheVariants.{Title, Allocated, Nodes, EdgesLeft, Ranks}
use Rattle.index_file.specs.SavedFiles.{seen_after, seen_of, edges_of, graph_of}
use Rattle.index_file.specs.Readings.{Reading, RankedView, live_in, last_via, is_done, is_end, is_complete, file_of, view_in}
use Rattle.index_file.specs.ReadEdges.{JoinLive, AreReadEdges}
use Rattle.index_file.specs.ReadViews.{HaveRanks}
use Rattle.index_file.specs.Drafts.{IsDraft, FitDue}
use Rattle.index_file.specs.SavedGraphs.{saved_file, AreNeighbours, ArePlaces, IsSaved}
use Rattle.index_file.proofs.ReadNodeLaws.{live_below}
use Rattle.index_file.proofs.ReadEdgeLaws.{ends_live}
use Rattle.index_file.proofs.ReadRankLaws.{most_end}
use Rattle.index_file.proofs.SavedEdges.{edges_are, children_are, parents_are, own_children, same_edges, children_once, parents_once, edge_live}

-- labels are seen once
label_once : (seen : List (List ℕ)) (t : List ℕ) → IsDistinct bytes_eq seen → IsDistinct bytes_eq (with_label seen t)
label_once seen t d = elim (cases_Bool (is_seen seen t)) [
  | inl on ↦ subst (λ b. IsDistinct bytes_eq (if b then seen else (seen ++ t ∷ []))) (sym on) d
  | inr off ↦ subst (λ b. IsDistinct bytes_eq (if b then seen else (seen ++ t ∷ []))) (sym off) (distinct-more seen t d off)
]

seen_once : (seen : List (List ℕ)) (allocated : List (Option (List ℕ))) → IsDistinct bytes_eq seen → IsDistinct bytes_eq (seen_after seen allocated)
seen_once seen [] d = d
seen_once seen (None ∷ allocated) d = seen_once seen allocated d
seen_once seen (Some t ∷ allocated) d = seen_once (with_label seen t) allocated (label_once seen t d)

none_once : IsDistinct bytes_eq []
unfolding IsDistinct
none_once = tt

pub seen_distinct : (allocated : List (Option (List ℕ))) → IsDistinct bytes_eq (seen_of allocated)
seen_distinct allocated = seen_once [] allocated none_once

seen_with : (seen : List (List ℕ)) (t : List ℕ) → is_seen (with_label seen t) t ≡ true
seen_with seen t = elim (cases_Bool (is_seen seen t)) [
  | inl on ↦ ap (λ b. is_seen (if b then seen else (seen ++ t ∷ [])) t) on ∙ on
  | inr off ↦
      ap (λ b. is_seen (if b then seen else (seen ++ t ∷ [])) t) off ∙ list_any-append (bytes_eq t) seen (t ∷ [])
      ∙ ap (λ x. is_seen seen t || (x || false)) (bytes_laws.refl t) ∙ or-true (is_seen seen t)
]

seen_still : (seen : List (List ℕ)) (t u : List ℕ) → is_seen seen t ≡ true → is_seen (with_label seen u) t ≡ true
seen_still seen t u h = elim (cases_Bool (is_seen seen u)) [
  | inl on ↦ ap (λ b. is_seen (if b then seen else (seen ++ u ∷ [])) t) on ∙ h
  | inr off ↦ ap (λ b. is_seen (if b then seen else (seen ++ u ∷ [])) t) off ∙ list_any-append (bytes_eq t) seen (u ∷ []) ∙ ap (λ x. x || is_seen (u ∷ []) t) h
]

seen_kept : (seen : List (List ℕ)) (allocated : List (Option (List ℕ))) (t : List ℕ) → is_seen seen t ≡ true → is_seen (seen_after seen allocated) t ≡ true
seen_kept seen [] t h = h
seen_kept seen (None ∷ allocated) t h = seen_kept seen allocated t h
seen_kept seen (Some u ∷ allocated) t h = seen_kept (with_label seen u) allocated t (seen_still seen t u h)

some_one : (t u : List ℕ) → Some t ≡ Some u → t ≡ u
some_one t u e = cc

-- the label of each live node is seen
seen_all : (seen : List (List ℕ)) (allocated : List (Option (List ℕ))) (n : ℕ) (t : List ℕ) → option_and_then (λ l. l) (slice_get allocated n) ≡ Some t
    → is_seen (seen_after seen allocated) t ≡ true
seen_all seen [] n t e = absurd (let z : None ≡ Some t = e in cc)
seen_all seen (None ∷ allocated) zero t e = absurd (let z : None ≡ Some t = e in cc)
seen_all seen (None ∷ allocated) (suc n) t e = seen_all seen allocated n t e
seen_all seen (Some u ∷ allocated) zero t e =
    seen_kept (with_label seen u) allocated t (subst (λ x. is_seen (with_label seen u) x ≡ true) (some_one u t e) (seen_with seen u))
seen_all seen (Some u ∷ allocated) (suc n) t e = seen_all (with_label seen u) allocated n t e

pub graph_read : (allocated : List (Option (List ℕ))) (pairs : List (ℕ × ℕ)) → JoinLive allocated pairs → IsGraph (graph_of allocated pairs)
graph_read allocated pairs join = record {
  distinct = seen_distinct allocated;
  labelled = λ n t h. seen_all [] allocated n t h;
  from = λ u v h. (edge_live allocated pairs u v join h).0;
  onto = λ u v h. (edge_live allocated pairs u v join h).1;
}

-- both ends of each edge are allocated
begin_below : (allocated : List (Option (List ℕ))) (pairs : List (ℕ × ℕ)) → JoinLive allocated pairs → BeginBelow (length allocated) pairs
begin_below allocated pairs join j h = live_below allocated (get_or pairs j (0, 0)).0 (ends_live allocated pairs j join h).0

turned_at : (pairs : List (ℕ × ℕ)) (j : ℕ) → get_or (from_own Parents pairs) j (0, 0) ≡ ((get_or pairs j (0, 0)).1, (get_or pairs j (0, 0)).0)
turned_at [] j = refl
turned_at (e ∷ es) zero = refl
turned_at (e ∷ es) (suc j) = turned_at es j

pub children_below : (allocated : List (Option (List ℕ))) (pairs : List (ℕ × ℕ)) → JoinLive allocated pairs → BeginBelow (length allocated) (from_own Children pairs)
children_below allocated pairs join = subst (BeginBelow (length allocated)) (sym (own_children pairs)) (begin_below allocated pairs join)

pub parents_below : (allocated : List (Option (List ℕ))) (pairs : List (ℕ × ℕ)) → JoinLive allocated pairs → BeginBelow (length allocated) (from_own Parents pairs)
parents_below allocated pairs join j h =
    let l : j < length pairs = (let m = length-map pairs (own_first Parents) in omega (arith, m, h)) in
    subst (λ (e : ℕ × ℕ). e.0 < length allocated) (sym (turned_at pairs j)) (live_below allocated (get_or pairs j (0, 0)).1 (ends_live allocated pairs j join l).1)

-- the lists that are made of the edges
module _ (allocated : List (Option (List ℕ))) (pairs : List (ℕ × ℕ)) (a : AreReadEdges allocated pairs) (children parents : List (List ℕ))
    (c : children ≡ rows_of (targets_of (from_own Children pairs)) 0 (length allocated)) (p : parents ≡ rows_of (targets_of (from_own Parents pairs)) 0 (length allocated)) where
  rows : children ≡ rows_of (targets_of pairs) 0 (length allocated)
  rows = c ∙ ap (λ es. rows_of (targets_of es) 0 (length allocated)) (own_children pairs)

  edges_same : edges_of (edges_in 0 children) ≡ edges_of pairs
  edges_same = ap (λ rs. edges_of (edges_in 0 rs)) rows ∙ same_edges pairs (length allocated) (begin_below allocated pairs a.live)

  pub graph_same : graph_of allocated (edges_in 0 children) ≡ graph_of allocated pairs
  graph_same = ap (λ es. record { allocated = allocated; edges = es; seen = seen_of allocated }) edges_same

  lists_read : AreNeighbours (graph_of allocated pairs) children parents
  lists_read = record {
    children_all = ap length c ∙ rows_count (targets_of (from_own Children pairs)) 0 (length allocated);
    parents_all = ap length p ∙ rows_count (targets_of (from_own Parents pairs)) 0 (length allocated);
    child_lists = λ n h.
        let r : row children n ≡ targets_of pairs n = ap (λ rs. row rs n) rows ∙ row_first (targets_of pairs) (length allocated) n h in
        subst (Lists (has_edge (graph_of allocated pairs) n)) (sym r)
        (record { once = children_once None pairs n a.rise; members = λ v. children_are pairs n v ∙ sym (edges_are pairs n v) });
    parent_lists = λ n h.
        let r : row parents n ≡ targets_of (from_own Parents pairs) n = ap (λ rs. row rs n) p ∙ row_first (targets_of (from_own Parents pairs)) (length allocated) n h in
        subst (Lists (λ u. has_edge (graph_of allocated pairs) u n)) (sym r)
        (record { once = parents_once None pairs n a.rise; members = λ u. parents_are pairs u n ∙ sym (edges_are pairs u n) });
  }

-- a reading that may end is stored whole
ranks_due : (due : Due) (live : ℕ) (views : List RankedView) → is_done due (length views) ≡ true → FitDue due live views → HaveRanks live views 0
ranks_due Title live views h f = absurd (true≢false (sym h))
ranks_due Allocated live views h f = absurd (true≢false (sym h))
ranks_due (Nodes n) live views h f = absurd (true≢false (sym h))
ranks_due (EdgesLeft m) live views h f = absurd (true≢false (sym h))
ranks_due (Ranks m n) live views h f = subst (HaveRanks live views) (eqb-true m 0 (and_parts (nat_eq m 0) (nat_eq (length views) n) h).0) f

module _ (r : Reading) (d : IsDraft r) (whole : is_complete r ≡ true) (children parents : List (List ℕ)) (places : List ℕ)
    (c : children ≡ rows_of (targets_of (from_own Children r.pairs)) 0 (length r.allocated)) (p : parents ≡ rows_of (targets_of (from_own Parents r.pairs)) 0 (length r.allocated)) where
  pub read_saved : ArePlaces r.allocated places → IsSaved r.allocated children parents r.views places
  read_saved places_are =
      let parts = and_parts (is_done r.due (length r.views)) (is_end r.k (last_via r.views)) whole in
      let most = most_end r.k (last_via r.views) d.level parts.1 in
      let views = d.few_views in
      let nodes = d.few_nodes in
      let same = sym (graph_same r.allocated r.pairs d.edges children parents c p) in
      record {
        few_nodes = omega (arith, nodes);
        few_views = omega (arith, views, most);
        graph = subst IsGraph same (graph_read r.allocated r.pairs d.edges.live);
        neighbours = subst (λ g. AreNeighbours g children parents) same (lists_read r.allocated r.pairs d.edges children parents c p);
        ranks = ranks_due r.due (live_in r.allocated) r.views parts.0 d.views;
        placed = places_are;
      }

  pub read_file : saved_file r.allocated children r.k r.views ≡ file_of r
  read_file = ap (λ g. record { graph = g; k = r.k; views = map (view_in r.allocated) r.views }) (graph_same r.allocated r.pairs d.edges children parents c p)
