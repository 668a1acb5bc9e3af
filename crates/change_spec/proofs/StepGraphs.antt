-- A graph stays one where steps are made.
use Rattle.std.proofs.Common.{◌≡◌, ◌≢◌, ℕ, zero, suc, Bool, true, false, List, [], ◌∷◌, ◌++◌, length, Option, Some, None, Ok, Err, refl, sym, ap, ◌∙◌, subst, nat_eq, inl, inr, true≢false}
use Rattle.std.specs.Prelude.{◌||◌, ◌&&◌, not, IsTrue, IsSome, Result, is_some, slice_get, slice_set, option_and_then, if◌then◌else◌, nat_le}
use Rattle.std.proofs.lemmas.Bool.{and_parts, or_parts, not-true}
use Rattle.std.proofs.lemmas.Bool.Decides.{eqb_tells}
use Rattle.graph_spec.specs.declared.limits.Limits.{Limits}
use Rattle.graph_spec.specs.declared.refusal.Refusal.{Refusal}
use Rattle.graph_spec.specs.declared.refusal.Refusal.TheVariants.{NoNode, NoEdge, Limit}
use Rattle.graph_spec.specs.Graphs.{Graph, IsGraph, label_of, is_live, has_edge, is_seen}
use Rattle.graph_spec.specs.Changes.{with_label, with_node, with_edge, without_edge, node_fits, edge_fits}
use Rattle.graph_spec.proofs.GraphLaws.{graph_with_node, graph_with_edge, graph_without_edge}
use Rattle.bisim_spec.proofs.EdgeSets.{kept}
use Rattle.change_spec.specs.Steps.{Step, node, link, unlink, drop, relabel, touches, without_node, labelled, made, label_fits, apply_step, and_then, apply_all, apply, after, MOST_STEPS}

-- the edges that are left without a node
pub edge_dropped : (g : Graph) (u a b : ℕ) → has_edge (without_node g u) a b ≡ (has_edge g a b && not (nat_eq a u || nat_eq b u))
edge_dropped g u a b = kept g.edges (λ e. not (touches u e)) (a, b)

-- only the label at that place changes
pub label_other : (given : List (Option (List ℕ))) (u n : ℕ) (o : Option (List ℕ)) → n ≢ u → option_and_then (λ l. l) (slice_get (slice_set given u o) n) ≡ option_and_then (λ l. l) (slice_get given n)
label_other [] u n o e = refl
label_other (x ∷ xs) zero zero o e = absurd (e refl)
label_other (x ∷ xs) zero (suc n) o e = refl
label_other (x ∷ xs) (suc u) zero o e = refl
label_other (x ∷ xs) (suc u) (suc n) o e = label_other xs u n o (λ p. e (ap suc p))

-- where a place is set to none, nothing is there
label_unset : (given : List (Option (List ℕ))) (u : ℕ) → option_and_then (λ l. l) (slice_get (slice_set given u None) u) ≡ None
label_unset [] u = refl
label_unset (x ∷ xs) zero = refl
label_unset (x ∷ xs) (suc u) = label_unset xs u

pub label_gone : (g : Graph) (u : ℕ) → label_of (without_node g u) u ≡ None
label_gone g u = label_unset g.allocated u

-- where a place that is there is set to a label, that is there
label_put : (given : List (Option (List ℕ))) (u : ℕ) (t : List ℕ) → IsSome (option_and_then (λ l. l) (slice_get given u)) → option_and_then (λ l. l) (slice_get (slice_set given u (Some t)) u) ≡ Some t
label_put [] u t h = absurd (true≢false (sym h))
label_put (x ∷ xs) zero t h = refl
label_put (x ∷ xs) (suc u) t h = label_put xs u t h

pub label_given : (g : Graph) (u : ℕ) (t : List ℕ) → IsTrue (is_live g u) → label_of (labelled g u t) u ≡ Some t
label_given g u t h = label_put g.allocated u t h

pub graph_dropped : (g : Graph) (u : ℕ) → IsGraph g → IsGraph (without_node g u)
graph_dropped g u s = record {
  distinct = s.distinct;
  labelled = λ n t h. s.labelled n t (sym (label_other g.allocated u n None (λ e. absurd (none n t e h))) ∙ h);
  from = λ a b h. (let k = sides a b h in ap is_some (label_other g.allocated u a None k.1) ∙ s.from a b k.0);
  onto = λ a b h. (let k = sides a b h in ap is_some (label_other g.allocated u b None k.2) ∙ s.onto a b k.0);
}
  where
    none : (n : ℕ) (t : List ℕ) → n ≡ u → label_of (without_node g u) n ≡ Some t → ⊥
    none n t e h = let z : label_of (without_node g u) u ≡ Some t = subst (λ m. label_of (without_node g u) m ≡ Some t) e h in let k = label_gone g u in cc

    apart : (a : ℕ) → nat_eq a u ≡ false → a ≢ u
    apart a h = elim (eqb_tells a u) [ inl t ↦ (let f = t.0 in λ _. cc) | inr d ↦ d.1 ]

    sides : (a b : ℕ) → IsTrue (has_edge (without_node g u) a b) → IsTrue (has_edge g a b) × (a ≢ u) × (b ≢ u)
    sides a b h =
        let both = and_parts (has_edge g a b) (not (nat_eq a u || nat_eq b u)) (sym (edge_dropped g u a b) ∙ h) in
        let off = or_parts (nat_eq a u) (nat_eq b u) (not-true (nat_eq a u || nat_eq b u) both.1) in
        (both.0, apart a off.0, apart b off.1)

-- with one more label, what was seen is seen, and so is the label
pub graph_labelled : (g : Graph) (u : ℕ) (t : List ℕ) → IsGraph g → IsTrue (is_live g u) → IsGraph (labelled g u t)
graph_labelled g u t s live =
    let grown = graph_with_node g t s in
    record {
      distinct = grown.distinct;
      labelled = λ n r h. elim (eqb_tells n u) [
        | inl e ↦ (
            let here : Some t ≡ Some r = sym (label_given g u t live) ∙ subst (λ m. label_of (labelled g u t) m ≡ Some r) e.1 h in
            let same : t ≡ r = cc in
            subst (λ x. IsTrue (is_seen (with_label g.seen t) x)) same (new grown))
        | inr d ↦ old grown n r (sym (label_other g.allocated u n (Some t) d.1) ∙ h)
      ];
      from = λ a b h. still a (s.from a b h);
      onto = λ a b h. still b (s.onto a b h);
    }
  where
    last : (given : List (Option (List ℕ))) → option_and_then (λ l. l) (slice_get (given ++ Some t ∷ []) (length given)) ≡ Some t
    last [] = refl
    last (x ∷ xs) = last xs

    front : (given : List (Option (List ℕ))) (n : ℕ) (r : List ℕ) → option_and_then (λ l. l) (slice_get given n) ≡ Some r → option_and_then (λ l. l) (slice_get (given ++ Some t ∷ []) n) ≡ Some r
    front [] n r h = cc
    front (x ∷ xs) zero r h = h
    front (x ∷ xs) (suc n) r h = front xs n r h

    new : IsGraph (with_node g t) → IsTrue (is_seen (with_label g.seen t) t)
    new grown = grown.labelled (length g.allocated) t (last g.allocated)

    old : IsGraph (with_node g t) → (n : ℕ) (r : List ℕ) → label_of g n ≡ Some r → IsTrue (is_seen (with_label g.seen t) r)
    old grown n r h = grown.labelled n r (front g.allocated n r h)

    still : (a : ℕ) → IsTrue (is_live g a) → IsTrue (is_live (labelled g u t) a)
    still a h = elim (eqb_tells a u) [
      | inl e ↦ subst (λ m. IsTrue (is_live (labelled g u t) m)) (sym e.1) (ap is_some (label_given g u t live))
      | inr d ↦ ap is_some (label_other g.allocated u a (Some t) d.1) ∙ h
    ]

passes : (b : Bool) (r : Result Graph Refusal) (e : Refusal) (h : Graph) → (if b then r else Err e) ≡ Ok h → (b ≡ true) × (r ≡ Ok h)
passes true r e h p = (refl, p)
passes false r e h p = cc

same_graph : (r : Result Graph Refusal) (g h : Graph) → r ≡ Ok g → r ≡ Ok h → g ≡ h
same_graph r g h p q = cc

abbrev OkGraph : Graph → Result Graph Refusal
OkGraph g = Ok g

the_graph : (g h : Graph) → OkGraph g ≡ OkGraph h → g ≡ h
the_graph g h p = same_graph (OkGraph g) g h refl p

-- an accepted step leaves the graph that it makes
pub stepped : (s : Step) (g h : Graph) (limits : Limits) → apply_step s g limits ≡ Ok h → h ≡ made s g
stepped (node t) g h limits e = sym (the_graph (with_node g t) h (passes (node_fits g limits t) (Ok (with_node g t)) Limit h e).1)
stepped (link u v) g h limits e =
    let outer = passes (is_live g u && is_live g v) (if edge_fits g limits u v then Ok (with_edge g u v) else Err Limit) NoNode h e in
    sym (the_graph (with_edge g u v) h (passes (edge_fits g limits u v) (Ok (with_edge g u v)) Limit h outer.1).1)
stepped (unlink u v) g h limits e =
    let outer = passes (is_live g u && is_live g v) (if has_edge g u v then Ok (without_edge g u v) else Err NoEdge) NoNode h e in
    sym (the_graph (without_edge g u v) h (passes (has_edge g u v) (Ok (without_edge g u v)) NoEdge h outer.1).1)
stepped (drop u) g h limits e = sym (the_graph (without_node g u) h (passes (is_live g u) (Ok (without_node g u)) NoNode h e).1)
stepped (relabel u t) g h limits e =
    let outer = passes (is_live g u) (if label_fits g limits t then Ok (labelled g u t) else Err Limit) NoNode h e in
    sym (the_graph (labelled g u t) h (passes (label_fits g limits t) (Ok (labelled g u t)) Limit h outer.1).1)

pub graph_made : (s : Step) (g h : Graph) (limits : Limits) → IsGraph g → apply_step s g limits ≡ Ok h → IsGraph (made s g)
graph_made (node t) g h limits s e = graph_with_node g t s
graph_made (link u v) g h limits s e =
    let outer = passes (is_live g u && is_live g v) (if edge_fits g limits u v then Ok (with_edge g u v) else Err Limit) NoNode h e in
    let live = and_parts (is_live g u) (is_live g v) outer.0 in
    graph_with_edge g u v s live.0 live.1
graph_made (unlink u v) g h limits s e = graph_without_edge g u v s
graph_made (drop u) g h limits s e = graph_dropped g u s
graph_made (relabel u t) g h limits s e =
    graph_labelled g u t s (passes (is_live g u) (if label_fits g limits t then Ok (labelled g u t) else Err Limit) NoNode h e).0

-- an accepted step is made, and then the others
pub first_made : (r : Result Graph Refusal) (f : Graph → Result Graph Refusal) (h : Graph) → and_then r f ≡ Ok h → (g : Graph) × (r ≡ Ok g) × (f g ≡ Ok h)
first_made (Ok g) f h e = (g, refl, e)
first_made (Err r) f h e = cc

-- accepted steps leave the graph that they make, which is one
pub all_made : (c : List Step) (g h : Graph) (limits : Limits) → IsGraph g → apply_all c g limits ≡ Ok h → (h ≡ after c g) × IsGraph (after c g)
all_made [] g h limits s e = (sym (the_graph g h e), s)
all_made (x ∷ xs) g h limits s e =
    let first = first_made (apply_step x g limits) (λ k. apply_all xs k limits) h e in
    let same = stepped x g first.0 limits first.1 in
    all_made xs (made x g) h limits (graph_made x g first.0 limits s first.1) (subst (λ k. apply_all xs k limits ≡ Ok h) same first.2)

-- the same for a change
pub applied_after : (c : List Step) (g h : Graph) (limits : Limits) → IsGraph g → apply c g limits ≡ Ok h → (h ≡ after c g) × IsGraph (after c g)
applied_after c g h limits s e = all_made c g h limits s (passes (nat_le (length c) MOST_STEPS) (apply_all c g limits) Limit h e).1
