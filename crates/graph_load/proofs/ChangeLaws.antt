-- What changes make of the state of a load.
use Rattle.std.proofs.Common.{◌≡◌, ℕ, ◌+◌, Bool, true, false, ◌&&◌, ◌||◌, List, [], ◌∷◌, ◌++◌, length, Some, None, Result, Ok, Err, sym, ap, ◌∙◌, true≢false}
use Rattle.std.specs.Prelude.{is_some, is_ok, nat_lt, if◌then◌else◌}
use Rattle.std.proofs.lemmas.List.{length_push}
use Rattle.graph_spec.specs.declared.limits.Limits.{Limits}
use Rattle.graph_spec.specs.declared.refusal.Refusal.TheVariants.{Limit, NoNode}
use Rattle.graph_spec.specs.Graphs.{Graph, is_live, is_seen}
use Rattle.graph_spec.specs.Changes.{node_fits, edge_fits, with_node, with_edge}
use Rattle.change_spec.specs.Steps.{node, link, apply}
use Rattle.change_spec.proofs.SingleSteps.{one_step}
use Rattle.triples_read.specs.declared.term.Term.{Term}
use Rattle.triple_names.specs.Items.{term_label}
use Rattle.graph_load.specs.TripleGraphs.{LoadState, with_graph, changed, numbered, need}
use Rattle.term_table.specs.Terms.{number_of}

abbrev value_or : {T E : Type 0} → T → Result T E → T
value_or x (Ok z) = z
value_or x (Err e) = x

pub ok_is : {T E : Type 0} (x y : T) → ◌≡◌ {A = Result T E} (Ok x) (Ok y) → x ≡ y
ok_is x y h = ap (value_or x) h

pub not_both : {T E : Type 0} (e : E) (y : T) → Err e ≡ Ok y → ⊥
not_both e y h = true≢false (sym (ap is_ok h))

pub node_made : (t : List ℕ) (g : Graph) (limits : Limits) (h : Graph) → apply (node t ∷ []) g limits ≡ Ok h → length h.allocated ≡ length g.allocated + 1
node_made t g limits h made = by (node_fits g limits t) (sym (one_step (node t) g limits) ∙ made)
  where
    by : (b : Bool) → (if b then Ok (with_node g t) else Err Limit) ≡ Ok h → length h.allocated ≡ length g.allocated + 1
    by true e = ap (λ (x : Graph). length x.allocated) (sym (ok_is (with_node g t) h e)) ∙ length_push g.allocated (Some t)
    by false e = absurd (not_both Limit h e)

pub link_made : (u v : ℕ) (g : Graph) (limits : Limits) (h : Graph) → apply (link u v ∷ []) g limits ≡ Ok h → h.allocated ≡ g.allocated
link_made u v g limits h made = by (is_live g u && is_live g v) (edge_fits g limits u v) (sym (one_step (link u v) g limits) ∙ made)
  where
    by : (b c : Bool) → (if b then (if c then Ok (with_edge g u v) else Err Limit) else Err NoNode) ≡ Ok h → h.allocated ≡ g.allocated
    by true true e = ap (λ (x : Graph). x.allocated) (sym (ok_is (with_edge g u v) h e))
    by true false e = absurd (not_both Limit h e)
    by false c e = absurd (not_both NoNode h e)

pub node_full : (t : List ℕ) (g : Graph) (limits : Limits) → nat_lt (length g.allocated) limits.nodes ≡ false → apply (node t ∷ []) g limits ≡ Err Limit
node_full t g limits h =
    one_step (node t) g limits ∙ ap (λ b. if b && (is_seen g.seen t || nat_lt (length g.seen) limits.labels) then Ok (with_node g t) else Err Limit) h

pub need_there : (limits : Limits) (x : Term) (l : LoadState) (n : ℕ) → number_of l.terms x ≡ Some n → need limits x l ≡ Ok l
need_there limits x l n h = ap (λ o. if is_some o then Ok l else changed limits (node (term_label x)) (numbered x (length l.graph.allocated) l)) h

pub need_new : (limits : Limits) (x : Term) (l : LoadState) (g : Graph) → number_of l.terms x ≡ None → apply (node (term_label x) ∷ []) l.graph limits ≡ Ok g
    → need limits x l ≡ Ok (record { graph = g; terms = l.terms ++ (x, length l.graph.allocated) ∷ []; triples = l.triples })
need_new limits x l g none made =
    ap (λ o. if is_some o then Ok l else changed limits (node (term_label x)) (numbered x (length l.graph.allocated) l)) none
    ∙ ap (with_graph (numbered x (length l.graph.allocated) l)) made
