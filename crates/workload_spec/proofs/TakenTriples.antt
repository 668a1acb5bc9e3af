-- A load takes each triple that the limits allow.
use Rattle.std.proofs.Common.{◌≡◌, ◌∙◌, ◌+◌, ◌<◌, ◌≤◌, ℕ, zero, suc, Bool, true, false, cond, List, [], ◌∷◌, ◌++◌, length, Option, Some, None, Result, Ok, Err, refl, sym, ap, subst, rules, arith, ◌⊎◌, inl, inr, true≢false}
use Rattle.std.specs.Prelude.{IsTrue, IsSome, ◌&&◌, ◌||◌, is_some, nat_lt, option_and_then, slice_get, unwrap_or, if◌then◌else◌}
use Rattle.std.specs.FinSet as set
use Rattle.std.specs.Map.{lookup}
use Rattle.std.proofs.Math.Bool.{or-true}
use Rattle.std.proofs.lemmas.List.{length_push}
use Rattle.graph_spec.specs.declared.limits.Limits.{Limits}
use Rattle.graph_spec.specs.declared.refusal.Refusal.{Refusal}
use Rattle.graph_spec.specs.declared.refusal.Refusal.TheVariants.{Limit, NoNode}
use Rattle.graph_spec.specs.Graphs.{Graph, edge_cmp, has_edge, is_live, is_seen}
use Rattle.graph_spec.specs.Changes.{edge_fits, with_edge, with_node}
use Rattle.graph_spec.proofs.EdgeOrder.{edge_cmp_total}
use Rattle.graph_spec.proofs.ListLemmas.{get_seam}
use Rattle.change_spec.specs.Steps.{apply, link, node}
use Rattle.change_spec.proofs.SingleSteps.{one_step}
use Rattle.triples_read.specs.declared.term.Term.{Term}
use Rattle.triples_read.specs.declared.term.Triple.{Triple}
use Rattle.term_table.specs.Terms.{number_of, same_term}
use Rattle.term_table.proofs.SameTerms.{term_same}
use Rattle.graph_load.specs.TripleGraphs.{LoadState, changed, from_term, is_loaded, linked, need, nothing_loaded, onto_term, placed, then_do, with_graph, with_triple}
use Rattle.triple_names.specs.Items.{predicate_label, term_label}
use Rattle.graph_load.proofs.ChangeLaws.{need_new, need_there}
use Rattle.triple_names.proofs.PlaceLaws.{lookup_append, lookup_push}

-- Each term that has a number is a live node. There are at least `low` node numbers, and at most so many of each kind.
pub record HasAtMost (low nodes edges labels : ℕ) (l : LoadState) : Type 0 where
  pub live : (x : Term) (n : ℕ) → number_of l.terms x ≡ Some n → IsTrue (is_live l.graph n)
  pub some : low ≤ length l.graph.allocated
  pub few_nodes : length l.graph.allocated ≤ nodes
  pub few_edges : set.len l.graph.edges ≤ edges
  pub few_labels : length l.graph.seen ≤ labels

-- live nodes stay, and so do the numbers of terms
pub record Extends (old new : LoadState) : Type 0 where
  pub live : (n : ℕ) → IsTrue (is_live old.graph n) → IsTrue (is_live new.graph n)
  pub found : (x : Term) (n : ℕ) → number_of old.terms x ≡ Some n → number_of new.terms x ≡ Some n

-- a step is accepted, and leads to a state with so many of each kind
pub record Leads (step : Result LoadState Refusal) (old : LoadState) (low nodes edges labels : ℕ) : Type 0 where
  pub next : LoadState
  pub made : step ≡ Ok next
  pub few : HasAtMost low nodes edges labels next
  pub extends : Extends old next

extends_itself : (l : LoadState) → Extends l l
extends_itself l = record { live = λ n h. h; found = λ x n h. h }

extends_trans : (a b c : LoadState) → Extends a b → Extends b c → Extends a c
extends_trans a b c h k = record { live = λ n e. k.live n (h.live n e); found = λ x n e. k.found x n (h.found x n e) }

then_leads : (step : Result LoadState Refusal) (f : LoadState → Result LoadState Refusal) (old : LoadState) (low nodes edges labels low2 nodes2 edges2 labels2 : ℕ)
    → (first : Leads step old low nodes edges labels) → Leads (f first.next) first.next low2 nodes2 edges2 labels2 → Leads (then_do step f) old low2 nodes2 edges2 labels2
then_leads step f old low nodes edges labels low2 nodes2 edges2 labels2 first second = record {
  next = second.next;
  made = ap (λ r. then_do r f) first.made ∙ second.made;
  few = second.few;
  extends = extends_trans old first.next second.next first.extends second.extends;
}

below : (m n : ℕ) → m < n → nat_lt m n ≡ true
below m n h = search (rules, arith, h)

-- ---- a node more

node_added : (limits : Limits) (g : Graph) (t : List ℕ) → length g.allocated < limits.nodes → length g.seen < limits.labels → apply (node t ∷ []) g limits ≡ Ok (with_node g t)
node_added limits g t h k =
    one_step (node t) g limits
    ∙ ap (λ b. if b && (is_seen g.seen t || nat_lt (length g.seen) limits.labels) then Ok (with_node g t) else Err Limit) (below (length g.allocated) limits.nodes h)
    ∙ ap (λ b. if is_seen g.seen t || b then Ok (with_node g t) else Err Limit) (below (length g.seen) limits.labels k)
    ∙ ap (λ b. if b then Ok (with_node g t) else Err Limit) (or-true (is_seen g.seen t))

labels_more : (b : Bool) (seen : List (List ℕ)) (t : List ℕ) → length (if b then seen else seen ++ t ∷ []) ≤ length seen + 1
labels_more true seen t = omega arith
labels_more false seen t = let e = length_push seen t in omega (arith, e)

label_stays : (allocated : List (Option (List ℕ))) (t : List ℕ) (n : ℕ) → IsSome (option_and_then (λ l. l) (slice_get allocated n))
    → IsSome (option_and_then (λ l. l) (slice_get (allocated ++ Some t ∷ []) n))
label_stays [] t n h = absurd (true≢false (sym h))
label_stays (x ∷ xs) t zero h = h
label_stays (x ∷ xs) t (suc n) h = label_stays xs t n h

new_live : (g : Graph) (t : List ℕ) → IsTrue (is_live (with_node g t) (length g.allocated))
new_live g t = ap (λ o. is_some (option_and_then (λ l. l) o)) (get_seam g.allocated (Some t))

last_found : (b : Bool) (v n : ℕ) → cond b (Some v) None ≡ Some n → (None ≡ Some n) ⊎ (n ≡ v)
last_found true v n h = inr (cc)
last_found false v n h = inl h

found_by : (b : Bool) (w v n : ℕ) (o more : Option ℕ) → cond b (Some w) more ≡ Some n → (more ≡ Some n → (o ≡ Some n) ⊎ (n ≡ v)) → (cond b (Some w) o ≡ Some n) ⊎ (n ≡ v)
found_by true w v n o more h rest = inl h
found_by false w v n o more h rest = rest h

-- a look-up in a list that grew by one finds what it found, or the new number
found_or : (p : Term → Bool) (es : List (Term × ℕ)) (k : Term) (v n : ℕ) → lookup p (es ++ (k, v) ∷ []) ≡ Some n → (lookup p es ≡ Some n) ⊎ (n ≡ v)
found_or p [] k v n h = last_found (p k) v n h
found_or p (x ∷ es) k v n h = found_by (p x.0) x.1 v n (lookup p es) (lookup p (es ++ (k, v) ∷ [])) h (found_or p es k v n)

-- the node of a triple is added, and is live
record AddsNode (limits : Limits) (t : List ℕ) (l : LoadState) (nodes edges labels : ℕ) : Type 0 where
  pub leads : Leads (changed limits (node t) l) l 1 nodes edges labels
  pub live : IsTrue (is_live leads.next.graph (length l.graph.allocated))

-- a term is a node then
record Needs (limits : Limits) (x : Term) (l : LoadState) (low nodes edges labels : ℕ) : Type 0 where
  pub leads : Leads (need limits x l) l low nodes edges labels
  pub number : ℕ
  pub found : number_of leads.next.terms x ≡ Some number

module _ (limits : Limits) (l : LoadState) (low nodes edges labels : ℕ) (has : HasAtMost low nodes edges labels l) (node_fits : nodes < limits.nodes) (label_fits : labels < limits.labels) where
  added : (t : List ℕ) → apply (node t ∷ []) l.graph limits ≡ Ok (with_node l.graph t)
  added t = (let h = has.few_nodes in let k = has.few_labels in node_added limits l.graph t (omega (arith, h, node_fits)) (omega (arith, k, label_fits)))

  need_leads : (x : Term) → Needs limits x l low (nodes + 1) edges (labels + 1)
  need_leads x = by (number_of l.terms x) refl
    where
      by : (o : Option ℕ) → number_of l.terms x ≡ o → Needs limits x l low (nodes + 1) edges (labels + 1)
      by (Some n) e = record {
        leads = record {
          next = l;
          made = need_there limits x l n e;
          few = record { live = has.live; some = has.some; few_nodes = (let h = has.few_nodes in omega (arith, h)); few_edges = has.few_edges; few_labels = (let k = has.few_labels in omega (arith, k)) };
          extends = extends_itself l;
        };
        number = n;
        found = e;
      }
      by None e = record {
        leads = record {
          next = record { graph = with_node l.graph (term_label x); terms = l.terms ++ (x, length l.graph.allocated) ∷ []; triples = l.triples };
          made = need_new limits x l (with_node l.graph (term_label x)) e (added (term_label x));
          few = record {
            live = λ y n f. elim (found_or (same_term y) l.terms x (length l.graph.allocated) n f) [
              | inl old ↦ label_stays l.graph.allocated (term_label x) n (has.live y n old)
              | inr new ↦ subst (λ m. IsTrue (is_live (with_node l.graph (term_label x)) m)) (sym new) (new_live l.graph (term_label x))
            ];
            some = (let s = has.some in let m = length_push l.graph.allocated (Some (term_label x)) in omega (arith, s, m));
            few_nodes = (let h = has.few_nodes in let m = length_push l.graph.allocated (Some (term_label x)) in omega (arith, h, m));
            few_edges = has.few_edges;
            few_labels = (let k = has.few_labels in let m = labels_more (is_seen l.graph.seen (term_label x)) l.graph.seen (term_label x) in omega (arith, k, m));
          };
          extends = record { live = λ n h. label_stays l.graph.allocated (term_label x) n h; found = λ y n f. lookup_append (same_term y) l.terms ((x, length l.graph.allocated) ∷ []) n f };
        };
        number = length l.graph.allocated;
        found = lookup_push (same_term x) l.terms x (length l.graph.allocated) (term_same x) e;
      }

  node_leads : (t : List ℕ) → AddsNode limits t l (nodes + 1) edges (labels + 1)
  node_leads t = record {
    leads = record {
      next = record { graph = with_node l.graph t; terms = l.terms; triples = l.triples };
      made = ap (with_graph l) (added t);
      few = record {
        live = λ y n f. label_stays l.graph.allocated t n (has.live y n f);
        some = (let m = length_push l.graph.allocated (Some t) in omega (arith, m));
        few_nodes = (let h = has.few_nodes in let m = length_push l.graph.allocated (Some t) in omega (arith, h, m));
        few_edges = has.few_edges;
        few_labels = (let k = has.few_labels in let m = labels_more (is_seen l.graph.seen t) l.graph.seen t in omega (arith, k, m));
      };
      extends = record { live = λ n h. label_stays l.graph.allocated t n h; found = λ y n f. f };
    };
    live = new_live l.graph t;
  }

-- ---- an edge more

edge_added : (limits : Limits) (g : Graph) (u v : ℕ) → IsTrue (is_live g u) → IsTrue (is_live g v) → set.len g.edges < limits.edges → apply (link u v ∷ []) g limits ≡ Ok (with_edge g u v)
edge_added limits g u v from onto h =
    one_step (link u v) g limits
    ∙ ap (λ b. if b && is_live g v then (if edge_fits g limits u v then Ok (with_edge g u v) else Err Limit) else Err NoNode) from
    ∙ ap (λ b. if b then (if edge_fits g limits u v then Ok (with_edge g u v) else Err Limit) else Err NoNode) onto
    ∙ ap (λ b. if has_edge g u v || b then Ok (with_edge g u v) else Err Limit) (below (set.len g.edges) limits.edges h)
    ∙ ap (λ b. if b then Ok (with_edge g u v) else Err Limit) (or-true (has_edge g u v))

edges_more : (g : Graph) (u v : ℕ) → set.len (with_edge g u v).edges ≤ set.len g.edges + 1
edges_more g u v = (let e = set.len-insert edge_cmp_total g.edges (u, v) in subst (λ n. n ≤ set.len g.edges + 1) (sym e) (by (set.contains g.edges (u, v))))
  where
    by : (b : Bool) → cond b (set.len g.edges) (set.len g.edges + 1) ≤ set.len g.edges + 1
    by true = omega arith
    by false = omega arith

edge_leads : (limits : Limits) (u v : ℕ) (l : LoadState) (low nodes edges labels : ℕ) → HasAtMost low nodes edges labels l → IsTrue (is_live l.graph u) → IsTrue (is_live l.graph v)
    → edges < limits.edges → Leads (changed limits (link u v) l) l low nodes (edges + 1) labels
edge_leads limits u v l low nodes edges labels has from onto space = record {
  next = record { graph = with_edge l.graph u v; terms = l.terms; triples = l.triples };
  made = ap (with_graph l) (edge_added limits l.graph u v from onto (let h = has.few_edges in omega (arith, h, space)));
  few = record {
    live = has.live;
    some = has.some;
    few_nodes = has.few_nodes;
    few_edges = (let h = has.few_edges in let m = edges_more l.graph u v in omega (arith, h, m));
    few_labels = has.few_labels;
  };
  extends = record { live = λ n h. h; found = λ x n h. h };
}

linked_leads : (limits : Limits) (x : Term) (n : ℕ) (y : Term) (l : LoadState) (u low nodes edges labels : ℕ) → HasAtMost low nodes edges labels l
    → number_of l.terms x ≡ Some u → IsTrue (is_live l.graph n) → nodes < limits.nodes → edges + 1 < limits.edges → labels < limits.labels
    → Leads (linked limits x n y l) l low (nodes + 1) (edges + 1 + 1) (labels + 1)
linked_leads limits x n y l u low nodes edges labels has is_from live node_fits edge_fits label_fits =
    let object = need_leads limits l low nodes edges labels has node_fits label_fits y in
    let a = object.leads.next in
    let from : number_of a.terms x ≡ Some u = object.leads.extends.found x u is_from in
    let first : Leads (from_term limits x n a) a low (nodes + 1) (edges + 1) (labels + 1) =
    subst (λ o. Leads (changed limits (link (unwrap_or o 0) n) a) a low (nodes + 1) (edges + 1) (labels + 1)) (sym from)
    (edge_leads limits u n a low (nodes + 1) edges (labels + 1) object.leads.few (object.leads.few.live x u from) (object.leads.extends.live n live) (omega (arith, edge_fits))) in
    let b = first.next in
    let onto : number_of b.terms y ≡ Some object.number = first.extends.found y object.number object.found in
    let second : Leads (onto_term limits n y b) b low (nodes + 1) (edges + 1 + 1) (labels + 1) =
    subst (λ o. Leads (changed limits (link n (unwrap_or o 0)) b) b low (nodes + 1) (edges + 1 + 1) (labels + 1)) (sym onto)
    (edge_leads limits n object.number b low (nodes + 1) (edges + 1) (labels + 1) first.few (first.extends.live n (object.leads.extends.live n live)) (first.few.live y object.number onto) edge_fits) in
    then_leads (need limits y l) (λ a. then_do (from_term limits x n a) (onto_term limits n y)) l low (nodes + 1) edges (labels + 1) low (nodes + 1) (edges + 1 + 1) (labels + 1) object.leads
    (then_leads (from_term limits x n a) (onto_term limits n y) a low (nodes + 1) (edges + 1) (labels + 1) low (nodes + 1) (edges + 1 + 1) (labels + 1) first second)

-- ---- a triple more

placed_leads : (limits : Limits) (t : Triple) (l : LoadState) (u low nodes edges labels : ℕ) → HasAtMost low nodes edges labels l
    → number_of l.terms t.subject ≡ Some u → nodes + 1 < limits.nodes → edges + 1 < limits.edges → labels + 1 < limits.labels
    → Leads (placed limits t (length l.graph.allocated) l) l 1 (nodes + 1 + 1) (edges + 1 + 1) (labels + 1 + 1)
placed_leads limits t l u low nodes edges labels has is_from node_fits edge_fits label_fits =
    let own = node_leads limits l low nodes edges labels has (omega (arith, node_fits)) (omega (arith, label_fits)) (predicate_label t.predicate) in
    let a = own.leads.next in
    then_leads (changed limits (node (predicate_label t.predicate)) l) (linked limits t.subject (length l.graph.allocated) t.object) l 1 (nodes + 1) edges (labels + 1) 1 (nodes + 1 + 1) (edges + 1 + 1) (labels + 1 + 1) own.leads
    (linked_leads limits t.subject (length l.graph.allocated) t.object a u 1 (nodes + 1) edges (labels + 1) own.leads.few (own.leads.extends.found t.subject u is_from) own.live node_fits edge_fits label_fits)

abbrev noted : Triple → ℕ → LoadState → LoadState
noted t n b = record b { triples = b.triples ++ (t, n) ∷ [] }

note_leads : (t : Triple) (n : ℕ) (b : LoadState) (low nodes edges labels : ℕ) → HasAtMost low nodes edges labels b → Leads (Ok (noted t n b)) b low nodes edges labels
note_leads t n b low nodes edges labels has = record {
  next = noted t n b;
  made = refl;
  few = record { live = has.live; some = has.some; few_nodes = has.few_nodes; few_edges = has.few_edges; few_labels = has.few_labels };
  extends = record { live = λ n h. h; found = λ x n h. h };
}

abbrev pub Takes : Limits → Triple → LoadState → ℕ → ℕ → ℕ → Type 0
Takes limits t l nodes edges labels = Leads (with_triple limits t l) l 1 (nodes + 1 + 1 + 1) (edges + 1 + 1) (labels + 1 + 1 + 1)

-- a triple that isn't loaded is taken: it adds at most three nodes, two edges and three labels
pub new_taken : (limits : Limits) (t : Triple) (l : LoadState) (low nodes edges labels : ℕ) → HasAtMost low nodes edges labels l → is_loaded l t ≡ false
    → nodes + 1 + 1 < limits.nodes → edges + 1 < limits.edges → labels + 1 + 1 < limits.labels → Takes limits t l nodes edges labels
new_taken limits t l low nodes edges labels has unknown node_fits edge_fits label_fits =
    let subject = need_leads limits l low nodes edges labels has (omega (arith, node_fits)) (omega (arith, label_fits)) t.subject in
    let a = subject.leads.next in
    let own = placed_leads limits t a subject.number low (nodes + 1) edges (labels + 1) subject.leads.few subject.found node_fits edge_fits label_fits in
    let whole : Leads (then_do (need limits t.subject l) (λ a. then_do (placed limits t (length a.graph.allocated) a) (λ b. Ok (noted t (length a.graph.allocated) b)))) l 1 (nodes + 1 + 1 + 1) (edges + 1 + 1) (labels + 1 + 1 + 1) =
    then_leads (need limits t.subject l) (λ a. then_do (placed limits t (length a.graph.allocated) a) (λ b. Ok (noted t (length a.graph.allocated) b))) l low (nodes + 1) edges (labels + 1) 1 (nodes + 1 + 1 + 1) (edges + 1 + 1) (labels + 1 + 1 + 1) subject.leads
    (then_leads (placed limits t (length a.graph.allocated) a) (λ b. Ok (noted t (length a.graph.allocated) b)) a 1 (nodes + 1 + 1 + 1) (edges + 1 + 1) (labels + 1 + 1 + 1) 1 (nodes + 1 + 1 + 1) (edges + 1 + 1) (labels + 1 + 1 + 1) own
    (note_leads t (length a.graph.allocated) own.next 1 (nodes + 1 + 1 + 1) (edges + 1 + 1) (labels + 1 + 1 + 1) own.few)) in
    subst (λ b. Leads (if b then Ok l else then_do (need limits t.subject l) (λ a. then_do (placed limits t (length a.graph.allocated) a) (λ b. Ok (noted t (length a.graph.allocated) b)))) l 1 (nodes + 1 + 1 + 1) (edges + 1 + 1) (labels + 1 + 1 + 1)) (sym unknown) whole

-- and so is one that may be loaded already
pub triple_taken : (limits : Limits) (t : Triple) (l : LoadState) (nodes edges labels : ℕ) → HasAtMost 1 nodes edges labels l
    → nodes + 1 + 1 < limits.nodes → edges + 1 < limits.edges → labels + 1 + 1 < limits.labels → Takes limits t l nodes edges labels
triple_taken limits t l nodes edges labels has node_fits edge_fits label_fits = by (is_loaded l t) refl
  where
    by : (b : Bool) → is_loaded l t ≡ b → Takes limits t l nodes edges labels
    by false e = new_taken limits t l 1 nodes edges labels has e node_fits edge_fits label_fits
    by true e = record {
      next = l;
      made = ap (λ b. if b then Ok l else then_do (need limits t.subject l) (λ a. then_do (placed limits t (length a.graph.allocated) a) (λ b. Ok (noted t (length a.graph.allocated) b)))) e;
      few = record {
        live = has.live;
        some = has.some;
        few_nodes = (let h = has.few_nodes in omega (arith, h));
        few_edges = (let h = has.few_edges in omega (arith, h));
        few_labels = (let h = has.few_labels in omega (arith, h));
      };
      extends = extends_itself l;
    }

-- nothing is loaded at first
pub nothing_has : HasAtMost 0 0 0 0 nothing_loaded
nothing_has = record {
  live = λ x n h. absurd (true≢false (sym (ap is_some h)));
  some = omega arith;
  few_nodes = omega arith;
  few_edges = subst (λ n. n ≤ 0) (sym (set.len-empty edge_cmp)) (omega arith);
  few_labels = omega arith;
}
