-- What is known of steps that are accepted within some limits.
use Rattle.std.proofs.Common.{◌≡◌, ◌≢◌, ℕ, ◌+◌, ◌-◌, ◌<◌, ◌≤◌, ◌^◌, Bool, true, false, cond, List, [], ◌∷◌, length, length-append, Some, None, Ok, Err, refl, ap, ◌∙◌, subst, arith, nat_lt}
use Rattle.std.specs.Prelude.{◌&&◌, ◌||◌, not, Result, nat_le, if◌then◌else◌}
use Rattle.std.specs.FinSet as set
use Rattle.std.proofs.lemmas.Bool.{and_parts}
use Rattle.std.proofs.lemmas.Bool.Decides.{nat_tests}
use Rattle.graph_spec.specs.declared.limits.Limits.{Limits}
use Rattle.graph_spec.specs.declared.refusal.Refusal.{Refusal}
use Rattle.graph_spec.specs.declared.refusal.Refusal.TheVariants.{NoNode, NoEdge, Limit, NoIndex}
use Rattle.graph_spec.specs.Graphs.{Graph, is_live, has_edge, is_seen}
use Rattle.graph_spec.specs.Changes.{with_node, with_edge, without_edge, node_fits, edge_fits}
use Rattle.graph_spec.proofs.EdgeOrder.{edge_cmp_total}
use Rattle.bisim_spec.proofs.EdgeSets.{kept_len}
use Rattle.change_spec.specs.Steps.{Step, node, link, unlink, drop, relabel, touches, without_node, labelled, made, label_fits, and_then, apply_step, apply_all, apply, after, MOST_STEPS}
use Rattle.change_spec.specs.Places.{CanMake, CanMakeAll}
use Rattle.change_spec.proofs.StepGraphs.{stepped, first_made}
use Rattle.change_spec.proofs.StepPlaces.{given_set}

passes : (b : Bool) (r : Result Graph Refusal) (e : Refusal) (h : Graph) → (if b then r else Err e) ≡ Ok h → (b ≡ true) × (r ≡ Ok h)
passes true r e h p = (refl, p)
passes false r e h p = cc

-- ---- what the steps name is there

can_step : (s : Step) (g h : Graph) (limits : Limits) → apply_step s g limits ≡ Ok h → CanMake s g
can_step (node t) g h limits e = tt
can_step (link u v) g h limits e = and_parts (is_live g u) (is_live g v) (passes (is_live g u && is_live g v) (if edge_fits g limits u v then Ok (with_edge g u v) else Err Limit) NoNode h e).0
can_step (unlink u v) g h limits e =
    let outer = passes (is_live g u && is_live g v) (if has_edge g u v then Ok (without_edge g u v) else Err NoEdge) NoNode h e in
    let live = and_parts (is_live g u) (is_live g v) outer.0 in
    (live.0, live.1, (passes (has_edge g u v) (Ok (without_edge g u v)) NoEdge h outer.1).0)
can_step (drop u) g h limits e = (passes (is_live g u) (Ok (without_node g u)) NoNode h e).0
can_step (relabel u t) g h limits e = (passes (is_live g u) (if label_fits g limits t then Ok (labelled g u t) else Err Limit) NoNode h e).0

pub applied_can : (c : List Step) (g h : Graph) (limits : Limits) → apply_all c g limits ≡ Ok h → CanMakeAll c g
applied_can [] g h limits e = tt
applied_can (s ∷ ss) g h limits e =
    let first = first_made (apply_step s g limits) (λ k. apply_all ss k limits) h e in
    let same = stepped s g first.0 limits first.1 in
    (can_step s g first.0 limits first.1, applied_can ss (made s g) h limits (subst (λ k. apply_all ss k limits ≡ Ok h) same first.2))

-- ---- how much there is

nodes_step : (s : Step) (g h : Graph) (limits : Limits) → apply_step s g limits ≡ Ok h → length g.allocated ≤ 2 ^ 30 → length (made s g).allocated ≤ 2 ^ 30
nodes_step (node t) g h limits e few =
    let fits = passes (node_fits g limits t) (Ok (with_node g t)) Limit h e in
    let one = and_parts (nat_lt (length g.allocated) limits.nodes) (is_seen g.seen t || nat_lt (length g.seen) limits.labels) fits.0 in
    let l = length-append g.allocated (Some t ∷ []) in
    let below = under (length g.allocated) limits.nodes one.0 in
    let most = limits.nodes_bounded in
    omega (arith, l, below, most)
  where
    under : (a b : ℕ) → nat_lt a b ≡ true → a < b
    under a b h = grind (arith, nat_tests)
nodes_step (link u v) g h limits e few = few
nodes_step (unlink u v) g h limits e few = few
nodes_step (drop u) g h limits e few = (let l = given_set g u None in omega (arith, l, few))
nodes_step (relabel u t) g h limits e few = (let l = given_set g u (Some t) in omega (arith, l, few))

pub nodes_few : (c : List Step) (g h : Graph) (limits : Limits) → apply_all c g limits ≡ Ok h → length g.allocated ≤ 2 ^ 30 → length (after c g).allocated ≤ 2 ^ 30
nodes_few [] g h limits e few = few
nodes_few (s ∷ ss) g h limits e few =
    let first = first_made (apply_step s g limits) (λ k. apply_all ss k limits) h e in
    let same = stepped s g first.0 limits first.1 in
    nodes_few ss (made s g) h limits (subst (λ k. apply_all ss k limits ≡ Ok h) same first.2) (nodes_step s g first.0 limits first.1 few)

edges_step : (s : Step) (g h : Graph) (limits : Limits) → apply_step s g limits ≡ Ok h → set.len g.edges ≤ 2 ^ 30 → set.len (made s g).edges ≤ 2 ^ 30
edges_step (node t) g h limits e few = few
edges_step (link u v) g h limits e few =
    let outer = passes (is_live g u && is_live g v) (if edge_fits g limits u v then Ok (with_edge g u v) else Err Limit) NoNode h e in
    let fits = (passes (edge_fits g limits u v) (Ok (with_edge g u v)) Limit h outer.1).0 in
    let l = set.len-insert edge_cmp_total g.edges (u, v) in
    let most = limits.edges_bounded in
    most_of (has_edge g u v) (set.len g.edges) limits.edges (set.len (set.insert g.edges (u, v))) l fits few most
  where
    most_of : (b : Bool) (len limit more : ℕ) → more ≡ cond b len (len + 1) → (b || nat_lt len limit) ≡ true → len ≤ 2 ^ 30 → limit ≤ 2 ^ 30 → more ≤ 2 ^ 30
    most_of true len limit more e h few most = omega (arith, e, few)
    most_of false len limit more e h few most = (let k = under len limit h in omega (arith, e, k, most))
      where
        under : (a b : ℕ) → nat_lt a b ≡ true → a < b
        under a b h = grind (arith, nat_tests)
edges_step (unlink u v) g h limits e few =
    let l = set.len-remove edge_cmp_total g.edges (u, v) in
    less (set.contains g.edges (u, v)) (set.len g.edges) (set.len (set.remove g.edges (u, v))) l few
  where
    less : (b : Bool) (len more : ℕ) → more ≡ cond b (len - 1) len → len ≤ 2 ^ 30 → more ≤ 2 ^ 30
    less true len more e few = omega (arith, e, few)
    less false len more e few = omega (arith, e, few)
edges_step (drop u) g h limits e few = (let l = kept_len g.edges (λ k. not (touches u k)) in omega (arith, l, few))
edges_step (relabel u t) g h limits e few = few

pub edges_few : (c : List Step) (g h : Graph) (limits : Limits) → apply_all c g limits ≡ Ok h → set.len g.edges ≤ 2 ^ 30 → set.len (after c g).edges ≤ 2 ^ 30
edges_few [] g h limits e few = few
edges_few (s ∷ ss) g h limits e few =
    let first = first_made (apply_step s g limits) (λ k. apply_all ss k limits) h e in
    let same = stepped s g first.0 limits first.1 in
    edges_few ss (made s g) h limits (subst (λ k. apply_all ss k limits ≡ Ok h) same first.2) (edges_step s g first.0 limits first.1 few)

-- ---- within higher limits they are accepted too

pub record AreHigher (a b : Limits) : Type 0 where
  pub nodes : a.nodes ≤ b.nodes
  pub edges : a.edges ≤ b.edges
  pub labels : a.labels ≤ b.labels

wider : (s : Bool) (n a b : ℕ) → a ≤ b → (s || nat_lt n a) ≡ true → (s || nat_lt n b) ≡ true
wider true n a b l h = refl
wider false n a b l h = grind (arith, nat_tests)

on_both : (a b c d : Bool) → (a ≡ true → c ≡ true) → (b ≡ true → d ≡ true) → (a && b) ≡ true → (c && d) ≡ true
on_both a b c d f k h = (let p = and_parts a b h in rw (f p.0, k p.1) refl)

taken : (b b2 : Bool) (r r2 : Result Graph Refusal) (e : Refusal) (h : Graph) → (b ≡ true → b2 ≡ true) → (r ≡ Ok h → r2 ≡ Ok h) → (if b then r else Err e) ≡ Ok h → (if b2 then r2 else Err e) ≡ Ok h
taken b b2 r r2 e h f k p = (let q = passes b r e h p in ap (λ x. if x then r2 else Err e) (f q.0) ∙ k q.1)

higher_step : (s : Step) (g h : Graph) (limits limits2 : Limits) → AreHigher limits limits2 → apply_step s g limits ≡ Ok h → apply_step s g limits2 ≡ Ok h
higher_step (node t) g h a b l e =
    taken (node_fits g a t) (node_fits g b t) (Ok (with_node g t)) (Ok (with_node g t)) Limit h
    (on_both (nat_lt (length g.allocated) a.nodes) (is_seen g.seen t || nat_lt (length g.seen) a.labels) (nat_lt (length g.allocated) b.nodes) (is_seen g.seen t || nat_lt (length g.seen) b.labels)
    (wider false (length g.allocated) a.nodes b.nodes l.nodes) (wider (is_seen g.seen t) (length g.seen) a.labels b.labels l.labels)) (λ k. k) e
higher_step (link u v) g h a b l e =
    taken (is_live g u && is_live g v) (is_live g u && is_live g v) (if edge_fits g a u v then Ok (with_edge g u v) else Err Limit) (if edge_fits g b u v then Ok (with_edge g u v) else Err Limit) NoNode h (λ k. k)
    (taken (edge_fits g a u v) (edge_fits g b u v) (Ok (with_edge g u v)) (Ok (with_edge g u v)) Limit h (wider (has_edge g u v) (set.len g.edges) a.edges b.edges l.edges) (λ k. k)) e
higher_step (unlink u v) g h a b l e = e
higher_step (drop u) g h a b l e = e
higher_step (relabel u t) g h a b l e =
    taken (is_live g u) (is_live g u) (if label_fits g a t then Ok (labelled g u t) else Err Limit) (if label_fits g b t then Ok (labelled g u t) else Err Limit) NoNode h (λ k. k)
    (taken (label_fits g a t) (label_fits g b t) (Ok (labelled g u t)) (Ok (labelled g u t)) Limit h (wider (is_seen g.seen t) (length g.seen) a.labels b.labels l.labels) (λ k. k)) e

higher_all : (c : List Step) (g h : Graph) (limits limits2 : Limits) → AreHigher limits limits2 → apply_all c g limits ≡ Ok h → apply_all c g limits2 ≡ Ok h
higher_all [] g h a b l e = e
higher_all (s ∷ ss) g h a b l e =
    let first = first_made (apply_step s g a) (λ k. apply_all ss k a) h e in
    ap (λ r. and_then r (λ k. apply_all ss k b)) (higher_step s g first.0 a b l first.1) ∙ higher_all ss first.0 h a b l first.2

pub higher : (c : List Step) (g h : Graph) (limits limits2 : Limits) → AreHigher limits limits2 → apply c g limits ≡ Ok h → apply c g limits2 ≡ Ok h
higher c g h a b l e = taken (nat_le (length c) MOST_STEPS) (nat_le (length c) MOST_STEPS) (apply_all c g a) (apply_all c g b) Limit h (λ k. k) (higher_all c g h a b l) e

-- an accepted change has no more steps than one may have, and they are accepted in turn
pub accepted_all : (c : List Step) (g h : Graph) (limits : Limits) → apply c g limits ≡ Ok h → (nat_le (length c) MOST_STEPS ≡ true) × (apply_all c g limits ≡ Ok h)
accepted_all c g h limits e = passes (nat_le (length c) MOST_STEPS) (apply_all c g limits) Limit h e

-- ---- refusals

refuses : (b : Bool) (r : Result Graph Refusal) (e : Refusal) → e ≢ NoIndex → r ≢ Err NoIndex → (if b then r else Err e) ≢ Err NoIndex
refuses true r e p q = q
refuses false r e p q = λ h. p (let z : e ≡ NoIndex = cc in z)

step_index : (s : Step) (g : Graph) (limits : Limits) → apply_step s g limits ≢ Err NoIndex
step_index (node t) g limits = refuses (node_fits g limits t) (Ok (with_node g t)) Limit (λ e. cc) (λ e. cc)
step_index (link u v) g limits =
    refuses (is_live g u && is_live g v) (if edge_fits g limits u v then Ok (with_edge g u v) else Err Limit) NoNode (λ e. cc)
    (refuses (edge_fits g limits u v) (Ok (with_edge g u v)) Limit (λ e. cc) (λ e. cc))
step_index (unlink u v) g limits =
    refuses (is_live g u && is_live g v) (if has_edge g u v then Ok (without_edge g u v) else Err NoEdge) NoNode (λ e. cc)
    (refuses (has_edge g u v) (Ok (without_edge g u v)) NoEdge (λ e. cc) (λ e. cc))
step_index (drop u) g limits = refuses (is_live g u) (Ok (without_node g u)) NoNode (λ e. cc) (λ e. cc)
step_index (relabel u t) g limits =
    refuses (is_live g u) (if label_fits g limits t then Ok (labelled g u t) else Err Limit) NoNode (λ e. cc)
    (refuses (label_fits g limits t) (Ok (labelled g u t)) Limit (λ e. cc) (λ e. cc))

chained : (r : Result Graph Refusal) (f : Graph → Result Graph Refusal) → r ≢ Err NoIndex → ((g : Graph) → f g ≢ Err NoIndex) → and_then r f ≢ Err NoIndex
chained (Ok g) f p q = q g
chained (Err e) f p q = p

all_index : (c : List Step) (g : Graph) (limits : Limits) → apply_all c g limits ≢ Err NoIndex
all_index [] g limits = λ e. cc
all_index (s ∷ ss) g limits = chained (apply_step s g limits) (λ k. apply_all ss k limits) (step_index s g limits) (λ k. all_index ss k limits)

-- no change is refused for an index
pub no_index : (c : List Step) (g : Graph) (limits : Limits) → apply c g limits ≢ Err NoIndex
no_index c g limits = refuses (nat_le (length c) MOST_STEPS) (apply_all c g limits) Limit (λ e. cc) (all_index c g limits)
