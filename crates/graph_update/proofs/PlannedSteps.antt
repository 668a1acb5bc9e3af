-- Steps that are planned, and how the plans are made.
use Rattle.std.proofs.Common.{◌≡◌, ℕ, ◌<◌, ◌≤◌, ◌^◌, Bool, true, false, cond, List, [], ◌∷◌, length, Ok, Err, refl, sym, ap, ◌∙◌, subst, arith, nat_eq, nat_lt, inl, inr}
use Rattle.std.specs.Prelude.{◌&&◌, ◌||◌, map, if◌then◌else◌, Result, bytes_eq}
use Rattle.std.specs.FinSet as set
use Rattle.std.proofs.lemmas.Bool.{cases_Bool, and_parts}
use Rattle.std.proofs.lemmas.Bool.Decides.{eqb_tells, nat_tests}
use Rattle.graph_spec.specs.declared.limits.Limits.{Limits}
use Rattle.graph_spec.specs.declared.refusal.Refusal.{Refusal}
use Rattle.graph_spec.specs.declared.refusal.Refusal.TheVariants.{NoNode, Limit}
use Rattle.graph_spec.specs.Graphs.{Graph, IsGraph, is_live, is_seen}
use Rattle.graph_spec.specs.Changes.{with_node, with_edge, without_edge, node_fits, edge_fits}
use Rattle.change_spec.specs.Steps.{Step, node, link, unlink, drop, relabel, made, without_node, labelled, is_idle, label_fits, apply_step, apply_all, after}
use Rattle.change_spec.specs.Places.{CanMake, CanMakeAll}
use Rattle.change_spec.proofs.StepGraphs.{stepped, graph_made, first_made}
use Rattle.change_spec.proofs.StepPlaces.{graph_can}
use Rattle.change_spec.proofs.Accepted.{applied_can, accepted_all}
use Rattle.graph_steps.specs.NewChanges.{IsNew}
use Rattle.graph_steps.proofs.IdleSteps.{idle_same}
use Rattle.label_graph.specs.ReservedGraphs.{ReservedGraph, FitsLabels, FirstFitsLabels, none_reserved, is_pair, has_pair, without_pair, without_text}
use Rattle.graph_update.specs.declared.staging.Plan.{Plan}
use Rattle.graph_update.specs.declared.staging.Plan.TheVariants.{Node, Link, Unlink, Drop, Relabel}
use Rattle.graph_update.specs.StagedChanges.{effective, needed_labels, needed_pairs, needed_relabels, plan_of, IsStaged, HasEffect, HaveEffect, ArePlanned, CanBeMade, IsMadeBy}

-- ---- steps that aren't

passes : (b : Bool) (r : Result Graph Refusal) (e : Refusal) (h : Graph) → (if b then r else Err e) ≡ Ok h → (b ≡ true) × (r ≡ Ok h)
passes true r e h p = (refl, p)
passes false r e h p = cc

under : (a b c : ℕ) → nat_lt a b ≡ true → b ≤ c → a < c
under a b c h k = grind (arith, nat_tests)

fits_labels : (g : Graph) (t : List ℕ) (limits : Limits) → label_fits g limits t ≡ true → FitsLabels g t
fits_labels g t limits h = λ unseen.
    under (length g.seen) limits.labels (2 ^ 30) (sym (ap (λ b. b || nat_lt (length g.seen) limits.labels) unseen) ∙ h) limits.labels_bounded

has_effect : (s : Step) (g h : Graph) (limits : Limits) → CanMake s g → apply_step s g limits ≡ Ok h → is_idle s g ≡ false → HasEffect s g
has_effect (node t) g h limits can e busy =
    let fits = passes (node_fits g limits t) (Ok (with_node g t)) Limit h e in
    let one = and_parts (nat_lt (length g.allocated) limits.nodes) (is_seen g.seen t || nat_lt (length g.seen) limits.labels) fits.0 in
    (under (length g.allocated) limits.nodes (2 ^ 30) one.0 limits.nodes_bounded, fits_labels g t limits one.1)
has_effect (link u v) g h limits can e busy =
    let outer = passes (is_live g u && is_live g v) (if edge_fits g limits u v then Ok (with_edge g u v) else Err Limit) NoNode h e in
    let fits = (passes (edge_fits g limits u v) (Ok (with_edge g u v)) Limit h outer.1).0 in
    let few : nat_lt (set.len g.edges) limits.edges ≡ true = sym (ap (λ b. b || nat_lt (set.len g.edges) limits.edges) busy) ∙ fits in
    (can.0, can.1, busy, under (set.len g.edges) limits.edges (2 ^ 30) few limits.edges_bounded)
has_effect (unlink u v) g h limits can e busy = can.2
has_effect (drop u) g h limits can e busy = can
has_effect (relabel u t) g h limits can e busy =
    let live = passes (is_live g u) (if label_fits g limits t then Ok (labelled g u t) else Err Limit) NoNode h e in
    (can, fits_labels g t limits (passes (label_fits g limits t) (Ok (labelled g u t)) Limit h live.1).0)

abbrev OneOrNone : Step → List Step → Graph → Bool → Type 0
OneOrNone s more g b = HaveEffect (if b then more else s ∷ more) g

have_effect : (c : List Step) (g h : Graph) (limits : Limits) → IsGraph g → apply_all c g limits ≡ Ok h → HaveEffect (effective c g) g
have_effect [] g h limits s e = tt
have_effect (x ∷ xs) g h limits s e =
    let first = first_made (apply_step x g limits) (λ k. apply_all xs k limits) h e in
    let same = stepped x g first.0 limits first.1 in
    let can = (applied_can (x ∷ xs) g h limits e).0 in
    let rest = have_effect xs (made x g) h limits (graph_made x g first.0 limits s first.1) (subst (λ k. apply_all xs k limits ≡ Ok h) same first.2) in
    elim (cases_Bool (is_idle x g)) [
      | inl on ↦ subst (OneOrNone x (effective xs (made x g)) g) (sym on) (subst (HaveEffect (effective xs (made x g))) (idle_same x g s on) rest)
      | inr off ↦ subst (OneOrNone x (effective xs (made x g)) g) (sym off) (has_effect x g first.0 limits can first.1 off, rest)
    ]

effect_can : (s : Step) (g : Graph) → IsGraph g → HasEffect s g → CanMake s g
effect_can (node t) g s h = tt
effect_can (link u v) g s h = (h.0, h.1)
effect_can (unlink u v) g s h = (s.from u v h, s.onto u v h, h)
effect_can (drop u) g s h = h
effect_can (relabel u t) g s h = h.0

-- steps that are idle can be left out
pub effective_leaves : (c : List Step) (g : Graph) → IsGraph g → HaveEffect (effective c g) g → after (effective c g) g ≡ after c g
effective_leaves [] g s h = refl
effective_leaves (x ∷ xs) g s h = elim (cases_Bool (is_idle x g)) [
  | inl on ↦ (
      let still = idle_same x g s on in
      let rest = subst (OneOrNone x (effective xs (made x g)) g) on h in
      ap (λ (b : Bool). after (if b then effective xs (made x g) else x ∷ effective xs (made x g)) g) on
      ∙ ap (after (effective xs (made x g))) (sym still)
      ∙ effective_leaves xs (made x g) (subst IsGraph (sym still) s) (subst (HaveEffect (effective xs (made x g))) (sym still) rest))
  | inr off ↦ (
      let both = subst (OneOrNone x (effective xs (made x g)) g) off h in
      ap (λ (b : Bool). after (if b then effective xs (made x g) else x ∷ effective xs (made x g)) g) off
      ∙ effective_leaves xs (made x g) (graph_can x g (effect_can x g s both.0) s) both.1)
]

-- ---- a change that is staged is planned

pub staged_planned : (c : List Step) (held : ReservedGraph) (plans : List Plan) → IsGraph held.graph → IsStaged c held plans → IsNew c held.graph → ArePlanned (effective c held.graph) held plans
staged_planned c held plans s st new = record {
  plans_are = st.plans_are;
  labels = st.labels;
  pairs = st.pairs;
  relabels = st.relabels;
  effect = have_effect c held.graph (after c held.graph) new.limits s (accepted_all c held.graph (after c held.graph) new.limits new.accepted).1;
}

-- the steps of these plans, with these labels
abbrev steps_by : List Plan → List (List ℕ) → List Step
steps_by [] ts = []
steps_by (Node ∷ ps) [] = []
steps_by (Node ∷ ps) (t ∷ ts) = node t ∷ steps_by ps ts
steps_by (Link u v ∷ ps) ts = link u v ∷ steps_by ps ts
steps_by (Unlink u v ∷ ps) ts = unlink u v ∷ steps_by ps ts
steps_by (Drop u ∷ ps) ts = drop u ∷ steps_by ps ts
steps_by (Relabel u t ∷ ps) ts = relabel u t ∷ steps_by ps ts

first_plan : (p q : Plan) (ps qs : List Plan) → p ∷ ps ≡ q ∷ qs → (p ≡ q) × (ps ≡ qs)
first_plan p q ps qs e = (cc, cc)

steps_back : (plans : List Plan) (e : List Step) → plans ≡ map plan_of e → steps_by plans (needed_labels e) ≡ e
steps_back plans e h = ap (λ ps. steps_by ps (needed_labels e)) h ∙ back e
  where
    back : (e : List Step) → steps_by (map plan_of e) (needed_labels e) ≡ e
    back [] = refl
    back (node t ∷ ss) = ap (λ xs. node t ∷ xs) (back ss)
    back (link u v ∷ ss) = ap (λ xs. link u v ∷ xs) (back ss)
    back (unlink u v ∷ ss) = ap (λ xs. unlink u v ∷ xs) (back ss)
    back (drop u ∷ ss) = ap (λ xs. drop u ∷ xs) (back ss)
    back (relabel u t ∷ ss) = ap (λ xs. relabel u t ∷ xs) (back ss)

-- two changes that are staged alike leave the same graph
module _ (b : List Step) (held : ReservedGraph) (plans : List Plan) (s : IsGraph held.graph) (staged : IsStaged b held plans) (new : IsNew b held.graph) (c : List Step) (st : IsStaged c held plans) where
  same_steps : effective b held.graph ≡ effective c held.graph
  same_steps =
      sym (steps_back plans (effective b held.graph) staged.plans_are)
      ∙ ap (steps_by plans) (sym staged.labels ∙ st.labels)
      ∙ steps_back plans (effective c held.graph) st.plans_are

  effects : HaveEffect (effective c held.graph) held.graph
  effects = subst (λ e. HaveEffect e held.graph) same_steps (staged_planned b held plans s staged new).effect

  planned_alike : ArePlanned (effective c held.graph) held plans
  planned_alike = record { plans_are = st.plans_are; labels = st.labels; pairs = st.pairs; relabels = st.relabels; effect = effects }

  leaves_alike : after (effective c held.graph) held.graph ≡ after c held.graph
  leaves_alike = effective_leaves c held.graph s effects

  pub made_alike : (made : ReservedGraph) → ((e : List Step) → ArePlanned e held plans → made ≡ record { graph = after e held.graph; reserved = none_reserved })
      → made ≡ record { graph = after c held.graph; reserved = none_reserved }
  made_alike made f = f (effective c held.graph) planned_alike ∙ ap (λ g. record { graph = g; reserved = none_reserved }) leaves_alike

-- ---- the first plan is made, and then the others

itself : (n : ℕ) → nat_eq n n ≡ true
itself n = elim (eqb_tells n n) [ inl e ↦ e.0 | inr x ↦ absurd (x.1 refl) ]

pair_itself : (u v : ℕ) → is_pair u v (u, v) ≡ true
pair_itself u v = ap (λ b. b && nat_eq v v) (itself u) ∙ itself v

no_plan : (p : Plan) (ps : List Plan) → p ∷ ps ≡ [] → ⊥
no_plan p ps e = (let z : p ∷ ps ≡ [] = e in cc)

-- the first label fits, where it is that of the first step
first_fits : (held : ReservedGraph) (t : List ℕ) (ts : List (List ℕ)) → held.reserved.labels ≡ t ∷ ts → FitsLabels held.graph t → FirstFitsLabels held
first_fits held t ts is fits = λ r more e. (let z : r ∷ more ≡ t ∷ ts = sym e ∙ is in let same : t ≡ r = cc in subst (FitsLabels held.graph) same fits)

text_itself : (t : List ℕ) → bytes_eq t t ≡ true
text_itself [] = refl
text_itself (x ∷ xs) = ap (λ b. b && bytes_eq xs xs) (itself x) ∙ text_itself xs

pub can_first : (e : List Step) (held : ReservedGraph) (p : Plan) (ps : List Plan) → ArePlanned e held (p ∷ ps) → CanBeMade p held
can_first [] held p ps a = absurd (no_plan p ps a.plans_are)
can_first (node t ∷ ss) held p ps a =
    let f = first_plan p Node ps (map plan_of ss) a.plans_are in
    subst (λ q. CanBeMade q held) (sym f.0) ((let l = ap length a.labels in omega (arith, l)), a.effect.0.0, first_fits held t (needed_labels ss) a.labels a.effect.0.1)
can_first (link u v ∷ ss) held p ps a =
    let f = first_plan p (Link u v) ps (map plan_of ss) a.plans_are in
    subst (λ q. CanBeMade q held) (sym f.0)
    (ap (λ qs. has_pair qs u v) a.pairs ∙ ap (λ b. b || has_pair (needed_pairs ss) u v) (pair_itself u v), a.effect.0)
can_first (unlink u v ∷ ss) held p ps a =
    let f = first_plan p (Unlink u v) ps (map plan_of ss) a.plans_are in
    subst (λ q. CanBeMade q held) (sym f.0) a.effect.0
can_first (drop u ∷ ss) held p ps a =
    let f = first_plan p (Drop u) ps (map plan_of ss) a.plans_are in
    subst (λ q. CanBeMade q held) (sym f.0) a.effect.0
can_first (relabel u t ∷ ss) held p ps a =
    let f = first_plan p (Relabel u t) ps (map plan_of ss) a.plans_are in
    subst (λ q. CanBeMade q held) (sym f.0)
    (ap (λ ts. is_seen ts t) a.relabels ∙ ap (λ b. b || is_seen (needed_relabels ss) t) (text_itself t), a.effect.0)

-- what is left to be made, where these steps are to be made of that graph
pub record AreLeft (e : List Step) (g : Graph) (held : ReservedGraph) (plans : List Plan) : Type 0 where
  pub rest : List Step
  pub planned : ArePlanned rest held plans
  pub leaves : after rest held.graph ≡ after e g

pub left_all : (e : List Step) (held : ReservedGraph) (plans : List Plan) → ArePlanned e held plans → AreLeft e held.graph held plans
left_all e held plans a = record { rest = e; planned = a; leaves = refl }

pub left_none : (e : List Step) (g : Graph) (held : ReservedGraph) → AreLeft e g held [] → held ≡ record { graph = after e g; reserved = none_reserved }
left_none e g held a = none a.rest a.planned a.leaves
  where
    none : (rest : List Step) → ArePlanned rest held [] → after rest held.graph ≡ after e g → held ≡ record { graph = after e g; reserved = none_reserved }
    none [] p l = λ i. record { graph = l i; reserved = record { labels = p.labels i; pairs = p.pairs i; relabels = p.relabels i } }
    none (x ∷ xs) p l = absurd (no_plan (plan_of x) (map plan_of xs) (sym p.plans_are))

abbrev IsNext : List Step → Graph → List Plan → ReservedGraph → Type 0
IsNext e g plans held = AreLeft e g held plans

pub left_next : (e : List Step) (g : Graph) (held new : ReservedGraph) (p : Plan) (ps : List Plan) → AreLeft e g held (p ∷ ps) → IsMadeBy p held new → AreLeft e g new ps
left_next e g held new p ps a m = next a.rest a.planned a.leaves
  where
    next : (rest : List Step) → ArePlanned rest held (p ∷ ps) → after rest held.graph ≡ after e g → AreLeft e g new ps
    next [] w l = absurd (no_plan p ps w.plans_are)
    next (node t ∷ ss) w l =
        let f = first_plan p Node ps (map plan_of ss) w.plans_are in
        let is = subst (λ q. IsMadeBy q held new) f.0 m t (needed_labels ss) w.labels in
        let here : IsNext e g ps (record { graph = with_node held.graph t; reserved = record held.reserved { labels = needed_labels ss } }) =
        record { rest = ss; planned = record { plans_are = f.1; labels = refl; pairs = w.pairs; relabels = w.relabels; effect = w.effect.1 }; leaves = l } in
        subst (IsNext e g ps) (sym is) here
    next (link u v ∷ ss) w l =
        let f = first_plan p (Link u v) ps (map plan_of ss) w.plans_are in
        let is = subst (λ q. IsMadeBy q held new) f.0 m in
        let taken : without_pair held.reserved.pairs u v ≡ needed_pairs ss =
        ap (λ qs. without_pair qs u v) w.pairs ∙ ap (λ (b : Bool). if b then needed_pairs ss else (u, v) ∷ without_pair (needed_pairs ss) u v) (pair_itself u v) in
        let here : IsNext e g ps (record { graph = with_edge held.graph u v; reserved = record held.reserved { pairs = without_pair held.reserved.pairs u v } }) =
        record { rest = ss; planned = record { plans_are = f.1; labels = w.labels; pairs = taken; relabels = w.relabels; effect = w.effect.1 }; leaves = l } in
        subst (IsNext e g ps) (sym is) here
    next (unlink u v ∷ ss) w l =
        let f = first_plan p (Unlink u v) ps (map plan_of ss) w.plans_are in
        let is = subst (λ q. IsMadeBy q held new) f.0 m in
        let here : IsNext e g ps (record { graph = without_edge held.graph u v; reserved = held.reserved }) =
        record { rest = ss; planned = record { plans_are = f.1; labels = w.labels; pairs = w.pairs; relabels = w.relabels; effect = w.effect.1 }; leaves = l } in
        subst (IsNext e g ps) (sym is) here
    next (drop u ∷ ss) w l =
        let f = first_plan p (Drop u) ps (map plan_of ss) w.plans_are in
        let is = subst (λ q. IsMadeBy q held new) f.0 m in
        let here : IsNext e g ps (record { graph = without_node held.graph u; reserved = held.reserved }) =
        record { rest = ss; planned = record { plans_are = f.1; labels = w.labels; pairs = w.pairs; relabels = w.relabels; effect = w.effect.1 }; leaves = l } in
        subst (IsNext e g ps) (sym is) here
    next (relabel u t ∷ ss) w l =
        let f = first_plan p (Relabel u t) ps (map plan_of ss) w.plans_are in
        let is = subst (λ q. IsMadeBy q held new) f.0 m in
        let taken : without_text held.reserved.relabels t ≡ needed_relabels ss =
        ap (λ ts. without_text ts t) w.relabels ∙ ap (λ (b : Bool). cond b (needed_relabels ss) (t ∷ without_text (needed_relabels ss) t)) (text_itself t) in
        let here : IsNext e g ps (record { graph = labelled held.graph u t; reserved = record held.reserved { relabels = without_text held.reserved.relabels t } }) =
        record { rest = ss; planned = record { plans_are = f.1; labels = w.labels; pairs = w.pairs; relabels = taken; effect = w.effect.1 }; leaves = l } in
        subst (IsNext e g ps) (sym is) here

-- what `stage` asks of each step, where k and h are the change and the graph
pub new_can : (c k : List Step) (g h : Graph) → IsNew c g → k ≡ c → h ≡ g → CanMakeAll k h
new_can c k g h new same still =
    subst (CanMakeAll k) (sym still) (subst (λ x. CanMakeAll x g) (sym same) (applied_can c g (after c g) new.limits (accepted_all c g (after c g) new.limits new.accepted).1))
