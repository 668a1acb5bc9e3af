-- The effects of a list of steps lead from the graph before to that after.
use Rattle.std.proofs.Common.{◌≡◌, ◌≢◌, ◌⊎◌, ℕ, ◌≤◌, Bool, true, false, List, [], ◌∷◌, ◌++◌, length, IsTrue, is_some, refl, sym, ap, ◌∙◌, arith, inl, inr, true≢false}
use Rattle.std.specs.Prelude.{nat_eq, ◌&&◌, ◌||◌, not}
use Rattle.std.specs.List.{sum_by}
use Rattle.std.proofs.lemmas.Bool.{cases_Bool, and_parts, or_cases, or_left, or_right}
use Rattle.std.proofs.lemmas.Bool.Decides.{Decides-eqb}
use Rattle.std.proofs.lemmas.List.{append_assoc}
use Rattle.std.proofs.lemmas.List.Folds.{list_any-append}
use Rattle.graph_spec.specs.Graphs.{Graph, IsGraph, is_live, label_of, has_edge}
use Rattle.graph_spec.specs.Members.{has, Lists}
use Rattle.graph_spec.specs.Shapes.{shape_of}
use Rattle.bisim_spec.specs.declared.sides.Side.{Side}
use Rattle.bisim_spec.specs.declared.sides.Side.TheVariants.{Parents, Children}
use Rattle.bisim_spec.specs.declared.sides.Sides.{Sides}
use Rattle.bisim_spec.specs.declared.sides.Sides.TheVariants as sides
use Rattle.bisim_spec.specs.SideEdges.{edge_with}
use Rattle.bisim_spec.specs.SidedLevels.{counts}
use Rattle.bisim_spec.specs.Weights.{weight_at, weight}
use Rattle.one_spec.proofs.Sums.{sum_listed}
use Rattle.change_spec.specs.Steps.{Step, after}
use Rattle.change_spec.specs.Ends.{ends_by}
use Rattle.change_spec.specs.Costs.{is_gone}
use Rattle.change_spec.proofs.EndsDiffer.{differs_by}
use Rattle.change_spec.proofs.StepPlaces.{live_given}
use Rattle.graph_effects.specs.Effects.{EffectLists, AreEffects, same_pair, has_pair, ListsPairs, is_new_node, is_same_label, is_relabelled, is_new_edge}
use Rattle.graph_effects.specs.StepEffects.{node_if, end_with, live_ends}
use Rattle.graph_effects.proofs.GoneNodes.{if_has}
use Rattle.graph_effects.proofs.NamedPairs.{new_parts}
use Rattle.graph_effects.proofs.Relabelled.{seen_after, same_labels}

-- ---- ends of edges

pub ends_next : (d : Side) (g2 : Graph) (e : ℕ × ℕ) (es left : List (ℕ × ℕ)) (n : ℕ) (b : Bool) (xs ys whole : List ℕ) → left ≡ e ∷ es → xs ++ live_ends d g2 left ≡ whole
    → n ≡ end_with d e → b ≡ is_live g2 n → ys ≡ xs ++ node_if b n → ys ++ live_ends d g2 es ≡ whole
ends_next d g2 e es left n b xs ys whole cut h end is k =
    ap (λ zs. zs ++ live_ends d g2 es) (k ∙ ap (λ t. xs ++ node_if t n) is ∙ ap (λ m. xs ++ node_if (is_live g2 m) m) end)
    ∙ append_assoc xs (node_if (is_live g2 (end_with d e)) (end_with d e)) (live_ends d g2 es) ∙ ap (λ zs. xs ++ live_ends d g2 zs) (sym cut) ∙ h

ends_has : (d : Side) (g2 : Graph) (e : ℕ × ℕ) (es : List (ℕ × ℕ)) (n : ℕ)
    → has (live_ends d g2 (e ∷ es)) n ≡ ((is_live g2 (end_with d e) && nat_eq n (end_with d e)) || has (live_ends d g2 es) n)
ends_has d g2 e es n =
    list_any-append (nat_eq n) (node_if (is_live g2 (end_with d e)) (end_with d e)) (live_ends d g2 es)
    ∙ ap (λ b. b || has (live_ends d g2 es) n) (if_has (is_live g2 (end_with d e)) (end_with d e) n)

-- the pair of a node and its neighbour on this side
abbrev pub has_with : List (ℕ × ℕ) → Side → ℕ → ℕ → Bool
has_with es d m n = has_pair es (edge_with d m n).0 (edge_with d m n).1

-- the node is the end of that pair
is_end : (d : Side) (e : ℕ × ℕ) (m n : ℕ) → same_pair (edge_with d m n) e ≡ true → nat_eq n (end_with d e) ≡ true
is_end Parents e m n h = (and_parts (nat_eq m e.0) (nat_eq n e.1) h).1
is_end Children e m n h = (and_parts (nat_eq n e.0) (nat_eq m e.1) h).0

-- and each end is one of some pair
end_is : (d : Side) (e : ℕ × ℕ) (n : ℕ) → nat_eq n (end_with d e) ≡ true → (m : ℕ) × (same_pair (edge_with d m n) e ≡ true)
end_is Parents e n h = (e.0, rw ((Decides-eqb e.0 e.0).1 refl, h) refl)
end_is Children e n h = (e.1, rw ((Decides-eqb e.1 e.1).1 refl, h) refl)

-- the end of an edge, where it is live
pub ends_there : (d : Side) (g2 : Graph) (es : List (ℕ × ℕ)) (m n : ℕ) → has_with es d m n ≡ true → is_live g2 n ≡ true → has (live_ends d g2 es) n ≡ true
ends_there d g2 [] m n h live = absurd (true≢false (sym h))
ends_there d g2 (e ∷ es) m n h live = ends_has d g2 e es n ∙ elim (or_cases (same_pair (edge_with d m n) e) (has_with es d m n) h) [
  | inl here ↦ (
      let same = is_end d e m n here in
      let on : is_live g2 (end_with d e) ≡ true = ap (is_live g2) (sym ((Decides-eqb n (end_with d e)).0 same)) ∙ live in
      rw (same, on) refl)
  | inr there ↦ or_right (is_live g2 (end_with d e) && nat_eq n (end_with d e)) (has (live_ends d g2 es) n) (ends_there d g2 es m n there live)
]

-- and such a node is one of the graph, and the end of an edge of the list
pub ends_from : (d : Side) (g2 : Graph) (es : List (ℕ × ℕ)) (n : ℕ) → has (live_ends d g2 es) n ≡ true → (is_live g2 n ≡ true) × ((m : ℕ) × (has_with es d m n ≡ true))
ends_from d g2 [] n h = absurd (true≢false (sym h))
ends_from d g2 (e ∷ es) n h = elim (or_cases (is_live g2 (end_with d e) && nat_eq n (end_with d e)) (has (live_ends d g2 es) n) (sym (ends_has d g2 e es n) ∙ h)) [
  | inl here ↦ (
      let both = and_parts (is_live g2 (end_with d e)) (nat_eq n (end_with d e)) here in
      let pair = end_is d e n both.1 in
      (ap (is_live g2) ((Decides-eqb n (end_with d e)).0 both.1) ∙ both.0, (pair.0, or_left (same_pair (edge_with d pair.0 n) e) (has_with es d pair.0 n) pair.1)))
  | inr there ↦ (
      let r = ends_from d g2 es n there in
      (r.0, (r.1.0, or_right (same_pair (edge_with d r.1.0 n) e) (has_with es d r.1.0 n) r.1.1)))
]

-- ---- in all

-- the nodes that come and go, the edges, and the targets that are made of them
pub record AreFound (g g2 : Graph) (e : EffectLists) : Type 0 where
  pub came : Lists (is_new_node g g2) e.came
  pub gone : Lists (is_new_node g2 g) e.gone
  pub relabelled : Lists (is_relabelled g g2) e.relabelled
  pub lost : ListsPairs (is_new_edge g2 g) e.lost
  pub added : ListsPairs (is_new_edge g g2) e.added
  pub targets : e.targets ≡ ((e.came ++ e.relabelled) ++ live_ends Parents g2 e.lost) ++ live_ends Parents g2 e.added

-- lists that are the same have the same targets
pub targets_of : (g2 : Graph) (found came came2 other other2 : List ℕ) (lost lost2 added added2 : List (ℕ × ℕ)) → came2 ≡ came → other2 ≡ other → lost2 ≡ lost → added2 ≡ added
    → found ≡ ((came2 ++ other2) ++ live_ends Parents g2 lost2) ++ live_ends Parents g2 added2 → found ≡ ((came ++ other) ++ live_ends Parents g2 lost) ++ live_ends Parents g2 added
targets_of g2 found came came2 other other2 lost lost2 added added2 c o l a h =
    h ∙ ap (λ xs. ((xs ++ other2) ++ live_ends Parents g2 lost2) ++ live_ends Parents g2 added2) c ∙ ap (λ xs. ((came ++ xs) ++ live_ends Parents g2 lost2) ++ live_ends Parents g2 added2) o
    ∙ ap (λ es. ((came ++ other) ++ live_ends Parents g2 es) ++ live_ends Parents g2 added2) l ∙ ap (λ es. ((came ++ other) ++ live_ends Parents g2 lost) ++ live_ends Parents g2 es) a

targets_has : (g g2 : Graph) (e : EffectLists) (n : ℕ) → AreFound g g2 e
    → has e.targets n ≡ (((has e.came n || has e.relabelled n) || has (live_ends Parents g2 e.lost) n) || has (live_ends Parents g2 e.added) n)
targets_has g g2 e n f =
    ap (λ xs. has xs n) f.targets ∙ list_any-append (nat_eq n) ((e.came ++ e.relabelled) ++ live_ends Parents g2 e.lost) (live_ends Parents g2 e.added)
    ∙ ap (λ b. b || has (live_ends Parents g2 e.added) n) (list_any-append (nat_eq n) (e.came ++ e.relabelled) (live_ends Parents g2 e.lost))
    ∙ ap (λ b. (b || has (live_ends Parents g2 e.lost) n) || has (live_ends Parents g2 e.added) n) (list_any-append (nat_eq n) e.came e.relabelled)

-- why a number is a target: it wasn't a node before, its label was another, or so was an edge to it
abbrev IsAltered : Graph → Graph → ℕ → Type 0
IsAltered g g2 n = (is_live g n ≡ false) ⊎ ((label_of g n ≢ label_of g2 n) ⊎ ((u : ℕ) × (has_edge g u n ≢ has_edge g2 u n)))

-- a node that is relabelled is one after, and its label was another
other_label : (g g2 : Graph) (n : ℕ) → is_relabelled g g2 n ≡ true → (is_live g2 n ≡ true) × (label_of g n ≢ label_of g2 n)
other_label g g2 n h =
    let parts = and_parts (is_live g n && is_live g2 n) (not (is_same_label (label_of g n) (label_of g2 n))) h in
    let live = and_parts (is_live g n) (is_live g2 n) parts.0 in
    (live.1, λ same. true≢false (sym parts.1 ∙ ap not (same_labels (label_of g n) (label_of g2 n) live.0 (sym same))))

-- a target comes, or is relabelled, or an edge to it goes or comes
target_why : (g g2 : Graph) (e : EffectLists) (n : ℕ) → AreFound g g2 e → has e.targets n ≡ true → (is_live g2 n ≡ true) × IsAltered g g2 n
target_why g g2 e n f h =
    elim (or_cases ((has e.came n || has e.relabelled n) || has (live_ends Parents g2 e.lost) n) (has (live_ends Parents g2 e.added) n) (sym (targets_has g g2 e n f) ∙ h)) [
      | inl front ↦ elim (or_cases (has e.came n || has e.relabelled n) (has (live_ends Parents g2 e.lost) n) front) [
        | inl nodes ↦ elim (or_cases (has e.came n) (has e.relabelled n) nodes) [
          | inl came ↦ (let p = new_parts (is_live g2 n) (is_live g n) (sym (f.came.members n) ∙ came) in (p.0, inl p.1))
          | inr other ↦ (let p = other_label g g2 n (sym (f.relabelled.members n) ∙ other) in (p.0, inr (inl p.1)))
        ]
        | inr lost ↦ (
            let r = ends_from Parents g2 e.lost n lost in
            let p = new_parts (has_edge g r.1.0 n) (has_edge g2 r.1.0 n) (sym (f.lost.members r.1.0 n) ∙ r.1.1) in
            (r.0, inr (inr (r.1.0, λ same. true≢false (sym p.0 ∙ same ∙ p.1)))))
      ]
      | inr added ↦ (
          let r = ends_from Parents g2 e.added n added in
          let p = new_parts (has_edge g2 r.1.0 n) (has_edge g r.1.0 n) (sym (f.added.members r.1.0 n) ∙ r.1.1) in
          (r.0, inr (inr (r.1.0, λ same. true≢false (sym p.0 ∙ sym same ∙ p.1)))))
    ]

-- the listed nodes and edges are the effects of the change
pub effects_are : (c : List Step) (g : Graph) (e : EffectLists) → IsGraph (after c g) → AreFound g (after c g) e → AreEffects g (after c g) e
effects_are c g e graph f =
    let g2 = after c g in
    record {
      seen = seen_after c g;
      came = f.came;
      gone = f.gone;
      relabelled = f.relabelled;
      lost = f.lost;
      added = f.added;
      nodes = λ n h. (target_why g g2 e n f h).0;
      target_came = λ n h. among n (or_left (has e.came n || has e.relabelled n) (has (live_ends Parents g2 e.lost) n) (or_left (has e.came n) (has e.relabelled n) h));
      target_relabelled = λ n h. among n (or_left (has e.came n || has e.relabelled n) (has (live_ends Parents g2 e.lost) n) (or_right (has e.came n) (has e.relabelled n) h));
      target_added = λ u v h.
          targets_has g g2 e v f
          ∙ or_right ((has e.came v || has e.relabelled v) || has (live_ends Parents g2 e.lost) v) (has (live_ends Parents g2 e.added) v)
          (ends_there Parents g2 e.added u v h (graph.onto u v (new_parts (has_edge g2 u v) (has_edge g u v) (sym (f.added.members u v) ∙ h)).0));
      target_lost = λ u v h live. among v (or_right (has e.came v || has e.relabelled v) (has (live_ends Parents g2 e.lost) v) (ends_there Parents g2 e.lost u v h live));
    }
  where
    among : (n : ℕ) → ((has e.came n || has e.relabelled n) || has (live_ends Parents (after c g) e.lost) n) ≡ true → has e.targets n ≡ true
    among n h =
        targets_has g (after c g) e n f
        ∙ or_left ((has e.came n || has e.relabelled n) || has (live_ends Parents (after c g) e.lost) n) (has (live_ends Parents (after c g) e.added) n) h

parents_count : (which : Sides) → IsTrue (counts which Parents)
parents_count sides.Parents = refl
parents_count sides.Both = refl

-- Each target is an end of the change, whichever sides count: the graph is as it was at all other nodes.
pub targets_are : (which : Sides) (c : List Step) (g : Graph) (e : EffectLists) (n : ℕ) → AreFound g (after c g) e → has e.targets n ≡ true → ends_by which c g n ≡ true
targets_are which c g e n f h =
    let why = target_why g (after c g) e n f h in
    let d = differs_by which c g in
    elim (cases_Bool (ends_by which c g n)) [
      | inl on ↦ on
      | inr off ↦ elim why.1 [
        | inl came ↦ absurd (true≢false (sym why.0 ∙ sym (ap is_some (d.label n why.0 off)) ∙ came))
        | inr rest ↦ elim rest [
          | inl other ↦ absurd (other (d.label n why.0 off))
          | inr edge ↦ absurd (edge.1 (d.edge Parents (parents_count which) edge.0 n why.0 off))
        ]
      ]
    ]

-- ---- what it costs

-- the weights of the nodes that go, added up
pub gone_weight : (g g2 : Graph) (gone : List ℕ) → Lists (is_new_node g2 g) gone → sum_by (weight_at (shape_of g)) gone ≤ weight (shape_of g) (is_gone g g2)
gone_weight g g2 gone l =
    let sum = sum_listed (length g.allocated) (is_gone g g2) (weight_at (shape_of g)) gone l.once (λ n h.
    let is = sym (l.members n) ∙ h in
    (live_given g n (and_parts (is_live g n) (not (is_live g2 n)) is).0, is)) in
    omega (arith, sum)
