-- What holds of a graph and a change that is to be made in it.
use Rattle.std.proofs.Common.{◌≡◌, ℕ, ◌+◌, ◌<◌, ◌≤◌, ◌^◌, true, false, List, [], ◌∷◌, length, nat_eq, refl, sym, ap, ◌∙◌, arith, inl, inr, true≢false}
use Rattle.std.specs.Prelude.{not, ◌&&◌, ◌||◌, IsTrue, if◌then◌else◌}
use Rattle.std.specs.FinSet as set
use Rattle.std.proofs.Math.Bool.{and-false}
use Rattle.graph_spec.specs.Graphs.{Graph, IsGraph, is_live, has_edge}
use Rattle.graph_spec.specs.Changes.{with_edge}
use Rattle.std.proofs.lemmas.Bool.{cases_Bool, and_from}
use Rattle.std.proofs.lemmas.Bool.Decides.{eqb_tells}
use Rattle.graph_steps.proofs.GrownCounts.{edges_same, edges_more}
use Rattle.change_spec.specs.Steps.{Step, node, link, unlink, drop, relabel, made, after}
use Rattle.change_spec.specs.Places.{CanMake, CanMakeAll}
use Rattle.change_spec.specs.Named.{names, is_named, is_dropped}
use Rattle.change_spec.proofs.StepPlaces.{graph_all, given_made, live_given, gone_stays, dropped_gone}
use Rattle.change_spec.proofs.NamedNodes.{live_after}
use Rattle.change_spec.proofs.Accepted.{accepted_all, applied_can, nodes_few, edges_few}
use Rattle.graph_steps.specs.NamedSteps.{DropsLast}
use Rattle.graph_steps.specs.NewChanges.{IsNew}
use Rattle.graph_update.specs.PendingChanges.{is_added}

pub new_can : (c : List Step) (g : Graph) → IsNew c g → CanMakeAll c g
new_can c g new = applied_can c g (after c g) new.limits (accepted_all c g (after c g) new.limits new.accepted).1

pub new_graph : (c : List Step) (g : Graph) → IsNew c g → IsGraph g → IsGraph (after c g)
new_graph c g new s = graph_all c g (new_can c g new) s

pub new_nodes : (c : List Step) (g : Graph) → IsNew c g → length g.allocated ≤ 2 ^ 30 → length (after c g).allocated ≤ 2 ^ 30
new_nodes c g new few = nodes_few c g (after c g) new.limits (accepted_all c g (after c g) new.limits new.accepted).1 few

pub new_edges : (c : List Step) (g : Graph) → IsNew c g → set.len g.edges ≤ 2 ^ 30 → set.len (after c g).edges ≤ 2 ^ 30
new_edges c g new few = edges_few c g (after c g) new.limits (accepted_all c g (after c g) new.limits new.accepted).1 few

pub live_is : (c : List Step) (g : Graph) (n : ℕ) → IsNew c g → is_live (after c g) n ≡ ((is_live g n || is_added g (after c g) n) && not (is_dropped c n))
live_is c g n new = live_after c g n (new_can c g new)

pub dropped_dead : (c : List Step) (g : Graph) (n : ℕ) → IsNew c g → is_dropped c n ≡ true → is_live (after c g) n ≡ false
dropped_dead c g n new h = live_is c g n new ∙ ap (λ b. (is_live g n || is_added g (after c g) n) && not b) h ∙ and-false (is_live g n || is_added g (after c g) n)

-- ---- no step names a node that one before it takes away

other : (g : Graph) (n u : ℕ) → IsTrue (is_live g u) → is_live g n ≡ false → nat_eq n u ≡ false
other g n u live off = elim (eqb_tells n u) [
  | inl e ↦ absurd (true≢false (sym live ∙ ap (is_live g) (sym e.1) ∙ off))
  | inr x ↦ x.0
]

neither : (g : Graph) (n u v : ℕ) → IsTrue (is_live g u) → IsTrue (is_live g v) → is_live g n ≡ false → (nat_eq n u || nat_eq n v) ≡ false
neither g n u v first second off = ap (λ b. b || nat_eq n v) (other g n u first off) ∙ other g n v second off

-- a step that can be made names no node that isn't live
unnamed_dead : (s : Step) (g : Graph) (n : ℕ) → CanMake s g → is_live g n ≡ false → names n s ≡ false
unnamed_dead (node t) g n can off = refl
unnamed_dead (link u v) g n can off = neither g n u v can.0 can.1 off
unnamed_dead (unlink u v) g n can off = neither g n u v can.0 can.1 off
unnamed_dead (drop u) g n can off = other g n u can off
unnamed_dead (relabel u t) g n can off = other g n u can off

unnamed_all : (c : List Step) (g : Graph) (n : ℕ) → CanMakeAll c g → n < length g.allocated → is_live g n ≡ false → is_named c n ≡ false
unnamed_all [] g n can below off = refl
unnamed_all (s ∷ ss) g n can below off =
    let more = given_made s g in
    ap (λ b. b || is_named ss n) (unnamed_dead s g n can.0 off)
    ∙ unnamed_all ss (made s g) n can.1 (omega (arith, below, more)) (gone_stays (s ∷ []) g n (can.0, tt) below off)

drops_last : (c : List Step) (g : Graph) → CanMakeAll c g → DropsLast c
drops_last [] g can = tt
drops_last (node t ∷ ss) g can = (λ n h. absurd (true≢false (sym h)), drops_last ss (made (node t) g) can.1)
drops_last (link u v ∷ ss) g can = (λ n h. absurd (true≢false (sym h)), drops_last ss (made (link u v) g) can.1)
drops_last (unlink u v ∷ ss) g can = (λ n h. absurd (true≢false (sym h)), drops_last ss (made (unlink u v) g) can.1)
drops_last (relabel u t ∷ ss) g can = (λ n h. absurd (true≢false (sym h)), drops_last ss (made (relabel u t) g) can.1)
drops_last (drop u ∷ ss) g can = (λ n h. gone n h, drops_last ss (made (drop u) g) can.1)
  where
    gone : (n : ℕ) → nat_eq n u ≡ true → is_named ss n ≡ false
    gone n h = elim (eqb_tells n u) [
      | inl e ↦ (
          let more = given_made (drop u) g in
          let below = live_given g u can.0 in
          ap (is_named ss) e.1 ∙ unnamed_all ss (made (drop u) g) u can.1 (omega (arith, below, more)) (dropped_gone [] g u can.0 tt))
      | inr x ↦ absurd (true≢false (sym h ∙ x.0))
    ]

pub new_last : (c : List Step) (g : Graph) → IsNew c g → DropsLast c
new_last c g new = drops_last c g (new_can c g new)

-- a link brings an edge unless that is there
pub linked_len : (h : Graph) (u v : ℕ) → set.len (with_edge h u v).edges ≡ set.len h.edges + (if not (has_edge h u v) then 1 else 0)
linked_len h u v = elim (cases_Bool (has_edge h u v)) [
  | inl on ↦ rw on (let e = ap set.len (edges_same h.edges (u, v) on) in omega (arith, e))
  | inr off ↦ rw off (edges_more h.edges (u, v) off)
]

-- an edge joins live nodes
pub dead_edge : (g : Graph) (u v : ℕ) → IsGraph g → (is_live g u && is_live g v) ≡ false → has_edge g u v ≡ false
dead_edge g u v s h = elim (cases_Bool (has_edge g u v)) [
  | inr off ↦ off
  | inl on ↦ absurd (true≢false (sym (and_from (is_live g u) (is_live g v) (s.from u v on) (s.onto u v on)) ∙ h))
]
