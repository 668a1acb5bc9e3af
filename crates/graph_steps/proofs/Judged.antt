-- What follows from a verdict.
use Rattle.std.proofs.Common.{◌≡◌, ◌≢◌, ◌≤◌, true, List, Ok, Err, refl, sym, ◌∙◌, subst, true≢false}
use Rattle.std.specs.Prelude.{Result}
use Rattle.graph_spec.specs.declared.limits.Limits.{Limits}
use Rattle.graph_spec.specs.declared.refusal.Refusal.{Refusal}
use Rattle.graph_spec.specs.declared.refusal.Refusal.TheVariants.{NoIndex}
use Rattle.graph_spec.specs.Graphs.{Graph}
use Rattle.change_spec.specs.Steps.{Step, apply, after, is_new}
use Rattle.change_spec.proofs.Accepted.{AreHigher, higher, no_index}
use Rattle.graph_steps.specs.declared.changes.Verdict.{Verdict}
use Rattle.graph_steps.specs.declared.changes.Verdict.TheVariants.{New, Same}
use Rattle.graph_steps.specs.NewChanges.{IsNew, AreHighest}
use Rattle.graph_steps.specs.Verdicts.{Judges}

pub judged_new : (c : List Step) (g : Graph) (limits : Limits) (r : Result Verdict Refusal) → Judges c g limits r → r ≡ Ok New → IsNew c g
judged_new c g limits r j e =
    let h : Judges c g limits (Ok New) = subst (Judges c g limits) e j in
    record { new = h.0; limits = limits; accepted = h.1 }

pub judged_index : (c : List Step) (g : Graph) (limits : Limits) (r : Result Verdict Refusal) → Judges c g limits r → r ≢ Err NoIndex
judged_index c g limits r j e = no_index c g limits (subst (Judges c g limits) e j)

judged_accepted : (c : List Step) (g : Graph) (limits : Limits) (r : Result Verdict Refusal) → Judges c g limits r → is_new c g ≡ true → apply c g limits ≡ Ok (after c g) → r ≡ Ok New
judged_accepted c g limits (Err e) j s h = (let z : Err e ≡ Ok (after c g) = sym j ∙ h in cc)
judged_accepted c g limits (Ok Same) j s h = absurd (true≢false (sym s ∙ j.0))
judged_accepted c g limits (Ok New) j s h = refl

pub judged_highest : (c : List Step) (g : Graph) (limits : Limits) (r : Result Verdict Refusal) → Judges c g limits r → AreHighest limits → IsNew c g → r ≡ Ok New
judged_highest c g limits r j a n =
    let nodes = n.limits.nodes_bounded in
    let edges = n.limits.edges_bounded in
    let labels = n.limits.labels_bounded in
    let all : AreHigher n.limits limits = record {
      nodes = subst (λ m. n.limits.nodes ≤ m) (sym a.nodes) nodes;
      edges = subst (λ m. n.limits.edges ≤ m) (sym a.edges) edges;
      labels = subst (λ m. n.limits.labels ≤ m) (sym a.labels) labels;
    } in
    judged_accepted c g limits r j n.new (higher c g (after c g) n.limits limits all n.accepted)
