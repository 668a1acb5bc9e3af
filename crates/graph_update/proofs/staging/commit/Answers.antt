use Rattle.std.proofs.Common.{◌≡◌, ◌∙◌, ◌-◌, ap, sym, subst, arith, length}
use Rattle.change_spec.specs.Steps.{after}
use Rattle.change_spec.proofs.NamedNodes.{given_all}
use Rattle.graph_update.specs.StagedChanges.{effective, ArePlanned}
use Rattle.graph_update.proofs.PlannedSteps.{staged_planned, made_alike}
use Rattle.graph_update.proofs.staging.commit.Goals as goal

pub make_all-requires : goal.make_all-requires
make_all-requires c =
    let held = c.args.graph.now in
    let k = c.requires.staged in
    let is = c.as_slice.ensures ∙ c.staged.view_is in
    record { planned = (effective k.0 held.graph, subst (ArePlanned (effective k.0 held.graph) held) (sym is) (staged_planned k.0 held c.args.staged c.created-first.ensures.graph k.1 k.2)) }

pub overflow_sub-result : goal.overflow_sub-result
overflow_sub-result c =
    let held = c.args.graph.now in
    let k = c.requires.staged in
    let is = c.as_slice.ensures ∙ c.staged.view_is in
    let made = made_alike k.0 held c.args.staged c.created-first.ensures.graph k.1 k.2 k.0 k.1 c.make_all.new.graph (λ e a. c.make_all.ensures.made e (subst (ArePlanned e held) (sym is) a)) in
    let same = ap (λ h. length h.graph.allocated) made in
    let before = c.created-first.ensures.count in
    let behind = c.created.ensures.count in
    let more = given_all k.0 held.graph in
    omega (arith, same, before, behind, more)

pub returns-clause-made : goal.returns-clause-made
returns-clause-made c = λ q st.
    let held = c.args.graph.now in
    let k = c.requires.staged in
    let is = c.as_slice.ensures ∙ c.staged.view_is in
    made_alike k.0 held c.args.staged c.created-first.ensures.graph k.1 k.2 q st c.make_all.new.graph (λ e a. c.make_all.ensures.made e (subst (ArePlanned e held) (sym is) a))

pub returns-clause-applied : goal.returns-clause-applied
returns-clause-applied c = λ q st.
    let held = c.args.graph.now in
    let before = c.created-first.ensures.count in
    let behind : c.created.result ≡ length (after q held.graph).allocated = c.created.ensures.count ∙ ap (λ h. length h.graph.allocated) (returns-clause-made c q st) in
    λ i. record { first = before i; added = behind i - before i }
