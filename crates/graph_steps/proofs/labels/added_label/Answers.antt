use Rattle.std.proofs.Common.{◌∙◌, ap, sym, arith, drop}
use Rattle.std.specs.Prelude.{option_map}
use Rattle.std.specs.Option.{option_or}
use Rattle.graph_spec.specs.Graphs.{label_of}
use Rattle.graph_steps.specs.StepLists.{step_of}
use Rattle.graph_steps.specs.StepLabels.{relabelled}
use Rattle.graph_steps.proofs.NodePlaces.{place_within}
use Rattle.graph_steps.proofs.StepLabels.{newer, added_labelled}
use Rattle.graph_steps.proofs.labels.added_label.Goals as goal

pub step-requires : goal.step-requires
step-requires c = place_within c.args.prefix.now c.args.earlier c.node_place-place.result c.node_place-place.ensures

pub relabelled-requires : goal.relabelled-requires
relabelled-requires c = (let below = place_within c.args.prefix.now c.args.earlier c.node_place-place.result c.node_place-place.ensures in omega (arith, below))

pub returns : goal.returns
returns c = λ g can live is.
    let f = c.args.prefix.now in
    let n = c.args.n in
    let p = c.node_place-place.result in
    let lab = option_map (λ t. t.now) c.label_added-label.result in
    let result =
    ap (option_map (λ t. t.now)) c.or.ensures ∙ newer (λ t. t.now) c.relabelled.result c.label_added-label.result
    ∙ ap (λ o. option_or o lab) c.relabelled.ensures
    ∙ ap (option_or (relabelled (drop p f) n)) c.label_added-label.ensures in
    added_labelled f g n c.args.earlier p (step_of c.step.result.now) can live is c.node_place-place.ensures c.step.ensures
    ∙ ap (λ o. option_or o (label_of g n)) (sym result)
