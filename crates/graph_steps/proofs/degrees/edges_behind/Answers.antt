use Rattle.std.proofs.Common.{◌≡◌, ◌∙◌, ap, sym, arith, take, List}
use Rattle.change_spec.specs.Steps.{after}
use Rattle.change_spec.specs.Named.{is_dropped}
use Rattle.graph_steps.specs.StepLists.{step_of, steps_of}
use Rattle.graph_steps.specs.Degrees.{staying, counted_behind}
use Rattle.graph_steps.proofs.PrefixSteps.{after_at, can_at, all_taken}
use Rattle.graph_steps.proofs.NamedParts.{counted, prefix_taken}
use Rattle.graph_steps.proofs.NodeEdges.{staying_next, staying_all, staying_few, gone_within, prefix_not_gone}
use Rattle.graph_steps.proofs.degrees.edges_behind.Goals as goal

pub count_on-count-requires : goal.count_on-count-requires
count_on-count-requires c =
    let ss = c.args.steps.now in
    let i = c.loop-i.i in
    let g = c.args.graph.now.graph in
    let few = staying_few ss i g c.args.u (is_dropped (steps_of ss)) (let t = c.loop-i-test.true in omega (arith, t)) in
    let count = c.loop-i.invariant in
    let edges = c.edge_count-known.ensures.count in
    let most = c.edge_count-known.ensures.few in
    let short = c.requires.few in
    let t = c.loop-i-test.true in
    record {
      few = omega (arith, few, count, edges, most, short, t);
      within = λ n off. ap (λ k. is_dropped k n) (sym (prefix_taken ss c.args.prefix.now i c.requires.same ∙ sym c.prefix.ensures)) ∙ prefix_not_gone ss i n off;
    }

pub prefix-requires : goal.prefix-requires
prefix-requires c =
    let len = counted c.args.steps.now c.args.prefix.now c.requires.same in
    let t = c.loop-i-test.true in
    omega (arith, len, t)

pub loop-i-preserved : goal.loop-i-preserved
loop-i-preserved c =
    let ss = c.args.steps.now in
    let i = c.loop-i.i in
    let s = c.index-steps-i.result in
    let g = c.args.graph.now.graph in
    let h = after (steps_of (take i ss)) g in
    let more = after_at ss i s g c.loop-i-test.true c.index-steps-i.is in
    let law = staying_next (step_of s) h c.args.u (is_dropped (steps_of ss)) (can_at ss i s g c.loop-i-test.true c.index-steps-i.is c.requires.can)
    (gone_within ss i s c.loop-i-test.true c.index-steps-i.is) in
    let same = ap (λ k. staying k c.args.u (is_dropped (steps_of ss))) more in
    let was = c.loop-i.invariant in
    let here : c.prefix.result ≡ steps_of (take i ss) = c.prefix.ensures ∙ sym (prefix_taken ss c.args.prefix.now i c.requires.same) in
    let now = c.count_on-count.ensures ∙ ap (λ k. counted_behind (after k g) c.args.u (is_dropped (steps_of ss)) (step_of s) c.loop-i.count) here in
    omega (arith, law, same, was, now)

pub returns : goal.returns
returns c =
    let ss = c.args.steps.now in
    let g = c.args.graph.now.graph in
    let past = c.loop-i-test.false in
    c.loop-i.invariant ∙ ap (λ (xs : List _). staying (after (steps_of xs) g) c.args.u (is_dropped (steps_of ss))) (all_taken ss c.loop-i.i past)
    ∙ staying_all ss g c.args.u c.edge_count-known.ensures.graph c.requires.can
