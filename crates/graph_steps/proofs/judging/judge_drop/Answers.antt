use Rattle.std.proofs.Common.{◌≡◌, ◌∙◌, ◌≤◌, ap, sym, arith, rules, true, Ok, None, refl, subst}
use Rattle.std.specs.Prelude.{if◌then◌else◌, Err}
use Rattle.std.specs.FinSet as set
use Rattle.graph_spec.specs.declared.refusal.Refusal.TheVariants.{NoNode}
use Rattle.graph_spec.specs.Graphs.{is_live}
use Rattle.change_spec.specs.Steps.{after, without_node}
use Rattle.change_spec.proofs.StepPlaces.{given_set}
use Rattle.graph_steps.proofs.GrownCounts.{most_gone, left_most, left_is}
use Rattle.graph_steps.proofs.judging.judge_drop.Goals as goal

pub fewer-requires : goal.fewer-requires
fewer-requires c = most_gone c.args.exact.edges c.going-gone.result c.args.counts.edges (after c.args.prefix.now c.args.graph.now.graph) c.args.u
    c.requires.counts.edges_are c.going-gone.ensures.counted c.going-gone.ensures.uncounted

pub returns : goal.returns
returns c = λ limits.
    let h = after c.args.prefix.now c.args.graph.now.graph in
    let u = c.args.u in
    let live : is_live h u ≡ true = search rules in
    let counts = c.requires.counts in
    let going = c.going-gone.ensures in
    let fewer = c.fewer.ensures in
    record {
      accepted = ap (λ b. if b then Ok (without_node h u) else Err NoNode) live;
      can = live;
      alters = refl;
      counts = record {
        created = counts.created ∙ sym (given_set h u None);
        edges = subst (λ n. set.len (without_node h u).edges ≤ n) (sym fewer)
            (left_most c.args.exact.edges c.going-gone.result c.args.counts.edges h u counts.edges_are going.counted going.uncounted counts.edges);
        labels = counts.labels;
        edges_are = λ on. fewer ∙ left_is c.args.exact.edges c.going-gone.result c.args.counts.edges h u counts.edges_are going.counted on;
        labels_are = counts.labels_are;
      };
      edges_more = omega (arith, fewer);
      labels_more = omega arith;
    }
