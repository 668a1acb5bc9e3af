use Rattle.std.proofs.Common.{◌≡◌, arith, rules, true, refl}
use Rattle.graph_spec.specs.Graphs.{is_live, has_edge}
use Rattle.change_spec.specs.Steps.{after}
use Rattle.graph_steps.proofs.GrownCounts.{unlinked, one_less, less_most, less_is}
use Rattle.graph_steps.proofs.NamedParts.{live_stays}
use Rattle.graph_steps.proofs.judging.judge_unlink.Goals as goal

pub has_edge-requires-clause-from : goal.has_edge-requires-clause-from
has_edge-requires-clause-from c = live_stays c.args.prefix.now c.args.graph.now.graph c.args.u c.requires.can (search rules)

pub has_edge-requires-clause-onto : goal.has_edge-requires-clause-onto
has_edge-requires-clause-onto c = live_stays c.args.prefix.now c.args.graph.now.graph c.args.v c.requires.can (search rules)

pub overflow_sub-result : goal.overflow_sub-result
overflow_sub-result c =
    let h = after c.args.prefix.now c.args.graph.now.graph in
    let present : has_edge h c.args.u c.args.v ≡ true = search rules in
    one_less c.args.exact.edges c.from.result c.args.counts.edges h c.args.u c.args.v c.from.ensures c.requires.counts.edges_are present

pub returns : goal.returns
returns c = λ limits.
    let h = after c.args.prefix.now c.args.graph.now.graph in
    let from : is_live h c.args.u ≡ true = search rules in
    let onto : is_live h c.args.v ≡ true = search rules in
    let present : has_edge h c.args.u c.args.v ≡ true = search rules in
    let counts = c.requires.counts in
    record {
      accepted = unlinked h limits c.args.u c.args.v from onto present;
      can = (from, onto, present);
      alters = refl;
      counts = record {
        created = counts.created;
        edges = less_most c.args.exact.edges c.from.result c.args.counts.edges h c.args.u c.args.v c.from.ensures counts.edges_are present counts.edges;
        labels = counts.labels;
        edges_are = λ on. less_is c.args.exact.edges c.from.result c.args.counts.edges h c.args.u c.args.v c.from.ensures counts.edges_are present on;
        labels_are = counts.labels_are;
      };
      edges_more = omega arith;
      labels_more = omega arith;
    }
