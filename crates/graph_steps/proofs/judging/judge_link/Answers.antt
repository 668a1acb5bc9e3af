use Rattle.std.proofs.Common.{◌≡◌, ◌∙◌, ap, sym, arith, rules, true, false, nat_lt}
use Rattle.std.specs.Prelude.{◌||◌, not}
use Rattle.std.specs.FinSet as set
use Rattle.graph_spec.specs.Graphs.{is_live, has_edge}
use Rattle.change_spec.specs.Steps.{after}
use Rattle.graph_steps.proofs.GrownCounts.{edges_more, edges_same, linked, fits_more}
use Rattle.graph_steps.proofs.NamedParts.{live_stays}
use Rattle.graph_steps.proofs.judging.judge_link.Goals as goal

pub has_edge-requires-clause-from : goal.has_edge-requires-clause-from
has_edge-requires-clause-from c = live_stays c.args.prefix.now c.args.graph.now.graph c.args.u c.requires.can (search rules)

pub has_edge-requires-clause-onto : goal.has_edge-requires-clause-onto
has_edge-requires-clause-onto c = live_stays c.args.prefix.now c.args.graph.now.graph c.args.v c.requires.can (search rules)

pub returns-then-has_edge : goal.returns-then-has_edge
returns-then-has_edge c =
    let h = after c.args.prefix.now c.args.graph.now.graph in
    let from : is_live h c.args.u ≡ true = search rules in
    let onto : is_live h c.args.v ≡ true = search rules in
    let present : has_edge h c.args.u c.args.v ≡ true = search rules in
    let counts = c.requires.counts in
    let same = ap (λ es. set.len es) (edges_same h.edges (c.args.u, c.args.v) present) in
    let edges = counts.edges in
    record {
      accepted = linked h c.args.limits.now c.args.u c.args.v from onto (ap (λ b. b || nat_lt (set.len h.edges) c.args.limits.now.edges) present);
      can = (from, onto);
      alters = sym (ap not present);
      counts = record {
        created = counts.created;
        edges = omega (arith, same, edges);
        labels = counts.labels;
        edges_are = λ on. counts.edges_are on ∙ sym same;
        labels_are = counts.labels_are;
      };
      edges_more = omega arith;
      labels_more = omega arith;
    }

pub returns : goal.returns
returns c =
    let h = after c.args.prefix.now c.args.graph.now.graph in
    let from : is_live h c.args.u ≡ true = search rules in
    let onto : is_live h c.args.v ≡ true = search rules in
    let absent : has_edge h c.args.u c.args.v ≡ false = search rules in
    let counts = c.requires.counts in
    let more = edges_more h.edges (c.args.u, c.args.v) absent in
    let edges = counts.edges in
    let fits = c.if-counts-limits.false in
    record {
      accepted = linked h c.args.limits.now c.args.u c.args.v from onto (fits_more (has_edge h c.args.u c.args.v) (set.len h.edges) c.args.counts.edges c.args.limits.now.edges edges fits);
      can = (from, onto);
      alters = sym (ap not absent);
      counts = record {
        created = counts.created;
        edges = omega (arith, more, edges);
        labels = counts.labels;
        edges_are = λ on. (let is = counts.edges_are on in omega (arith, is, more));
        labels_are = counts.labels_are;
      };
      edges_more = omega arith;
      labels_more = omega arith;
    }
