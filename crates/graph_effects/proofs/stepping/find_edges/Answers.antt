use Rattle.graph_effects.proofs.GoneNodes.{new_can}
use Rattle.graph_effects.proofs.NamedPairs.{cut_found, added_found}
use Rattle.graph_effects.proofs.stepping.find_edges.Goals as goal

pub lose_nodes-requires : goal.lose_nodes-requires
lose_nodes-requires g c =
    let a = c.args.after.now in
    record {
      graph = c.requires.graph;
      gone = c.requires.gone;
      lost = cut_found a.change a.before c.args.change.now c.args.lost.now.items c.sort_named.new.lost.items (new_can a.change a.before c.created-known.ensures.new) c.requires.same c.requires.no_lost
          c.in_ok-sort_named.ensures.lost;
    }

pub returns-clause-added : goal.returns-clause-added
returns-clause-added g c =
    let a = c.args.after.now in
    added_found a.change a.before c.args.change.now c.args.added.now.items c.sort_named.new.added.items (new_can a.change a.before c.created-known.ensures.new) c.created-known.ensures.after c.requires.same
    c.requires.no_added c.in_ok-sort_named.ensures.added
