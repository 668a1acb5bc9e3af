use Rattle.std.proofs.Common.{subst, arith, IsSome}
use Rattle.graph_spec.specs.Members.{at}
use Rattle.round_refinement.proofs.LevelLaws.{node_of}
use Rattle.round_refinement.proofs.active.part_on.Goals as goal

pub list_all-requires : goal.list_all-requires
list_all-requires g c = λ n h.
    let node = c.requires.coarse.partition.only n (subst (λ k. IsSome (at k n)) c.deref.ensures.value h) in
    let below = g.met.G.Digraph.below c.args.g.now n (node_of (g.G.Digraph.label_at c.args.g.now n) node) in
    let size = c.size.ensures in
    omega (arith, below, size)
