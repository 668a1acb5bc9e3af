use Rattle.std.proofs.Common.{sym, subst, IsTrue}
use Rattle.label_graph.specs.ReservedGraphs.{has_pair}
use Rattle.label_graph.specs.PairMarks.{AreMarked}
use Rattle.label_graph.proofs.PairMarks.{marks-less}
use Rattle.label_graph.proofs.pairs.ReservedPairs.take.Goals as goal

pub invariant_of-self-else-is_empty : goal.invariant_of-self-else-is_empty
invariant_of-self-else-is_empty c =
    let s = c.self.inside in
    let there = subst (λ ps. IsTrue (has_pair ps c.args.u c.args.v)) (sym c.self.view_is) c.requires in
    subst (AreMarked s.begin s.end) (sym c.take_pair.ensures) (marks-less s.begin s.end s.pairs.items c.args.u c.args.v c.self.invariant there)
