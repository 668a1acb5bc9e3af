use Rattle.std.proofs.Common.{◌≡◌, ◌<◌, ◌∙◌, refl, sym, subst, arith, true}
use Rattle.std.specs.Prelude.{nat_lt}
use Rattle.std.proofs.lemmas.Bool.Decides.{nat_tests}
use Rattle.bisim_spec.specs.IndexGraphs.{SupportTable}
use Rattle.quotient.specs.QuotientNeighbours.{AreNeighbourLists, is_supported}
use Rattle.quotient.specs.QuotientTables.{IsWritten}
use Rattle.quotient.proofs.ReservedCapacity.{uses_none}
use Rattle.quotient.proofs.Taken.{neighbour_lists_still}
use Rattle.quotient.proofs.block_edges.BlockEdges.set_more.Goals as goal

pub returns-then-n-eq0 : goal.returns-then-n-eq0
returns-then-n-eq0 c =
    let old = c.args.self.now in
    let new = c.part.new.self in
    subst (λ m. IsWritten c.args.a c.args.b m old.supports new.supports old.children new.children old.parents new.parents) (sym c.if-n-eq0.true) c.part.ensures

pub returns-else-n-eq0 : goal.returns-else-n-eq0
returns-else-n-eq0 c =
    let old = c.args.self.now in
    let cs = old.children.lists in
    let ps = old.parents.lists in
    let apart = c.if-n-eq0.false in
    let n_some : 0 < c.args.n = omega (arith, apart) in
    let some = c.requires.some in
    let yes : nat_lt 0 c.args.n ≡ true = grind (arith, nat_tests, n_some) in
    let was : is_supported old.supports.pairs c.args.a c.args.b ≡ true = grind (arith, nat_tests, some) in
    record {
      pairs = c.set.ensures.pairs;
      pair_reserved = c.set.ensures.reserved;
      neighbour_lists = subst (λ (t : SupportTable). AreNeighbourLists t cs ps) (sym c.set.ensures.pairs) (neighbour_lists_still old.supports.pairs cs ps c.args.a c.args.b c.args.n (yes ∙ sym was) c.requires.neighbour_lists);
      length_children = refl;
      length_parents = refl;
      child_reserved = uses_none c.args.a old.children.reserved;
      parent_reserved = uses_none c.args.b old.parents.reserved;
    }
