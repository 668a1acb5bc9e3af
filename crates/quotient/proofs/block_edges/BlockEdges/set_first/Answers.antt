use Rattle.std.proofs.Common.{◌≡◌, ◌∙◌, refl, sym, subst, ap, arith, length}
use Rattle.std.specs.Prelude.{nat_lt}
use Rattle.std.proofs.lemmas.List.{length-set}
use Rattle.bisim_spec.specs.IndexGraphs.{SupportTable}
use Rattle.quotient.specs.QuotientNeighbours.{AreNeighbourLists, is_supported}
use Rattle.quotient.specs.QuotientTables.{KeptPairs}
use Rattle.quotient.proofs.ReservedCapacity.{uses_none}
use Rattle.quotient.proofs.Taken.{neighbour_lists_added, neighbour_lists_still}
use Rattle.quotient.proofs.block_edges.BlockEdges.set_first.Goals as goal

pub returns-then-n-gt0 : goal.returns-then-n-gt0
returns-then-n-gt0 c =
    let old = c.args.self.now in
    let cs = old.children.lists in
    let ps = old.parents.lists in
    let pairs = ap (λ (k : KeptPairs). k.pairs) c.add_place.ensures ∙ c.set.ensures.pairs in
    let before = c.set.ensures.reserved in
    let same_reserved = ap (λ (k : KeptPairs). k.reserved) c.add_place.ensures in
    record {
      pairs = pairs;
      pair_reserved = omega (arith, before, same_reserved);
      neighbour_lists = subst (λ (t : SupportTable). AreNeighbourLists t c.add.new.self.lists c.add-then-n-gt0.new.self.lists) (sym pairs)
          (neighbour_lists_added old.supports.pairs cs ps c.add.new.self.lists c.add-then-n-gt0.new.self.lists c.args.a c.args.b c.args.n c.requires.none c.if-n-gt0.true c.requires.from c.requires.onto
          c.add.ensures.lists c.add-then-n-gt0.ensures.lists c.requires.neighbour_lists);
      length_children = ap length c.add.ensures.lists ∙ length-set cs c.args.a _;
      length_parents = ap length c.add-then-n-gt0.ensures.lists ∙ length-set ps c.args.b _;
      child_reserved = c.add.ensures.reserved;
      parent_reserved = c.add-then-n-gt0.ensures.reserved;
    }

pub returns-else-n-gt0 : goal.returns-else-n-gt0
returns-else-n-gt0 c =
    let old = c.args.self.now in
    let cs = old.children.lists in
    let ps = old.parents.lists in
    let least = c.if-n-gt0.false in
    let n_zero : c.args.n ≡ 0 = omega (arith, least) in
    let same : nat_lt 0 c.args.n ≡ is_supported old.supports.pairs c.args.a c.args.b = ap (nat_lt 0) (n_zero ∙ sym c.requires.none) in
    record {
      pairs = c.set.ensures.pairs;
      pair_reserved = c.set.ensures.reserved;
      neighbour_lists = subst (λ (t : SupportTable). AreNeighbourLists t cs ps) (sym c.set.ensures.pairs) (neighbour_lists_still old.supports.pairs cs ps c.args.a c.args.b c.args.n same c.requires.neighbour_lists);
      length_children = refl;
      length_parents = refl;
      child_reserved = uses_none c.args.a old.children.reserved;
      parent_reserved = uses_none c.args.b old.parents.reserved;
    }
