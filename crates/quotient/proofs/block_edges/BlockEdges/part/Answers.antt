use Rattle.std.proofs.Common.{◌≡◌, ◌∙◌, refl, sym, subst, ap, arith, length}
use Rattle.std.proofs.lemmas.List.{length-set}
use Rattle.bisim_spec.specs.IndexGraphs.{SupportTable}
use Rattle.quotient.specs.QuotientNeighbours.{AreNeighbourLists}
use Rattle.quotient.specs.QuotientTables.{KeptPairs}
use Rattle.quotient.proofs.Taken.{neighbour_lists_taken, neighbour_lists_there}
use Rattle.quotient.proofs.block_edges.BlockEdges.part.Goals as goal

pub remove-i-requires-clause-member : goal.remove-i-requires-clause-member
remove-i-requires-clause-member c =
    let old = c.args.self.now in
    (neighbour_lists_there old.supports.pairs old.children.lists old.parents.lists c.args.a c.args.b c.requires.some c.requires.neighbour_lists).0

pub remove-j-requires-clause-member : goal.remove-j-requires-clause-member
remove-j-requires-clause-member c =
    let old = c.args.self.now in
    (neighbour_lists_there old.supports.pairs old.children.lists old.parents.lists c.args.a c.args.b c.requires.some c.requires.neighbour_lists).1

pub returns : goal.returns
returns c =
    let old = c.args.self.now in
    let cs = old.children.lists in
    let ps = old.parents.lists in
    let kept : c.note_parent.new.self ≡ c.remove-place.new.self = c.note_parent.ensures ∙ c.note_child.ensures in
    let pairs = ap (λ (k : KeptPairs). k.pairs) kept ∙ c.remove-place.ensures.pairs in
    let before = c.remove-place.ensures.reserved in
    let same_reserved = ap (λ (k : KeptPairs). k.reserved) kept in
    record {
      pairs = pairs;
      pair_reserved = omega (arith, before, same_reserved);
      neighbour_lists = subst (λ (t : SupportTable). AreNeighbourLists t c.remove-i.new.self.lists c.remove-j.new.self.lists) (sym pairs)
          (neighbour_lists_taken old.supports.pairs cs ps c.remove-i.new.self.lists c.remove-j.new.self.lists c.args.a c.args.b 0 refl
          c.remove-i.ensures.lists c.remove-i.ensures.taken c.remove-j.ensures.lists c.remove-j.ensures.taken c.requires.neighbour_lists);
      length_children = ap length c.remove-i.ensures.lists ∙ length-set cs c.args.a _;
      length_parents = ap length c.remove-j.ensures.lists ∙ length-set ps c.args.b _;
      child_reserved = c.remove-i.ensures.reserved;
      parent_reserved = c.remove-j.ensures.reserved;
    }
