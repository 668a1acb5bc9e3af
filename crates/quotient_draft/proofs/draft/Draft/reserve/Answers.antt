use Rattle.std.proofs.Common.{◌<◌, ◌≤◌, ◌∙◌, arith, sym, subst, ap, length}
use Rattle.block_partition.specs.LabelledPartitions.{ReservedNumbers}
use Rattle.bisim_spec.specs.IndexGraphs.{View}
use Rattle.quotient_draft.specs.Drafts.{Drafted}
use Rattle.quotient_draft.specs.Basis.{IsOver}
use Rattle.quotient_draft.specs.ReservedCapacity.{HasReservedFor}
use Rattle.quotient_draft.proofs.Settled.{from_fit, ends_below, number_below}
use Rattle.quotient_draft.proofs.draft.Draft.reserve.Goals as goal

pub past-nodes-requires-clause-numbers : goal.past-nodes-requires-clause-numbers
past-nodes-requires-clause-numbers c =
    let o = subst (IsOver c.args.base.now.blocks.block_of c.args.base.now.blocks.labels) (sym c.self.view_is) c.requires.over in
    o.numbers

pub from-requires : goal.from-requires
from-requires c =
    let o = subst (IsOver c.args.base.now.blocks.block_of c.args.base.now.blocks.labels) (sym c.self.view_is) c.requires.over in
    from_fit c.args.base.now.blocks.block_of c.args.base.now.blocks.labels _ o

pub reserve_in-requires : goal.reserve_in-requires
reserve_in-requires c =
    let o = subst (IsOver c.args.base.now.blocks.block_of c.args.base.now.blocks.labels) (sym c.self.view_is) c.requires.over in
    let same = ap (λ (v : View). length v.labels) (c.in_ok-reserve_span.ensures.same ∙ c.in_ok-reserve.ensures.same) in
    let labels = subst (λ n. n ≤ c.reserve_span.new.self.reserved.span) same c.in_ok-reserve_span.ensures.labels in
    let from = subst (λ n. n ≤ c.reserve_span.new.self.reserved.span) c.from.ensures c.in_ok-reserve_span.ensures.span in
    record { ends = ends_below c.args.base.now.blocks.block_of c.args.base.now.blocks.labels _ c.reserve_span.new.self.reserved.span o labels from }

pub returns-clause-reserved : goal.returns-clause-reserved
returns-clause-reserved c =
    let d : Drafted = record { added = c.self.inside.added; moves = c.self.inside.moves.moves; left = c.self.inside.moves.left; taken = c.self.inside.moves.taken; supports = c.self.inside.changed } in
    let o = subst (IsOver c.args.base.now.blocks.block_of c.args.base.now.blocks.labels) (sym c.self.view_is) c.requires.over in
    let third = c.in_ok-reserve_in.ensures in
    let second = c.in_ok-reserve_span.ensures in
    let first = c.in_ok-reserve.ensures in
    let list = ap (λ (v : View). length v.block_of) (third.same ∙ second.same ∙ first.same) in
    let nodes = ap (λ (r : ReservedNumbers). r.nodes) (third.blocks ∙ second.blocks) ∙ first.nodes in
    let blocks = ap (λ (r : ReservedNumbers). r.blocks) (third.blocks ∙ second.blocks) ∙ first.blocks in
    let count = c.numbers.ensures.count in
    let further = c.further.ensures.count in
    let all = ap (λ (e : Drafted). length e.added) c.self.view_is in
    let from = subst (λ n. n ≤ c.reserve_span.new.self.reserved.span) c.from.ensures second.span in
    let pairs = third.pairs ∙ second.pairs in
    let some = first.pairs in
    let len = c.len.ensures in
    let reserved : HasReservedFor c.reserve_in.new.base d = record {
      nodes = λ n b e. (let below = c.past-nodes.ensures.fits n b e in omega (arith, below, list, nodes, count));
      blocks = omega (arith, blocks, further, all);
      span = λ i e h. subst (λ m. e.0 < m) (sym third.span) (number_below c.args.base.now.blocks.block_of c.args.base.now.blocks.labels d c.reserve_span.new.self.reserved.span i e o from h);
      pairs = omega (arith, pairs, some, len);
      children = third.children;
      parents = third.parents;
    } in
    subst (HasReservedFor c.reserve_in.new.base) c.self.view_is reserved
