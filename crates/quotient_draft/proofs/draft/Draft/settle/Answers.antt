use Rattle.std.proofs.Common.{◌≡◌, ◌∙◌, ℕ, List, Option, arith, sym, subst, ap, length}
use Rattle.std.specs.Prelude.{IsSome}
use Rattle.graph_spec.specs.Members.{at}
use Rattle.block_partition.specs.LabelledPartitions.{Partition}
use Rattle.bisim_spec.specs.IndexGraphs.{SupportTable}
use Rattle.quotient.specs.Quotients.{view_of}
use Rattle.quotient_draft.specs.Drafts.{Drafted, with_moves, with_supports, settled_view}
use Rattle.quotient_draft.specs.Basis.{IsOver}
use Rattle.quotient_draft.specs.ReservedCapacity.{HasReservedFor}
use Rattle.quotient_draft.specs.Retired.{IsRetired}
use Rattle.quotient_draft.proofs.Settled.{settled_is}
use Rattle.quotient_draft.proofs.draft.Draft.settle.Goals as goal

pub make_in-requires-3-clause-blocks : goal.make_in-requires-3-clause-blocks
make_in-requires-3-clause-blocks c = λ n b e.
    let o = subst (IsOver c.args.base.now.blocks.block_of c.args.base.now.blocks.labels) (sym c.self.view_is) c.requires.over in
    let labels = ap (λ (p : Partition). p.labels) c.make_in-2.ensures.blocks ∙ c.make_in.ensures.labels in
    subst (λ (ls : List (Option ℕ)). IsSome (at ls b)) (sym labels) (o.moved n b e)

pub make_in-requires-3-clause-nodes : goal.make_in-requires-3-clause-nodes
make_in-requires-3-clause-nodes c = λ n b e.
    let r = subst (HasReservedFor c.args.base.now) (sym c.self.view_is) c.requires.reserved in
    let list = ap (λ (p : Partition). length p.block_of) c.make_in-2.ensures.blocks ∙ ap (λ (bs : List (Option ℕ)). length bs) c.make_in.ensures.blocks in
    let nodes = ap (λ (p : Partition). p.reserved.nodes) c.make_in-2.ensures.blocks ∙ c.make_in.ensures.nodes in
    let below = r.nodes n b e in
    omega (arith, below, list, nodes)

pub returns-clause-settled : goal.returns-clause-settled
returns-clause-settled c =
    let d : Drafted = record { added = c.self.inside.added; moves = c.self.inside.moves.moves; left = c.self.inside.moves.left; taken = c.self.inside.moves.taken; supports = c.self.inside.changed } in
    let q = c.args.base.now in
    let o = subst (IsOver q.blocks.block_of q.blocks.labels) (sym c.self.view_is) c.requires.over in
    let blocks = c.make_in-3.ensures.blocks ∙ ap (λ (bs : List (Option ℕ)). with_moves bs d.moves) (ap (λ (p : Partition). p.block_of) c.make_in-2.ensures.blocks ∙ c.make_in.ensures.blocks) in
    let labels = c.make_in-3.ensures.labels ∙ ap (λ (p : Partition). p.labels) c.make_in-2.ensures.blocks ∙ c.make_in.ensures.labels in
    let supports = c.make_in-3.ensures.supports ∙ c.make_in-2.ensures.supports ∙ ap (λ (t : SupportTable). with_supports t d.supports) c.make_in.ensures.supports in
    let second = subst (λ (xs : List ℕ). IsRetired xs c.retire_in.new.base c.retire_all.new.base) c.left.ensures c.retire_all.ensures in
    subst (λ (e : Drafted). view_of c.retire_all.new.base ≡ settled_view q e) c.self.view_is
    (settled_is q c.make_in-3.new.base c.retire_in.new.base c.retire_all.new.base d o c.requires.inhabited blocks labels supports c.retire_in.ensures second)
