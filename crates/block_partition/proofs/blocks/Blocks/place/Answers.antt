use Rattle.std.proofs.Common.{◌≡◌, ◌∙◌, ap, add-one, Some}
use Rattle.graph_spec.specs.Members.{at}
use Rattle.block_partition.specs.LabelledPartitions.{with_move, with_member}
use Rattle.block_partition.specs.Tables.{with_length}
use Rattle.block_partition.proofs.Growth.{member_steps}
use Rattle.block_partition.proofs.PutNumbers.{at_put}
use Rattle.block_partition.proofs.blocks.Blocks.place.Goals as goal

pub returns-clause-placed : goal.returns-clause-placed
returns-clause-placed c =
    c.link.ensures
    ∙ ap (λ p. with_move p c.args.n (Some c.args.b)) (c.grow.ensures ∙ ap (with_length c.args.self.now) (add-one c.args.n))
    ∙ member_steps c.args.self.now c.args.n c.args.b

pub returns-clause-blocks : goal.returns-clause-blocks
returns-clause-blocks c = λ m.
    let placed : c.link.new.self ≡ with_member c.args.self.now c.args.n c.args.b =
    c.link.ensures
    ∙ ap (λ p. with_move p c.args.n (Some c.args.b)) (c.grow.ensures ∙ ap (with_length c.args.self.now) (add-one c.args.n))
    ∙ member_steps c.args.self.now c.args.n c.args.b in
    ap (λ p. at p.block_of m) placed ∙ at_put c.args.self.now.block_of c.args.n c.args.b m
