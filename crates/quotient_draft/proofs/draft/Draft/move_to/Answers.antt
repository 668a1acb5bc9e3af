use Rattle.std.proofs.Common.{◌≡◌, ◌≤◌, ◌^◌, arith, subst, length, unwrap_or}
use Rattle.std.specs.Prelude.{nat_eq}
use Rattle.std.specs.Map.{lookup}
use Rattle.graph_spec.specs.Members.{at}
use Rattle.quotient_draft.specs.Drafts.{Drafted, with_moves}
use Rattle.quotient_draft.proofs.Spans.{node_small}
use Rattle.quotient_draft.proofs.draft.Draft.move_to.Goals as goal

pub put-requires-clause-small : goal.put-requires-clause-small
put-requires-clause-small c =
    let block = c.args.base.now.blocks.block_of in
    let few : length block ≤ 2 ^ 31 = (let count = c.numbers-known.ensures.count in let most = c.numbers-known.ensures.few in omega (arith, count, most)) in
    let is = subst (λ (d : Drafted). at (with_moves block d.moves) c.args.n ≡ unwrap_or (lookup (nat_eq c.args.n) d.moves) (at block c.args.n)) c.self.view_is (c.know_lookups.ensures block c.args.n) in
    node_small block c.args.self.now.moves c.args.n (at (with_moves block c.args.self.now.moves) c.args.n) few c.requires.over.numbers is c.requires.node
