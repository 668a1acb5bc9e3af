use Rattle.std.proofs.Common.{List, Option, ℕ, sym, subst}
use Rattle.std.specs.Prelude.{IsSome}
use Rattle.graph_spec.specs.Members.{at}
use Rattle.quotient_draft.proofs.PutLists.{put_some}
use Rattle.one_update.proofs.IndexEffects.{node_put}
use Rattle.one_update.proofs.adding.add_node.Goals as goal

pub put-requires-clause-block : goal.put-requires-clause-block
put-requires-clause-block c = subst (λ (ls : List (Option ℕ)). IsSome (at ls c.in_ok-b.b)) (sym c.in_ok-b.ensures.labels) (put_some _ c.in_ok-b.b c.args.label)

pub returns : goal.returns
returns c = record {
  added = node_put c.args.base.now c.args.n c.args.label c.in_ok-b.b c.args.draft.now c.new_block.new.self c.put.new.self _ c.in_ok-b.ensures.least c.in_ok-b.ensures.ok c.in_ok-b.ensures.labels
      c.in_ok-put.ensures.blocks c.put.ensures.added c.put.ensures.supports c.in_ok-put.ensures.over;
}
