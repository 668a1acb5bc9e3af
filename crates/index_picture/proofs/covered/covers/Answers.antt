use Rattle.std.proofs.Common.{◌≡◌, ℕ, Option, None, Some, true, false, ◌∙◌, ap, sym, true≢false}
use Rattle.graph_spec.specs.Graphs.{has_edge}
use Rattle.graph_spec.specs.Members.{at, is_this}
use Rattle.index_picture.proofs.ParentLaws.{covers_all, this_at}
use Rattle.index_picture.proofs.covered.covers.Goals as goal

pub returns-then-not-is_block : goal.returns-then-not-is_block
returns-then-not-is_block g c =
    sym
    (covers_all (has_edge c.args.graph.now.graph) c.args.summary.now.blocks.block_of c.args.a c.args.b
    (λ v m. absurd (true≢false (sym (c.is_block.ensures.live v (this_at c.args.b (at c.args.summary.now.blocks.block_of v) m)) ∙ c.if-not-is_block.true))))
