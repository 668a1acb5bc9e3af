use Rattle.std.proofs.Common.{◌≡◌, sym, ◌∙◌, arith, Some, None}
use Rattle.graph_spec.specs.Members.{at}
use Rattle.bisim_spec.proofs.Together.{block_below}
use Rattle.index_file.proofs.RankedBlocks.{step_some, text_some, text_none, ranks_none}
use Rattle.index_file.proofs.view_lines.rank_at.Goals as goal

pub returns-in-Some-clause-text : goal.returns-in-Some-clause-text
returns-in-Some-clause-text c = λ s p w.
    let block = c.args.summary.now.blocks.block_of in
    let e : at block c.args.n ≡ Some c.in-Some.b = sym c.block_of.ensures.block ∙ c.in-Some.is in
    let below = block_below c.args.summary.now.blocks.labels c.in-Some.b c.in-Some.ensures.live in
    let fits = c.requires.within in
    let step = step_some s block c.args.ranks.now.of.items c.rank-rank.new.self.of.items c.args.n c.in-Some.b c.rank-rank.result c.args.ranks.now.count c.rank-rank.new.self.count p w e
    (omega (arith, below, fits)) c.rank-rank.ensures.again c.rank-rank.ensures.fresh in
    text_some s block c.args.n c.in-Some.b c.rank-rank.result p e step.0

pub returns-in-Some-clause-ranks : goal.returns-in-Some-clause-ranks
returns-in-Some-clause-ranks c = λ s p w.
    let block = c.args.summary.now.blocks.block_of in
    let e : at block c.args.n ≡ Some c.in-Some.b = sym c.block_of.ensures.block ∙ c.in-Some.is in
    let below = block_below c.args.summary.now.blocks.labels c.in-Some.b c.in-Some.ensures.live in
    let fits = c.requires.within in
    let step = step_some s block c.args.ranks.now.of.items c.rank-rank.new.self.of.items c.args.n c.in-Some.b c.rank-rank.result c.args.ranks.now.count c.rank-rank.new.self.count p w e
    (omega (arith, below, fits)) c.rank-rank.ensures.again c.rank-rank.ensures.fresh in
    step.1

pub returns-in-None-clause-text : goal.returns-in-None-clause-text
returns-in-None-clause-text c = λ s p w.
    let e : at c.args.summary.now.blocks.block_of c.args.n ≡ None = sym c.block_of.ensures.block ∙ c.in-None.is in
    text_none s c.args.summary.now.blocks.block_of c.args.n p e

pub returns-in-None-clause-ranks : goal.returns-in-None-clause-ranks
returns-in-None-clause-ranks c = λ s p w.
    let e : at c.args.summary.now.blocks.block_of c.args.n ≡ None = sym c.block_of.ensures.block ∙ c.in-None.is in
    ranks_none s c.args.summary.now.blocks.block_of c.args.ranks.now.of.items c.args.n c.args.ranks.now.count p w e
