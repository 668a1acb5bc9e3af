use Rattle.std.proofs.Common.{◌≡◌, subst, sym}
use Rattle.bisim_spec.specs.Bisimilarity.{FB}
use Rattle.bisim_spec.specs.Partitions.{Agrees}
use Rattle.bisim_spec.specs.IndexGraphs.{ViewFits}
use Rattle.graph_spec.specs.Shapes.{shape_of}
use Rattle.fb_index.proofs.building.summary_of_view.Goals as goal

pub returns : goal.returns
returns c =
    let q = c.in_ok-summary.summary in
    let same : q.blocks ≡ c.in_ok-blocks.blocks = c.in_ok-summary.ensures.blocks in
    record {
      view = subst (λ p. ViewFits c.args.view.now (record { block_of = p.block_of; labels = p.labels; supports = q.supports })) (sym same) (c.in_ok-blocks.ensures.fits q.supports c.in_ok-summary.ensures.supports);
      agrees = subst (λ p. Agrees (shape_of c.args.view.now) p.block_of (FB (shape_of c.args.view.now))) (sym same) c.in_ok-blocks.ensures.agrees;
    }
