use Rattle.std.proofs.Common.{◌++◌, sym, ◌∙◌, ap, append_assoc, arith}
use Rattle.std.specs.Prelude.{string_bytes}
use Rattle.graph_spec.specs.Shapes.{shape_of}
use Rattle.bisim_spec.specs.Tests.{together}
use Rattle.extent_report.specs.ListedBlocks.{texts_below}
use Rattle.index_file.specs.WrittenFiles.{rank_line, rank_text}
use Rattle.extent_report.proofs.NumberedTexts.{texts_more}
use Rattle.index_file.proofs.view_lines.push_ranks.Goals as goal

pub loop-n-preserved : goal.loop-n-preserved
loop-n-preserved c =
    let s = shape_of c.args.graph.now.graph in
    let block = c.args.summary.now.blocks.block_of in
    let f = rank_line s (together block) in
    let few = c.rank_at-rank.ensures.few in
    let old = c.loop-n.invariant.few in
    let long = c.rank_at-rank.ensures.length in
    let within = c.loop-n.invariant.within in
    record {
      written =
          c.in_ok-push_rank.ensures
          ∙ ap (λ t. t ++ rank_text c.rank_at-rank.result) c.loop-n.invariant.written
          ∙ append_assoc (string_bytes c.args.out.now) (texts_below c.loop-n.n f) (rank_text c.rank_at-rank.result)
          ∙ ap (λ t. string_bytes c.args.out.now ++ t)
          (ap (λ t. texts_below c.loop-n.n f ++ t) (c.rank_at-rank.ensures.text s c.requires.live c.loop-n.invariant.ranks) ∙ sym (texts_more c.loop-n.n f));
      ranks = c.rank_at-rank.ensures.ranks s c.requires.live c.loop-n.invariant.ranks;
      within = omega (arith, long, within);
      few = omega (arith, few, old);
    }
