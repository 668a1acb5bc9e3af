use Rattle.std.proofs.Common.{◌∙◌, ap}
use Rattle.block_partition.specs.LabelledPartitions.{block_count}
use Rattle.extent_report.specs.ListedBlocks.{size_line}
use Rattle.extent_report.proofs.Sized.{listed_size}
use Rattle.extent_report.proofs.sizes.sizes_line.Goals as goal

pub returns-clause-text : goal.returns-clause-text
returns-clause-text c =
    c.in_ok-line.ensures ∙ ap (λ b. size_line c.args.via b c.pairs.result) c.blocks-count.ensures.count
    ∙ ap (λ s. size_line c.args.via (block_count c.args.summary.now.blocks) s) c.pairs.ensures

pub returns-clause-listed : goal.returns-clause-listed
returns-clause-listed c = λ g r h. returns-clause-text c ∙ listed_size g c.args.summary.now r c.args.via h
