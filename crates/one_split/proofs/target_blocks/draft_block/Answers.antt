use Rattle.std.proofs.Common.{ap, sym, ◌∙◌, is_some, true≢false, List, Option, ℕ}
use Rattle.graph_spec.specs.Members.{at}
use Rattle.quotient_draft.specs.Drafts.{shown_labels}
use Rattle.block_partition.proofs.PutNumbers.{at_put}
use Rattle.one_split.proofs.target_blocks.draft_block.Goals as goal

pub returns-clause-empty : goal.returns-clause-empty
returns-clause-empty c = λ n e. true≢false (sym (c.requires.live.some n c.in_ok-b.b e) ∙ ap is_some c.in_ok-b.ensures.least.free)

pub returns-clause-label : goal.returns-clause-label
returns-clause-label c = λ x.
    ap (λ (ls : List (Option ℕ)). at ls x) c.in_ok-b.ensures.labels ∙ at_put (shown_labels c.args.base.now c.args.draft.now) c.in_ok-b.b c.args.label x
