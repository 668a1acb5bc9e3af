use Rattle.std.proofs.Common.{arith, inl, inr}
use Rattle.std.proofs.lemmas.Bool.{cases_lt}
use Rattle.quotient_draft.specs.Scans.{from_after}
use Rattle.quotient_draft.proofs.Spans.{from_small, below_both}
use Rattle.quotient_draft.proofs.added.Added.past.Goals as goal

pub from-requires : goal.from-requires
from-requires c = from_small c.args.base.now.blocks.labels c.args.self.now c.requires.least c.requires.few

pub returns : goal.returns
returns c = λ b h.
    let most = c.max.ensures in
    let from = c.from.ensures in
    let size = c.size.ensures in
    elim (cases_lt b (from_after 0 c.args.self.now)) [
      | inl less ↦ omega (arith, less, most, from)
      | inr past ↦ (let below = below_both c.args.base.now.blocks.labels c.args.self.now b c.requires.least h past in omega (arith, below, most, size))
    ]
