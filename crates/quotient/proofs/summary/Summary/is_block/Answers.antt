use Rattle.std.proofs.Common.{◌∙◌, arith, ap}
use Rattle.graph_spec.specs.Members.{at}
use Rattle.quotient.specs.Quotients.{Quotient}
use Rattle.quotient.specs.DigraphLaws.{below_span}
use Rattle.quotient.proofs.summary.Summary.is_block.Goals as goal

pub returns-else-b-span-clause-live : goal.returns-else-b-span-clause-live
returns-else-b-span-clause-live c = λ n e.
    let past = c.if-b-span.false in
    let span = c.span.ensures.span in
    let q : Quotient = record { blocks = c.self.inside.blocks; supports = c.args.self.now.supports; reserved = c.args.self.now.reserved } in
    let below = below_span q c.args.b (c.span.ensures.live n c.args.b (ap (λ (p : Quotient). at p.blocks.block_of n) c.self.view_is ∙ e)) in
    absurd (omega (arith, past, span, below))
