use Rattle.std.proofs.Common.{ap, subst, arith, length}
use Rattle.std.proofs.lemmas.List.{length-take-le}
use Rattle.graph_steps.specs.NamedSteps.{IsNextNamed}
use Rattle.graph_steps.proofs.NamedParts.{next_prefix}
use Rattle.graph_steps.proofs.prefix.Prefix.next_naming.Goals as goal

pub next_naming-requires : goal.next_naming-requires
next_naming-requires c =
    let within = c.self.invariant in
    let len = length-take-le c.self.inside.past c.self.inside.change.now within in
    let same = ap length c.self.view_is in
    let from = c.requires in
    omega (arith, within, len, same, from)

pub returns : goal.returns
returns c =
    let within = c.self.invariant in
    let len = length-take-le c.self.inside.past c.self.inside.change.now within in
    let same = ap length c.self.view_is in
    let from = c.requires in
    subst (λ k. IsNextNamed c.args.n k c.args.from c.min.result) c.self.view_is
    (next_prefix c.self.inside.change.now c.args.n c.self.inside.past c.args.from c.next_naming.result c.min.result within (omega (arith, len, same, from)) c.min.ensures c.next_naming.ensures)
