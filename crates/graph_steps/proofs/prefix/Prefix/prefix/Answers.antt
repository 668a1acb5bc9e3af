use Rattle.std.proofs.Common.{◌∙◌, ap, sym, arith, length, take}
use Rattle.std.proofs.lemmas.List.{length-take-le}
use Rattle.graph_steps.proofs.NamedParts.{take_twice}
use Rattle.graph_steps.proofs.prefix.Prefix.prefix.Goals as goal

pub of-requires : goal.of-requires
of-requires c =
    let within = c.self.invariant in
    let len = length-take-le c.self.inside.past c.self.inside.change.now within in
    let same = ap length c.self.view_is in
    let below = c.requires in
    omega (arith, within, len, same, below)

pub returns : goal.returns
returns c =
    let within = c.self.invariant in
    let len = length-take-le c.self.inside.past c.self.inside.change.now within in
    let same = ap length c.self.view_is in
    let below = c.requires in
    c.of.ensures ∙ sym (take_twice c.args.past c.self.inside.past c.self.inside.change.now (omega (arith, len, same, below))) ∙ ap (take c.args.past) c.self.view_is
