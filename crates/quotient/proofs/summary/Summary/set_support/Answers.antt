use Rattle.std.proofs.Common.{sym, subst}
use Rattle.std.specs.Prelude.{IsSome}
use Rattle.graph_spec.specs.Members.{at}
use Rattle.quotient.specs.Quotients.{Quotient}
use Rattle.quotient.proofs.Edited.{sound_written}
use Rattle.quotient.proofs.summary.Summary.set_support.Goals as goal

pub invariant_of-self : goal.invariant_of-self
invariant_of-self c =
    let j = c.self.inside.block_edges in
    sound_written c.self.inside.blocks c.args.a c.args.b c.args.n j.supports c.set.new.self.supports j.children c.set.new.self.children j.parents c.set.new.self.parents c.self.invariant
    (subst (λ (q : Quotient). IsSome (at q.blocks.labels c.args.a)) (sym c.self.view_is) c.requires.from)
    (subst (λ (q : Quotient). IsSome (at q.blocks.labels c.args.b)) (sym c.self.view_is) c.requires.onto) c.set.ensures
