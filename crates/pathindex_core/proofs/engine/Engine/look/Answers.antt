use Rattle.std.proofs.Common.{sym, subst, IsSome}
use Rattle.quotient.specs.Quotients.{view_of}
use Rattle.pathindex_core.specs.Engines.{IsSound, by_meaning}
use Rattle.pathindex_core.proofs.Looked.{looked, looked_none}
use Rattle.pathindex_core.proofs.engine.Engine.look.Goals as goal

pub returns-clause-shown : goal.returns-clause-shown
returns-clause-shown g c =
    let sound = subst (λ v. IsSound (by_meaning g.B.PathIndex.meaning v)) (sym c.self.view_is) c.requires.sound in
    let open_engine = subst (λ v. IsSome (by_meaning g.B.PathIndex.meaning v).opened) (sym c.self.view_is) c.requires.open in
    rw (← c.self.view_is) (looked (λ s. view_of s.now) c.summary_of.result _ _ c.args.via open_engine sound c.summary_of.ensures)

pub returns-clause-none : goal.returns-clause-none
returns-clause-none g c =
    let sound = subst (λ v. IsSound (by_meaning g.B.PathIndex.meaning v)) (sym c.self.view_is) c.requires.sound in
    let open_engine = subst (λ v. IsSome (by_meaning g.B.PathIndex.meaning v).opened) (sym c.self.view_is) c.requires.open in
    rw (← c.self.view_is) (looked_none (λ s. view_of s.now) c.summary_of.result _ _ c.args.via open_engine sound c.summary_of.ensures)
