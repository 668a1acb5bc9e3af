use Rattle.std.proofs.Common.{sym, subst}
use Rattle.pathindex_core.specs.Engines.{IsSound, by_meaning}
use Rattle.pathindex_core.proofs.Asked.{sound_asked, asked}
use Rattle.pathindex_core.proofs.engine.Engine.ready.Goals as goal

pub returns-clause-sound : goal.returns-clause-sound
returns-clause-sound g c =
    let sound = subst (λ v. IsSound (by_meaning g.B.PathIndex.meaning v)) (sym c.self.view_is) c.requires.sound in
    sound_asked c.self.inside.state c.in-Some.open _ _ c.in-Some.is sound c.ready.ensures.keeps c.ready.ensures.kept

pub returns-clause-asked : goal.returns-clause-asked
returns-clause-asked g c =
    let sound = subst (λ v. IsSound (by_meaning g.B.PathIndex.meaning v)) (sym c.self.view_is) c.requires.sound in
    rw (← c.self.view_is) (asked c.self.inside.state c.in-Some.open _ _ c.in-Some.is sound c.ready.ensures.keeps)
