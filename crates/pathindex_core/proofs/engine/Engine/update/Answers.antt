use Rattle.std.proofs.Common.{map, sym, subst}
use Rattle.pathindex_core.specs.Engines.{Opened, IsSound, engine_seen, by_meaning}
use Rattle.pathindex_core.proofs.Sound.{sound_updated, kinds_updated, made}
use Rattle.pathindex_core.proofs.engine.Engine.update.Goals as goal

pub returns-clause-sound : goal.returns-clause-sound
returns-clause-sound g c =
    let o = c.in-Some.open in
    sound_updated c.update.result (record { graph = o.graph.graph; limits = o.limits; k = o.k }) _ _ _ c.update.ensures.ready c.update.ensures.err_graph c.update.ensures.err_boxes
    (subst (λ st. IsSound (engine_seen (map g.B.PathIndex.meaning c.self.inside.boxes.items) st)) c.in-Some.is (subst (λ v. IsSound (by_meaning g.B.PathIndex.meaning v)) (sym c.self.view_is) c.requires.sound))

pub returns-clause-refused : goal.returns-clause-refused
returns-clause-refused g c = rw (← c.self.view_is, c.in-Some.is) c.update.ensures.refused

pub returns-clause-made : goal.returns-clause-made
returns-clause-made g c =
    let o : Opened = record { graph = c.in-Some.open.graph.graph; limits = c.in-Some.open.limits; k = c.in-Some.open.k } in
    rw (← c.self.view_is, c.in-Some.is)
    (made c.update.result c.args.change o _ _ _ c.update.ensures.graph c.update.ensures.updated (kinds_updated c.update.result _ _ _ c.update.ensures.ready c.update.ensures.err_boxes) c.update.ensures.still_graph c.update.ensures.still_boxes c.update.ensures.applied)
