use Rattle.std.proofs.Common.{subst, sym, ◌≤◌, ◌^◌, length}
use Rattle.std.proofs.lemmas.Result.{on_ok_weaker}
use Rattle.graph_spec.specs.Graphs.{Graph, IsGraph}
use Rattle.pathindex_core.specs.Engines.{by_meaning}
use Rattle.index_saving.proofs.SavedFileLaws.{level_few, asked_twice}
use Rattle.script_interpreter.proofs.EngineCalls.{open_asked}
use Rattle.script_interpreter.proofs.ReachedLemmas.{err_fact}
use Rattle.script_interpreter.proofs.PieceLaws.{file_wrote, file_part, no_file_yet}
use Rattle.script_interpreter.proofs.saving.save.Goals as goal

pub count_kept-requires-clause-level : goal.count_kept-requires-clause-level
count_kept-requires-clause-level g c = subst (λ k. k ≤ 8) (sym c.level-k.ensures) (level_few (by_meaning g.B.PathIndex.meaning c.args.engine.now) c.requires.ready.sound)

pub write_file-requires-clause-level : goal.write_file-requires-clause-level
write_file-requires-clause-level g c = subst (λ k. k ≤ 8) (sym c.level-k.ensures) (level_few (by_meaning g.B.PathIndex.meaning c.args.engine.now) c.requires.ready.sound)

pub write_file-requires-clause-ready : goal.write_file-requires-clause-ready
write_file-requires-clause-ready g c = open_asked _ _ c.requires.ready c.count_kept.ensures.sound c.count_kept.ensures.asked

pub returns-clause-ready : goal.returns-clause-ready
returns-clause-ready g c = open_asked _ _ c.requires.ready c.count_kept.ensures.sound c.count_kept.ensures.asked

pub returns-in-Ok-clause-asked : goal.returns-in-Ok-clause-asked
returns-in-Ok-clause-asked g c = asked_twice _ _ _ c.count_kept.ensures.asked c.write_file.ensures.asked

pub returns-in-Ok-clause-all : goal.returns-in-Ok-clause-all
returns-in-Ok-clause-all g c labels =
    let graph = subst IsGraph c.graph.ensures c.created-known.ensures.graph in
    let few = subst (λ (h : Graph). length h.allocated ≤ 2 ^ 30) c.graph.ensures (rw c.created-known.ensures.count at c.created-known.ensures.few) in
    on_ok_weaker c.write_file.result (λ w. file_wrote (by_meaning g.B.PathIndex.meaning c.args.engine.now) (by_meaning g.B.PathIndex.meaning c.count_kept.new.engine) _ _ _ _ c.requires.ready graph few labels c.count_kept.ensures.asked c.level-k.ensures c.in-Ok.ensures.count w)
    c.write_file.ensures.all

pub returns-in-Ok-clause-part : goal.returns-in-Ok-clause-part
returns-in-Ok-clause-part g c labels =
    let graph = subst IsGraph c.graph.ensures c.created-known.ensures.graph in
    let few = subst (λ (h : Graph). length h.allocated ≤ 2 ^ 30) c.graph.ensures (rw c.created-known.ensures.count at c.created-known.ensures.few) in
    err_fact c.write_file.result _ _ c.write_file.ensures.part
    (λ w. file_part (by_meaning g.B.PathIndex.meaning c.args.engine.now) (by_meaning g.B.PathIndex.meaning c.count_kept.new.engine) _ _ _ _ c.requires.ready graph few labels c.count_kept.ensures.asked c.level-k.ensures c.in-Ok.ensures.count w)

pub returns-clause-part : goal.returns-clause-part
returns-clause-part g c labels =
    no_file_yet (by_meaning g.B.PathIndex.meaning c.args.engine.now) _ c.requires.ready (subst IsGraph c.graph.ensures c.created-known.ensures.graph)
    (subst (λ (h : Graph). length h.allocated ≤ 2 ^ 30) c.graph.ensures (rw c.created-known.ensures.count at c.created-known.ensures.few)) labels
