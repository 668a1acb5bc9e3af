use Rattle.std.proofs.Common.{subst, sym, ap, ◌≤◌, ◌^◌, ◌∙◌, length}
use Rattle.graph_spec.specs.Graphs.{Graph, IsGraph}
use Rattle.index_file.specs.WrittenFiles.{head_text}
use Rattle.pathindex_core.specs.Engines.{by_meaning}
use Rattle.index_saving.proofs.SavedFileLaws.{still_open, level_few, asked_twice, is_file, whole_file}
use Rattle.index_saving.proofs.saving.file_text.Goals as goal

pub count_kept-requires-clause-level : goal.count_kept-requires-clause-level
count_kept-requires-clause-level g c = subst (λ k. k ≤ 8) (sym c.level-k.ensures) (level_few (by_meaning g.B.PathIndex.meaning c.args.engine.now) c.requires.sound)

pub graph-requires-2 : goal.graph-requires-2
graph-requires-2 g c = record { «open» = still_open (by_meaning g.B.PathIndex.meaning c.args.engine.now) (by_meaning g.B.PathIndex.meaning c.count_kept.new.engine) c.requires.open c.count_kept.ensures.asked }

pub push_views-requires-clause-open : goal.push_views-requires-clause-open
push_views-requires-clause-open g c = still_open (by_meaning g.B.PathIndex.meaning c.args.engine.now) (by_meaning g.B.PathIndex.meaning c.count_kept.new.engine) c.requires.open c.count_kept.ensures.asked

pub push_views-requires-clause-level : goal.push_views-requires-clause-level
push_views-requires-clause-level g c = subst (λ k. k ≤ 8) (sym c.level-k.ensures) (level_few (by_meaning g.B.PathIndex.meaning c.args.engine.now) c.requires.sound)

pub returns-in_err-push_views-clause-asked : goal.returns-in_err-push_views-clause-asked
returns-in_err-push_views-clause-asked g c = asked_twice _ _ _ c.count_kept.ensures.asked c.push_views.ensures.asked

pub returns-clause-asked : goal.returns-clause-asked
returns-clause-asked g c = asked_twice _ _ _ c.count_kept.ensures.asked c.push_views.ensures.asked

pub returns-clause-text : goal.returns-clause-text
returns-clause-text g c =
    is_file (by_meaning g.B.PathIndex.meaning c.args.engine.now) (by_meaning g.B.PathIndex.meaning c.count_kept.new.engine) _ _ _ _ _ c.count_kept.ensures.asked c.level-k.ensures c.in_ok-count.ensures.count
    (c.into_string-out.ensures ∙ c.in_ok-text.ensures ∙ ap (λ h. head_text h c.level-k.result c.in_ok-count.count) c.graph-2.ensures) c.in_ok-push_views.ensures.text c.from_string.ensures

pub returns-clause-file : goal.returns-clause-file
returns-clause-file g c labels =
    let saves =
    is_file (by_meaning g.B.PathIndex.meaning c.args.engine.now) (by_meaning g.B.PathIndex.meaning c.count_kept.new.engine) _ _ _ _ _ c.count_kept.ensures.asked c.level-k.ensures c.in_ok-count.ensures.count
    (c.into_string-out.ensures ∙ c.in_ok-text.ensures ∙ ap (λ h. head_text h c.level-k.result c.in_ok-count.count) c.graph-2.ensures) c.in_ok-push_views.ensures.text c.from_string.ensures in
    whole_file (by_meaning g.B.PathIndex.meaning c.args.engine.now) _ c.requires.open c.requires.sound (subst IsGraph c.graph.ensures c.created-known.ensures.graph)
    (subst (λ (h : Graph). length h.allocated ≤ 2 ^ 30) c.graph.ensures (rw c.created-known.ensures.count at c.created-known.ensures.few)) labels saves
