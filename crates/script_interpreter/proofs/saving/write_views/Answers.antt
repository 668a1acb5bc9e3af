use Rattle.std.proofs.Common.{arith, sym, ◌∙◌, refl, subst, rules}
use Rattle.graph_spec.specs.Graphs.{IsGraph}
use Rattle.graph_spec.proofs.GraphLaws.{is_shape}
use Rattle.index_api.specs.IndexOrder.{all_indexes}
use Rattle.pathindex_core.specs.Engines.{by_meaning, graph_in, kept_in}
use Rattle.pathindex_core.proofs.ShownViews.{index_bound}
use Rattle.index_saving.proofs.SavedFileLaws.{asked_nothing, asked_twice, no_data}
use Rattle.script_interpreter.proofs.PieceLaws.{no_indexes_yet, one_more, one_part, all_wrote, wrote_same, part_same}
use Rattle.script_interpreter.proofs.saving.write_views.Goals as goal

pub loop-via-init : goal.loop-via-init
loop-via-init g c = record { ready = c.requires.ready; asked = asked_nothing _; views = no_indexes_yet (graph_in c.args.engine.now.opened) (kept_in (by_meaning g.B.PathIndex.meaning c.args.engine.now)) (all_indexes c.args.k) _; faults = refl }

pub write_view-requires-clause-index : goal.write_view-requires-clause-index
write_view-requires-clause-index g c = no_data c.args.k c.loop-via.n c.in-Some.via (sym c.in-Some.ensures)

pub overflow_add-n : goal.overflow_add-n
overflow_add-n g c = let bound = index_bound c.args.k c.loop-via.n c.in-Some.via (sym c.in-Some.ensures) in omega (arith, bound, c.requires.level)

pub loop-via-smaller : goal.loop-via-smaller
loop-via-smaller g c = let bound = index_bound c.args.k c.loop-via.n c.in-Some.via (sym c.in-Some.ensures) in omega (arith, bound)

pub loop-via-preserved : goal.loop-via-preserved
loop-via-preserved g c = record {
  ready = c.write_view.ensures.ready;
  asked = asked_twice _ _ _ c.loop-via.invariant.asked c.write_view.ensures.asked;
  views = one_more (graph_in c.args.engine.now.opened) (kept_in (by_meaning g.B.PathIndex.meaning c.args.engine.now)) (all_indexes c.args.k) c.loop-via.n c.in-Some.via _ _ _ (sym c.in-Some.ensures) c.loop-via.invariant.views (wrote_same (by_meaning g.B.PathIndex.meaning c.args.engine.now) (by_meaning g.B.PathIndex.meaning c.loop-via.engine) c.in-Some.via _ _ c.loop-via.invariant.asked c.in-Ok.ensures.all);
  faults = search rules;
}

pub returns-clause-all : goal.returns-clause-all
returns-clause-all g c = all_wrote (graph_in c.args.engine.now.opened) (kept_in (by_meaning g.B.PathIndex.meaning c.args.engine.now)) (all_indexes c.args.k) c.loop-via.n _ _ (sym c.nth.ensures ∙ c.in_default.is) c.loop-via.invariant.views

pub returns-in-Err-clause-asked : goal.returns-in-Err-clause-asked
returns-in-Err-clause-asked g c = asked_twice _ _ _ c.loop-via.invariant.asked c.write_view.ensures.asked

pub returns-in-Err-clause-part : goal.returns-in-Err-clause-part
returns-in-Err-clause-part g c =
    one_part (graph_in c.args.engine.now.opened) (kept_in (by_meaning g.B.PathIndex.meaning c.args.engine.now)) (all_indexes c.args.k) c.loop-via.n c.in-Some.via _ _ _ (is_shape _ (subst IsGraph c.graph.ensures c.created-known.ensures.graph)) (sym c.in-Some.ensures) c.loop-via.invariant.views
    (part_same (by_meaning g.B.PathIndex.meaning c.args.engine.now) (by_meaning g.B.PathIndex.meaning c.loop-via.engine) c.in-Some.via _ _ c.loop-via.invariant.asked c.in-Err.ensures.part)
