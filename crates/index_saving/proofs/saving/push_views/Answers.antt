use Rattle.std.proofs.Common.{arith, sym, ◌∙◌, ap, refl, ◌++◌, string_bytes}
use Rattle.index_api.specs.IndexOrder.{all_indexes}
use Rattle.pathindex_core.specs.Engines.{by_meaning, graph_in, kept_in}
use Rattle.pathindex_core.proofs.ShownViews.{index_bound}
use Rattle.index_saving.proofs.SavedFileLaws.{asked_nothing, asked_twice, still_open, no_data, saves_same, no_views, more_views, all_views}
use Rattle.index_saving.proofs.saving.push_views.Goals as goal

pub loop-via-init : goal.loop-via-init
loop-via-init g c = record { is_open = c.requires.open; sound = c.requires.sound; asked = asked_nothing _; views = no_views (graph_in c.args.engine.now.opened) (kept_in (by_meaning g.B.PathIndex.meaning c.args.engine.now)) (all_indexes c.args.k) _ _ refl }

pub view_lines-requires-clause-index : goal.view_lines-requires-clause-index
view_lines-requires-clause-index g c = no_data c.args.k c.loop-via.n c.in-Some.via (sym c.in-Some.ensures)

pub overflow_add-n : goal.overflow_add-n
overflow_add-n g c = let bound = index_bound c.args.k c.loop-via.n c.in-Some.via (sym c.in-Some.ensures) in omega (arith, bound, c.requires.level)

pub loop-via-smaller : goal.loop-via-smaller
loop-via-smaller g c = let bound = index_bound c.args.k c.loop-via.n c.in-Some.via (sym c.in-Some.ensures) in omega (arith, bound)

pub loop-via-preserved : goal.loop-via-preserved
loop-via-preserved g c = record {
  is_open = still_open (by_meaning g.B.PathIndex.meaning c.loop-via.engine) (by_meaning g.B.PathIndex.meaning c.view_lines.new.engine) c.loop-via.invariant.is_open c.in_ok-lines.ensures.asked;
  sound = c.in_ok-lines.ensures.sound;
  asked = asked_twice _ _ _ c.loop-via.invariant.asked c.in_ok-lines.ensures.asked;
  views = more_views (graph_in c.args.engine.now.opened) (kept_in (by_meaning g.B.PathIndex.meaning c.args.engine.now)) (all_indexes c.args.k) c.loop-via.n c.in-Some.via _ _ _ _ (sym c.in-Some.ensures) c.loop-via.invariant.views (saves_same (by_meaning g.B.PathIndex.meaning c.args.engine.now) (by_meaning g.B.PathIndex.meaning c.loop-via.engine) c.in-Some.via _ c.loop-via.invariant.asked c.in_ok-lines.ensures.text)
      (c.in_ok-push_str.ensures.bytes ∙ ap (λ t. string_bytes c.loop-via.out ++ t) c.as_str.ensures);
}

pub returns-clause-text : goal.returns-clause-text
returns-clause-text g c = all_views (graph_in c.args.engine.now.opened) (kept_in (by_meaning g.B.PathIndex.meaning c.args.engine.now)) (all_indexes c.args.k) c.loop-via.n _ _ (sym c.nth.ensures ∙ c.in_default.is) c.loop-via.invariant.views
