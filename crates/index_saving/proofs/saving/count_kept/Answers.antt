use Rattle.std.proofs.Common.{arith, sym, ◌∙◌, ap, refl}
use Rattle.std.specs.Prelude.{if◌then◌else◌}
use Rattle.index_api.specs.IndexKinds.{is_kept}
use Rattle.index_api.specs.IndexOrder.{all_indexes}
use Rattle.pathindex_core.specs.Engines.{by_meaning, kept_in}
use Rattle.pathindex_core.proofs.ShownViews.{index_bound}
use Rattle.index_saving.proofs.SavedFileLaws.{asked_nothing, asked_twice, still_open, no_data, few_one, count_more, count_all}
use Rattle.index_saving.proofs.saving.count_kept.Goals as goal

pub loop-via-init : goal.loop-via-init
loop-via-init g c = record { is_open = c.requires.open; sound = c.requires.sound; asked = asked_nothing _; count = refl; few = omega arith }

pub count_one-requires-clause-index : goal.count_one-requires-clause-index
count_one-requires-clause-index g c = no_data c.args.k c.loop-via.n c.in-Some.via (sym c.in-Some.ensures)

pub overflow_add-count : goal.overflow_add-count
overflow_add-count g c =
    let bound = index_bound c.args.k c.loop-via.n c.in-Some.via (sym c.in-Some.ensures) in
    let one = c.in_ok-count.ensures.count ∙ ap (λ kept. if is_kept kept c.in-Some.via then 1 else 0) c.loop-via.invariant.asked.kept in
    let least = few_one (is_kept (kept_in (by_meaning g.B.PathIndex.meaning c.args.engine.now)) c.in-Some.via) in
    let few = c.loop-via.invariant.few in
    omega (arith, bound, c.requires.level, few, one, least)

pub overflow_add-n : goal.overflow_add-n
overflow_add-n g c = let bound = index_bound c.args.k c.loop-via.n c.in-Some.via (sym c.in-Some.ensures) in omega (arith, bound, c.requires.level)

pub loop-via-smaller : goal.loop-via-smaller
loop-via-smaller g c = let bound = index_bound c.args.k c.loop-via.n c.in-Some.via (sym c.in-Some.ensures) in omega (arith, bound)

pub loop-via-preserved : goal.loop-via-preserved
loop-via-preserved g c =
    let one = c.in_ok-count.ensures.count ∙ ap (λ kept. if is_kept kept c.in-Some.via then 1 else 0) c.loop-via.invariant.asked.kept in
    let least = few_one (is_kept (kept_in (by_meaning g.B.PathIndex.meaning c.args.engine.now)) c.in-Some.via) in
    record {
      is_open = still_open (by_meaning g.B.PathIndex.meaning c.loop-via.engine) (by_meaning g.B.PathIndex.meaning c.count_one.new.engine) c.loop-via.invariant.is_open c.in_ok-count.ensures.asked;
      sound = c.in_ok-count.ensures.sound;
      asked = asked_twice _ _ _ c.loop-via.invariant.asked c.in_ok-count.ensures.asked;
      count = count_more (kept_in (by_meaning g.B.PathIndex.meaning c.args.engine.now)) (all_indexes c.args.k) c.loop-via.n c.in-Some.via _ _ (sym c.in-Some.ensures) c.loop-via.invariant.count one;
      few = (let few = c.loop-via.invariant.few in omega (arith, few, one, least));
    }

pub returns-clause-count : goal.returns-clause-count
returns-clause-count g c = count_all (kept_in (by_meaning g.B.PathIndex.meaning c.args.engine.now)) (all_indexes c.args.k) c.loop-via.n _ (sym c.nth.ensures ∙ c.in_default.is) c.loop-via.invariant.count
