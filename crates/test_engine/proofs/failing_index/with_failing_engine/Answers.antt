use Rattle.std.proofs.Common.{◌≡◌, refl, sym, subst}
use Rattle.bisim_spec.specs.declared.kind.Kind.TheVariants.{A, One, Fb}
use Rattle.test_engine.proofs.failing_index.with_failing_engine.OwnLists.{own-1}
use Rattle.any_index.proofs.FourBoxes.{kept_is_one}
use Rattle.test_engine.proofs.ThreeBoxes.{three_apart}
use Rattle.test_engine.proofs.failing_index.with_failing_engine.Goals as goal

pub new-engine-requires : goal.new-engine-requires
new-engine-requires g c = record {
  apart = three_apart _ _ _ _ _ c.into_dyn_box.result c.into_dyn_box-in_ok-new-4.result c.into_dyn_box-in_ok-new-5.result c.new-boxes.ensures.items c.in_ok-push.ensures.items c.in_ok-push-2.ensures.items c.in_ok-push-3.ensures.items
      (subst (λ v. (w : _) → ((own-1.entry v).1.meaning w).kind ≡ A) (sym c.into_dyn_box.ensures.0) (λ w. refl) c.into_dyn_box.result.value)
      (subst (λ v. (w : _) → ((own-1.entry v).1.meaning w).kind ≡ One) (sym c.into_dyn_box-in_ok-new-4.ensures.0) (λ w. kept_is_one _) c.into_dyn_box-in_ok-new-4.result.value)
      (subst (λ v. (w : _) → ((own-1.entry v).1.meaning w).kind ≡ Fb) (sym c.into_dyn_box-in_ok-new-5.ensures.0) (λ w. refl) c.into_dyn_box-in_ok-new-5.result.value);
}
