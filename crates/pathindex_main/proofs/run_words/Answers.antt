use Rattle.std.proofs.Common.{◌≡◌, refl, sym, subst, ap, ◌∙◌}
use Rattle.bisim_spec.specs.declared.kind.Kind.TheVariants.{A, One, Fb, B}
use Rattle.index_api.specs.IndexKinds.{kinds_of}
use Rattle.any_index.proofs.FourBoxes.{four_apart, four_kinds, kept_is_one}
use Rattle.pathindex_main.proofs.run_words.OwnLists.{own-1}
use Rattle.pathindex_main.proofs.run_words.Goals as goal

pub new-engine-requires : goal.new-engine-requires
new-engine-requires g c = record {
  apart = four_apart _ _ _ _ _ _ c.into_dyn_box.result c.into_dyn_box-in_ok-new-4.result c.into_dyn_box-in_ok-new-6.result c.into_dyn_box-in_ok-new-8.result c.new-boxes.ensures.items c.in_ok-push.ensures.items c.in_ok-push-2.ensures.items c.in_ok-push-3.ensures.items c.in_ok-push-4.ensures.items
      (subst (λ v. (w : _) → ((own-1.entry v).1.meaning w).kind ≡ A) (sym c.into_dyn_box.ensures.0) (λ w. refl) c.into_dyn_box.result.value)
      (subst (λ v. (w : _) → ((own-1.entry v).1.meaning w).kind ≡ One) (sym c.into_dyn_box-in_ok-new-4.ensures.0) (λ w. kept_is_one _) c.into_dyn_box-in_ok-new-4.result.value)
      (subst (λ v. (w : _) → ((own-1.entry v).1.meaning w).kind ≡ Fb) (sym c.into_dyn_box-in_ok-new-6.ensures.0) (λ w. refl) c.into_dyn_box-in_ok-new-6.result.value)
      (subst (λ v. (w : _) → ((own-1.entry v).1.meaning w).kind ≡ B) (sym c.into_dyn_box-in_ok-new-8.ensures.0) (λ w. refl) c.into_dyn_box-in_ok-new-8.result.value);
}

pub run_over-status-requires-clause-kinds : goal.run_over-status-requires-clause-kinds
run_over-status-requires-clause-kinds g c =
    ap (λ e. kinds_of e.boxes) c.new-engine.ensures.seen ∙ four_kinds _ _ _ _ _ _ c.into_dyn_box.result c.into_dyn_box-in_ok-new-4.result c.into_dyn_box-in_ok-new-6.result c.into_dyn_box-in_ok-new-8.result c.new-boxes.ensures.items c.in_ok-push.ensures.items c.in_ok-push-2.ensures.items c.in_ok-push-3.ensures.items c.in_ok-push-4.ensures.items
    (subst (λ v. (w : _) → ((own-1.entry v).1.meaning w).kind ≡ A) (sym c.into_dyn_box.ensures.0) (λ w. refl) c.into_dyn_box.result.value)
    (subst (λ v. (w : _) → ((own-1.entry v).1.meaning w).kind ≡ One) (sym c.into_dyn_box-in_ok-new-4.ensures.0) (λ w. kept_is_one _) c.into_dyn_box-in_ok-new-4.result.value)
    (subst (λ v. (w : _) → ((own-1.entry v).1.meaning w).kind ≡ Fb) (sym c.into_dyn_box-in_ok-new-6.ensures.0) (λ w. refl) c.into_dyn_box-in_ok-new-6.result.value)
    (subst (λ v. (w : _) → ((own-1.entry v).1.meaning w).kind ≡ B) (sym c.into_dyn_box-in_ok-new-8.ensures.0) (λ w. refl) c.into_dyn_box-in_ok-new-8.result.value)
