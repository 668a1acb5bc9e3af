-- A node that is in its block already.
use Rattle.std.proofs.Common.{◌≡◌, ℕ, List, Some, refl, sym, ◌∙◌, ap, inl, inr, cond}
use Rattle.std.proofs.lemmas.Bool.Decides.{eqb_tells}
use Rattle.graph_spec.specs.Graphs.{Graph}
use Rattle.graph_spec.specs.Members.{at}
use Rattle.one_spec.specs.EdgeCounts.{AreEdgeCounts}
use Rattle.keyed_quotient.specs.KeyedQuotients.{KeyedQuotient}
use Rattle.keyed_quotient.specs.Changes.{KeyedChanges}
use Rattle.ak_family.specs.LevelDrafts.{blocks_shown, support_shown, AreOver}
use Rattle.level_update.specs.Placed.{HasMoved}

pub moved_not : (g : Graph) (f : List KeyedQuotient) (d : List KeyedChanges) (i n b : ℕ) → AreOver f d → AreEdgeCounts g (blocks_shown f d i) (support_shown f d i)
    → at (blocks_shown f d i) n ≡ Some b → HasMoved g f d d i n b
moved_not g f d i n b over supports is = record {
  over = over;
  others = λ j ne. refl;
  blocks = λ m. elim (eqb_tells m n) [
    | inl s ↦ ap (at (blocks_shown f d i)) s.1 ∙ is ∙ sym (ap (λ t. cond t (Some b) (at (blocks_shown f d i) m)) s.0)
    | inr t ↦ sym (ap (λ x. cond x (Some b) (at (blocks_shown f d i) m)) t.0)
  ];
  labels = refl;
  keys = λ c. refl;
  supports = supports;
}
