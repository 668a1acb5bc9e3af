-- A node that comes into a block which was found or made for it.
use Rattle.std.proofs.Common.{◌≡◌, ℕ, List, [], ◌∷◌, Option, Some, is_some, inl, inr, ap, ◌∙◌, subst}
use Rattle.graph_spec.specs.Members.{at}
use Rattle.quotient_draft.specs.Drafts.{PutsNode}
use Rattle.keyed_quotient.specs.KeyedQuotients.{KeyedQuotient}
use Rattle.keyed_quotient.specs.Changes.{KeyedChanges}
use Rattle.ak_family.specs.LevelDrafts.{blocks_shown, labels_shown, key_shown, AreOver, ShowsBlock}
use Rattle.level_update.specs.LevelEffects.{IsNodeAdded}

pub joined_node : (f : List KeyedQuotient) (i n label number b : ℕ) (d d1 d2 : List KeyedChanges) → ShowsBlock f i d d1 label (number ∷ []) b
    → at (labels_shown f d1 i) b ≡ Some label → blocks_shown f d1 i ≡ blocks_shown f d i → PutsNode n (Some b) (blocks_shown f d1 i) (blocks_shown f d2 i)
    → labels_shown f d2 i ≡ labels_shown f d1 i → ((x : ℕ) → key_shown f d2 i x ≡ key_shown f d1 i x) → AreOver f d2 → IsNodeAdded f i n label number d d2
joined_node f i n label number b d d1 d2 made named same put labels keys over = record {
  block = b;
  blocks = subst (λ (p : List (Option ℕ)). PutsNode n (Some b) p (blocks_shown f d2 i)) same put;
  has_block = record {
    live = ap (λ (ls : List (Option ℕ)). is_some (at ls b)) labels ∙ made.live;
    key_is = keys b ∙ made.key_is;
    found = elim made.found [ inl k ↦ inl k | inr l ↦ inr (ap (λ (ls : List (Option ℕ)). at ls b) labels ∙ l) ];
    other_labels = λ c apart. ap (λ (ls : List (Option ℕ)). at ls c) labels ∙ made.other_labels c apart;
    other_keys = λ c apart. keys c ∙ made.other_keys c apart;
    labels_stay = λ c l h. ap (λ (ls : List (Option ℕ)). at ls c) labels ∙ made.labels_stay c l h;
    keys_stay = record { kept = λ x numbers h. keys x ∙ made.keys_stay.kept x numbers h };
  };
  label_is = ap (λ (ls : List (Option ℕ)). at ls b) labels ∙ named;
  over = over;
}
