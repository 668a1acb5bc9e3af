-- A block of a level that has a key, found or made with it.
use Rattle.std.proofs.Common.{◌≡◌, ◌≢◌, ℕ, List, Option, Some, None, IsSome, false, refl, sym, ◌∙◌, ap, is_some, inl, inr, true≢false, cond}
use Rattle.std.specs.Prelude.{nat_eq}
use Rattle.std.proofs.lemmas.Bool.Decides.{eqb_tells}
use Rattle.graph_spec.specs.Members.{at}
use Rattle.block_partition.specs.LabelledPartitions.{put}
use Rattle.block_partition.proofs.PutNumbers.{at_put, same_number}
use Rattle.keyed_quotient.specs.KeyedQuotients.{AreKeyed}
use Rattle.ak_family.specs.LevelDrafts.{HasBlock}

-- a block that has the key
pub found_block : (label b : ℕ) (key : List ℕ) (labels : List (Option ℕ)) (keys : ℕ → Option (List ℕ)) → IsSome (at labels b) → keys b ≡ Some key
    → HasBlock label key b labels labels keys keys
found_block label b key labels keys live is = record {
  live = live;
  key_is = is;
  found = inl is;
  other_labels = λ c o. refl;
  other_keys = λ c o. refl;
  labels_stay = λ c l e. e;
  keys_stay = record { kept = λ c xs e. e };
}

apart_test : (c b : ℕ) → c ≢ b → nat_eq c b ≡ false
apart_test c b o = elim (eqb_tells c b) [ inl s ↦ absurd (o s.1) | inr k ↦ k.0 ]

no_some : (o : Option ℕ) (l : ℕ) → o ≡ None → o ≡ Some l → ⊥
no_some o l e f = (let both : None ≡ Some l = sym e ∙ f in cc)

-- a block that is no block yet, with a key that no block has
pub made_block : (label b : ℕ) (key : List ℕ) (labels labels2 : List (Option ℕ)) (keys keys2 : ℕ → Option (List ℕ)) → AreKeyed labels keys → at labels b ≡ None
    → labels2 ≡ put labels b label → ((c : ℕ) → keys2 c ≡ cond (nat_eq c b) (Some key) (keys c)) → HasBlock label key b labels labels2 keys keys2
made_block label b key labels labels2 keys keys2 keyed free made allocated = record {
  live = ap is_some here;
  key_is = allocated b ∙ ap (λ t. cond t (Some key) (keys b)) (same_number b);
  found = inr here;
  other_labels = label_at;
  other_keys = key_other;
  labels_stay = λ c l e. label_at c (λ s. no_some (at labels b) l free (ap (at labels) (sym s) ∙ e)) ∙ e;
  keys_stay = record { kept = λ c xs e. key_other c (λ s. true≢false (sym (ap is_some (ap keys (sym s) ∙ e)) ∙ keyed.exactly b ∙ ap is_some free)) ∙ e };
}
  where
    here : at labels2 b ≡ Some label
    here = ap (λ (ls : List (Option ℕ)). at ls b) made ∙ at_put labels b label b ∙ ap (λ t. cond t (Some label) (at labels b)) (same_number b)

    label_at : (c : ℕ) → c ≢ b → at labels2 c ≡ at labels c
    label_at c o = ap (λ (ls : List (Option ℕ)). at ls c) made ∙ at_put labels b label c ∙ ap (λ t. cond t (Some label) (at labels c)) (apart_test c b o)

    key_other : (c : ℕ) → c ≢ b → keys2 c ≡ keys c
    key_other c o = allocated c ∙ ap (λ t. cond t (Some key) (keys c)) (apart_test c b o)
