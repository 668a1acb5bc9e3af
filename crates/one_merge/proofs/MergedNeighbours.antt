-- Which blocks may be merged once two are: the merged one, and the children that one of the two had.
use Rattle.std.proofs.Common.{◌≡◌, ◌≢◌, ℕ, ◌⊎◌, List, Option, Some, None, IsTrue, refl, sym, ◌∙◌, ap, subst, inl, inr, Bool, cond}
use Rattle.std.specs.Prelude.{nat_eq}
use Rattle.std.proofs.lemmas.Bool.{cases_Bool, both_ways}
use Rattle.std.proofs.lemmas.Bool.Decides.{eqb_tells}
use Rattle.graph_spec.specs.Members.{at}
use Rattle.graph_spec.specs.Shapes.{Shape}
use Rattle.bisim_spec.specs.Partitions.{Together}
use Rattle.bisim_spec.specs.Stability.{Stable, merged, merged_at}
use Rattle.bisim_spec.proofs.Together.{merged_keeps, merged_a, merged_b, merged_cases}
use Rattle.bisim_spec.proofs.MergeableBlocks.{mergeable_from, merges_from}
use Rattle.one_spec.specs.Merges.{IsMergeablePair, IsMerged, AreMergeCandidates, IsChildBlock}
use Rattle.one_spec.specs.Viewed.{IsViewed}
use Rattle.one_spec.proofs.MergedPairs.{unmerged, merged_gone}

-- a member of the merged block was one of either
was_either : (a b : ℕ) (p p2 : List (Option ℕ)) (n : ℕ) → IsMerged a b p p2 → at p2 n ≡ Some a → (at p n ≡ Some a) ⊎ (at p n ≡ Some b)
was_either a b p p2 n m h = by (at p n) refl
  where
    by : (o : Option ℕ) → at p n ≡ o → (at p n ≡ Some a) ⊎ (at p n ≡ Some b)
    by None e = absurd (let f : None ≡ Some a = sym (m.blocks n ∙ ap (merged_at a b) e) ∙ h in cc)
    by (Some d) e =
        let f : Some (cond (nat_eq d b) a d) ≡ Some a = sym (m.blocks n ∙ ap (merged_at a b) e) ∙ h in
        elim (eqb_tells d b) [
          | inl t ↦ inr (e ∙ ap Some t.1)
          | inr k ↦ inl (let g : Some d ≡ Some a = rw k.0 at f in e ∙ g)
        ]

-- two blocks other than the merged one, neither of which was a child of b, could be merged before
could_before : (s : Shape) (p p2 : List (Option ℕ)) (a b c d : ℕ) → Stable s p → IsMerged a b p p2 → c ≢ a → d ≢ a
    → (IsChildBlock s p b c → ⊥) → (IsChildBlock s p b d → ⊥) → IsMergeablePair s p2 c d → IsMergeablePair s p c d
could_before s p p2 a b c d st m nc nd oc od can =
    let x = can.first in
    let y = can.second in
    let ms = merges_from s p2 c d x.0 y.0 can.can x.1 y.1 in
    let kx = unmerged a b p p2 c x.0 m nc x.1 in
    let ky = unmerged a b p p2 d y.0 m nd y.1 in
    record {
      apart = can.apart;
      first = (x.0, kx);
      second = (y.0, ky);
      can = mergeable_from s p c d x.0 y.0 st kx ky (record {
        label = ms.label;
        parents = record {
          there = λ q e.
              let r = ms.parents.there q e in
              (r.0, r.1, carried q r.0 (λ f. oc (record { from = q; onto = x.0; edge = e; from_at = f; onto_at = kx })) (λ f. od (record { from = r.0; onto = y.0; edge = r.1; from_at = f; onto_at = ky })) r.2);
          back = λ q e.
              let r = ms.parents.back q e in
              (r.0, r.1, carried q r.0 (λ f. od (record { from = q; onto = y.0; edge = e; from_at = f; onto_at = ky })) (λ f. oc (record { from = r.0; onto = x.0; edge = r.1; from_at = f; onto_at = kx })) r.2);
        };
      });
    }
  where
    was_first : (n : ℕ) → (at p n ≡ Some b → ⊥) → at p2 n ≡ Some a → at p n ≡ Some a
    was_first n off h = elim (was_either a b p p2 n m h) [ inl e ↦ e | inr e ↦ absurd (off e) ]

    same : (e q : ℕ) → (at p q ≡ Some b → ⊥) → at p2 q ≡ Some e → at p q ≡ Some e
    same e q off h = elim (eqb_tells e a) [
      | inl t ↦ was_first q off (h ∙ ap Some t.1) ∙ ap Some (sym t.1)
      | inr k ↦ unmerged a b p p2 e q m k.1 h
    ]

    carried : (q r : ℕ) → (at p q ≡ Some b → ⊥) → (at p r ≡ Some b → ⊥) → Together (merged c d p2) q r → Together (merged c d p) q r
    carried q r offq offr t = elim (merged_cases c d p2 q r t) [
      | inl (e, eq, er) ↦ merged_keeps c d p q r (e, same e q offq eq, same e r offr er)
      | inr (inl (eq, er)) ↦ (c, merged_a c d p q (unmerged a b p p2 c q m nc eq), merged_b c d p r (unmerged a b p p2 d r m nd er))
      | inr (inr (eq, er)) ↦ (c, merged_b c d p q (unmerged a b p p2 d q m nd eq), merged_a c d p r (unmerged a b p p2 c r m nc er))
    ]

-- After a merge the merged block is a merge candidate, and so are the children that the block had which is gone.
pub candidates_by_parent : (s : Shape) (p p2 : List (Option ℕ)) (labels : ℕ → Option ℕ) (adjacent : ℕ → ℕ → Bool) (a b : ℕ) (among after : ℕ → Type 0) → IsViewed s p labels adjacent
    → IsMerged a b p p2 → a ≢ b → AreMergeCandidates s p among → after a → ((c : ℕ) → IsTrue (adjacent b c) → after c) → ((c : ℕ) → c ≢ b → among c → after c) → AreMergeCandidates s p2 after
candidates_by_parent s p p2 labels adjacent a b among after v m apart h here children rest = record {
  one = λ c d can. elim (eqb_tells c a) [
    | inl e ↦ inl (subst after (sym e.1) here)
    | inr nc ↦ elim (eqb_tells d a) [
      | inl e ↦ inr (subst after (sym e.1) here)
      | inr nd ↦ elim (cases_Bool (adjacent b c)) [
        | inl k ↦ inl (children c k)
        | inr oc ↦ elim (cases_Bool (adjacent b d)) [
          | inl k ↦ inr (children d k)
          | inr od ↦ elim (h.one c d (could_before s p p2 a b c d v.stable m nc.1 nd.1 (λ k. both_ways (adjacent b c) oc (v.into b c k)) (λ k. both_ways (adjacent b d) od (v.into b d k)) can)) [
            | inl z ↦ inl (rest c (λ e. merged_gone a b p p2 can.first.0 m apart (can.first.1 ∙ ap Some e)) z)
            | inr z ↦ inr (rest d (λ e. merged_gone a b p p2 can.second.0 m apart (can.second.1 ∙ ap Some e)) z)
          ]
        ]
      ]
    ]
  ];
}
