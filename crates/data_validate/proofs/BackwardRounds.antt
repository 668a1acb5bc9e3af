-- How a round of the search backwards goes on.
use Rattle.std.proofs.Common.{◌≡◌, ℕ, zero, suc, ◌+◌, ◌≤◌, ◌<◌, ◌⊎◌, inl, inr, Bool, true, false, List, [], length, take, get_or, refl, sym, ap, ◌∙◌, subst, arith, Option, IsTrue, true≢false}
use Rattle.std.specs.Prelude.{◌&&◌, ◌||◌, not, nat_eq, is_some, IsSome}
use Rattle.std.proofs.lemmas.Bool.{or_cases, or_left, or_right}
use Rattle.std.proofs.Common.{eqb-true}
use Rattle.graph_spec.specs.Members.{has}
use Rattle.data_validate.specs.Ancestors.{HasWalk, IsFew, AreAncestors, IsNoted, IsSpread}
use Rattle.data_validate.proofs.NotedNodes.{has_more}

both : (a b : Bool) → (a && b) ≡ true → (a ≡ true) × (b ≡ true)
both true b h = (refl, h)
both false b h = absurd (true≢false (sym h))

-- what is met anew is found
fresh_of : (met passes found : Bool) → (met || passes) ≡ true → (met ≡ true) ⊎ ((found || (passes && not met)) ≡ true)
fresh_of true passes found h = inl refl
fresh_of false true true h = inr refl
fresh_of false true false h = inr refl
fresh_of false false found h = absurd (true≢false (sym h))

module _ (passes : ℕ → Bool) (met found met2 found2 : List ℕ) (n : IsNoted passes met found met2 found2) where
  pub noted_stays : (u : ℕ) → IsTrue (has met u) → IsTrue (has met2 u)
  noted_stays u h = n.meets u ∙ or_left (has met u) (passes u) h

  pub noted_meets : (u : ℕ) → IsTrue (passes u) → IsTrue (has met2 u)
  noted_meets u h = n.meets u ∙ or_right (has met u) (passes u) h

  pub noted_fresh : (u : ℕ) → IsTrue (has met2 u) → IsTrue (has met u) ⊎ IsTrue (has found2 u)
  noted_fresh u h = elim (fresh_of (has met u) (passes u) (has found u) (sym (n.meets u) ∙ h)) [ inl old ↦ inl old | inr new ↦ inr (n.finds u ∙ new) ]

  pub noted_kept : (u : ℕ) → IsTrue (has found u) → IsTrue (has found2 u)
  noted_kept u h = n.finds u ∙ or_left (has found u) (passes u && not (has met u)) h

  pub noted_source : (u : ℕ) → IsTrue (has found2 u) → IsTrue (has found u) ⊎ IsTrue (passes u)
  noted_source u h = elim (or_cases (has found u) (passes u && not (has met u)) (sym (n.finds u) ∙ h)) [
    | inl old ↦ inl old
    | inr new ↦ inr (both (passes u) (not (has met u)) new).0
  ]

-- the parents of one more node
pub spread_none : (edge : ℕ → ℕ → Bool) (met found : List ℕ) → IsSpread edge [] met found met found
spread_none edge met found = record {
  stays = λ u h. h;
  parents = λ u v h e. absurd (true≢false (sym h));
  fresh = λ u h. inl h;
  kept = λ u h. h;
  source = λ u h. inl h;
}

pub spread_more : (edge : ℕ → ℕ → Bool) (nodes : List ℕ) (i : ℕ) (ps met found met2 found2 met3 found3 : List ℕ) → i < length nodes
    → ((u : ℕ) → has ps u ≡ edge u (get_or nodes i 0)) → IsSpread edge (take i nodes) met found met2 found2
    → IsNoted (has ps) met2 found2 met3 found3 → IsSpread edge (take (i + 1) nodes) met found met3 found3
spread_more edge nodes i ps met found met2 found2 met3 found3 within lists a b =
    let x = get_or nodes i 0 in
    record {
      stays = λ u h. noted_stays (has ps) met2 found2 met3 found3 b u (a.stays u h);
      parents = λ u v h e. elim (or_cases (nat_eq v x) (has (take i nodes) v) (sym (has_more nodes i within v) ∙ h)) [
        | inl here ↦ noted_meets (has ps) met2 found2 met3 found3 b u (lists u ∙ subst (λ y. IsTrue (edge u y)) (eqb-true v x here) e)
        | inr old ↦ noted_stays (has ps) met2 found2 met3 found3 b u (a.parents u v old e)
      ];
      fresh = λ u h. elim (noted_fresh (has ps) met2 found2 met3 found3 b u h) [
        | inl mid ↦ elim (a.fresh u mid) [ inl old ↦ inl old | inr new ↦ inr (noted_kept (has ps) met2 found2 met3 found3 b u new) ]
        | inr new ↦ inr new
      ];
      kept = λ u h. noted_kept (has ps) met2 found2 met3 found3 b u (a.kept u h);
      source = λ u h. elim (noted_source (has ps) met2 found2 met3 found3 b u h) [
        | inl mid ↦ a.source u mid
        | inr p ↦ inr (x, sym (lists u) ∙ p)
      ];
    }

module _ (label_at : ℕ → Option ℕ) (edge : ℕ → ℕ → Bool) (set : List ℕ) where
  -- The nodes from which at most so many edges lead to the set are met, and the parents of each node that is met, but for those
  -- of the current ones.
  pub record IsMet (edges : ℕ) (current met : List ℕ) : Type 0 where
    pub nodes : (v : ℕ) → IsTrue (has current v) → IsSome (label_at v)
    pub done : (u v : ℕ) → IsTrue (edge u v) → IsTrue (has met v) → IsTrue (has current v) ⊎ IsTrue (has met u)
    pub far : (k u v : ℕ) → k ≤ edges → IsTrue (has set v) → IsSome (label_at v) → HasWalk edge k u v → IsTrue (has met u)

  pub met_begins : (met current : List ℕ) → IsNoted (λ c. has set c && is_some (label_at c)) [] [] met current → IsMet 0 current met
  met_begins met current n =
      let passes : ℕ → Bool = λ c. has set c && is_some (label_at c) in
      record {
        nodes = λ v h. elim (noted_source passes [] [] met current n v h) [ inl none ↦ absurd (true≢false (sym none)) | inr p ↦ (both (has set v) (is_some (label_at v)) p).1 ];
        done = λ u v e h. elim (noted_fresh passes [] [] met current n v h) [ inl none ↦ absurd (true≢false (sym none)) | inr new ↦ inl new ];
        far = λ k u v le s l h. at_once k u v le s l h;
      }
    where
      at_once : (k u v : ℕ) → k ≤ 0 → IsTrue (has set v) → IsSome (label_at v) → HasWalk edge k u v → IsTrue (has met u)
      at_once zero u v le s l h =
          let passes : ℕ → Bool = λ c. has set c && is_some (label_at c) in
          noted_meets passes [] [] met current n u (subst (λ x. IsTrue (passes x)) (sym h) (ap (λ b. b && is_some (label_at v)) s ∙ l))
      at_once (suc k) u v le s l h = absurd (omega arith)

  pub met_next : (ends : (u v : ℕ) → IsTrue (edge u v) → IsSome (label_at u) × IsSome (label_at v)) (edges : ℕ) (current met current2 met2 : List ℕ)
      → IsMet edges current met → IsSpread edge current met [] met2 current2 → IsMet (edges + 1) current2 met2
  met_next ends edges current met current2 met2 a s = record {
    nodes = λ v h. elim (s.source v h) [ inl none ↦ absurd (true≢false (sym none)) | inr p ↦ (ends v p.0 p.1).0 ];
    done = λ u v e h. elim (s.fresh v h) [
      | inl old ↦ elim (a.done u v e old) [ inl here ↦ inr (s.parents u v here e) | inr there ↦ inr (s.stays u there) ]
      | inr new ↦ inl new
    ];
    far = λ k u v le h l leads. further k u v le h l leads;
  }
    where
      onto : (u w : ℕ) → IsTrue (edge u w) → IsTrue (has met w) → IsTrue (has met2 u)
      onto u w e h = elim (a.done u w e h) [ inl here ↦ s.parents u w here e | inr there ↦ s.stays u there ]

      further : (k u v : ℕ) → k ≤ edges + 1 → IsTrue (has set v) → IsSome (label_at v) → HasWalk edge k u v → IsTrue (has met2 u)
      further zero u v le h l leads = s.stays u (a.far zero u v (omega arith) h l leads)
      further (suc k) u v le h l leads = onto u leads.0 leads.1 (a.far k leads.0 v (omega arith) h l leads.2)

  -- where no node is left, or there are enough edges
  pub met_closed : (edges : ℕ) (met : List ℕ) (most : Option ℕ) → IsMet edges [] met → AreAncestors label_at edge most set met
  met_closed edges met most a = record { has_all = λ k u v few h l leads. back k u v h l leads }
    where
      back : (k u v : ℕ) → IsTrue (has set v) → IsSome (label_at v) → HasWalk edge k u v → IsTrue (has met u)
      back zero u v h l leads = a.far zero u v (omega arith) h l leads
      back (suc k) u v h l leads = elim (a.done u leads.0 leads.1 (back k leads.0 v h l leads.2)) [ inl none ↦ absurd (true≢false (sym none)) | inr there ↦ there ]

  pub met_enough : (edges : ℕ) (current met : List ℕ) (most : Option ℕ) → ((k : ℕ) → IsFew most k → k ≤ edges) → IsMet edges current met → AreAncestors label_at edge most set met
  met_enough edges current met most few a = record { has_all = λ k u v f h l leads. a.far k u v (few k f) h l leads }
