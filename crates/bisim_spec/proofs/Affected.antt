-- What a change leaves of the levels: nodes that it doesn't affect are bisimilar exactly where they were.
use Rattle.std.proofs.Common.{◌≡◌, ◌↔◌, ℕ, zero, suc, ◌≤◌, Bool, IsTrue, IsFalse, sym, ◌∙◌, arith}
use Rattle.std.proofs.lemmas.Bool.{false_from_ne_true, both_ways}
use Rattle.graph_spec.specs.Shapes.{Shape, IsNode, IsShape}
use Rattle.bisim_spec.specs.declared.sides.Side.{Side}
use Rattle.bisim_spec.specs.declared.sides.Sides.{Sides}
use Rattle.bisim_spec.specs.Bisimilarity.{Covers}
use Rattle.bisim_spec.specs.SidedLevels.{counts, beside, AtLevel, spread, affected, DiffersBy}
use Rattle.bisim_spec.proofs.LevelSides.{level_from_label, label_from_level, level_lower, level_up, level_matched, beside_node, spread_shape, spread_beside}
use Rattle.bisim_spec.proofs.Reached.{within_step, within_more}

module _ (which : Sides) (s : Shape) (shape : IsShape s) (ends : ℕ → Bool) where
  -- a number that isn't affected at a level isn't so at a lower one
  pub unaffected_lower : (j i n : ℕ) → j ≤ i → IsFalse (affected which s ends i n) → IsFalse (affected which s ends j n)
  unaffected_lower j i n le off =
      false_from_ne_true (affected which s ends j n) (λ t. both_ways (affected which s ends i n) off (within_more (spread which s) ends j i n le t))

  pub no_end : (i n : ℕ) → IsFalse (affected which s ends i n) → IsFalse (ends n)
  no_end i n off = unaffected_lower 0 i n (omega arith) off

  -- nor are its neighbours one level below
  pub unaffected_beside : (i p n : ℕ) (d : Side) → IsTrue (counts which d) → IsTrue (beside d s p n) → IsFalse (affected which s ends (suc i) n)
      → IsFalse (affected which s ends i p)
  unaffected_beside i p n d c b off =
      false_from_ne_true (affected which s ends i p)
      (λ t. both_ways (affected which s ends (suc i) n) off (within_step (spread which s) (spread_shape which s shape) ends i p n t (spread_beside which s d c p n b)))

-- By level: such nodes have their labels and neighbours, and from one level up their neighbours are such nodes.
record IsBeyond (which : Sides) (s s2 : Shape) (Out : ℕ → ℕ → Type 0) : Type 0 where
  lower : (i n : ℕ) → Out (suc i) n → Out i n
  around : (i : ℕ) (d : Side) → IsTrue (counts which d) → (p n : ℕ) → Out (suc i) n → IsTrue (beside d s2 p n) → Out i p
  label : (i n : ℕ) → Out i n → s.label n ≡ s2.label n
  edge : (i : ℕ) (d : Side) → IsTrue (counts which d) → (p n : ℕ) → Out i n → beside d s p n ≡ beside d s2 p n

beyond_back : (which : Sides) (s s2 : Shape) (Out : ℕ → ℕ → Type 0) → IsBeyond which s s2 Out → IsBeyond which s2 s Out
beyond_back which s s2 Out o = record {
  lower = o.lower;
  around = λ i d c p n h e. o.around i d c p n h (sym (o.edge i d c p n (o.lower i n h)) ∙ e);
  label = λ i n h. sym (o.label i n h);
  edge = λ i d c p n h. sym (o.edge i d c p n h);
}

module _ (which : Sides) (s s2 : Shape) (Out : ℕ → ℕ → Type 0) (o : IsBeyond which s s2 Out) where
  covers_carried : (i u v : ℕ) → ((p q : ℕ) → Out i p → Out i q → AtLevel which s i p q → AtLevel which s2 i p q) → Out (suc i) u → Out (suc i) v
      → (d : Side) → IsTrue (counts which d) → Covers (λ p n. IsTrue (beside d s p n)) (AtLevel which s i) u v
      → Covers (λ p n. IsTrue (beside d s2 p n)) (AtLevel which s2 i) u v
  covers_carried i u v below ou ov d c h p e =
      let q = h p (o.edge i d c p u (o.lower i u ou) ∙ e) in
      let f = sym (o.edge i d c q.0 v (o.lower i v ov)) ∙ q.1 in
      (q.0, f, below p q.0 (o.around i d c p u ou e) (o.around i d c q.0 v ov f) q.2)

  level_carried : (i u v : ℕ) → Out i u → Out i v → AtLevel which s i u v → AtLevel which s2 i u v
  level_carried zero u v ou ov h =
      let t = label_from_level which s u v h in level_from_label which s2 u v (t.0, sym (o.label 0 u ou) ∙ t.1, sym (o.label 0 v ov) ∙ t.2)
  level_carried (suc i) u v ou ov h =
      level_up which s2 i u v (level_carried i u v (o.lower i u ou) (o.lower i v ov) (level_lower which s i u v h)) (λ d c. record {
        there = covers_carried i u v (level_carried i) ou ov d c (level_matched which s i u v h d c).there;
        back = covers_carried i v u (level_carried i) ov ou d c (level_matched which s i u v h d c).back;
      })

-- a node that isn't affected at the level
abbrev pub IsUnaffected : Sides → Shape → (ℕ → Bool) → ℕ → ℕ → Type 0
IsUnaffected which s ends i n = IsNode s n × IsFalse (affected which s ends i n)

beyond_ends : (which : Sides) (ends : ℕ → Bool) (s s2 : Shape) → IsShape s2 → DiffersBy which ends s s2 → IsBeyond which s s2 (IsUnaffected which s2 ends)
beyond_ends which ends s s2 shape d = record {
  lower = λ i n h. (h.0, unaffected_lower which s2 shape ends i (suc i) n (omega arith) h.1);
  around = λ i e c p n h b. (beside_node s2 shape e p n b, unaffected_beside which s2 shape ends i p n e c b h.1);
  label = λ i n h. d.label n h.0 (no_end which s2 shape ends i n h.1);
  edge = λ i e c p n h. d.edge e c p n h.0 (no_end which s2 shape ends i n h.1);
}

-- nodes that a change doesn't affect at a level are bisimilar to that level exactly where they were
pub level_kept : (which : Sides) (ends : ℕ → Bool) (s s2 : Shape) → IsShape s2 → DiffersBy which ends s s2 → (i u v : ℕ)
    → IsUnaffected which s2 ends i u → IsUnaffected which s2 ends i v → AtLevel which s i u v ↔ AtLevel which s2 i u v
level_kept which ends s s2 shape d i u v nu nv =
    let o = beyond_ends which ends s s2 shape d in
    let Out : ℕ → ℕ → Type 0 = IsUnaffected which s2 ends in
    (level_carried which s s2 Out o i u v nu nv, level_carried which s2 s Out (beyond_back which s s2 Out o) i u v nu nv)
