-- A level after a change: nodes that aren't affected keep their blocks, and the others go by their keys.
use Rattle.std.proofs.Common.{◌≡◌, ℕ, suc, List, Option, Some, Bool, IsTrue, IsFalse, sym, ◌∙◌, ap, subst, inl, inr, arith}
use Rattle.std.proofs.lemmas.Bool.{cases_Bool}
use Rattle.graph_spec.specs.Shapes.{Shape, IsNode, IsShape}
use Rattle.graph_spec.specs.Members.{at}
use Rattle.bisim_spec.specs.declared.sides.Side.{Side}
use Rattle.bisim_spec.specs.declared.sides.Sides.{Sides}
use Rattle.bisim_spec.specs.Partitions.{IsPartition, Agrees}
use Rattle.bisim_spec.specs.SidedLevels.{counts, beside, AtLevel, affected, DiffersBy}
use Rattle.bisim_spec.proofs.Bisimilar.{some_of, is_some_at}
use Rattle.bisim_spec.proofs.LevelSides.{beside_node}
use Rattle.bisim_spec.proofs.Affected.{unaffected_lower, no_end, unaffected_beside}
use Rattle.bisim_levels.specs.SidedKeys.{IsAround, IsSidedKey, RefinesBy}
use Rattle.bisim_levels.proofs.KeyLaws.{stay_from_key, key_from_stay}
use Rattle.bisim_levels.proofs.SidedRefinement.{refined_level}
use Rattle.level_spec.specs.Keyed.{IsKeyed, AreDistinctKeys, KeysStay, SameFar}

-- a block has one key
pub one_key : (key : ℕ → Option (List ℕ)) (b : ℕ) (xs ys : List ℕ) → key b ≡ Some xs → key b ≡ Some ys → xs ≡ ys
one_key key b xs ys e f = cc

module _ (which : Sides) where
  -- where each node's block has the node's key, and no two blocks have one key, the partition refines the one below
  keyed_refines : (s : Shape) (below block : List (Option ℕ)) (key : ℕ → Option (List ℕ)) → IsPartition s below → IsPartition s block → AreDistinctKeys key
      → ((n : ℕ) → IsKeyed which s below block key n) → RefinesBy (at below) (IsAround which s below) block
  keyed_refines s below block key p q apart keyed = record {
    kept = λ n h. q.live n (p.only n h);
    only = λ n h. p.live n (q.only n h);
    parted = λ u v b e f.
        let ku = (keyed u).keyed b e in
        let kv = (keyed v).keyed b f in
        let same = one_key key b kv.0 ku.0 kv.1 ku.1 in
        stay_from_key (at below) (IsAround which s below) u v ku.0 ku.2 (subst (IsSidedKey which s below v) same kv.2);
    grouped = λ u v same.
        let bu = some_of (at block u) (q.live u (p.only u (is_some_at (at below u) same.one_number.0 same.one_number.1))) in
        let bv = some_of (at block v) (q.live v (p.only v (is_some_at (at below v) same.one_number.0 same.one_number.2))) in
        let ku = (keyed u).keyed bu.0 bu.1 in
        let kv = (keyed v).keyed bv.0 bv.1 in
        let one = key_from_stay (at below) (IsAround which s below) u v ku.0 kv.0 same ku.2 kv.2 in
        let block_same = apart.apart bu.0 bv.0 kv.0 (ku.1 ∙ ap Some one) kv.1 in
        (bu.0, bu.1, bv.1 ∙ ap Some (sym block_same));
  }

  -- Where each node's block has the node's key, and no two blocks have one key, the partition is the next level.
  pub keyed_level : (s : Shape) (below block : List (Option ℕ)) (key : ℕ → Option (List ℕ)) (i : ℕ) → IsShape s → Agrees s below (AtLevel which s i) → IsPartition s block
      → AreDistinctKeys key → ((n : ℕ) → IsKeyed which s below block key n) → Agrees s block (AtLevel which s (suc i))
  keyed_level s below block key i shape a partition apart keyed =
      refined_level which s shape below block (keyed_refines s below block key a.partition partition apart keyed) i a

  module _ (ends : ℕ → Bool) (s s2 : Shape) (shape : IsShape s2) (d : DiffersBy which ends s s2) where
    -- a node that isn't affected keeps its key
    key_kept : (below below2 : List (Option ℕ)) (i n : ℕ) (key : List ℕ) → IsNode s2 n → SameFar which ends s2 i below below2
        → IsFalse (affected which s2 ends (suc i) n) → IsSidedKey which s below n key → IsSidedKey which s2 below2 n key
    key_kept below below2 i n key live far off k = record {
      number = k.number;
      around = k.around;
      is = k.is;
      own_is = far.same n live (unaffected_lower which s2 shape ends i (suc i) n (omega arith) off) ∙ k.own_is;
      rising = k.rising;
      each = λ c h.
          let q = k.each c h in
          let e : IsTrue (beside q.side s2 q.node n) = sym (edge q.side q.counted q.node) ∙ q.is_beside in
          record {
            side = q.side;
            counted = q.counted;
            node = q.node;
            is_beside = e;
            block = q.block;
            has_block = far.same q.node (beside_node s2 shape q.side q.node n e) (unaffected_beside which s2 shape ends i q.node n q.side q.counted e off) ∙ q.has_block;
            is = q.is;
          };
      every = λ c q. k.every c (record {
        side = q.side;
        counted = q.counted;
        node = q.node;
        is_beside = edge q.side q.counted q.node ∙ q.is_beside;
        block = q.block;
        has_block =
            sym (far.same q.node (beside_node s2 shape q.side q.node n q.is_beside) (unaffected_beside which s2 shape ends i q.node n q.side q.counted q.is_beside off))
            ∙ q.has_block;
        is = q.is;
      });
    }
      where
        edge : (e : Side) → IsTrue (counts which e) → (p : ℕ) → beside e s p n ≡ beside e s2 p n
        edge e c p = d.edge e c p n live (no_end which s2 shape ends (suc i) n off)

    -- Each node is in the block of its key after a change: nodes that aren't affected keep their blocks, which keep
    -- their keys, and the others are in the blocks of their keys.
    pub keyed_after : (below below2 block block2 : List (Option ℕ)) (key key2 : ℕ → Option (List ℕ)) (i : ℕ) → SameFar which ends s2 i below below2
        → SameFar which ends s2 (suc i) block block2 → IsPartition s2 block2 → KeysStay key key2 → ((n : ℕ) → IsKeyed which s below block key n)
        → ((n : ℕ) → IsTrue (affected which s2 ends (suc i) n) → IsKeyed which s2 below2 block2 key2 n) → (n : ℕ) → IsKeyed which s2 below2 block2 key2 n
    keyed_after below below2 block block2 key key2 i far far_up partition more before there n = elim (cases_Bool (affected which s2 ends (suc i) n)) [
      | inl on ↦ there n on
      | inr off ↦ record {
        keyed = λ b e.
            let live : IsNode s2 n = partition.only n (is_some_at (at block2 n) b e) in
            let k = (before n).keyed b (sym (far_up.same n live off) ∙ e) in
            (k.0, more.kept b k.0 k.1, key_kept below below2 i n k.0 live far off k.2);
      }
    ]
