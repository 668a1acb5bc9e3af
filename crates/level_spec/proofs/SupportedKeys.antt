-- Keys of nodes as the supports say, and back.
use Rattle.std.proofs.Common.{◌≡◌, ℕ, suc, ◌<◌, List, ◌∷◌, Option, Some, IsTrue, refl, sym, ◌∙◌, ap, arith, inl, inr}
use Rattle.std.proofs.lemmas.Bool.{cases_lt}
use Rattle.graph_spec.specs.Graphs.{Graph, IsGraph}
use Rattle.graph_spec.specs.Shapes.{shape_of}
use Rattle.graph_spec.specs.Members.{at, has}
use Rattle.graph_spec.proofs.GraphLaws.{is_shape}
use Rattle.bisim_spec.specs.declared.sides.Side.{Side}
use Rattle.bisim_spec.specs.declared.sides.Side.TheVariants as side
use Rattle.bisim_spec.specs.declared.sides.Sides.{Sides}
use Rattle.bisim_spec.specs.Partitions.{IsPartition, Agrees}
use Rattle.bisim_spec.specs.SidedLevels.{counts, beside, AtLevel}
use Rattle.bisim_spec.specs.Supports.{edges_between}
use Rattle.bisim_spec.proofs.Bisimilar.{some_of, is_some_at}
use Rattle.bisim_spec.proofs.EdgeSupports.{support_adjacent, adjacent_support}
use Rattle.bisim_spec.proofs.LevelSides.{beside_node, level_matched, level_family}
use Rattle.bisim_levels.specs.SidedKeys.{IsAround, IsKeyBy}
use Rattle.one_spec.specs.EdgeCounts.{AreEdgeCounts}
use Rattle.level_spec.specs.Keyed.{IsKeyed, first_number}
use Rattle.level_spec.proofs.AffectedLevels.{one_key}
use Rattle.level_spec.specs.Supported.{support_on, IsSupported, IsKeyedBySupports}

-- members of the two blocks that an edge joins on this side
pub record AreBeside (g : Graph) (block : List (Option ℕ)) (d : Side) (a b : ℕ) : Type 0 where
  pub node : ℕ
  pub here : ℕ
  pub is_beside : IsTrue (beside d (shape_of g) node here)
  pub node_at : at block node ≡ Some a
  pub here_at : at block here ≡ Some b

-- support on a side is an edge there
pub beside_some : (g : Graph) (block : List (Option ℕ)) (support : ℕ → ℕ → ℕ) → AreEdgeCounts g block support → (d : Side) (a b : ℕ) → AreBeside g block d a b → 0 < support_on d support a b
beside_some g block support counts side.Parents a b j =
    let some = adjacent_support g block a b (j.node, j.here, j.is_beside, j.node_at, j.here_at) in
    let count = counts.each a b in
    omega (arith, some, count)
beside_some g block support counts side.Children a b j =
    let some = adjacent_support g block b a (j.here, j.node, j.is_beside, j.here_at, j.node_at) in
    let count = counts.each b a in
    omega (arith, some, count)

pub some_beside : (g : Graph) (block : List (Option ℕ)) (support : ℕ → ℕ → ℕ) → AreEdgeCounts g block support → (d : Side) (a b : ℕ) → 0 < support_on d support a b → AreBeside g block d a b
some_beside g block support counts side.Parents a b some =
    let count = counts.each a b in
    let j = support_adjacent g block a b (omega (arith, some, count)) in
    record { node = j.0; here = j.1; is_beside = j.2; node_at = j.3; here_at = j.4 }
some_beside g block support counts side.Children a b some =
    let count = counts.each b a in
    let j = support_adjacent g block b a (omega (arith, some, count)) in
    record { node = j.1; here = j.0; is_beside = j.2; node_at = j.4; here_at = j.3 }

-- the number with which a key begins
first_of : (own : ℕ → Option ℕ) (Around : ℕ → ℕ → Type 0) (key : ℕ → Option (List ℕ)) (a n : ℕ) (numbers : List ℕ) → key a ≡ Some numbers → IsKeyBy own Around n numbers
    → first_number (key a) ≡ own n
first_of own Around key a n numbers e k = ap first_number (e ∙ ap Some k.is) ∙ sym k.own_is

same_around : (own : ℕ → Option ℕ) (Around : ℕ → ℕ → Type 0) (u v : ℕ) (xs ys : List ℕ) → xs ≡ ys → (p : IsKeyBy own Around u xs) (q : IsKeyBy own Around v ys) → p.around ≡ q.around
same_around own Around u v xs ys e p q = (let a = p.is in let b = q.is in cc)

module _ (sides : Sides) (g : Graph) (graph : IsGraph g) (below block : List (Option ℕ)) (key : ℕ → Option (List ℕ)) (support : ℕ → ℕ → ℕ) (partition : IsPartition (shape_of g) block)
    (counts_are : AreEdgeCounts g block support) (keyed : (m : ℕ) → IsKeyed sides (shape_of g) below block key m) where
  abbrev Around : ℕ → ℕ → Type 0
  Around = IsAround sides (shape_of g) below

  first_at : (a n : ℕ) → at block n ≡ Some a → first_number (key a) ≡ at below n
  first_at a n e = let k = (keyed n).keyed a e in first_of (at below) Around key a n k.0 k.1 k.2

  around_each : (n b c : ℕ) → at block n ≡ Some b → Around n c → IsSupported sides key support b c
  around_each n b c e q =
      let a = some_of (at block q.node) (partition.live q.node (beside_node (shape_of g) (is_shape g graph) q.side q.node n q.is_beside)) in
      record {
        side = q.side;
        counted = q.counted;
        block = a.0;
        some = beside_some g block support counts_are q.side a.0 b (record { node = q.node; here = n; is_beside = q.is_beside; node_at = a.1; here_at = e });
        first = q.block;
        first_is = first_at a.0 q.node a.1 ∙ q.has_block;
        is = q.is;
      }

  -- the key of a block with a member is as the supports say
  pub keyed_by_supports : (n b : ℕ) → at block n ≡ Some b → IsKeyedBySupports sides (at below n) key support b
  keyed_by_supports n b e =
      let k = (keyed n).keyed b e in
      record {
        number = k.2.number;
        around = k.2.around;
        is = k.1 ∙ ap Some k.2.is;
        own_is = k.2.own_is;
        rising = k.2.rising;
        each = λ c h. around_each n b c e (k.2.each c h);
        every = λ c m.
            let j = some_beside g block support counts_are m.side m.block b m.some in
            let kv = (keyed j.here).keyed b j.here_at in
            let found = kv.2.every c (record {
              side = m.side;
              counted = m.counted;
              node = j.node;
              is_beside = j.is_beside;
              block = m.first;
              has_block = sym (first_at m.block j.node j.node_at) ∙ m.first_is;
              is = m.is;
            }) in
            let same = same_around (at below) Around n j.here k.0 kv.0 (one_key key b k.0 kv.0 k.1 kv.1) k.2 kv.2 in
            ap (λ xs. has xs c) same ∙ found;
      }

-- where both levels are of bisimilarity, a key that is as the supports say is that of each member
module _ (sides : Sides) (g : Graph) (graph : IsGraph g) (below block : List (Option ℕ)) (key : ℕ → Option (List ℕ)) (support : ℕ → ℕ → ℕ) (i : ℕ)
    (counts_are : AreEdgeCounts g block support) (a : Agrees (shape_of g) below (AtLevel sides (shape_of g) i)) (a2 : Agrees (shape_of g) block (AtLevel sides (shape_of g) (suc i)))
    (keyed : (m b : ℕ) → at block m ≡ Some b → IsKeyedBySupports sides (at below m) key support b) where
  first_below : (m b : ℕ) → at block m ≡ Some b → first_number (key b) ≡ at below m
  first_below m b e = let k = keyed m b e in ap first_number k.is ∙ sym k.own_is

  same_block : (p q x : ℕ) → AtLevel sides (shape_of g) i p q → at below p ≡ Some x → at below q ≡ Some x
  same_block p q x r e =
      let f = level_family sides (shape_of g) (is_shape g graph) in
      let t = a.grouped p q (f.node i p q r) (f.node i q p (f.symm i p q r)) r in
      moved t.0 t.1 t.2 e
    where
      moved : (y : ℕ) → at below p ≡ Some y → at below q ≡ Some y → at below p ≡ Some x → at below q ≡ Some x
      moved y u v w = v ∙ sym u ∙ w

  pub node_key : (n b : ℕ) (e : at block n ≡ Some b) → IsKeyBy (at below) (IsAround sides (shape_of g) below) n ((keyed n b e).number ∷ (keyed n b e).around)
  node_key n b e =
      let k = keyed n b e in
      record {
        number = k.number;
        around = k.around;
        is = refl;
        own_is = k.own_is;
        rising = k.rising;
        each = λ c h.
            let m = k.each c h in
            let j = some_beside g block support counts_are m.side m.block b m.some in
            let q = (level_matched sides (shape_of g) i j.here n (a2.related j.here n (b, j.here_at, e)) m.side m.counted).there j.node j.is_beside in
            record {
              side = m.side;
              counted = m.counted;
              node = q.0;
              is_beside = q.1;
              block = m.first;
              has_block = same_block j.node q.0 m.first q.2 (sym (first_below j.node m.block j.node_at) ∙ m.first_is);
              is = m.is;
            };
        every = λ c q.
            let x = some_of (at block q.node) (a2.partition.live q.node (a.partition.only q.node (is_some_at (at below q.node) q.block q.has_block))) in
            k.every c (record {
              side = q.side;
              counted = q.counted;
              block = x.0;
              some = beside_some g block support counts_are q.side x.0 b (record { node = q.node; here = n; is_beside = q.is_beside; node_at = x.1; here_at = e });
              first = q.block;
              first_is = first_below q.node x.0 x.1 ∙ q.has_block;
              is = q.is;
            });
      }

none_between : (g : Graph) (block : List (Option ℕ)) (a b : ℕ) → (((u v : ℕ) → at block u ≡ Some a → at block v ≡ Some b → ⊥)) → edges_between g.edges block a b ≡ 0
none_between g block a b none = elim (cases_lt 0 (edges_between g.edges block a b)) [
  | inl some ↦ absurd (let j = support_adjacent g block a b some in none j.0 j.1 j.3 j.4)
  | inr none ↦ omega (arith, none)
]

-- a block without members has no support
pub none_from : (g : Graph) (block : List (Option ℕ)) (support : ℕ → ℕ → ℕ) (a b : ℕ) → AreEdgeCounts g block support → ((n : ℕ) → at block n ≡ Some a → ⊥) → support a b ≡ 0
none_from g block support a b counts none = counts.each a b ∙ none_between g block a b (λ u v e f. none u e)

pub none_onto : (g : Graph) (block : List (Option ℕ)) (support : ℕ → ℕ → ℕ) (a b : ℕ) → AreEdgeCounts g block support → ((n : ℕ) → at block n ≡ Some b → ⊥) → support a b ≡ 0
none_onto g block support a b counts none = counts.each a b ∙ none_between g block a b (λ u v e f. none v f)
