-- One level from the one below: nodes stay together where their blocks and their parents' blocks are the same.
use Rattle.std.proofs.Common.{ℕ, suc, List, Option}
use Rattle.graph_spec.specs.Shapes.{Shape, IsNode, IsParent, IsChild}
use Rattle.bisim_spec.specs.Bisimilarity.{Matched, Bis, Both}
use Rattle.bisim_spec.specs.Partitions.{Together, Agrees}
use Rattle.bisim_spec.proofs.Bisimilar.{bis_sym, bis_node, both_sym, both_node}

-- two nodes are in one block, and so are their parents, in some order
pub record SameKey (s : Shape) (block : List (Option ℕ)) (u v : ℕ) : Type 0 where
  pub own : Together block u v
  pub parents : Matched (IsParent s) (Together block) u v

pub bis_from_key : (s : Shape) (block : List (Option ℕ)) (i u v : ℕ) → Agrees s block (Bis s i) → SameKey s block u v → Bis s (suc i) u v
bis_from_key s block i u v a k = (
  a.related u v k.own,
  record {
    there = λ p e. let q = k.parents.there p e in (q.0, q.1, a.related p q.0 q.2);
    back = λ p e. let q = k.parents.back p e in (q.0, q.1, a.related p q.0 q.2);
  },
)

pub key_from_bis : (s : Shape) (block : List (Option ℕ)) (i u v : ℕ) → Agrees s block (Bis s i) → IsNode s u → IsNode s v → Bis s (suc i) u v → SameKey s block u v
key_from_bis s block i u v a nu nv h = record {
  own = a.grouped u v nu nv h.0;
  parents = record {
    there = λ p e. let q = h.1.there p e in (q.0, q.1, a.grouped p q.0 (bis_node s i p q.0 q.2) (bis_node s i q.0 p (bis_sym s i p q.0 q.2)) q.2);
    back = λ p e. let q = h.1.back p e in (q.0, q.1, a.grouped p q.0 (bis_node s i p q.0 q.2) (bis_node s i q.0 p (bis_sym s i p q.0 q.2)) q.2);
  };
}

-- the same over parents and children
pub record SameKeyBoth (s : Shape) (block : List (Option ℕ)) (u v : ℕ) : Type 0 where
  pub own : Together block u v
  pub parents : Matched (IsParent s) (Together block) u v
  pub children : Matched (IsChild s) (Together block) u v

pub both_from_key : (s : Shape) (block : List (Option ℕ)) (i u v : ℕ) → Agrees s block (Both s i) → SameKeyBoth s block u v → Both s (suc i) u v
both_from_key s block i u v a k = (
  a.related u v k.own,
  record {
    there = λ p e. let q = k.parents.there p e in (q.0, q.1, a.related p q.0 q.2);
    back = λ p e. let q = k.parents.back p e in (q.0, q.1, a.related p q.0 q.2);
  },
  record {
    there = λ p e. let q = k.children.there p e in (q.0, q.1, a.related p q.0 q.2);
    back = λ p e. let q = k.children.back p e in (q.0, q.1, a.related p q.0 q.2);
  },
)

pub key_from_both : (s : Shape) (block : List (Option ℕ)) (i u v : ℕ) → Agrees s block (Both s i) → IsNode s u → IsNode s v → Both s (suc i) u v → SameKeyBoth s block u v
key_from_both s block i u v a nu nv h = record {
  own = a.grouped u v nu nv h.0;
  parents = record {
    there = λ p e. let q = h.1.there p e in (q.0, q.1, a.grouped p q.0 (both_node s i p q.0 q.2) (both_node s i q.0 p (both_sym s i p q.0 q.2)) q.2);
    back = λ p e. let q = h.1.back p e in (q.0, q.1, a.grouped p q.0 (both_node s i p q.0 q.2) (both_node s i q.0 p (both_sym s i p q.0 q.2)) q.2);
  };
  children = record {
    there = λ c e. let d = h.2.there c e in (d.0, d.1, a.grouped c d.0 (both_node s i c d.0 d.2) (both_node s i d.0 c (both_sym s i c d.0 d.2)) d.2);
    back = λ c e. let d = h.2.back c e in (d.0, d.1, a.grouped c d.0 (both_node s i c d.0 d.2) (both_node s i d.0 c (both_sym s i c d.0 d.2)) d.2);
  };
}
