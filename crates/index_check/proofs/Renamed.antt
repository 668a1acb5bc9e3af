-- What bisimilarity and stability say doesn't depend on how labels are named.
use Rattle.std.proofs.Common.{◌≡◌, ℕ, zero, suc, List, Option, IsSome, is_some, Bool, sym, ◌∙◌}
use Rattle.std.specs.Cmp as cmp
use Rattle.graph_spec.specs.Shapes.{Shape, IsParent, IsChild}
use Rattle.graph_spec.specs.Members.{at}
use Rattle.bisim_spec.specs.Bisimilarity.{SameLabel, Matched, Bis, Both, FB, node_count}
use Rattle.bisim_spec.specs.Partitions.{IsPartition, Agrees}
use Rattle.bisim_spec.specs.Stability.{Stable, Minimal, merged}
use Rattle.bisim_spec.proofs.BelowLaws.{count_same}
use Rattle.bisim_spec.proofs.Bisimilar.{some_of, is_some_at, label_node, label_self, label_same}

abbrev pub with_labels : ℕ → (ℕ → ℕ → Bool) → (ℕ → Option (List ℕ)) → Shape
with_labels size edge label = record { size = size; label = label; edge = edge }

-- nodes of one label by the one naming have one by the other
abbrev pub Renames : ℕ → (ℕ → ℕ → Bool) → (ℕ → Option (List ℕ)) → (ℕ → Option (List ℕ)) → Type 0
Renames size edge f g = (u v : ℕ) → SameLabel (with_labels size edge f) u v → SameLabel (with_labels size edge g) u v

matched_as : (Near R Q : ℕ → ℕ → Type 0) (u v : ℕ) → ((p q : ℕ) → R p q → Q p q) → Matched Near R u v → Matched Near Q u v
matched_as Near R Q u v to m = record {
  there = λ p e. let q = m.there p e in (q.0, q.1, to p q.0 q.2);
  back = λ p e. let q = m.back p e in (q.0, q.1, to p q.0 q.2);
}

pub bis_renamed : (size : ℕ) (edge : ℕ → ℕ → Bool) (f g : ℕ → Option (List ℕ)) → Renames size edge f g → (i u v : ℕ) → Bis (with_labels size edge f) i u v → Bis (with_labels size edge g) i u v
bis_renamed size edge f g r zero u v h = r u v h
bis_renamed size edge f g r (suc i) u v h = (
  bis_renamed size edge f g r i u v h.0,
  matched_as (IsParent (with_labels size edge g)) (Bis (with_labels size edge f) i) (Bis (with_labels size edge g) i) u v (bis_renamed size edge f g r i) h.1,
)

pub both_renamed : (size : ℕ) (edge : ℕ → ℕ → Bool) (f g : ℕ → Option (List ℕ)) → Renames size edge f g → (i u v : ℕ) → Both (with_labels size edge f) i u v → Both (with_labels size edge g) i u v
both_renamed size edge f g r zero u v h = r u v h
both_renamed size edge f g r (suc i) u v h = (
  both_renamed size edge f g r i u v h.0,
  matched_as (IsParent (with_labels size edge g)) (Both (with_labels size edge f) i) (Both (with_labels size edge g) i) u v (both_renamed size edge f g r i) h.1,
  matched_as (IsChild (with_labels size edge g)) (Both (with_labels size edge f) i) (Both (with_labels size edge g) i) u v (both_renamed size edge f g r i) h.2,
)

node_renamed : (size : ℕ) (edge : ℕ → ℕ → Bool) (f g : ℕ → Option (List ℕ)) → Renames size edge f g → (n : ℕ) → IsSome (f n) → IsSome (g n)
node_renamed size edge f g r n h = label_node (with_labels size edge g) n n (r n n (label_self (with_labels size edge f) n h))

pub partition_renamed : (size : ℕ) (edge : ℕ → ℕ → Bool) (f g : ℕ → Option (List ℕ)) → Renames size edge f g → Renames size edge g f → (block : List (Option ℕ))
    → IsPartition (with_labels size edge f) block → IsPartition (with_labels size edge g) block
partition_renamed size edge f g to back block p = record {
  live = λ n h. p.live n (node_renamed size edge g f back n h);
  only = λ n h. node_renamed size edge f g to n (p.only n h);
}

pub level_renamed : (size : ℕ) (edge : ℕ → ℕ → Bool) (f g : ℕ → Option (List ℕ)) → Renames size edge f g → Renames size edge g f → (block : List (Option ℕ)) (i : ℕ)
    → Agrees (with_labels size edge f) block (Bis (with_labels size edge f) i) → Agrees (with_labels size edge g) block (Bis (with_labels size edge g) i)
level_renamed size edge f g to back block i a = record {
  partition = partition_renamed size edge f g to back block a.partition;
  related = λ u v t. bis_renamed size edge f g to i u v (a.related u v t);
  grouped = λ u v nu nv h. a.grouped u v (node_renamed size edge g f back u nu) (node_renamed size edge g f back v nv) (bis_renamed size edge g f back i u v h);
}

pub both_level_renamed : (size : ℕ) (edge : ℕ → ℕ → Bool) (f g : ℕ → Option (List ℕ)) → Renames size edge f g → Renames size edge g f → (block : List (Option ℕ)) (i : ℕ)
    → Agrees (with_labels size edge f) block (Both (with_labels size edge f) i) → Agrees (with_labels size edge g) block (Both (with_labels size edge g) i)
both_level_renamed size edge f g to back block i a = record {
  partition = partition_renamed size edge f g to back block a.partition;
  related = λ u v t. both_renamed size edge f g to i u v (a.related u v t);
  grouped = λ u v nu nv h. a.grouped u v (node_renamed size edge g f back u nu) (node_renamed size edge g f back v nv) (both_renamed size edge g f back i u v h);
}

counts_renamed : (size : ℕ) (edge : ℕ → ℕ → Bool) (f g : ℕ → Option (List ℕ)) → Renames size edge f g → Renames size edge g f
    → node_count (with_labels size edge f) ≡ node_count (with_labels size edge g)
counts_renamed size edge f g to back =
    count_same size (λ n. is_some (f n)) (λ n. is_some (g n)) (λ k l. cmp.both_ways (is_some (f k)) (is_some (g k)) (node_renamed size edge f g to k) (node_renamed size edge g f back k))

pub full_renamed : (size : ℕ) (edge : ℕ → ℕ → Bool) (f g : ℕ → Option (List ℕ)) → Renames size edge f g → Renames size edge g f → (block : List (Option ℕ))
    → Agrees (with_labels size edge f) block (FB (with_labels size edge f)) → Agrees (with_labels size edge g) block (FB (with_labels size edge g))
full_renamed size edge f g to back block a =
    let e = counts_renamed size edge f g to back in
    record {
      partition = partition_renamed size edge f g to back block a.partition;
      related = λ u v t. both_at u v e (both_renamed size edge f g to (node_count (with_labels size edge f)) u v (a.related u v t));
      grouped = λ u v nu nv h. a.grouped u v (node_renamed size edge g f back u nu) (node_renamed size edge g f back v nv)
          (both_renamed size edge g f back (node_count (with_labels size edge f)) u v (both_at u v (sym e) h));
    }
  where
    both_at : (u v : ℕ) {i j : ℕ} → i ≡ j → Both (with_labels size edge g) i u v → Both (with_labels size edge g) j u v
    both_at u v e h = rw (← e) h

label_renamed : (size : ℕ) (edge : ℕ → ℕ → Bool) (f g : ℕ → Option (List ℕ)) → Renames size edge f g → (u v : ℕ) → IsSome (f u) → f u ≡ f v → g u ≡ g v
label_renamed size edge f g to u v h e =
    let t = some_of (f u) h in
    label_same (with_labels size edge g) u v (to u v (t.0, t.1, sym e ∙ t.1))

pub stable_renamed : (size : ℕ) (edge : ℕ → ℕ → Bool) (f g : ℕ → Option (List ℕ)) → Renames size edge f g → Renames size edge g f → (block : List (Option ℕ))
    → Stable (with_labels size edge f) block → Stable (with_labels size edge g) block
stable_renamed size edge f g to back block st = record {
  partition = partition_renamed size edge f g to back block st.partition;
  label = λ u v nu nv t. label_renamed size edge f g to u v (st.partition.only u (is_some_at (at block u) t.0 t.1)) (st.label u v nu nv t);
  parents = λ u v nu nv t. st.parents u v nu nv t;
}

pub minimal_renamed : (size : ℕ) (edge : ℕ → ℕ → Bool) (f g : ℕ → Option (List ℕ)) → Renames size edge f g → Renames size edge g f → (block : List (Option ℕ))
    → Minimal (with_labels size edge f) block → Minimal (with_labels size edge g) block
minimal_renamed size edge f g to back block min = record {
  apart = λ u v a b eu ev ne can. min.apart u v a b eu ev ne (stable_renamed size edge g f back to (merged a b block) can);
}
