-- The tests of partitions say what the definitions say.
use Rattle.std.proofs.Common.{◌≡◌, ◌≢◌, ℕ, ◌<◌, ◌≤◌, List, [], ◌∷◌, length, Option, Some, None, IsFalse, is_some, refl, sym, ◌∙◌, ap, arith, true, false, Bool, not, ◌&&◌, ◌||◌, max, true≢false}
use Rattle.std.specs.Prelude.{nat_eq, Decides}
use mathlib.Core.Bool.{beq}
use Rattle.std.proofs.lemmas.Bool.{and_parts, and_from, not-true, not_from_false, false_from_ne_true, both_ways}
use Rattle.std.proofs.lemmas.Bool.Decides.{Decides-eqb}
use Rattle.graph_spec.specs.Shapes.{Shape, IsNode, IsParent, IsShape}
use Rattle.graph_spec.specs.Walks.{Leads}
use Rattle.bisim_spec.specs.Below.{all_below}
use Rattle.bisim_spec.specs.Bisimilarity.{Covers}
use Rattle.graph_spec.specs.Members.{at}
use Rattle.bisim_spec.specs.Partitions.{Together, IsPartition, Agrees}
use Rattle.bisim_spec.specs.Stability.{StableBut, Stable, StableBoth, Mergeable, Minimal, merged}
use Rattle.bisim_spec.specs.Reach.{reach, Acyclic}
use Rattle.bisim_spec.specs.Tests.{same_label, covers, is_child, same_block, together, all_pairs, is_partition, agrees, alike, stable_but, stable, stable_both, mergeable, can_merge, minimal, acyclic}
use Rattle.bisim_spec.proofs.BelowLaws.{all_get, all_from}
use Rattle.bisim_spec.proofs.Bisimilar.{some_of, is_some_at, label_same}
use Rattle.bisim_spec.proofs.BisimilarTests.{label_decides, parents_decide, children_decide, if_get, if_from}
use Rattle.bisim_spec.proofs.Moves.{block_get, block_from}
use Rattle.bisim_spec.proofs.Together.{together_sym, together_some, block_below}
use Rattle.bisim_spec.proofs.Reached.{walk_within, within_reach}
use Rattle.bisim_spec.proofs.Ranks.{unreached_back}

same_get : (a b : Bool) → beq a b ≡ true → a ≡ b
same_get true true h = refl
same_get true false h = absurd (true≢false (sym h))
same_get false true h = absurd (true≢false (sym h))
same_get false false h = refl

same_from : (a b : Bool) → (a ≡ true → b ≡ true) → (b ≡ true → a ≡ true) → beq a b ≡ true
same_from true b h k = rw (h refl) refl
same_from false true h k = absurd (true≢false (sym (k refl)))
same_from false false h k = refl

pub pairs_get : (n : ℕ) (p : ℕ → ℕ → Bool) → all_pairs n p ≡ true → (u v : ℕ) → u < n → v < n → p u v ≡ true
pairs_get n p h u v hu hv = all_get n (p u) (all_get n (λ u. all_below n (p u)) h u hu) v hv

pub pairs_from : (n : ℕ) (p : ℕ → ℕ → Bool) → ((u v : ℕ) → u < n → v < n → p u v ≡ true) → all_pairs n p ≡ true
pairs_from n p h = all_from n (λ u. all_below n (p u)) (λ u hu. all_from n (p u) (λ v hv. h u v hu hv))

blocks_get : (a b : Option ℕ) → same_block a b ≡ true → (c : ℕ) × (a ≡ Some c) × (b ≡ Some c)
blocks_get None b h = absurd (true≢false (sym h))
blocks_get (Some a) b h = (a, refl, block_get a b h)

blocks_from : (a b : Option ℕ) (c : ℕ) → a ≡ Some c → b ≡ Some c → same_block a b ≡ true
blocks_from a b c e f = rw e (block_from c b f)

pub together_decides : (block : List (Option ℕ)) (u v : ℕ) → Decides (together block u v) (Together block u v)
together_decides block u v = (blocks_get (at block u) (at block v), λ t. blocks_from (at block u) (at block v) t.0 t.1 t.2)

pub partition_decides : (s : Shape) → IsShape s → (block : List (Option ℕ)) → Decides (is_partition s block) (IsPartition s block)
partition_decides s shape block =
    let p : ℕ → Bool = λ n. beq (is_some (at block n)) (is_some (s.label n)) in
    let n : ℕ = max s.size (length block) in (
      λ h. record {
        live = λ m node. let below = shape.below m node in same_get (is_some (at block m)) (is_some (s.label m)) (all_get n p h m (omega (arith, below))) ∙ node;
        only = λ m some. let below = block_below block m some in sym (same_get (is_some (at block m)) (is_some (s.label m)) (all_get n p h m (omega (arith, below)))) ∙ some;
      },
      λ h. all_from n p (λ m l. same_from (is_some (at block m)) (is_some (s.label m)) (h.only m) (h.live m)),
    )

-- nodes in one block are below the size
in_block_below : (s : Shape) → IsShape s → (block : List (Option ℕ)) → IsPartition s block → (u v : ℕ) → Together block u v → u < s.size
in_block_below s shape block p u v t = shape.below u (p.only u (together_some block u v t))

alike_get : (s : Shape) → IsShape s → (block : List (Option ℕ)) (u v : ℕ) → alike s block u v ≡ true → Together block u v
    → (s.label u ≡ s.label v) × Covers (IsParent s) (Together block) u v
alike_get s shape block u v h t =
    let both = if_get (together block u v) (same_label s u v && covers s.size s.edge (together block) u v) h ((together_decides block u v).1 t) in
    let a = and_parts (same_label s u v) (covers s.size s.edge (together block) u v) both in
    (label_same s u v ((label_decides s u v).0 a.0), (parents_decide s shape (together block) (Together block) (together_decides block) u v).0 a.1)

alike_from : (s : Shape) → IsShape s → (block : List (Option ℕ)) (u v : ℕ) → IsPartition s block
    → (Together block u v → (s.label u ≡ s.label v) × Covers (IsParent s) (Together block) u v) → alike s block u v ≡ true
alike_from s shape block u v p h = if_from (together block u v) (same_label s u v && covers s.size s.edge (together block) u v) (λ e.
    let t = (together_decides block u v).0 e in
    let both = h t in
    let l = some_of (s.label u) (p.only u (together_some block u v t)) in
    and_from (same_label s u v) (covers s.size s.edge (together block) u v)
    ((label_decides s u v).1 (l.0, l.1, sym both.0 ∙ l.1))
    ((parents_decide s shape (together block) (Together block) (together_decides block) u v).1 both.1))

-- a pair that isn't excused is alike
unexcused : (a b c : Bool) → ((a || b) || c) ≡ true → a ≡ false → b ≡ false → c ≡ true
unexcused true b c h e f = absurd (true≢false e)
unexcused false true c h e f = absurd (true≢false f)
unexcused false false c h e f = h

excused : (a b c : Bool) → (a ≡ false → b ≡ false → c ≡ true) → ((a || b) || c) ≡ true
excused true b c h = refl
excused false true c h = refl
excused false false c h = h refl refl

pub stable_but_decides : (s : Shape) → IsShape s → (block : List (Option ℕ)) (but : ℕ → Bool) → Decides (stable_but s block but) (StableBut s block but)
stable_but_decides s shape block but =
    let parted = partition_decides s shape block in
    let pair : ℕ → ℕ → Bool = λ u v. (but u || but v) || alike s block u v in (
      λ h.
          let a = and_parts (is_partition s block) (all_pairs s.size pair) h in
          let p = parted.0 a.0 in
          let each : (u v : ℕ) → IsFalse (but u) → IsFalse (but v) → Together block u v → (s.label u ≡ s.label v) × Covers (IsParent s) (Together block) u v =
          λ u v nu nv t.
          let ok = pairs_get s.size pair a.1 u v (in_block_below s shape block p u v t) (in_block_below s shape block p v u (together_sym block u v t)) in
          alike_get s shape block u v (unexcused (but u) (but v) (alike s block u v) ok nu nv) t
          in
          record { partition = p; label = λ u v nu nv t. (each u v nu nv t).0; parents = λ u v nu nv t. (each u v nu nv t).1 },
      λ h. and_from (is_partition s block) (all_pairs s.size pair) (parted.1 h.partition)
          (pairs_from s.size pair (λ u v hu hv. excused (but u) (but v) (alike s block u v) (λ nu nv.
          alike_from s shape block u v h.partition (λ t. (h.label u v nu nv t, h.parents u v nu nv t))))),
    )

pub stable_decides : (s : Shape) → IsShape s → (block : List (Option ℕ)) → Decides (stable s block) (Stable s block)
stable_decides s shape block = stable_but_decides s shape block (λ n. false)

pub stable_both_decides : (s : Shape) → IsShape s → (block : List (Option ℕ)) → Decides (stable_both s block) (StableBoth s block)
stable_both_decides s shape block =
    let st = stable_decides s shape block in
    let cover = children_decide s shape (together block) (Together block) (together_decides block) in
    let pair : ℕ → ℕ → Bool = λ u v. not (together block u v) || covers s.size (is_child s) (together block) u v in (
      λ h.
          let a = and_parts (stable s block) (all_pairs s.size pair) h in
          let b = st.0 a.0 in
          record {
            stable = b;
            children = λ u v t.
                let ok = pairs_get s.size pair a.1 u v (in_block_below s shape block b.partition u v t) (in_block_below s shape block b.partition v u (together_sym block u v t)) in
                (cover u v).0 (if_get (together block u v) (covers s.size (is_child s) (together block) u v) ok ((together_decides block u v).1 t));
          },
      λ h. and_from (stable s block) (all_pairs s.size pair) (st.1 h.stable)
          (pairs_from s.size pair (λ u v hu hv. if_from (together block u v) (covers s.size (is_child s) (together block) u v) (λ e.
          (cover u v).1 (h.children u v ((together_decides block u v).0 e))))),
    )

pub mergeable_decides : (s : Shape) → IsShape s → (block : List (Option ℕ)) (a b : ℕ) → Decides (mergeable s block a b) (Mergeable s block a b)
mergeable_decides s shape block a b = stable_decides s shape (merged a b block)

unmerged_get : (s : Shape) → IsShape s → (block : List (Option ℕ)) (x y : Option ℕ) → can_merge s block x y ≡ false
    → (a b : ℕ) → x ≡ Some a → y ≡ Some b → a ≢ b → Mergeable s block a b → ⊥
unmerged_get s shape block x y h a b ex ey apart can =
    let no : can_merge s block (Some a) (Some b) ≡ false =
    ap (λ o. can_merge s block o (Some b)) (sym ex) ∙ ap (can_merge s block x) (sym ey) ∙ h
    in
    let ne : nat_eq a b ≡ false = false_from_ne_true (nat_eq a b) (λ e. apart ((Decides-eqb a b).0 e)) in
    both_ways (can_merge s block (Some a) (Some b)) no
    (and_from (not (nat_eq a b)) (mergeable s block a b) (not_from_false (nat_eq a b) ne) ((mergeable_decides s shape block a b).1 can))

unmerged_from : (s : Shape) → IsShape s → (block : List (Option ℕ)) (x y : Option ℕ)
    → ((a b : ℕ) → x ≡ Some a → y ≡ Some b → a ≢ b → Mergeable s block a b → ⊥) → can_merge s block x y ≡ false
unmerged_from s shape block None y h = refl
unmerged_from s shape block (Some a) None h = refl
unmerged_from s shape block (Some a) (Some b) h = false_from_ne_true (not (nat_eq a b) && mergeable s block a b) (λ e.
    let p = and_parts (not (nat_eq a b)) (mergeable s block a b) e in
    h a b refl refl (λ same. both_ways (nat_eq a b) (not-true (nat_eq a b) p.0) ((Decides-eqb a b).1 same)) ((mergeable_decides s shape block a b).0 p.1))

pub minimal_decides : (s : Shape) → IsShape s → (block : List (Option ℕ)) → IsPartition s block → Decides (minimal s block) (Minimal s block)
minimal_decides s shape block p =
    let pair : ℕ → ℕ → Bool = λ u v. not (can_merge s block (at block u) (at block v)) in (
      λ h. record {
        apart = λ u v a b eu ev.
            let below : (n c : ℕ) → at block n ≡ Some c → n < s.size = λ n c e. shape.below n (p.only n (is_some_at (at block n) c e)) in
            unmerged_get s shape block (at block u) (at block v)
            (not-true (can_merge s block (at block u) (at block v)) (pairs_get s.size pair h u v (below u a eu) (below v b ev))) a b eu ev;
      },
      λ h. pairs_from s.size pair (λ u v hu hv.
          not_from_false (can_merge s block (at block u) (at block v))
          (unmerged_from s shape block (at block u) (at block v) (λ a b eu ev. h.apart u v a b eu ev))),
    )

-- for a relation of nodes that is decided by the test
pub agrees_decides : (s : Shape) → IsShape s → (block : List (Option ℕ)) (r : ℕ → ℕ → Bool) (R : ℕ → ℕ → Type 0) → ((u v : ℕ) → Decides (r u v) (R u v))
    → ((u v : ℕ) → R u v → IsNode s u × IsNode s v) → Decides (agrees s block r) (Agrees s block R)
agrees_decides s shape block r R decides nodes =
    let parted = partition_decides s shape block in
    let pair : ℕ → ℕ → Bool = λ u v. beq (together block u v) (r u v) in (
      λ h.
          let a = and_parts (is_partition s block) (all_pairs s.size pair) h in
          let p = parted.0 a.0 in
          record {
            partition = p;
            related = λ u v t.
                let ok = pairs_get s.size pair a.1 u v (in_block_below s shape block p u v t) (in_block_below s shape block p v u (together_sym block u v t)) in
                (decides u v).0 (sym (same_get (together block u v) (r u v) ok) ∙ (together_decides block u v).1 t);
            grouped = λ u v nu nv related.
                let ok = pairs_get s.size pair a.1 u v (shape.below u nu) (shape.below v nv) in
                (together_decides block u v).0 (same_get (together block u v) (r u v) ok ∙ (decides u v).1 related);
          },
      λ h. and_from (is_partition s block) (all_pairs s.size pair) (parted.1 h.partition)
          (pairs_from s.size pair (λ u v hu hv. same_from (together block u v) (r u v)
          (λ e. (decides u v).1 (h.related u v ((together_decides block u v).0 e)))
          (λ e.
          let related = (decides u v).0 e in
          let n = nodes u v related in
          (together_decides block u v).1 (h.grouped u v n.0 n.1 related)))),
    )

ring_found : (s : Shape) → IsShape s → acyclic s ≡ true → (u : ℕ) (word : List (List ℕ)) → Leads s u word u → length word ≤ 1
ring_found s shape h u [] w = absurd w
ring_found s shape h u (t ∷ []) w = omega arith
ring_found s shape h u (t ∷ r ∷ ts) w = absurd (
    let pair : ℕ → ℕ → Bool = λ u w. not (s.edge u w && reach s (nat_eq w) u) in
    let ok = pairs_get s.size pair h u w.1 (shape.below u (shape.from u w.1 w.2)) (shape.below w.1 (shape.onto u w.1 w.2)) in
    let back : reach s (nat_eq w.1) u ≡ true = within_reach s shape (nat_eq w.1) (length ts) u (walk_within s shape (length ts) w.1 u (record { first = r; rest = ts; leads = w.3; few = omega arith })) in
    both_ways (s.edge u w.1 && reach s (nat_eq w.1) u) (not-true (s.edge u w.1 && reach s (nat_eq w.1) u) ok) (and_from (s.edge u w.1) (reach s (nat_eq w.1) u) w.2 back))

pub acyclic_decides : (s : Shape) → IsShape s → Decides (acyclic s) (Acyclic s)
acyclic_decides s shape = (
  λ h. record { alone = ring_found s shape h },
  λ h. pairs_from s.size (λ u w. not (s.edge u w && reach s (nat_eq w) u)) (λ u w hu hw.
      not_from_false (s.edge u w && reach s (nat_eq w) u) (false_from_ne_true (s.edge u w && reach s (nat_eq w) u) (λ e.
      let a = and_parts (s.edge u w) (reach s (nat_eq w) u) e in
      both_ways (reach s (nat_eq w) u) (unreached_back s shape h u w a.0) a.1))),
)
