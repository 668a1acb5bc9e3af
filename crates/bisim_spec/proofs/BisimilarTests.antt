-- The tests of bisimilarity say what the definitions say.
use Rattle.std.proofs.Common.{◌≡◌, ℕ, zero, suc, ◌<◌, List, Option, Some, None, IsTrue, refl, sym, ap, true, false, Bool, ◌&&◌, ◌||◌, not, true≢false}
use Rattle.std.specs.Prelude.{Decides}
use Rattle.std.proofs.lemmas.Bool.{and_parts, and_from}
use Rattle.std.proofs.lemmas.Slice.Eq.{bytes_eq-Decides}
use Rattle.graph_spec.specs.Shapes.{Shape, IsParent, IsChild, IsShape}
use Rattle.bisim_spec.specs.Below.{any_below}
use Rattle.bisim_spec.specs.Bisimilarity.{SameLabel, Covers, Matched, Bis, Both, node_count, Bisim, FB}
use Rattle.bisim_spec.specs.Tests.{same_text, same_label, covers, matched, is_child, bis, both, bisim, fb}
use Rattle.bisim_spec.proofs.BelowLaws.{any_get, any_from, all_get, all_from}

text_get : (a b : Option (List ℕ)) → same_text a b ≡ true → (t : List ℕ) × (a ≡ Some t) × (b ≡ Some t)
text_get None b h = absurd (true≢false (sym h))
text_get (Some t) None h = absurd (true≢false (sym h))
text_get (Some t) (Some r) h = (t, refl, ap Some (sym ((bytes_eq-Decides t r).0 h)))

text_from : (a b : Option (List ℕ)) (t : List ℕ) → a ≡ Some t → b ≡ Some t → same_text a b ≡ true
text_from a b t e f = rw (e, f) ((bytes_eq-Decides t t).1 refl)

pub label_decides : (s : Shape) (u v : ℕ) → Decides (same_label s u v) (SameLabel s u v)
label_decides s u v = (text_get (s.label u) (s.label v), λ h. text_from (s.label u) (s.label v) h.0 h.1 h.2)

-- the test of an implication
pub if_get : (a b : Bool) → (not a || b) ≡ true → a ≡ true → b ≡ true
if_get true b h e = h
if_get false b h e = absurd (true≢false (sym e))

pub if_from : (a b : Bool) → (a ≡ true → b ≡ true) → (not a || b) ≡ true
if_from true b h = h refl
if_from false b h = refl

pub covers_decides : (size : ℕ) (neighbour_of r : ℕ → ℕ → Bool) (R : ℕ → ℕ → Type 0) → ((p n : ℕ) → IsTrue (neighbour_of p n) → p < size) → ((p q : ℕ) → Decides (r p q) (R p q))
    → (u v : ℕ) → Decides (covers size neighbour_of r u v) (Covers (λ p n. IsTrue (neighbour_of p n)) R u v)
covers_decides size neighbour_of r R below decides u v = (
  λ h p e.
      let some = if_get (neighbour_of p u) (any_below size (λ q. neighbour_of q v && r p q)) (all_get size (λ p. not (neighbour_of p u) || any_below size (λ q. neighbour_of q v && r p q)) h p (below p u e)) e in
      let q = any_get size (λ q. neighbour_of q v && r p q) some in
      let a = and_parts (neighbour_of q.0 v) (r p q.0) q.2 in
      (q.0, a.0, (decides p q.0).0 a.1),
  λ h. all_from size (λ p. not (neighbour_of p u) || any_below size (λ q. neighbour_of q v && r p q)) (λ p l. if_from (neighbour_of p u) (any_below size (λ q. neighbour_of q v && r p q)) (λ e.
      let q = h p e in
      any_from size (λ q. neighbour_of q v && r p q) q.0 (below q.0 v q.1) (and_from (neighbour_of q.0 v) (r p q.0) q.1 ((decides p q.0).1 q.2)))),
)

pub matched_decides : (size : ℕ) (neighbour_of r : ℕ → ℕ → Bool) (R : ℕ → ℕ → Type 0) → ((p n : ℕ) → IsTrue (neighbour_of p n) → p < size) → ((p q : ℕ) → Decides (r p q) (R p q))
    → (u v : ℕ) → Decides (matched size neighbour_of r u v) (Matched (λ p n. IsTrue (neighbour_of p n)) R u v)
matched_decides size neighbour_of r R below decides u v =
    let there = covers_decides size neighbour_of r R below decides u v in
    let back = covers_decides size neighbour_of r R below decides v u in (
      λ h. let a = and_parts (covers size neighbour_of r u v) (covers size neighbour_of r v u) h in record { there = there.0 a.0; back = back.0 a.1 },
      λ h. and_from (covers size neighbour_of r u v) (covers size neighbour_of r v u) (there.1 h.there) (back.1 h.back),
    )

parent_below : (s : Shape) → IsShape s → (p n : ℕ) → IsTrue (s.edge p n) → p < s.size
parent_below s shape p n e = shape.below p (shape.from p n e)

child_below : (s : Shape) → IsShape s → (c n : ℕ) → IsTrue (is_child s c n) → c < s.size
child_below s shape c n e = shape.below c (shape.onto n c e)

pub parents_decide : (s : Shape) → IsShape s → (r : ℕ → ℕ → Bool) (R : ℕ → ℕ → Type 0) → ((p q : ℕ) → Decides (r p q) (R p q))
    → (u v : ℕ) → Decides (covers s.size s.edge r u v) (Covers (IsParent s) R u v)
parents_decide s shape r R decides = covers_decides s.size s.edge r R (parent_below s shape) decides

pub children_decide : (s : Shape) → IsShape s → (r : ℕ → ℕ → Bool) (R : ℕ → ℕ → Type 0) → ((p q : ℕ) → Decides (r p q) (R p q))
    → (u v : ℕ) → Decides (covers s.size (is_child s) r u v) (Covers (IsChild s) R u v)
children_decide s shape r R decides = covers_decides s.size (is_child s) r R (child_below s shape) decides

pub bis_decides : (s : Shape) → IsShape s → (i u v : ℕ) → Decides (bis s i u v) (Bis s i u v)
bis_decides s shape zero u v = label_decides s u v
bis_decides s shape (suc i) u v =
    let below = bis_decides s shape i in
    let parents = matched_decides s.size s.edge (bis s i) (Bis s i) (parent_below s shape) below u v in (
      λ h. let a = and_parts (bis s i u v) (matched s.size s.edge (bis s i) u v) h in ((below u v).0 a.0, parents.0 a.1),
      λ h. and_from (bis s i u v) (matched s.size s.edge (bis s i) u v) ((below u v).1 h.0) (parents.1 h.1),
    )

pub both_decides : (s : Shape) → IsShape s → (i u v : ℕ) → Decides (both s i u v) (Both s i u v)
both_decides s shape zero u v = label_decides s u v
both_decides s shape (suc i) u v =
    let below = both_decides s shape i in
    let parents = matched_decides s.size s.edge (both s i) (Both s i) (parent_below s shape) below u v in
    let children = matched_decides s.size (is_child s) (both s i) (Both s i) (child_below s shape) below u v in
    let p : Bool = matched s.size s.edge (both s i) u v in
    let c : Bool = matched s.size (is_child s) (both s i) u v in (
      λ h. let a = and_parts (both s i u v) (p && c) h in let b = and_parts p c a.1 in ((below u v).0 a.0, parents.0 b.0, children.0 b.1),
      λ h. and_from (both s i u v) (p && c) ((below u v).1 h.0) (and_from p c (parents.1 h.1) (children.1 h.2)),
    )

pub bisim_decides : (s : Shape) → IsShape s → (u v : ℕ) → Decides (bisim s u v) (Bisim s u v)
bisim_decides s shape = bis_decides s shape (node_count s)

pub fb_decides : (s : Shape) → IsShape s → (u v : ℕ) → Decides (fb s u v) (FB s u v)
fb_decides s shape = both_decides s shape (node_count s)
