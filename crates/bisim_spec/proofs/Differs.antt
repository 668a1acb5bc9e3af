-- Where a node or an edge comes or goes, a graph differs at one node alone.
use Rattle.std.proofs.Common.{◌≡◌, ◌≢◌, ℕ, zero, suc, ◌<◌, Bool, false, List, [], ◌∷◌, ◌++◌, length, Option, Some, None, refl, sym, ◌∙◌, ap, arith, inl, inr, nat_eq, length-append}
use Rattle.std.specs.Prelude.{◌&&◌, ◌||◌, not, option_and_then, slice_get, slice_set}
use Rattle.std.proofs.Math.Bool.{and-false}
use Rattle.std.proofs.lemmas.Bool.{cases_lt}
use Rattle.std.proofs.lemmas.Bool.Decides.{eqb_tells}
use Rattle.std.proofs.lemmas.Option.{slice_get_past}
use Rattle.graph_spec.specs.Graphs.{Graph, label_of, has_edge}
use Rattle.graph_spec.specs.Changes.{with_node, with_edge, without_edge, without_node}
use Rattle.graph_spec.specs.Shapes.{shape_of}
use Rattle.graph_spec.proofs.GraphLaws.{edge_with, edge_without}
use Rattle.bisim_spec.proofs.Outside.{DiffersAt}

apart_of : (n m : ℕ) → nat_eq n m ≡ false → n ≢ m
apart_of n m h = elim (eqb_tells n m) [ inl t ↦ (let u = t.0 in λ _. cc) | inr d ↦ d.1 ]

off_end : (x y : Bool) → y ≡ false → (x && y) ≡ false
off_end x y h = ap (λ b. x && b) h ∙ and-false x

pub differs_link : (g : Graph) (u v : ℕ) → DiffersAt (λ n. nat_eq n v) (shape_of g) (shape_of (with_edge g u v))
differs_link g u v = record {
  label = λ n live h. refl;
  edge = λ p n live h. sym (edge_with g u v p n ∙ ap (λ b. b || has_edge g p n) (off_end (nat_eq p u) (nat_eq n v) h));
}

pub differs_unlink : (g : Graph) (u v : ℕ) → DiffersAt (λ n. nat_eq n v) (shape_of g) (shape_of (without_edge g u v))
differs_unlink g u v = record {
  label = λ n live h. refl;
  edge = λ p n live h. sym (edge_without g u v p n ∙ ap (λ b. not b && has_edge g p n) (off_end (nat_eq p u) (nat_eq n v) h));
}

get_prefix : {X : Type 0} (prefix : List X) (x : X) (i : ℕ) → i < length prefix → slice_get (prefix ++ x ∷ []) i ≡ slice_get prefix i
get_prefix [] x i h = absurd (omega (arith, h))
get_prefix (y ∷ ys) x zero h = refl
get_prefix (y ∷ ys) x (suc i) h = get_prefix ys x i (omega (arith, h))

-- a number that isn't the next one has what it had
get_other : (allocated : List (Option (List ℕ))) (t : List ℕ) (n : ℕ) → n ≢ length allocated → slice_get (allocated ++ Some t ∷ []) n ≡ slice_get allocated n
get_other allocated t n apart = elim (cases_lt n (length allocated)) [
  | inl below ↦ get_prefix allocated (Some t) n below
  | inr past ↦
      slice_get_past (allocated ++ Some t ∷ []) n (let l = length-append allocated (Some t ∷ []) in omega (arith, apart, past, l))
      ∙ sym (slice_get_past allocated n past)
]

-- a node that comes leaves the labels of all other numbers
pub label_with_node : (g : Graph) (t : List ℕ) (n : ℕ) → n ≢ length g.allocated → label_of g n ≡ label_of (with_node g t) n
label_with_node g t n apart = sym (ap (λ o. option_and_then (λ l. l) o) (get_other g.allocated t n apart))

pub differs_node : (g : Graph) (t : List ℕ) → DiffersAt (λ n. nat_eq n (length g.allocated)) (shape_of g) (shape_of (with_node g t))
differs_node g t = record {
  label = λ n live h. label_with_node g t n (apart_of n (length g.allocated) h);
  edge = λ p n live h. refl;
}

get_unset : (xs : List (Option (List ℕ))) (u n : ℕ) → n ≢ u → slice_get (slice_set xs u None) n ≡ slice_get xs n
get_unset [] u n h = refl
get_unset (x ∷ xs) zero zero h = absurd (h refl)
get_unset (x ∷ xs) zero (suc n) h = refl
get_unset (x ∷ xs) (suc u) zero h = refl
get_unset (x ∷ xs) (suc u) (suc n) h = get_unset xs u n (λ e. h (ap suc e))

-- a node that goes leaves the labels of all other numbers
pub label_without_node : (g : Graph) (u n : ℕ) → n ≢ u → label_of g n ≡ label_of (without_node g u) n
label_without_node g u n apart = sym (ap (λ o. option_and_then (λ l. l) o) (get_unset g.allocated u n apart))

pub differs_drop : (g : Graph) (u : ℕ) → DiffersAt (λ n. nat_eq n u) (shape_of g) (shape_of (without_node g u))
differs_drop g u = record {
  label = λ n live h. label_without_node g u n (apart_of n u h);
  edge = λ p n live h. refl;
}
