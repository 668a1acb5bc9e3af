-- Whether a node has no neighbour but one, by the lists of its neighbours.
use Rattle.std.proofs.Common.{◌≡◌, ℕ, Bool, true, false, ◌&&◌, ◌||◌, not, List, [], ◌∷◌, refl, sym, ap, ◌∙◌, inl, inr, true≢false, nat_eq}
use Rattle.std.specs.List.{list_all}
use Rattle.std.proofs.Math.Bool.{and-false}
use Rattle.std.proofs.lemmas.Bool.{cases_Bool, and_parts, and_from, or_cases, or_left, or_right, not-true}
use Rattle.std.proofs.lemmas.Bool.Decides.{eqb_tells}
use Rattle.graph_spec.specs.Graphs.{Graph, has_edge}
use Rattle.graph_spec.specs.Changes.{is_used}
use Rattle.graph_spec.specs.Members.{has, Lists}
use Rattle.graph_spec.proofs.MemberLaws.{has_cases, has_head, has_tail}
use Rattle.graph_spec.proofs.Uses.{IsBare, bare_unused, unused_bare}
use Rattle.change_spec.specs.Steps.{without_node}
use Rattle.change_spec.proofs.StepGraphs.{edge_dropped}
use Rattle.triple_names.specs.TripleChanges.{is_only_neighbour}
use Rattle.triple_names.proofs.ItemLaws.{agree}

-- each member passes exactly where all do
each_passes : (p : ℕ → Bool) (xs : List ℕ) → list_all p xs ≡ true → (n : ℕ) → has xs n ≡ true → p n ≡ true
each_passes p [] h n k = absurd (true≢false (sym k))
each_passes p (x ∷ xs) h n k =
    let both = and_parts (p x) (list_all p xs) h in
    elim (has_cases x xs n k) [ inl e ↦ ap p e ∙ both.0 | inr t ↦ each_passes p xs both.1 n t ]

all_pass : (p : ℕ → Bool) (xs : List ℕ) → ((n : ℕ) → has xs n ≡ true → p n ≡ true) → list_all p xs ≡ true
all_pass p [] h = refl
all_pass p (x ∷ xs) h = and_from (p x) (list_all p xs) (h x (has_head x xs)) (all_pass p xs (λ n k. h n (has_tail x xs n k)))

module _ (g : Graph) (u other : ℕ) (children parents : List ℕ) (from : Lists (has_edge g u) children) (onto : Lists (λ w. has_edge g w u) parents) where
  abbrev is_other : ℕ → Bool
  is_other n = nat_eq n other

  abbrev by_lists : Bool
  by_lists = nat_eq u other || (list_all is_other children && list_all is_other parents)

  -- an edge that is left has neither end at the other node
  none_left : (a b : ℕ) → (has_edge g a b ≡ true → (nat_eq a other || nat_eq b other) ≡ true) → has_edge (without_node g other) a b ≡ false
  none_left a b f = edge_dropped g other a b ∙ elim (cases_Bool (has_edge g a b)) [
    | inl on ↦ ap (λ c. has_edge g a b && not c) (f on) ∙ and-false (has_edge g a b)
    | inr off ↦ ap (λ c. c && not (nat_eq a other || nat_eq b other)) off
  ]

  left_none : (a b : ℕ) → has_edge (without_node g other) a b ≡ false → has_edge g a b ≡ true → (nat_eq a other || nat_eq b other) ≡ true
  left_none a b bare on = elim (cases_Bool (nat_eq a other || nat_eq b other)) [
    | inl t ↦ t
    | inr off ↦ absurd (true≢false (sym (edge_dropped g other a b ∙ and_from (has_edge g a b) (not (nat_eq a other || nat_eq b other)) on (ap not off)) ∙ bare))
  ]

  bare_by : by_lists ≡ true → IsBare (without_node g other) u
  bare_by h = elim (or_cases (nat_eq u other) (list_all is_other children && list_all is_other parents) h) [
    | inl same ↦ record {
      from = λ w. none_left u w (λ on. or_left (nat_eq u other) (nat_eq w other) same);
      onto = λ w. none_left w u (λ on. or_right (nat_eq w other) (nat_eq u other) same);
    }
    | inr all ↦ (
        let both = and_parts (list_all is_other children) (list_all is_other parents) all in
        record {
          from = λ w. none_left u w (λ on. or_right (nat_eq u other) (nat_eq w other) (each_passes is_other children both.0 w (from.members w ∙ on)));
          onto = λ w. none_left w u (λ on. or_left (nat_eq w other) (nat_eq u other) (each_passes is_other parents both.1 w (onto.members w ∙ on)));
        })
  ]

  lists_by : IsBare (without_node g other) u → by_lists ≡ true
  lists_by bare = elim (eqb_tells u other) [
    | inl e ↦ or_left (nat_eq u other) (list_all is_other children && list_all is_other parents) e.0
    | inr d ↦ or_right (nat_eq u other) (list_all is_other children && list_all is_other parents) (and_from (list_all is_other children) (list_all is_other parents)
        (all_pass is_other children (λ w h. second w d.0 (left_none u w (bare.from w) (sym (from.members w) ∙ h))))
        (all_pass is_other parents (λ w h. first w d.0 (left_none w u (bare.onto w) (sym (onto.members w) ∙ h)))))
  ]
    where
      second : (w : ℕ) → nat_eq u other ≡ false → (nat_eq u other || nat_eq w other) ≡ true → nat_eq w other ≡ true
      second w off h = sym (ap (λ b. b || nat_eq w other) off) ∙ h

      first : (w : ℕ) → nat_eq u other ≡ false → (nat_eq w other || nat_eq u other) ≡ true → nat_eq w other ≡ true
      first w off h = elim (or_cases (nat_eq w other) (nat_eq u other) h) [ inl t ↦ t | inr t ↦ absurd (true≢false (sym t ∙ off)) ]

  pub only_by_lists : by_lists ≡ is_only_neighbour g u other
  only_by_lists = agree by_lists (is_only_neighbour g u other) (λ h. ap not (bare_unused (without_node g other) u (bare_by h))) (λ h. lists_by (unused_bare (without_node g other) u (not-true (is_used (without_node g other) u) h)))
