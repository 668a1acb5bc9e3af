-- Edges that come and go, as they are pending over a quotient.
use Rattle.std.proofs.Common.{◌≡◌, ℕ, zero, suc, ◌+◌, ◌<◌, ◌≤◌, ◌^◌, List, [], ◌∷◌, length, Option, Some, IsTrue, IsFalse, refl, sym, ◌∙◌, ap, subst, arith, inl, inr, true, false, Bool, nat_lt, true≢false}
use Rattle.std.specs.Prelude.{nat_eq, ◌&&◌, ◌||◌, not}
use Rattle.std.specs.List.{list_any}
use Rattle.std.proofs.Math.Bool.{and-false}
use Rattle.std.proofs.lemmas.Bool.{or_cases, or_left, or_right, or_parts, both_ways}
use Rattle.std.proofs.lemmas.Bool.Decides.{Decides-ltb, Decides-eqb, eqb_tells}
use Rattle.graph_spec.specs.Graphs.{Graph, IsGraph, is_live, has_edge}
use Rattle.graph_spec.specs.Changes.{with_edge, without_edge}
use Rattle.graph_spec.specs.Members.{Lists, has, at, is_this}
use Rattle.graph_spec.specs.Shapes.{shape_of}
use Rattle.graph_spec.proofs.GraphLaws.{is_shape}
use Rattle.bisim_spec.specs.KeptBlocks.{HasOther}
use Rattle.bisim_spec.specs.IndexGraphs.{support_at}
use Rattle.bisim_spec.specs.Weights.{parent_count}
use Rattle.bisim_spec.proofs.SingleLists.{one_once}
use Rattle.change_spec.specs.Steps.{Step, link, unlink, after}
use Rattle.change_spec.specs.Places.{CanMakeAll}
use Rattle.change_spec.specs.Lost.{lost_onto}
use Rattle.change_spec.specs.NextOne.{KeepsParents}
use Rattle.change_spec.proofs.Accepted.{applied_can, accepted_all}
use Rattle.bisim_spec.proofs.Moves.{between_most, block_get, block_from}
use Rattle.bisim_spec.proofs.Together.{together_at, together_sym}
use Rattle.graph_steps.specs.NewChanges.{IsNew}
use Rattle.graph_update.specs.PendingChanges.{Pending, graph_after}
use Rattle.quotient.specs.Quotients.{Quotient}
use Rattle.quotient.specs.QuotientNeighbours.{one_if}
use Rattle.quotient_draft.specs.Drafts.{Drafted, no_changes, shown_support}
use Rattle.quotient_draft.specs.Basis.{IsOver}
use Rattle.one_spec.proofs.Sums.{few_lists, first_has}
use Rattle.one_update.specs.OneDrafts.{IsBefore, AreFoundTargets, AreTargets, ShowsChange, IsDrafted, AreSupportsAlone, rounds_cost}
use Rattle.one_update.specs.UnsteadyNodes.{AreUnsteady}
use Rattle.one_update.proofs.PhaseLaws.{all_found, found_unsteady, read_light}
use Rattle.one_update.proofs.EdgeChanges.{AreAt, changed_link, changed_unlink, other_linked, none_linked, other_unlinked, unlink_some, still_link, still_unlink}

-- ---- edges

-- what is known of an edge that comes
pub record IsLinked (g : Graph) (u v : ℕ) : Type 0 where
  pub absent : has_edge g u v ≡ false
  pub from : IsTrue (is_live g u)
  pub onto : IsTrue (is_live g v)

-- and of one that goes
pub record IsUnlinked (g : Graph) (u v : ℕ) : Type 0 where
  pub present : has_edge g u v ≡ true
  pub from : IsTrue (is_live g u)
  pub onto : IsTrue (is_live g v)

can_make : (c : List Step) (g : Graph) → IsNew c g → CanMakeAll c g
can_make c g new = applied_can c g (after c g) new.limits (accepted_all c g (after c g) new.limits new.accepted).1

new_link : (a : Pending) (q : Quotient) (u v : ℕ) → IsBefore a q → a.change ≡ link u v ∷ [] → IsLinked a.before u v
new_link a q u v before is =
    let new : IsNew (link u v ∷ []) a.before = subst (λ c. IsNew c a.before) is before.new in
    let can = (can_make (link u v ∷ []) a.before new).0 in
    record { absent = absent (has_edge a.before u v) new.new; from = can.0; onto = can.1 }
  where
    absent : (b : Bool) → (not b || false) ≡ true → b ≡ false
    absent true h = sym h
    absent false h = refl

new_unlink : (a : Pending) (q : Quotient) (u v : ℕ) → IsBefore a q → a.change ≡ unlink u v ∷ [] → IsUnlinked a.before u v
new_unlink a q u v before is =
    let new : IsNew (unlink u v ∷ []) a.before = subst (λ c. IsNew c a.before) is before.new in
    let can = (can_make (unlink u v ∷ []) a.before new).0 in
    record { present = can.2; from = can.0; onto = can.1 }

-- the end of an edge is the one target
one_listed : (v : ℕ) (alive : ℕ → Bool) (b : Bool) → b ≡ true → alive v ≡ true → (n : ℕ) → (nat_eq n v || false) ≡ (alive n && ((nat_eq n v && b) || false))
one_listed v alive b on live n = elim (eqb_tells n v) [
  | inl s ↦ (let here : alive n ≡ true = ap alive s.1 ∙ live in rw (s.0, on, here) refl)
  | inr d ↦ rw d.0 (sym (and-false (alive n)))
]

pub link_targets : (a : Pending) (q : Quotient) (u v : ℕ) → IsBefore a q → a.change ≡ link u v ∷ [] → AreTargets a.before a.change (v ∷ [])
link_targets a q u v before is =
    let k = new_link a q u v before is in
    subst (λ c. AreTargets a.before c (v ∷ [])) (sym is) (record {
      once = one_once v;
      members = one_listed v (is_live (with_edge a.before u v)) (not (has_edge a.before u v)) (ap not k.absent) k.onto;
    })

and_true : (b : Bool) → (b && true) ≡ b
and_true true = refl
and_true false = refl

pub unlink_targets : (a : Pending) (q : Quotient) (u v : ℕ) → IsBefore a q → a.change ≡ unlink u v ∷ [] → AreTargets a.before a.change (v ∷ [])
unlink_targets a q u v before is =
    let k = new_unlink a q u v before is in
    subst (λ c. AreTargets a.before c (v ∷ [])) (sym is) (record {
      once = one_once v;
      members = λ n. one_listed v (is_live (without_edge a.before u v)) true refl k.onto n ∙ ap (λ b. is_live (without_edge a.before u v) n && (b || false)) (and_true (nat_eq n v));
    })

link_found : (a : Pending) (q : Quotient) (u v : ℕ) → IsBefore a q → a.change ≡ link u v ∷ [] → AreFoundTargets a.before a.change (v ∷ [])
link_found a q u v before is = all_found a.before a.change (v ∷ []) (link_targets a q u v before is)

unlink_found : (a : Pending) (q : Quotient) (u v : ℕ) → IsBefore a q → a.change ≡ unlink u v ∷ [] → AreFoundTargets a.before a.change (v ∷ [])
unlink_found a q u v before is = all_found a.before a.change (v ∷ []) (unlink_targets a q u v before is)

pub link_unsteady : (a : Pending) (q : Quotient) (u v : ℕ) → IsBefore a q → a.change ≡ link u v ∷ [] → AreUnsteady a.before a.change q.blocks.block_of (v ∷ [])
link_unsteady a q u v before is =
    found_unsteady a.before a.change q.blocks.block_of (v ∷ []) before.graph before.fits.index.stable.partition (link_found a q u v before is)

pub unlink_unsteady : (a : Pending) (q : Quotient) (u v : ℕ) → IsBefore a q → a.change ≡ unlink u v ∷ [] → AreUnsteady a.before a.change q.blocks.block_of (v ∷ [])
unlink_unsteady a q u v before is =
    found_unsteady a.before a.change q.blocks.block_of (v ∷ []) before.graph before.fits.index.stable.partition (unlink_found a q u v before is)

-- reading the parents of the end of an edge that goes
pub unlink_light : (a : Pending) (q : Quotient) (u v : ℕ) → IsBefore a q → a.change ≡ unlink u v ∷ []
    → 1 + parent_count (shape_of (graph_after a)) v + lost_onto a.before (graph_after a) v ≤ rounds_cost a.before a.change
unlink_light a q u v before is =
    read_light a.before a.change (v ∷ []) v before.graph before.graph_after before.new (unlink_found a q u v before is) (first_has v []) (new_unlink a q u v before is).onto

-- a change of another number of steps than one isn't a link or unlink
pub many_move : (c : List Step) (g : Graph) (block : List (Option ℕ)) → (length c ≡ 1 → ⊥) → KeepsParents c g block → ⊥
many_move [] g block h k = k
many_move (s ∷ []) g block h k = h refl
many_move (s ∷ r ∷ ss) g block h k = k

pub alone_from : (d0 d : Drafted) → d0 ≡ no_changes → d.added ≡ d0.added → d.moves ≡ d0.moves → AreSupportsAlone d
alone_from d0 d empty added moves = record { moves = moves ∙ ap (λ (e : Drafted). e.moves) empty; added = added ∙ ap (λ (e : Drafted). e.added) empty }

pub few_base : (a : Pending) (q : Quotient) (d0 : Drafted) (x y : ℕ) → IsBefore a q → d0 ≡ no_changes → shown_support q d0 x y < 2 ^ 31
few_base a q d0 x y before empty =
    let same = ap (λ (e : Drafted). shown_support q e x y) empty in
    let base = before.fits.view.supports x y in
    let most = between_most a.before.edges q.blocks.block_of x y in
    let few = before.few in
    omega (arith, same, base, most, few)

pub link_changed : (a : Pending) (q : Quotient) (d0 d : Drafted) (u v x y : ℕ) → IsBefore a q → a.change ≡ link u v ∷ [] → d0 ≡ no_changes → AreAt q.blocks.block_of u v x y
    → ((k m : ℕ) → shown_support q d k m ≡ shown_support q d0 k m + one_if (nat_eq k x && nat_eq m y)) → AreSupportsAlone d
    → IsOver q.blocks.block_of q.blocks.labels d → ShowsChange a.before a.change q d
link_changed a q d0 d u v x y before is empty ends raised alone over =
    subst (λ c. ShowsChange a.before c q d) (sym is)
    (changed_link a.before u v x y q d before.graph (new_link a q u v before is).absent before.fits over alone ends
    (record { raised = λ k m. raised k m ∙ ap (λ (e : Drafted). shown_support q e k m + one_if (nat_eq k x && nat_eq m y)) empty }))

pub unlink_changed : (a : Pending) (q : Quotient) (d0 d : Drafted) (u v x y : ℕ) → IsBefore a q → a.change ≡ unlink u v ∷ [] → d0 ≡ no_changes → AreAt q.blocks.block_of u v x y
    → ((k m : ℕ) → shown_support q d k m + one_if (nat_eq k x && nat_eq m y) ≡ shown_support q d0 k m) → AreSupportsAlone d
    → IsOver q.blocks.block_of q.blocks.labels d → ShowsChange a.before a.change q d
unlink_changed a q d0 d u v x y before is empty ends lowered alone over =
    subst (λ c. ShowsChange a.before c q d) (sym is)
    (changed_unlink a.before u v x y q d before.graph (new_unlink a q u v before is).present before.fits over alone ends
    (record { lowered = λ k m. lowered k m ∙ ap (λ (e : Drafted). shown_support q e k m) empty }))

pub link_yes : (a : Pending) (q : Quotient) (u v x y n : ℕ) → IsBefore a q → a.change ≡ link u v ∷ [] → AreAt q.blocks.block_of u v x y → n ≡ support_at q.supports x y
    → IsTrue (nat_lt 0 n) → HasOther (shape_of (graph_after a)) q.blocks.block_of u v
link_yes a q u v x y n before is ends same some =
    let more = (Decides-ltb 0 n).0 some in
    subst (λ c. HasOther (shape_of (after c a.before)) q.blocks.block_of u v) (sym is)
    (other_linked a.before u v x y q (new_link a q u v before is).absent before.fits ends (omega (arith, more, same)))

pub link_no : (a : Pending) (q : Quotient) (u v x y n : ℕ) → IsBefore a q → a.change ≡ link u v ∷ [] → AreAt q.blocks.block_of u v x y → n ≡ support_at q.supports x y
    → IsFalse (nat_lt 0 n) → HasOther (shape_of (graph_after a)) q.blocks.block_of u v → ⊥
link_no a q u v x y n before is ends same none other =
    none_linked a.before u v x y q before.fits ends (sym same ∙ zero_of n none) (subst (λ c. HasOther (shape_of (after c a.before)) q.blocks.block_of u v) is other)
  where
    zero_of : (n : ℕ) → nat_lt 0 n ≡ false → n ≡ 0
    zero_of zero h = refl
    zero_of (suc n) h = absurd (true≢false (sym ((Decides-ltb 0 (suc n)).1 (omega arith)) ∙ h))

pub unlink_counts : (a : Pending) (q : Quotient) (d0 : Drafted) (u v x y : ℕ) → IsBefore a q → a.change ≡ unlink u v ∷ [] → d0 ≡ no_changes → AreAt q.blocks.block_of u v x y
    → 0 < shown_support q d0 x y
unlink_counts a q d0 u v x y before is empty ends =
    let same = ap (λ (e : Drafted). shown_support q e x y) empty in
    let some = unlink_some a.before u v x y q (new_unlink a q u v before is).present before.fits ends in
    omega (arith, same, some)

pub unlink_yes : (a : Pending) (q : Quotient) (u v x : ℕ) → a.change ≡ unlink u v ∷ [] → at q.blocks.block_of u ≡ Some x
    → (w : ℕ) × IsTrue (has_edge (graph_after a) w v) × (at q.blocks.block_of w ≡ Some x) → HasOther (shape_of (graph_after a)) q.blocks.block_of u v
unlink_yes a q u v x is at_u w =
    subst (λ c. HasOther (shape_of (after c a.before)) q.blocks.block_of u v) (sym is)
    (other_unlinked a.before u v w.0 x q.blocks.block_of (subst (λ c. IsTrue (has_edge (after c a.before) w.0 v)) is w.1) w.2 at_u)

pub unlink_no : (a : Pending) (q : Quotient) (u v x : ℕ) → at q.blocks.block_of u ≡ Some x
    → ((w : ℕ) → IsTrue (has_edge (graph_after a) w v) → at q.blocks.block_of w ≡ Some x → ⊥) → HasOther (shape_of (graph_after a)) q.blocks.block_of u v → ⊥
unlink_no a q u v x at_u none other = none other.parent other.is_parent (together_at q.blocks.block_of u other.parent x (together_sym q.blocks.block_of other.parent u other.together) at_u)

-- ---- the parents of a node

any_yes : (p : List (Option ℕ)) (x : ℕ) (xs : List ℕ) → list_any (λ n. is_this x (at p n)) xs ≡ true → (w : ℕ) × (has xs w ≡ true) × (at p w ≡ Some x)
any_yes p x [] h = absurd (true≢false (sym h))
any_yes p x (n ∷ ns) h = elim (or_cases (is_this x (at p n)) (list_any (λ m. is_this x (at p m)) ns) h) [
  | inl here ↦ (n, or_left (nat_eq n n) (has ns n) (own n), block_get x (at p n) here)
  | inr rest ↦ (let r = any_yes p x ns rest in (r.0, or_right (nat_eq r.0 n) (has ns r.0) r.1, r.2))
]
  where
    own : (n : ℕ) → nat_eq n n ≡ true
    own n = elim (eqb_tells n n) [ inl s ↦ s.0 | inr k ↦ absurd (k.1 refl) ]

any_no : (p : List (Option ℕ)) (x : ℕ) (xs : List ℕ) → list_any (λ n. is_this x (at p n)) xs ≡ false → (w : ℕ) → has xs w ≡ true → at p w ≡ Some x → ⊥
any_no p x [] h w there e = true≢false (sym there)
any_no p x (n ∷ ns) h w there e =
    let f = or_parts (is_this x (at p n)) (list_any (λ m. is_this x (at p m)) ns) h in
    elim (or_cases (nat_eq w n) (has ns w) there) [
      | inl s ↦ both_ways (is_this x (at p n)) f.0 (block_from x (at p n) (ap (at p) (sym ((Decides-eqb w n).0 s)) ∙ e))
      | inr rest ↦ any_no p x ns f.1 w rest e
    ]

pub parent_yes : (g : Graph) (p : List (Option ℕ)) (v x : ℕ) (xs : List ℕ) → Lists (λ u. has_edge g u v) xs → list_any (λ n. is_this x (at p n)) xs ≡ true
    → (w : ℕ) × IsTrue (has_edge g w v) × (at p w ≡ Some x)
parent_yes g p v x xs lists h = let r = any_yes p x xs h in (r.0, sym (lists.members r.0) ∙ r.1, r.2)

pub parent_no : (g : Graph) (p : List (Option ℕ)) (v x : ℕ) (xs : List ℕ) → Lists (λ u. has_edge g u v) xs → list_any (λ n. is_this x (at p n)) xs ≡ false
    → (w : ℕ) → IsTrue (has_edge g w v) → at p w ≡ Some x → ⊥
parent_no g p v x xs lists h w e = any_no p x xs h w (lists.members w ∙ e)

pub parents_few : (g : Graph) (v : ℕ) (xs : List ℕ) → IsGraph g → Lists (λ u. has_edge g u v) xs → length xs ≤ parent_count (shape_of g) v
parents_few g v xs graph lists = few_lists (length g.allocated) (λ u. has_edge g u v) xs lists (λ n e. (is_shape g graph).below n (graph.from n v e))

-- ---- where the partition stays

pub link_still : (a : Pending) (q : Quotient) (d : Drafted) (u v : ℕ) → IsBefore a q → a.change ≡ link u v ∷ [] → AreSupportsAlone d
    → HasOther (shape_of (graph_after a)) q.blocks.block_of u v → ShowsChange a.before a.change q d → IsDrafted a.before a.change q d
link_still a q d u v before is alone other changed =
    subst (λ c. IsDrafted a.before c q d) (sym is)
    (still_link a.before u v q d before.graph (subst (λ c. IsGraph (after c a.before)) is before.graph_after) before.fits alone
    (subst (λ c. HasOther (shape_of (after c a.before)) q.blocks.block_of u v) is other) (subst (λ c. ShowsChange a.before c q d) is changed))

pub unlink_still : (a : Pending) (q : Quotient) (d : Drafted) (u v : ℕ) → IsBefore a q → a.change ≡ unlink u v ∷ [] → AreSupportsAlone d
    → HasOther (shape_of (graph_after a)) q.blocks.block_of u v → ShowsChange a.before a.change q d → IsDrafted a.before a.change q d
unlink_still a q d u v before is alone other changed =
    subst (λ c. IsDrafted a.before c q d) (sym is)
    (still_unlink a.before u v q d before.graph (subst (λ c. IsGraph (after c a.before)) is before.graph_after) before.fits alone
    (subst (λ c. HasOther (shape_of (after c a.before)) q.blocks.block_of u v) is other) (subst (λ c. ShowsChange a.before c q d) is changed))
