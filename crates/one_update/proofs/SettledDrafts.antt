-- A draft that shows the next partition can be settled, and fits then.
use Rattle.std.proofs.Common.{◌≡◌, ℕ, zero, suc, ◌+◌, List, [], ◌∷◌, Option, Some, None, IsSome, is_some, refl, sym, ◌∙◌, ap, arith, inl, inr, true, false, Bool, cond, true≢false}
use Rattle.std.specs.Prelude.{slice_get, option_and_then, position, bytes_eq}
use Rattle.std.proofs.lemmas.Bool.{cases_lt}
use Rattle.graph_spec.specs.Graphs.{Graph, label_of}
use Rattle.change_spec.specs.Steps.{Step, after}
use Rattle.graph_spec.specs.Members.{at}
use Rattle.label_graph.proofs.Positions.{text-at}
use Rattle.bisim_spec.specs.Supports.{edges_between}
use Rattle.bisim_spec.specs.Fits.{FitsOne}
use Rattle.bisim_spec.proofs.EdgeSupports.{support_adjacent}
use Rattle.quotient.specs.Quotients.{Quotient}
use Rattle.quotient_draft.specs.Drafts.{Drafted, has_member, inhabited_from, shown_blocks, shown_labels, shown_support, settled_view}
use Rattle.quotient_draft.proofs.Gone.{member_at, member_there}
use Rattle.one_update.specs.OneDrafts.{IsDrafted}

abbrev none_label : Option ℕ
none_label = None

no_label : (t : Bool) → cond t none_label none_label ≡ none_label
no_label true = refl
no_label false = refl

inhabited_at : (block : List (Option ℕ)) (b : ℕ) (labels : List (Option ℕ)) (i : ℕ) → at (inhabited_from block b labels) i ≡ cond (has_member block (b + i)) (at labels i) None
inhabited_at block b [] i = sym (no_label (has_member block (b + i)))
inhabited_at block b (x ∷ xs) zero = (let same : b ≡ b + 0 = omega arith in ap (λ n. cond (has_member block n) x None) same)
inhabited_at block b (x ∷ xs) (suc i) = (let same : b + 1 + i ≡ b + suc i = omega arith in inhabited_at block (b + 1) xs i ∙ ap (λ n. cond (has_member block n) (at xs i) None) same)

-- the label of a block once the draft is settled: that which is shown, where the block has members
pub inhabited_whole : (block labels : List (Option ℕ)) (b : ℕ) → at (inhabited_from block 0 labels) b ≡ cond (has_member block b) (at labels b) None
inhabited_whole block labels b = (let same : 0 + b ≡ b = omega arith in inhabited_at block 0 labels b ∙ ap (λ n. cond (has_member block n) (at labels b) None) same)

member_from_label : (t : Bool) (o : Option ℕ) → IsSome (cond t o none_label) → t ≡ true
member_from_label true o h = refl
member_from_label false o h = absurd (true≢false (sym h))

text_of : (o : Option (List ℕ)) (seen : List (List ℕ)) (d : ℕ) → option_and_then (λ t. position (bytes_eq t) seen) o ≡ Some d
    → (t : List ℕ) × (slice_get seen d ≡ Some t) × (o ≡ Some t)
text_of None seen d h = absurd (cc)
text_of (Some t) seen d h = (t, text-at t seen d h, refl)

shown_inhabited : (block labels : List (Option ℕ)) (b : ℕ) → IsSome (at (inhabited_from block 0 labels) b) → (n : ℕ) × (at block n ≡ Some b)
shown_inhabited block labels b h = member_at block b (member_from_label (has_member block b) (at labels b) (sym (ap is_some (inhabited_whole block labels b)) ∙ h))

shown_label : (block labels : List (Option ℕ)) (n b l : ℕ) → at block n ≡ Some b → at labels b ≡ Some l → at (inhabited_from block 0 labels) b ≡ Some l
shown_label block labels n b l e h = inhabited_whole block labels b ∙ ap (λ t. cond t (at labels b) none_label) (member_there block b n e) ∙ h

pub drafted_fits : (g : Graph) (c : List Step) (q : Quotient) (d : Drafted) → IsDrafted g c q d → FitsOne (after c g) (settled_view q d)
drafted_fits g c q d drafted = record {
  view = record {
    inhabited = λ b h. shown_inhabited (shown_blocks q d) (shown_labels q d) b h;
    labelled = λ n b e.
        let k = drafted.block_labels.is n b e in
        let r = text_of (label_of (after c g) n) (after c g).seen k.0 k.2 in
        (k.0, r.0, shown_label (shown_blocks q d) (shown_labels q d) n b k.0 e k.1, r.1, r.2);
    supports = drafted.supports.each;
  };
  index = drafted.step.index;
}

no_edges : (g : Graph) (block : List (Option ℕ)) (a b : ℕ) → ((n : ℕ) → at block n ≡ Some a → ⊥) → edges_between g.edges block a b ≡ 0
no_edges g block a b none = elim (cases_lt 0 (edges_between g.edges block a b)) [
  | inl some ↦ absurd (let j = support_adjacent g block a b some in none j.0 j.3)
  | inr none ↦ omega (arith, none)
]

no_edges_onto : (g : Graph) (block : List (Option ℕ)) (a b : ℕ) → ((n : ℕ) → at block n ≡ Some b → ⊥) → edges_between g.edges block a b ≡ 0
no_edges_onto g block a b none = elim (cases_lt 0 (edges_between g.edges block a b)) [
  | inl some ↦ absurd (let j = support_adjacent g block a b some in none j.1 j.4)
  | inr none ↦ omega (arith, none)
]

no_member : (block : List (Option ℕ)) (b : ℕ) → has_member block b ≡ false → (n : ℕ) → at block n ≡ Some b → ⊥
no_member block b h n e = true≢false (sym (member_there block b n e) ∙ h)

-- a block without members has no support
pub drafted_from : (g : Graph) (c : List Step) (q : Quotient) (d : Drafted) → IsDrafted g c q d → (b x : ℕ) → has_member (shown_blocks q d) b ≡ false → shown_support q d b x ≡ 0
drafted_from g c q d drafted b x h = drafted.supports.each b x ∙ no_edges (after c g) (shown_blocks q d) b x (no_member (shown_blocks q d) b h)

pub drafted_onto : (g : Graph) (c : List Step) (q : Quotient) (d : Drafted) → IsDrafted g c q d → (b x : ℕ) → has_member (shown_blocks q d) b ≡ false → shown_support q d x b ≡ 0
drafted_onto g c q d drafted b x h = drafted.supports.each x b ∙ no_edges_onto (after c g) (shown_blocks q d) x b (no_member (shown_blocks q d) b h)
