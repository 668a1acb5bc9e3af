-- A draft stays one over its base.
use Rattle.std.proofs.Common.{◌≡◌, ℕ, zero, suc, ◌+◌, ◌<◌, ◌≤◌, ◌^◌, List, [], ◌∷◌, ◌++◌, Option, Some, None, IsSome, is_some, refl, sym, ◌∙◌, ap, subst, arith, inl, inr, cond, unwrap_or, count_by}
use Rattle.std.specs.Prelude.{nat_eq, IfSome, Bool, true, false, ◌||◌}
use Rattle.std.specs.Map.{lookup}
use Rattle.std.proofs.lemmas.Bool.Decides.{eqb_tells}
use Rattle.graph_spec.specs.Members.{at, has}
use Rattle.std.proofs.lemmas.List.Folds.{list_any-append}
use Rattle.block_partition.specs.LabelledPartitions.{put, IsLeastFree}
use Rattle.quotient_draft.specs.Drafts.{Drafted, with_added, with_left, is_pair}
use Rattle.quotient_draft.specs.Basis.{AreLeastFree, IsOver}
use Rattle.quotient_draft.specs.MoveTables.{AreTaken}
use Rattle.block_partition.proofs.PutNumbers.{same_number}
use Rattle.quotient_draft.proofs.PutLists.{some_put}
use Rattle.quotient_draft.proofs.Scanned.{count_some, count_none, added_some, added_more, least_more}
use Rattle.quotient_draft.proofs.DraftedMoves.{test_is, pair_is}

-- one block more
count_put : (xs : List (Option ℕ)) (b l : ℕ) → count_by is_some (put xs b l) ≤ count_by is_some xs + 1
count_put [] zero l = omega arith
count_put [] (suc b) l =
    let rest = count_put [] b l in
    let more = count_none (put [] b l) in
    omega (arith, rest, more)
count_put (None ∷ xs) zero l =
    let more = count_some xs l in
    let old = count_none xs in
    omega (arith, more, old)
count_put (Some x ∷ xs) zero l =
    let more = count_some xs l in
    let old = count_some xs x in
    omega (arith, more, old)
count_put (None ∷ xs) (suc b) l =
    let rest = count_put xs b l in
    let more = count_none (put xs b l) in
    let old = count_none xs in
    omega (arith, rest, more, old)
count_put (Some x ∷ xs) (suc b) l =
    let rest = count_put xs b l in
    let more = count_some (put xs b l) x in
    let old = count_some xs x in
    omega (arith, rest, more, old)

pub over_added : (block labels : List (Option ℕ)) (d : Drafted) (es : List (ℕ × ℕ)) (b l : ℕ) → IsOver block labels d → count_by is_some (with_added labels d.added) < 2 ^ 31
    → IsLeastFree (with_added labels d.added) b → es ≡ d.added ++ (b, l) ∷ [] → IsOver block labels (record { added = es; moves = d.moves; left = d.left; taken = d.taken; supports = d.supports })
over_added block labels d es b l o few least e =
    let list : with_added labels es ≡ put (with_added labels d.added) b l = ap (with_added labels) e ∙ added_more labels d.added b l in
    let kept : (c : ℕ) → IsSome (at (with_added labels d.added) c) → IsSome (at (with_added labels es) c) =
    λ c h. subst (λ (xs : List (Option ℕ)). IsSome (at xs c)) (sym list) (some_put (with_added labels d.added) b l c h) in
    record {
      least = subst (AreLeastFree labels) (sym e) (least_more labels d.added b l o.least least);
      few = λ _. (let more = ap (count_by is_some) list in let most = count_put (with_added labels d.added) b l in omega (arith, more, most, few));
      moved = λ n c h. kept c (o.moved n c h);
      numbers = o.numbers;
      ends = λ p n h. (let both = o.ends p n h in (kept p.0 both.0, kept p.1 both.1));
      left = o.left;
      taken = o.taken;
    }

-- what a list has, it has once a block is added
left_kept : (left : List ℕ) (own : Option ℕ) (b : ℕ) → has left b ≡ true → has (with_left left own) b ≡ true
left_kept left None b h = h
left_kept left (Some c) b h = list_any-append (nat_eq b) left (c ∷ []) ∙ ap (λ t. t || has (c ∷ []) b) h

left_own : (left : List ℕ) (b : ℕ) → has (with_left left (Some b)) b ≡ true
left_own left b = list_any-append (nat_eq b) left (b ∷ []) ∙ ap (λ t. has left b || (t || false)) (same_number b) ∙ or_true (has left b)
  where
    or_true : (t : Bool) → (t || true) ≡ true
    or_true true = refl
    or_true false = refl

-- one move more
pub over_moved : (block labels : List (Option ℕ)) (d : Drafted) (ms : List (ℕ × Option ℕ)) (left : List ℕ) (taken : List (ℕ × ℕ)) (n : ℕ) (v own : Option ℕ) → IsOver block labels d → n < 2 ^ 31
    → IfSome v (λ b. IsSome (at (with_added labels d.added) b))
    → own ≡ unwrap_or (lookup (nat_eq n) d.moves) (at block n) → left ≡ with_left d.left own → AreTaken block ms taken
    → ((m : ℕ) → lookup (nat_eq m) ms ≡ cond (nat_eq m n) (Some v) (lookup (nat_eq m) d.moves)) → IsOver block labels (record { added = d.added; moves = ms; left = left; taken = taken; supports = d.supports })
over_moved block labels d ms left taken n v own o small to is added are w = record {
  least = o.least;
  few = o.few;
  moved = λ m b h. elim (eqb_tells m n) [
    | inl t ↦ (
        let is : Some v ≡ Some (Some b) = sym (ap (λ c. cond c (Some v) (lookup (nat_eq m) d.moves)) t.0) ∙ sym (w m) ∙ h in
        let same : v ≡ Some b = cc in
        subst (λ (u : Option ℕ). IfSome u (λ c. IsSome (at (with_added labels d.added) c))) same to)
    | inr f ↦ o.moved m b (sym (ap (λ c. cond c (Some v) (lookup (nat_eq m) d.moves)) f.0) ∙ sym (w m) ∙ h)
  ];
  numbers = λ m b h. elim (eqb_tells m n) [
    | inl t ↦ (let same = t.1 in omega (arith, same, small))
    | inr f ↦ o.numbers m b (sym (ap (λ c. cond c (Some v) (lookup (nat_eq m) d.moves)) f.0) ∙ sym (w m) ∙ h)
  ];
  ends = o.ends;
  taken = are;
  left = λ m b h some. subst (λ (ls : List ℕ). has ls b ≡ true) (sym added) (elim (eqb_tells m n) [
    | inl t ↦ first (lookup (nat_eq n) d.moves) refl b (ap (at block) (sym t.1) ∙ h)
    | inr f ↦ left_kept d.left own b (o.left m b h (sym (ap is_some (w m ∙ ap (λ c. cond c (Some v) (lookup (nat_eq m) d.moves)) f.0)) ∙ some))
  ]);
}
  where
    first : (u : Option (Option ℕ)) → lookup (nat_eq n) d.moves ≡ u → (b : ℕ) → at block n ≡ Some b → has (with_left d.left own) b ≡ true
    first None e b h = subst (λ (x : Option ℕ). has (with_left d.left x) b ≡ true) (sym (is ∙ ap (λ x. unwrap_or x (at block n)) e ∙ h)) (left_own d.left b)
    first (Some u) e b h = left_kept d.left own b (o.left n b h (ap is_some e))

-- one support more
pub over_written : (block labels : List (Option ℕ)) (d : Drafted) (es : List ((ℕ × ℕ) × ℕ)) (a b n : ℕ) → IsOver block labels d
    → IsSome (at (with_added labels d.added) a) → IsSome (at (with_added labels d.added) b)
    → ((p : ℕ × ℕ) → lookup (is_pair p) es ≡ cond (is_pair p (a, b)) (Some n) (lookup (is_pair p) d.supports)) → IsOver block labels (record { added = d.added; moves = d.moves; left = d.left; taken = d.taken; supports = es })
over_written block labels d es a b n o from onto w = record {
  least = o.least;
  few = o.few;
  moved = o.moved;
  numbers = o.numbers;
  left = o.left;
  taken = o.taken;
  ends = λ p m h. elim (test_is (is_pair p (a, b))) [
    | inl s ↦ (
        let same = pair_is p (a, b) s in
        (subst (λ (q : ℕ × ℕ). IsSome (at (with_added labels d.added) q.0)) (sym same) from, subst (λ (q : ℕ × ℕ). IsSome (at (with_added labels d.added) q.1)) (sym same) onto))
    | inr f ↦ o.ends p m (sym (ap (λ c. cond c (Some n) (lookup (is_pair p) d.supports)) f) ∙ sym (w p) ∙ h)
  ];
}

-- blocks of nodes are blocks as shown
pub shown_live : (block labels : List (Option ℕ)) (d : Drafted) (n : ℕ) (v : Option ℕ) → IsOver block labels d
    → v ≡ unwrap_or (lookup (nat_eq n) d.moves) (at block n) → (lookup (nat_eq n) d.moves ≡ None → IfSome v (λ b. IsSome (at labels b)))
    → IfSome v (λ b. IsSome (at (with_added labels d.added) b))
shown_live block labels d n v o is live = by (lookup (nat_eq n) d.moves) v refl is
  where
    base : (w : Option ℕ) → IfSome w (λ b. IsSome (at labels b)) → IfSome w (λ b. IsSome (at (with_added labels d.added) b))
    base None h = tt
    base (Some b) h = added_some labels d.added b h

    own : (w : Option ℕ) → lookup (nat_eq n) d.moves ≡ Some w → IfSome w (λ b. IsSome (at (with_added labels d.added) b))
    own None e = tt
    own (Some b) e = o.moved n b e

    by : (u : Option (Option ℕ)) (w : Option ℕ) → lookup (nat_eq n) d.moves ≡ u → w ≡ unwrap_or (lookup (nat_eq n) d.moves) (at block n) → IfSome v (λ b. IsSome (at (with_added labels d.added) b))
    by None w e f = base v (live e)
    by (Some u) w e f = subst (λ (x : Option ℕ). IfSome x (λ b. IsSome (at (with_added labels d.added) b))) (sym (is ∙ ap (λ x. unwrap_or x (at block n)) e)) (own u e)
