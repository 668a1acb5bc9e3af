-- The members of a block, listed.
use Rattle.std.proofs.Common.{◌≡◌, ℕ, List, Option, Some, None, refl, sym, ◌∙◌, ap, true, false, Bool, ◌&&◌, unwrap_or}
use Rattle.std.specs.Prelude.{nat_eq, ◌||◌, is_none}
use Rattle.std.specs.List.{IsDistinct}
use Rattle.std.specs.Map.{lookup, keys_of}
use Rattle.graph_spec.specs.Members.{at, is_this}
use Rattle.quotient_draft.specs.Drafts.{with_moves}
use Rattle.quotient_draft.specs.PutLogs.{is_target, is_moved_to, is_kept}
use Rattle.quotient_draft.proofs.DraftedMoves.{at_moves}

-- members as shown are those that stay, and those that are moved there
pub shown_members : (block : List (Option ℕ)) (moves : List (ℕ × Option ℕ)) (b n : ℕ) → IsDistinct nat_eq (keys_of moves)
    → (is_kept block moves b n || is_moved_to moves b n) ≡ is_this b (at (with_moves block moves) n)
shown_members block moves b n d = by (lookup (nat_eq n) moves) refl ∙ ap (is_this b) (sym (at_moves block moves n d))
  where
    or_false : (t : Bool) → (t || false) ≡ t
    or_false true = refl
    or_false false = refl

    by : (u : Option (Option ℕ)) → lookup (nat_eq n) moves ≡ u → (is_kept block moves b n || is_moved_to moves b n) ≡ is_this b (unwrap_or (lookup (nat_eq n) moves) (at block n))
    by None e =
        ap (λ (o : Option (Option ℕ)). (is_none o && is_this b (at block n)) || is_target b o) e ∙ or_false (is_this b (at block n)) ∙ ap (λ (o : Option (Option ℕ)). is_this b (unwrap_or o (at block n))) (sym e)
    by (Some v) e =
        ap (λ (o : Option (Option ℕ)). (is_none o && is_this b (at block n)) || is_target b o) e ∙ ap (λ (o : Option (Option ℕ)). is_this b (unwrap_or o (at block n))) (sym e)
