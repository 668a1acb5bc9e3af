-- What is drafted is made in the base, one after another.
use Rattle.std.proofs.Common.{◌≡◌, ℕ, zero, suc, ◌+◌, ◌<◌, ◌≤◌, List, [], ◌∷◌, ◌++◌, length, take, Option, Some, None, IsSome, is_some, refl, sym, ◌∙◌, ap, subst, arith, inl, inr, true, false, slice_get, true≢false}
use Rattle.std.specs.Prelude.{nat_eq, IfSome, Bool}
use Rattle.std.specs.Map.{lookup}
use Rattle.std.proofs.lemmas.Bool.{cases_lt}
use Rattle.std.proofs.lemmas.Bool.Decides.{eqb_tells}
use Rattle.std.proofs.lemmas.List.{take_more}
use Rattle.std.proofs.lemmas.Map.Entries.{place_from_lookup}
use Rattle.std.proofs.lemmas.Option.{slice_get_within, get_or_from_slice_get}
use Rattle.graph_spec.specs.Members.{at}
use Rattle.block_partition.specs.LabelledPartitions.{put, IsLeastFree}
use Rattle.bisim_spec.specs.IndexGraphs.{SupportTable}
use Rattle.quotient.specs.Quotients.{with_put, with_support}
use Rattle.quotient_draft.specs.Drafts.{with_added, with_moves, with_supports}
use Rattle.quotient_draft.specs.Basis.{AreLeastFree}
use Rattle.quotient_draft.specs.Scans.{from_after}
use Rattle.quotient_draft.proofs.Scanned.{added_more, from_below}
use Rattle.quotient_draft.proofs.PutLists.{some_put, put_some}

-- one more of a list is taken
pub take_next : {X : Type 0} (xs : List X) (i : ℕ) (x : X) → slice_get xs i ≡ Some x → take (i + 1) xs ≡ take i xs ++ x ∷ []
take_next xs i x e = take_more xs i x (slice_get_within xs i x e) ∙ ap (λ y. take i xs ++ y ∷ []) (get_or_from_slice_get xs i x x e)

-- blocks

least_one : (labels : List (Option ℕ)) (a b : ℕ) → IsLeastFree labels a → IsLeastFree labels b → a ≡ b
least_one labels a b p q = elim (cases_lt a b) [
  | inl less ↦ absurd (true≢false (sym (q.least a less) ∙ ap is_some p.free))
  | inr more ↦ elim (cases_lt b a) [
    | inl less ↦ absurd (true≢false (sym (p.least b less) ∙ ap is_some q.free))
    | inr same ↦ omega (arith, more, same)
  ]
]

least_at : (labels : List (Option ℕ)) (es : List (ℕ × ℕ)) (i : ℕ) (e : ℕ × ℕ) → AreLeastFree labels es → slice_get es i ≡ Some e → IsLeastFree (with_added labels (take i es)) e.0
least_at labels [] i e h at_i = absurd (cc)
least_at labels (f ∷ es) zero e h at_i = (let same : f ≡ e = cc in subst (λ (x : ℕ × ℕ). IsLeastFree labels x.0) same h.0)
least_at labels (f ∷ es) (suc i) e h at_i = least_at (put labels f.0 f.1) es i e h.1 at_i

-- the number that the base gives is that which is drafted
pub same_number_given : (labels now : List (Option ℕ)) (es : List (ℕ × ℕ)) (i r : ℕ) (e : ℕ × ℕ) → AreLeastFree labels es → slice_get es i ≡ Some e → now ≡ with_added labels (take i es) → IsLeastFree now r → r ≡ e.0
same_number_given labels now es i r e h at_i is least = least_one now r e.0 least (subst (λ (ls : List (Option ℕ)). IsLeastFree ls e.0) (sym is) (least_at labels es i e h at_i))

pub added_next : (labels now new : List (Option ℕ)) (es : List (ℕ × ℕ)) (i r : ℕ) (e : ℕ × ℕ) → AreLeastFree labels es → slice_get es i ≡ Some e → now ≡ with_added labels (take i es) → IsLeastFree now r
    → new ≡ put now r e.1 → new ≡ with_added labels (take (i + 1) es)
added_next labels now new es i r e h at_i is least wrote =
    wrote ∙ ap (λ n. put now n e.1) (same_number_given labels now es i r e h at_i is least) ∙ ap (λ (ls : List (Option ℕ)). put ls e.0 e.1) is
    ∙ sym (added_more labels (take i es) e.0 e.1) ∙ ap (with_added labels) (sym (take_next es i e at_i))

next_below : (labels : List (Option ℕ)) (b l : ℕ) → IsLeastFree labels b → (c : ℕ) → c < b + 1 → IsSome (at (put labels b l) c)
next_below labels b l least c h = elim (cases_lt c b) [
  | inl less ↦ some_put labels b l c (least.least c less)
  | inr past ↦ (let same : c ≡ b = omega (arith, h, past) in ap (λ m. is_some (at (put labels b l) m)) same ∙ put_some labels b l)
]

-- the numbers lie below the next one
pub all_below : (from : ℕ) (labels : List (Option ℕ)) (es : List (ℕ × ℕ)) (i : ℕ) (e : ℕ × ℕ) → ((c : ℕ) → c < from → IsSome (at labels c)) → AreLeastFree labels es → slice_get es i ≡ Some e → e.0 < from_after from es
all_below from labels [] i e below h at_i = absurd (cc)
all_below from labels (f ∷ es) zero e below h at_i = (
    let same : f ≡ e = cc in
    let is : f.0 ≡ e.0 = ap (λ (x : ℕ × ℕ). x.0) same in
    let more = from_below (f.0 + 1) (put labels f.0 f.1) es (next_below labels f.0 f.1 h.0) h.1 in
    omega (arith, is, more))
all_below from labels (f ∷ es) (suc j) e below h at_i = all_below (f.0 + 1) (put labels f.0 f.1) es j e (next_below labels f.0 f.1 h.0) h.1 at_i

pub none_yet : (labels : List (Option ℕ)) (c : ℕ) → c < 0 → IsSome (at labels c)
none_yet labels c l = absurd (omega (arith, l))

pub put_length : (xs : List (Option ℕ)) (n v : ℕ) (top : ℕ) → length xs ≤ top → n < top → length (put xs n v) ≤ top
put_length [] zero v top l h = omega (arith, h)
put_length [] (suc n) v zero l h = absurd (omega (arith, h))
put_length [] (suc n) v (suc top) l h = (let r = put_length [] n v top (omega arith) (omega (arith, h)) in omega (arith, r))
put_length (x ∷ xs) zero v top l h = l
put_length (x ∷ xs) (suc n) v zero l h = absurd (omega (arith, h))
put_length (x ∷ xs) (suc n) v (suc top) l h = (let r = put_length xs n v top (omega (arith, l)) (omega (arith, h)) in omega (arith, r))

-- so do all blocks
pub added_length : (labels : List (Option ℕ)) (es : List (ℕ × ℕ)) (top : ℕ) → length labels ≤ top → ((i : ℕ) (e : ℕ × ℕ) → slice_get es i ≡ Some e → e.0 < top) → length (with_added labels es) ≤ top
added_length labels [] top l h = l
added_length labels (e ∷ es) top l h = added_length (put labels e.0 e.1) es top (put_length labels e.0 e.1 top l (h 0 e refl)) (λ i f k. h (suc i) f k)

-- moves

moves_more : (block : List (Option ℕ)) (es : List (ℕ × Option ℕ)) (n : ℕ) (v : Option ℕ) → with_moves block (es ++ (n, v) ∷ []) ≡ with_put (with_moves block es) n v
moves_more block [] n v = refl
moves_more block (e ∷ es) n v = moves_more (with_put block e.0 e.1) es n v

pub moves_next : (block now new : List (Option ℕ)) (es : List (ℕ × Option ℕ)) (i n : ℕ) (v : Option ℕ) → slice_get es i ≡ Some (n, v) → now ≡ with_moves block (take i es) → new ≡ with_put now n v → new ≡ with_moves block (take (i + 1) es)
moves_next block now new es i n v at_i is wrote =
    wrote ∙ ap (λ (bs : List (Option ℕ)). with_put bs n v) is ∙ sym (moves_more block (take i es) n v) ∙ ap (with_moves block) (sym (take_next es i (n, v) at_i))

-- what holds of a block holds where there is one
pub if_block : (v : Option ℕ) (P : ℕ → Type 0) → ((b : ℕ) → v ≡ Some b → P b) → IfSome v P
if_block None P h = tt
if_block (Some b) P h = h b refl

pub for_block : (v : Option ℕ) (A : Type 0) → ((b : ℕ) → v ≡ Some b → A) → IsSome v → A
for_block None A h some = absurd (true≢false (sym some))
for_block (Some b) A h some = h b refl

first_of : Option (ℕ × Option ℕ) → ℕ
first_of None = 0
first_of (Some e) = e.0

second_of : Option (ℕ × Option ℕ) → Bool
second_of None = false
second_of (Some e) = is_some e.1

-- nodes that are put into blocks lie below an end
pub AreBefore : List (ℕ × Option ℕ) → ℕ → ℕ → Type 0
AreBefore es i end = (j n b : ℕ) → j < i → slice_get es j ≡ Some (n, Some b) → n < end

pub before_none : (es : List (ℕ × Option ℕ)) (end : ℕ) → AreBefore es 0 end
unfolding AreBefore
before_none es end j n b l = absurd (omega (arith, l))

pub before_next : (es : List (ℕ × Option ℕ)) (i n end end2 : ℕ) (v : Option ℕ) → slice_get es i ≡ Some (n, v) → end ≤ end2 → (IsSome v → n < end2) → AreBefore es i end → AreBefore es (i + 1) end2
unfolding AreBefore first_of second_of
before_next es i n end end2 v at_i more here h j m b l at_j = elim (cases_lt j i) [
  | inl less ↦ (let old = h j m b less at_j in omega (arith, old, more))
  | inr past ↦ (
      let same : i ≡ j = omega (arith, l, past) in
      let both : Some (n, v) ≡ Some (m, Some b) = sym at_i ∙ ap (slice_get es) same ∙ at_j in
      let nm : n ≡ m = ap first_of both in
      let below : n < end2 = here (ap second_of both) in
      omega (arith, nm, below))
]

number_is : (m n : ℕ) → nat_eq m n ≡ true → m ≡ n
number_is m n h = elim (eqb_tells m n) [ inl s ↦ s.1 | inr d ↦ absurd (true≢false (sym h ∙ d.0)) ]

pub before_all : (es : List (ℕ × Option ℕ)) (i end : ℕ) → length es ≤ i → AreBefore es i end → (n b : ℕ) → lookup (nat_eq n) es ≡ Some (Some b) → n < end
unfolding AreBefore
before_all es i end all h n b e =
    let place = place_from_lookup (nat_eq n) es (Some b) e in
    let within = slice_get_within es place.0 (place.1, Some b) place.2 in
    let below = h place.0 place.1 b (omega (arith, within, all)) place.2 in
    let same = number_is n place.1 place.3 in
    omega (arith, below, same)

-- supports

supports_more : (t : SupportTable) (es : List ((ℕ × ℕ) × ℕ)) (p : ℕ × ℕ) (n : ℕ) → with_supports t (es ++ (p, n) ∷ []) ≡ with_support (with_supports t es) p n
supports_more t [] p n = refl
supports_more t (e ∷ es) p n = supports_more (with_support t e.0 e.1) es p n

pub supports_next : (t now new : SupportTable) (es : List ((ℕ × ℕ) × ℕ)) (i n : ℕ) (p : ℕ × ℕ) → slice_get es i ≡ Some (p, n) → now ≡ with_supports t (take i es) → new ≡ with_support now p n → new ≡ with_supports t (take (i + 1) es)
supports_next t now new es i n p at_i is wrote =
    wrote ∙ ap (λ (s : SupportTable). with_support s p n) is ∙ sym (supports_more t (take i es) p n) ∙ ap (with_supports t) (sym (take_next es i (p, n) at_i))
