-- Labels that lie ahead of a graph's, in the order in which steps bring them.
use Rattle.std.proofs.Common.{◌≡◌, ℕ, ◌+◌, ◌<◌, true, List, [], ◌∷◌, ◌++◌, length, take, Option, Some, None, sym, ap, ◌∙◌, arith, inl, inr, true≢false}
use Rattle.std.specs.Prelude.{IfSome, position, bytes_eq, if◌then◌else◌}
use Rattle.std.specs.List.{position_or_len}
use Rattle.std.proofs.lemmas.Bool.{cases_lt}
use Rattle.std.proofs.lemmas.List.{take_more, take_at}
use Rattle.std.proofs.lemmas.Option.{get_or_from_slice_get}
use Rattle.graph_spec.specs.Graphs.{Graph, is_seen}
use Rattle.graph_spec.specs.Changes.{with_label}
use Rattle.graph_spec.proofs.ListLemmas.{found}
use Rattle.label_graph.specs.LabelTable.{LabelTable, entries}
use Rattle.label_graph.proofs.Positions.{present, position-none, position-take-some, position-take-late, text-at}
use Rattle.graph_update.specs.PendingChanges.{IsShownPast}

-- a text among the first entries is one of the labels already
known : (xs : List (List ℕ)) (shown l : ℕ) (t : List ℕ) → position (bytes_eq t) xs ≡ Some l → l < shown → with_label (take shown xs) t ≡ take shown xs
known xs shown l t e h =
    ap (λ b. if b then take shown xs else (take shown xs ++ t ∷ [])) (present (bytes_eq t) (take shown xs) l (position-take-some (bytes_eq t) xs shown l e h))

-- and the next entry comes behind them
next : (xs : List (List ℕ)) (shown : ℕ) (t : List ℕ) → position (bytes_eq t) xs ≡ Some shown → with_label (take shown xs) t ≡ take (shown + 1) xs
next xs shown t e =
    let none = position-none (bytes_eq t) (take shown xs) (position-take-late (bytes_eq t) xs shown shown e (omega arith)) in
    let within = (found (position_or_len (bytes_eq t) xs) (length xs) shown e) in
    let below : shown < length xs = omega (arith, within.0, within.1) in
    ap (λ b. if b then take shown xs else (take shown xs ++ t ∷ [])) none
    ∙ ap (λ r. take shown xs ++ r ∷ []) (sym (get_or_from_slice_get xs shown t t (text-at t xs shown e))) ∙ sym (take_more xs shown t below)

pub shown_next : (xs : List (List ℕ)) (shown l more : ℕ) (t : List ℕ) → position (bytes_eq t) xs ≡ Some l → IsShownPast l shown more → with_label (take shown xs) t ≡ take more xs
shown_next xs shown l more t e past = elim (cases_lt l shown) [
  | inl below ↦ known xs shown l t e below ∙ ap (λ k. take k xs) (sym (past.0 below))
  | inr above ↦ (
      let both = past.1 above in
      next xs shown t (e ∙ ap Some both.0) ∙ ap (λ k. take k xs) (sym both.1))
]

pub shown_found : (xs : List (List ℕ)) (shown l : ℕ) (t : List ℕ) (r : Option ℕ) → position (bytes_eq t) xs ≡ Some l → IfSome r (λ more. IsShownPast l shown more)
    → IfSome r (λ more. with_label (take shown xs) t ≡ take more xs)
shown_found xs shown l t None e past = past
shown_found xs shown l t (Some more) e past = shown_next xs shown l more t e past

-- at first the labels are the first entries
pub shown_first : (table : LabelTable) (g : Graph) (n : ℕ) → table.texts ≡ g.seen → n ≡ length table.texts → g.seen ≡ take n (entries table)
shown_first table g n same is = sym same ∙ sym (take_at table.texts table.ahead n (sym is))

-- an entry that is a label has its number
pub entry_number : (xs seen : List (List ℕ)) (k : ℕ) (t : List ℕ) (r : Option ℕ) → seen ≡ take k xs → r ≡ position (bytes_eq t) xs → is_seen seen t ≡ true
    → IfSome r (λ n. position (bytes_eq t) seen ≡ Some n)
entry_number xs seen k t None same e there = tt
entry_number xs seen k t (Some l) same e there = elim (cases_lt l k) [
  | inl below ↦ ap (position (bytes_eq t)) same ∙ position-take-some (bytes_eq t) xs k l (sym e) below
  | inr above ↦ absurd (true≢false (sym there ∙ ap (λ ts. is_seen ts t) same ∙ position-none (bytes_eq t) (take k xs) (position-take-late (bytes_eq t) xs k l (sym e) above)))
]
