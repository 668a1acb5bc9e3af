-- Runs of places.
use Rattle.std.proofs.Common.{refl, ◌≡◌, ℕ, suc, ◌+◌, ◌-◌, ◌<◌, ◌≤◌, List, [], ◌∷◌, ◌++◌, length, take, drop, sym, ap, ◌∙◌, subst, arith, length-drop, append_assoc, Some}
use Rattle.std.specs.Prelude.{slice_get}
use Rattle.std.proofs.Math.Seq.{take-length, take-suc}
use Rattle.std.proofs.lemmas.Option.{get_or_from_slice_get}
use Rattle.std.proofs.lemmas.List.{take-append-le, drop-append-le, take_all, drop_all, drop-take, append-nil, length-append, length-take-le, take-append-drop}
use Rattle.path_automaton.specs.declared.worklist.Run.{Run}
use Rattle.path_automaton.specs.ListedPairs.{all_at, pairs_in, AreRuns, IsTaken}

-- one run more
pub runs_push : (rs : List Run) (places new : List ℕ) (r : Run) → AreRuns rs places → 0 < length new → r.len ≡ length new → AreRuns (rs ++ r ∷ []) (places ++ new)
runs_push [] places new r none some len =
    subst (λ x. (0 < r.len) × (r.len ≤ length x) × (drop r.len x ≡ [])) (sym (ap (λ x. x ++ new) none)) (omega arith, omega arith, drop_all r.len new (omega arith))
runs_push (q ∷ rs) places new r (some_q, fits, rest) some len = (
  some_q,
  omega (arith, length-append places new),
  subst (AreRuns (rs ++ r ∷ [])) (sym (drop-append-le q.len places new fits)) (runs_push rs (drop q.len places) new r rest some len),
)

pub pairs_push : (rs : List Run) (places new : List ℕ) (r : Run) → AreRuns rs places → r.len ≡ length new → pairs_in (rs ++ r ∷ []) (places ++ new) ≡ pairs_in rs places ++ all_at r.state new
pairs_push [] places new r none len =
    append-nil (all_at r.state (take r.len (places ++ new)))
    ∙ ap (all_at r.state) (ap (λ x. take r.len (x ++ new)) none ∙ take_all r.len new (omega arith))
pairs_push (q ∷ rs) places new r (some_q, fits, rest) len =
    ap (λ x. all_at q.state x ++ pairs_in (rs ++ r ∷ []) (drop q.len (places ++ new))) (take-append-le q.len places new fits)
    ∙ ap (λ x. all_at q.state (take q.len places) ++ pairs_in (rs ++ r ∷ []) x) (drop-append-le q.len places new fits)
    ∙ ap (λ x. all_at q.state (take q.len places) ++ x) (pairs_push rs (drop q.len places) new r rest len)
    ∙ sym (append_assoc (all_at q.state (take q.len places)) (pairs_in rs (drop q.len places)) (all_at r.state new))

-- the last run taken out
pub record IsLast (rs : List Run) (r : Run) (places : List ℕ) : Type 0 where
  pub some : 0 < r.len
  pub fits : r.len ≤ length places
  pub others : AreRuns rs (take (length places - r.len) places)

pub runs_pop : (rs : List Run) (r : Run) (places : List ℕ) → AreRuns (rs ++ r ∷ []) places → IsLast rs r places
runs_pop [] r places (some, fits, none) =
    let z : length places - r.len ≡ 0 = sym (length-drop r.len places) ∙ ap length none in
    record { some = some; fits = fits; others = ap (λ n. take n places) z }
runs_pop (q ∷ rs) r places (some, fits, rest) =
    let h = runs_pop rs r (drop q.len places) rest in
    let len = length-drop q.len places in
    let f = h.fits in
    let m : ℕ = length (drop q.len places) - r.len in
    let e : length places - r.len ≡ q.len + m = omega arith in
    record {
      some = h.some;
      fits = omega arith;
      others = subst (AreRuns (q ∷ rs)) (sym (ap (λ n. take n places) e)) (
        some,
        (let l = length-take-le (q.len + m) places (omega arith) in omega arith),
        subst (AreRuns rs) (sym (drop-take q.len m places)) h.others,
      );
    }

pub pairs_pop : (rs : List Run) (r : Run) (places : List ℕ) → IsLast rs r places → pairs_in (rs ++ r ∷ []) places
    ≡ pairs_in rs (take (length places - r.len) places) ++ all_at r.state (drop (length places - r.len) places)
pairs_pop rs r places h =
    let n : ℕ = length places - r.len in
    let f = h.fits in
    ap (pairs_in (rs ++ r ∷ [])) (sym (take-append-drop n places))
    ∙ pairs_push rs (take n places) (drop n places) r h.others (let l = length-drop n places in omega arith)

-- the last run stands behind the others
pub last_run : (rs : List Run) (n : ℕ) (r : Run) → n ≡ length rs - 1 → slice_get rs n ≡ Some r → rs ≡ take n rs ++ r ∷ []
last_run [] n r e there = cc
last_run (x ∷ rs) n r e there =
    let whole : suc n ≡ length (x ∷ rs) = omega arith in
    sym (take-length (x ∷ rs)) ∙ ap (λ k. take k (x ∷ rs)) (sym whole) ∙ take-suc (x ∷ rs) n r (omega arith)
    ∙ ap (λ y. take n (x ∷ rs) ++ y ∷ []) (get_or_from_slice_get (x ∷ rs) n r r there)

-- what stays, and what is taken, where the places are cut in front of the last run
pub last_of : (rs : List Run) (r : Run) (places : List ℕ) → slice_get rs (length rs - 1) ≡ Some r → AreRuns rs places → IsLast (take (length rs - 1) rs) r places
last_of rs r places there all = runs_pop (take (length rs - 1) rs) r places (subst (λ x. AreRuns x places) (last_run rs (length rs - 1) r refl there) all)

pub taken : (rs front : List Run) (r : Run) (places rest last : List ℕ) → slice_get rs (length rs - 1) ≡ Some r → AreRuns rs places
    → front ≡ take (length rs - 1) rs → rest ≡ take (length places - r.len) places → last ≡ drop (length places - r.len) places
    → IsTaken (pairs_in rs places) (pairs_in front rest) r.state last
taken rs front r places rest last there all e f g =
    let h = last_of rs r places there all in
    let some = h.some in
    let fits = h.fits in
    record {
      last = ap (λ x. pairs_in x places) (last_run rs (length rs - 1) r refl there) ∙ pairs_pop (take (length rs - 1) rs) r places h
          ∙ ap (λ x. pairs_in x (take (length places - r.len) places) ++ all_at r.state (drop (length places - r.len) places)) (sym e)
          ∙ ap (λ x. pairs_in front x ++ all_at r.state (drop (length places - r.len) places)) (sym f)
          ∙ ap (λ x. pairs_in front rest ++ all_at r.state x) (sym g);
      some = (let l = length-drop (length places - r.len) places in let m = ap length g in omega arith);
    }

pub tail_is : (front dp ps new : List ℕ) (k n : ℕ) → front ≡ [] → dp ≡ ps → k ≡ n → new ≡ front ++ take (length dp - k) (drop k dp) → new ≡ drop n ps
tail_is front dp ps new k n none same e is =
    is ∙ ap (λ x. x ++ take (length dp - k) (drop k dp)) none ∙ take_all (length dp - k) (drop k dp) (omega (arith, length-drop k dp))
    ∙ ap (drop k) same ∙ ap (λ x. drop x ps) e
