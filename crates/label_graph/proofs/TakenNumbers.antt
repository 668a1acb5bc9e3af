-- A reserved label is taken, by its number.
use Rattle.std.proofs.Common.{◌≡◌, ℕ, suc, ◌+◌, ◌<◌, ◌≤◌, ◌^◌, Bool, true, false, cond, List, [], ◌∷◌, length, take, None, Some, refl, sym, ap, ◌∙◌, arith, get_or, nat_eq, not, true≢false}
use Rattle.std.specs.Prelude.{slice_get, bytes_eq, position, ◌||◌, IsTrue, IsSome}
use Rattle.std.specs.List.{IsDistinct, list_any, remove, prefix_len, position_or_len}
use Rattle.std.specs.Set.{remove_key}
use Rattle.std.proofs.lemmas.Bool.{ne_eqb}
use Rattle.std.proofs.lemmas.Cmp.{nat_eq_equiv}
use Rattle.std.proofs.lemmas.List.Folds.{list_any_at}
use Rattle.std.proofs.lemmas.Option.{slice_get-get_or, get_or_from_slice_get}
use Rattle.std.proofs.lemmas.Slice.Eq.{bytes_eq-Decides}
use Rattle.std.proofs.Math.Seq.{take-append_seam}
use Rattle.graph_spec.specs.Graphs.{is_seen}
use Rattle.graph_spec.specs.Members.{has}
use Rattle.graph_spec.proofs.ListLemmas.{found}
use Rattle.label_graph.specs.LabelTable.{LabelTable, entries, AreEntries, without_number}
use Rattle.label_graph.specs.ReservedGraphs.{entry_texts, without_text}
use Rattle.label_graph.proofs.Positions.{position-at, position-none, position-take-late}
use Rattle.label_graph.proofs.Tables.{bytes_laws}

-- the first that passes is found, and taken out
removed-at : {X : Type 0} (test : X → Bool) (xs : List X) (i : ℕ) → i ≡ prefix_len (λ x. not (test x)) xs → i < length xs → remove xs i ≡ remove_key test xs
removed-at test [] i e h = absurd (omega (arith, h))
removed-at test (x ∷ xs) i e h =
    elim (test x) as (λ b. i ≡ cond (not b) (1 + prefix_len (λ y. not (test y)) xs) 0 → remove (x ∷ xs) i ≡ cond b xs (x ∷ remove_key test xs)) [
      | true ↦ λ q. ap (remove (x ∷ xs)) q
      | false ↦ λ q.
          let k = prefix_len (λ y. not (test y)) xs in
          let next : i ≡ suc k = omega (arith, q) in
          ap (remove (x ∷ xs)) next ∙ ap (λ l. x ∷ l) (removed-at test xs k refl (omega (arith, h, next)))
    ] e

pub first-removed : {X : Type 0} (test : X → Bool) (xs : List X) (i : ℕ) → position test xs ≡ Some i → remove xs i ≡ remove_key test xs
first-removed test xs i e = let f = found (position_or_len test xs) (length xs) i e in removed-at test xs i (sym f.1) (omega (arith, f.0, f.1))

pub first-found : {X : Type 0} (test : X → Bool) (xs : List X) → IsTrue (list_any test xs) → IsSome (position test xs)
first-found test xs h =
    elim (position test xs) as (λ o. position test xs ≡ o → IsSome o) [
      | None ↦ λ e. absurd (true≢false (sym h ∙ position-none test xs e))
      | Some i ↦ λ e. refl
    ] refl

module _ (table : LabelTable) (t : List ℕ) where
  any-entry : (ls : List ℕ) → AreEntries (length (entries table)) ls → IsTrue (is_seen (entry_texts table ls) t) → IsTrue (is_seen (entries table) t)
  any-entry [] a h = absurd (true≢false (sym h))
  any-entry (m ∷ ms) a h =
      elim (bytes_eq t (get_or (entries table) m [])) as (λ b. bytes_eq t (get_or (entries table) m []) ≡ b → IsTrue (b || is_seen (entry_texts table ms) t) → IsTrue (is_seen (entries table) t)) [
        | true ↦ λ q k. list_any_at (bytes_eq t) (entries table) m [] a.0 q
        | false ↦ λ q k. any-entry ms a.1 k
      ] refl h

  -- a reserved label is an entry
  pub text-found : (ls : List ℕ) → AreEntries (length (entries table)) ls → IsTrue (is_seen (entry_texts table ls) t) → IsSome (position (bytes_eq t) (entries table))
  text-found ls a h = first-found (bytes_eq t) (entries table) (any-entry ls a h)

  module _ (l : ℕ) (once : IsDistinct bytes_eq (entries table)) (is : slice_get (entries table) l ≡ Some t) where
    -- of the entries the text is that one alone
    same-test : (m : ℕ) → m < length (entries table) → bytes_eq t (get_or (entries table) m []) ≡ nat_eq l m
    same-test m h =
        let x = get_or (entries table) m [] in
        let here = slice_get-get_or (entries table) m [] h in
        elim (bytes_eq t x) as (λ b. bytes_eq t x ≡ b → b ≡ nat_eq l m) [
          | true ↦ λ q.
              let same : t ≡ x = (bytes_eq-Decides t x).0 q in
              let both : Some l ≡ Some m = sym (position-at (entries table) l t once is) ∙ ap (λ y. position (bytes_eq y) (entries table)) same ∙ position-at (entries table) m x once here in
              let number : l ≡ m = cc in
              sym (ap (nat_eq l) (sym number) ∙ nat_eq_equiv.refl l)
          | false ↦ λ q. sym (ne_eqb l m (λ e.
              true≢false (sym (bytes_laws.refl t) ∙ ap (bytes_eq t) (sym (get_or_from_slice_get (entries table) l t [] is)) ∙ ap (λ k. bytes_eq t (get_or (entries table) k [])) e ∙ q)))
        ] refl

    pub number-there : (ls : List ℕ) → AreEntries (length (entries table)) ls → is_seen (entry_texts table ls) t ≡ has ls l
    number-there [] a = refl
    number-there (m ∷ ms) a = ap (λ b. b || is_seen (entry_texts table ms) t) (same-test m a.0) ∙ ap (λ b. nat_eq l m || b) (number-there ms a.1)

    pub texts-taken : (ls : List ℕ) → AreEntries (length (entries table)) ls → entry_texts table (without_number ls l) ≡ without_text (entry_texts table ls) t
    texts-taken [] a = refl
    texts-taken (m ∷ ms) a =
        let x = get_or (entries table) m [] in
        let test : Bool → List (List ℕ) = λ b. cond b (entry_texts table ms) (x ∷ without_text (entry_texts table ms) t) in
        elim (nat_eq l m) as (λ b. nat_eq l m ≡ b → entry_texts table (cond b ms (m ∷ without_number ms l)) ≡ cond (bytes_eq t x) (entry_texts table ms) (x ∷ without_text (entry_texts table ms) t)) [
          | true ↦ λ q. ap test (sym (same-test m a.0 ∙ q))
          | false ↦ λ q. ap (λ r. x ∷ r) (texts-taken ms a.1) ∙ ap test (sym (same-test m a.0 ∙ q))
        ] refl

    unseen-ahead : length table.texts ≤ l → is_seen table.texts t ≡ false
    unseen-ahead late =
        ap (λ x. is_seen x t) (sym (take-append_seam table.texts table.ahead))
        ∙ position-none (bytes_eq t) (take (length table.texts) (entries table))
        (position-take-late (bytes_eq t) (entries table) (length table.texts) l (position-at (entries table) l t once is) late)

    -- there is a number for it
    pub few-shown : (is_seen table.texts t ≡ false → length table.texts < 2 ^ 30) → length table.texts ≤ l → length table.texts < 2 ^ 30
    few-shown h late = h (unseen-ahead late)

pub entries-taken : (n l : ℕ) (ls : List ℕ) → AreEntries n ls → AreEntries n (without_number ls l)
entries-taken n l [] a = tt
entries-taken n l (m ∷ ms) a =
    elim (nat_eq l m) as (λ b. AreEntries n (cond b ms (m ∷ without_number ms l))) [
      | true ↦ a.1
      | false ↦ (a.0, entries-taken n l ms a.1)
    ]
