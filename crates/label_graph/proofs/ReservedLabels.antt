-- The labels that are reserved, by their numbers.
use Rattle.std.proofs.Common.{◌≡◌, ℕ, zero, suc, ◌<◌, ◌≤◌, Bool, true, false, List, [], ◌∷◌, ◌++◌, length, Some, refl, sym, ap, ◌∙◌, arith, get_or, append_assoc, length-append}
use Rattle.std.specs.Prelude.{if◌then◌else◌, slice_get, slice_index_or}
use Rattle.std.specs.List.{remove}
use Rattle.std.proofs.lemmas.List.{map-append}
use Rattle.std.proofs.lemmas.Option.{get_or_from_slice_get, slice_get_within}
use Rattle.graph_spec.specs.Graphs.{is_seen}
use Rattle.label_graph.specs.LabelTable.{LabelTable, entries, with_ahead, AreEntries}
use Rattle.label_graph.specs.ReservedGraphs.{entry_texts, reserved_by, with_reserved_label, with_reserved_relabel}

-- there are more entries
pub entries-more : (n m : ℕ) (ls : List ℕ) → n ≤ m → AreEntries n ls → AreEntries m ls
entries-more n m [] h a = tt
entries-more n m (l ∷ ls) h a = (omega (arith, h, a.0), entries-more n m ls h a.1)

-- one more number
pub entries-push : (n l : ℕ) (ls : List ℕ) → AreEntries n ls → l < n → AreEntries n (ls ++ l ∷ [])
entries-push n l [] a h = (h, tt)
entries-push n l (m ∷ ms) a h = (a.0, entries-push n l ms a.1 h)

get-front : (xs ys : List (List ℕ)) (l : ℕ) → l < length xs → get_or (xs ++ ys) l [] ≡ get_or xs l []
get-front [] ys l h = absurd (omega arith)
get-front (x ∷ xs) ys zero h = refl
get-front (x ∷ xs) ys (suc l) h = get-front xs ys l (omega arith)

-- the first number, and the others
pub first-label : (xs new : List ℕ) (l : ℕ) → 0 < length xs → l ≡ slice_index_or xs 0 l → new ≡ remove xs 0 → xs ≡ l ∷ new
first-label [] new l h v n = absurd (omega (arith, h))
first-label (x ∷ xs) new l h v n = λ i. sym v i ∷ sym n i

-- one more label is reserved
module _ (table : LabelTable) (t : List ℕ) where
  abbrev after : Bool → LabelTable
  after b = record { texts = table.texts; ahead = if b then table.ahead else (table.ahead ++ t ∷ []) }

  more-entries : (b : Bool) → length (entries table) ≤ length (entries (after b))
  more-entries true = omega arith
  more-entries false = omega (arith, length-append table.texts table.ahead, length-append table.texts (table.ahead ++ t ∷ []), length-append table.ahead (t ∷ []))

  get-kept : (b : Bool) (l : ℕ) → l < length (entries table) → get_or (entries (after b)) l [] ≡ get_or (entries table) l []
  get-kept true l h = refl
  get-kept false l h = ap (λ e. get_or e l []) (sym (append_assoc table.texts table.ahead (t ∷ []))) ∙ get-front (entries table) (t ∷ []) l h

  pub texts-kept : (ls : List ℕ) → AreEntries (length (entries table)) ls → entry_texts (with_ahead table t) ls ≡ entry_texts table ls
  texts-kept [] a i = []
  texts-kept (l ∷ ls) a i = get-kept (is_seen (entries table) t) l a.0 i ∷ texts-kept ls a.1 i

  pub entries-kept : (ls : List ℕ) → AreEntries (length (entries table)) ls → AreEntries (length (entries (with_ahead table t))) ls
  entries-kept ls a = entries-more (length (entries table)) (length (entries (with_ahead table t))) ls (more-entries (is_seen (entries table) t)) a

  module _ (l : ℕ) (e : slice_get (entries (with_ahead table t)) l ≡ Some t) where
    pub entries-new : (ls : List ℕ) → AreEntries (length (entries table)) ls → AreEntries (length (entries (with_ahead table t))) (ls ++ l ∷ [])
    entries-new ls a = entries-push (length (entries (with_ahead table t))) l ls (entries-kept ls a) (slice_get_within (entries (with_ahead table t)) l t e)

    texts-new : (ls : List ℕ) → AreEntries (length (entries table)) ls → entry_texts (with_ahead table t) (ls ++ l ∷ []) ≡ entry_texts table ls ++ t ∷ []
    texts-new ls a =
        map-append (λ m. get_or (entries (with_ahead table t)) m []) ls (l ∷ [])
        ∙ ap (λ x. entry_texts (with_ahead table t) ls ++ x ∷ []) (get_or_from_slice_get (entries (with_ahead table t)) l t [] e)
        ∙ ap (λ x. x ++ t ∷ []) (texts-kept ls a)

    module _ (numbers : List ℕ) (pairs : List (ℕ × ℕ)) (relabels : List ℕ) (a : AreEntries (length (entries table)) numbers) (b : AreEntries (length (entries table)) relabels) where
      pub label-reserved : reserved_by (with_ahead table t) (numbers ++ l ∷ []) pairs relabels ≡ with_reserved_label (reserved_by table numbers pairs relabels) t
      label-reserved i = record { labels = texts-new numbers a i; pairs = pairs; relabels = texts-kept relabels b i }

      pub relabel-reserved : reserved_by (with_ahead table t) numbers pairs (relabels ++ l ∷ []) ≡ with_reserved_relabel (reserved_by table numbers pairs relabels) t
      relabel-reserved i = record { labels = texts-kept numbers a i; pairs = pairs; relabels = texts-new relabels b i }
