-- The file of a graph and of the indexes that are kept of it is spelled, and holds these.
use Rattle.std.proofs.Common.{◌≡◌, ℕ, zero, suc, ◌+◌, ◌<◌, List, [], ◌∷◌, ◌++◌, length, map, Option, Some, None, Bool, true, false, true≢false, refl, sym, ◌∙◌, ap, subst, arith, inl, inr, append_assoc}
use Rattle.std.specs.Prelude.{slice_get, option_map, ◌&&◌, if◌then◌else◌}
use Rattle.std.proofs.lemmas.Bool.{le-leb}
use Rattle.std.proofs.lemmas.Option.{slice_get-map}
use Rattle.graph_spec.specs.Graphs.{Graph}
use Rattle.graph_spec.specs.Shapes.{Shape, IsNode, shape_of}
use Rattle.graph_spec.specs.Members.{at}
use Rattle.graph_spec.proofs.GraphLaws.{is_shape}
use Rattle.bisim_spec.specs.declared.kind.Kind.TheVariants as kind
use Rattle.bisim_spec.specs.Bisimilarity.{node_count}
use Rattle.bisim_spec.proofs.Bisimilar.{some_of, bis_self, bis_sym, bis_trans, both_self, both_sym, both_trans}
use Rattle.bisim_spec.proofs.Together.{together_sym, together_trans}
use Rattle.index_api.specs.declared.kinds.Via.{Via}
use Rattle.index_api.specs.declared.kinds.Via.TheVariants.{Data, A, One, Fb, B}
use Rattle.index_api.specs.IndexOrder.{levels_below, all_indexes}
use Rattle.index_api.specs.IndexKinds.{KeptIndexes, has_kind, is_kept, Relates}
use Rattle.extent_report.specs.ListedBlocks.{DecidesEach}
use Rattle.extent_report.specs.PrintedLists.{ShowsIndex}
use Rattle.index_file.specs.SavedFiles.{SavedFile, SavedView}
use Rattle.index_file.specs.SavedIndexes.{SavesIndex, SavesIndexes, count_kept, SavesFile}
use Rattle.index_file.specs.Reads.{Spelled}
use Rattle.index_file.specs.WrittenFiles.{head_text, view_text}
use Rattle.index_file.specs.WholeFiles.{TestedView, views_text, file_text, saved_view, saved_file_of, indexes_of, IsEquivalence, IsKeptView, IsFileOf, CanBeSaved}
use Rattle.index_file.proofs.TestedRanks.{blocks_agree}
use Rattle.index_file.proofs.SpelledFiles.{file_spelled}

-- ---- which indexes are kept

-- those of them that are kept
abbrev kept_among : KeptIndexes → List Via → List Via
kept_among kept [] = []
kept_among kept (via ∷ vias) = if is_kept kept via then via ∷ kept_among kept vias else kept_among kept vias

among_both : (kept : KeptIndexes) (xs ys : List Via) → kept_among kept (xs ++ ys) ≡ kept_among kept xs ++ kept_among kept ys
among_both kept [] ys = refl
among_both kept (x ∷ xs) ys =
    ap (λ zs. if is_kept kept x then x ∷ zs else zs) (among_both kept xs ys) ∙ put (is_kept kept x) (kept_among kept xs) (kept_among kept ys)
  where
    put : (b : Bool) (p q : List Via) → (if b then x ∷ (p ++ q) else (p ++ q)) ≡ (if b then x ∷ p else p) ++ q
    put true p q = refl
    put false p q = refl

and_true : (b : Bool) → (b && true) ≡ b
and_true true = refl
and_true false = refl

among_levels : (kept : KeptIndexes) (at_level : ℕ → Via) (b : Bool) (n : ℕ) → ((i : ℕ) → i < n → is_kept kept (at_level i) ≡ b)
    → kept_among kept (levels_below at_level n) ≡ (if b then levels_below at_level n else [])
among_levels kept at_level b zero all = none b
  where
    none : (c : Bool) → [] ≡ (if c then levels_below at_level 0 else [])
    none true = refl
    none false = refl
among_levels kept at_level b (suc n) all =
    among_both kept (levels_below at_level n) (at_level n ∷ [])
    ∙ ap (λ xs. xs ++ kept_among kept (at_level n ∷ [])) (among_levels kept at_level b n (λ i l. all i (omega (arith, l))))
    ∙ ap (λ c. (if b then levels_below at_level n else []) ++ (if c then at_level n ∷ [] else [])) (all n (omega arith))
    ∙ one_more b
  where
    one_more : (c : Bool) → (if c then levels_below at_level n else []) ++ (if c then at_level n ∷ [] else []) ≡ (if c then levels_below at_level (suc n) else [])
    one_more true = refl
    one_more false = refl

in_front : (b : Bool) (x : Via) (xs : List Via) → (if b then x ∷ xs else xs) ≡ (if b then x ∷ [] else []) ++ xs
in_front true x xs = refl
in_front false x xs = refl

kept_all : (kept : KeptIndexes) → kept_among kept (all_indexes kept.k) ≡ indexes_of kept.kinds kept.k
kept_all kept =
    among_both kept (levels_below A (suc kept.k)) (One ∷ Fb ∷ levels_below B (suc kept.k))
    ∙ ap (λ xs. xs ++ kept_among kept (One ∷ Fb ∷ levels_below B (suc kept.k)))
    (among_levels kept A (has_kind kept.kinds kind.A) (suc kept.k) (λ i l. ap (λ b. has_kind kept.kinds kind.A && b) (le-leb i kept.k (omega (arith, l))) ∙ and_true (has_kind kept.kinds kind.A)))
    ∙ ap (λ xs. levels ++ xs) (in_front (has_kind kept.kinds kind.One) One (kept_among kept (Fb ∷ levels_below B (suc kept.k))))
    ∙ ap (λ xs. levels ++ (ones ++ xs)) (in_front (has_kind kept.kinds kind.Fb) Fb (kept_among kept (levels_below B (suc kept.k))))
    ∙ ap (λ xs. levels ++ (ones ++ (fbs ++ xs)))
    (among_levels kept B (has_kind kept.kinds kind.B) (suc kept.k) (λ i l. ap (λ b. has_kind kept.kinds kind.B && b) (le-leb i kept.k (omega (arith, l))) ∙ and_true (has_kind kept.kinds kind.B)))
    ∙ sym (append_assoc (levels ++ ones) fbs bs ∙ append_assoc levels ones (fbs ++ bs))
  where
    levels : List Via
    levels = if has_kind kept.kinds kind.A then levels_below A (suc kept.k) else []

    ones : List Via
    ones = if has_kind kept.kinds kind.One then One ∷ [] else []

    fbs : List Via
    fbs = if has_kind kept.kinds kind.Fb then Fb ∷ [] else []

    bs : List Via
    bs = if has_kind kept.kinds kind.B then levels_below B (suc kept.k) else []

-- ---- what is saved of them

-- the text is that of these views, one for each index that is kept
record AreSavedAs (g : Graph) (kept : KeptIndexes) (vias : List Via) (text : List ℕ) : Type 0 where
  views : List TestedView
  text_is : views_text (shape_of g) views ≡ text
  count : length views ≡ count_kept kept vias
  vias_are : map (λ v. v.via) views ≡ kept_among kept vias
  shown : (j : ℕ) (v : TestedView) → slice_get views j ≡ Some v → ShowsIndex g kept v.via v.test

one_tested : (a b : TestedView) → Some a ≡ Some b → a ≡ b
one_tested a b e = cc

saved_as : (g : Graph) (kept : KeptIndexes) (vias : List Via) (text : List ℕ) → SavesIndexes g kept vias text → AreSavedAs g kept vias text
saved_as g kept [] text e = record { views = []; text_is = sym e; count = refl; vias_are = refl; shown = λ j v none. absurd (let z : None ≡ Some v = none in cc) }
saved_as g kept (via ∷ vias) text (lines, rest, this, others, e) = by this (saved_as g kept vias rest others)
  where
    by : SavesIndex g kept via lines → AreSavedAs g kept vias rest → AreSavedAs g kept (via ∷ vias) text
    by (inl view) more = record {
      views = record { via = via; test = view.test } ∷ more.views;
      text_is = ap (λ x. view_text (shape_of g) view.test via ++ x) more.text_is ∙ ap (λ x. x ++ rest) (sym view.lines_are) ∙ sym e;
      count = ap suc more.count ∙ sym (ap (λ b. (if b then 1 else 0) + count_kept kept vias) view.shows.is_kept ∙ one_more (count_kept kept vias));
      vias_are = ap (λ xs. via ∷ xs) more.vias_are ∙ sym (ap (λ b. if b then via ∷ kept_among kept vias else kept_among kept vias) view.shows.is_kept);
      shown = at_place;
    }
      where
        one_more : (n : ℕ) → 1 + n ≡ suc n
        one_more n = omega arith

        at_place : (j : ℕ) (v : TestedView) → slice_get (record { via = via; test = view.test } ∷ more.views) j ≡ Some v → ShowsIndex g kept v.via v.test
        at_place zero v same = subst (λ (x : TestedView). ShowsIndex g kept x.via x.test) (one_tested (record { via = via; test = view.test }) v same) view.shows
        at_place (suc j) v same = more.shown j v same
    by (inr (off, none)) more = record {
      views = more.views;
      text_is = more.text_is ∙ ap (λ x. x ++ rest) (sym none) ∙ sym e;
      count = more.count ∙ sym (ap (λ b. (if b then 1 else 0) + count_kept kept vias) off ∙ nothing_more (count_kept kept vias));
      vias_are = more.vias_are ∙ sym (ap (λ b. if b then via ∷ kept_among kept vias else kept_among kept vias) off);
      shown = more.shown;
    }
      where
        nothing_more : (n : ℕ) → 0 + n ≡ n
        nothing_more n = omega arith

-- ---- each index groups the nodes by an equivalence

by_relation : (s : Shape) (r : ℕ → ℕ → Bool) (R : ℕ → ℕ → Type 0) → DecidesEach r R → ((u : ℕ) → IsNode s u → R u u) → ((u v : ℕ) → R u v → R v u)
    → ((u v w : ℕ) → R u v → R v w → R u w) → IsEquivalence s r
by_relation s r R d self turned linked = record {
  reflexive = λ u n. (d u u).1 (self u n);
  symmetric = λ u v nu nv h. (d v u).1 (turned u v ((d u v).0 h));
  transitive = λ u v w nu nv nw h k. (d u w).1 (linked u v w ((d u v).0 h) ((d v w).0 k));
}

shown_test : (g : Graph) (kept : KeptIndexes) (can : CanBeSaved g kept) (via : Via) (r : ℕ → ℕ → Bool) → ShowsIndex g kept via r → IsEquivalence (shape_of g) r
shown_test g kept can Data r s = absurd (true≢false (sym s.is_kept))
shown_test g kept can (A level) r s =
    by_relation (shape_of g) r (Relates g kept (A level)) s.decides (bis_self (shape_of g) (is_shape g can.graph) level) (bis_sym (shape_of g) level) (bis_trans (shape_of g) level)
shown_test g kept can One r s =
    let p = (can.one s.is_kept).stable.partition in
    by_relation (shape_of g) r (Relates g kept One) s.decides (λ u n. let b = some_of (at kept.one u) (p.live u n) in (b.0, b.1, b.1)) (together_sym kept.one) (together_trans kept.one)
shown_test g kept can Fb r s =
    let n = node_count (shape_of g) in
    by_relation (shape_of g) r (Relates g kept Fb) s.decides (both_self (shape_of g) (is_shape g can.graph) n) (both_sym (shape_of g) n) (both_trans (shape_of g) n)
shown_test g kept can (B level) r s =
    by_relation (shape_of g) r (Relates g kept (B level)) s.decides (both_self (shape_of g) (is_shape g can.graph) level) (both_sym (shape_of g) level) (both_trans (shape_of g) level)

-- ---- the file

vias_saved : (s : Shape) (views : List TestedView) → map (λ v. v.via) (map (saved_view s) views) ≡ map (λ v. v.via) views
vias_saved s [] = refl
vias_saved s (v ∷ views) = ap (λ xs. v.via ∷ xs) (vias_saved s views)

kept_view : (g : Graph) (kept : KeptIndexes) → CanBeSaved g kept → (views : List TestedView) → ((j : ℕ) (v : TestedView) → slice_get views j ≡ Some v → ShowsIndex g kept v.via v.test)
    → (j : ℕ) (v : SavedView) → slice_get (map (saved_view (shape_of g)) views) j ≡ Some v → IsKeptView g kept v
kept_view g kept can views shown j v e = by (slice_get views j) refl
  where
    one_saved : (a b : SavedView) → Some a ≡ Some b → a ≡ b
    one_saved a b same = cc

    by : (o : Option TestedView) → slice_get views j ≡ o → IsKeptView g kept v
    by None none = absurd (let z : None ≡ Some v = sym (slice_get-map (saved_view (shape_of g)) views j ∙ ap (option_map (saved_view (shape_of g))) none) ∙ e in cc)
    by (Some x) some =
        let same = one_saved (saved_view (shape_of g) x) v (sym (slice_get-map (saved_view (shape_of g)) views j ∙ ap (option_map (saved_view (shape_of g))) some) ∙ e) in
        let s = shown j x some in
        subst (IsKeptView g kept) same (record {
          there = s.is_kept;
          agrees = blocks_agree (shape_of g) x.test (Relates g kept x.via) (is_shape g can.graph) (shown_test g kept can x.via x.test s) s.decides;
        })

-- What is saved is an index file, and it holds the graph and the indexes that are kept.
pub saved_spelled : (g : Graph) (kept : KeptIndexes) (text : List ℕ) → CanBeSaved g kept → SavesFile g kept text
    → (file : SavedFile) × Spelled text file × IsFileOf g kept file
saved_spelled g kept text can (lines, saves, e) =
    let v = saved_as g kept (all_indexes kept.k) lines saves in
    let indexes = v.vias_are ∙ kept_all kept in
    let whole : file_text g kept.k v.views ≡ text =
    ap (λ n. head_text g kept.k n ++ views_text (shape_of g) v.views) v.count
    ∙ ap (λ x. head_text g kept.k (count_kept kept (all_indexes kept.k)) ++ x) v.text_is ∙ sym e in
    let file = saved_file_of g kept.k v.views in (
      file,
      subst (λ t. Spelled t file) whole
          (file_spelled g kept.k v.views can.graph can.numbers (record {
            level = can.level;
            labels = can.labels;
            kinds = kept.kinds;
            indexes = indexes;
            tests = λ j x some. shown_test g kept can x.via x.test (v.shown j x some);
          })),
      record {
        graph = refl;
        level = refl;
        indexes = vias_saved (shape_of g) v.views ∙ indexes;
        views = kept_view g kept can v.views v.shown;
      },
    )
