-- The labels of a file as they are read.
use Rattle.std.proofs.Common.{◌≡◌, ℕ, zero, suc, ◌<◌, ◌≤◌, ◌⊎◌, List, [], ◌∷◌, ◌++◌, length, Some, true, false, refl, sym, ◌∙◌, ap, subst, arith, inl, inr, length-append}
use Rattle.std.specs.Prelude.{slice_get, bytes_eq, position, if◌then◌else◌}
use Rattle.std.proofs.lemmas.Bool.{lt-leb, le-leb}
use Rattle.graph_spec.specs.Graphs.{is_seen}
use Rattle.label_graph.proofs.Positions.{present, text-at, position-at}
use Rattle.label_graph.proofs.Tables.{distinct-more}
use Rattle.path_query.specs.Labels.{SpellsLabel}
use Rattle.index_file.specs.ReadLabels.{AreReadLabels, IsInterned, IsNumbered, is_too_many}

-- a text of a list with one more is one of those before, or the new one
get_cases : (texts : List (List ℕ)) (t : List ℕ) (l : ℕ) (u : List ℕ) → slice_get (texts ++ t ∷ []) l ≡ Some u → (slice_get texts l ≡ Some u) ⊎ (t ≡ u)
get_cases [] t zero u e = inr (let z : Some t ≡ Some u = e in cc)
get_cases [] t (suc l) u e = absurd (cc)
get_cases (x ∷ xs) t zero u e = inl e
get_cases (x ∷ xs) t (suc l) u e = get_cases xs t l u e

get_last : (texts : List (List ℕ)) (t : List ℕ) → slice_get (texts ++ t ∷ []) (length texts) ≡ Some t
get_last [] t = refl
get_last (x ∷ xs) t = get_last xs t

-- a new label
pub labels_more : (texts : List (List ℕ)) (t : List ℕ) → AreReadLabels texts → is_seen texts t ≡ false → length texts < 4294967295 → SpellsLabel t t → AreReadLabels (texts ++ t ∷ [])
labels_more texts t a unseen few s = record {
  once = distinct-more texts t a.once unseen;
  few = (let e = length-append texts (t ∷ []) in omega (arith, few, e));
  spelled = λ l u e. elim (get_cases texts t l u e) [
    | inl there ↦ a.spelled l u there
    | inr same ↦ subst (λ x. SpellsLabel x x) same s
  ];
}

pub interned_old : (label : List ℕ) (most : ℕ) (old new : List (List ℕ)) (l : ℕ) → position (bytes_eq label) old ≡ Some l → new ≡ old → IsInterned label most old new l
interned_old label most old new l e same =
    let seen : is_seen old label ≡ true = present (bytes_eq label) old l e in
    record {
      fits = rw seen refl;
      kept = same ∙ ap (λ b. if b then old else (old ++ label ∷ [])) (sym seen);
      placed = ap (λ s. slice_get s l) same ∙ text-at label old l e;
    }

pub interned_new : (label : List ℕ) (most : ℕ) (old new : List (List ℕ)) (l : ℕ) → is_seen old label ≡ false → length old < most → new ≡ old ++ label ∷ [] → l ≡ length old
    → IsInterned label most old new l
interned_new label most old new l unseen few more number = record {
  fits = (let off = lt-leb most (length old) few in rw (unseen, off) refl);
  kept = more ∙ ap (λ b. if b then old else (old ++ label ∷ [])) (sym unseen);
  placed = ap (λ s. slice_get s l) more ∙ ap (slice_get (old ++ label ∷ [])) number ∙ get_last old label;
}

pub too_many : (label : List ℕ) (most : ℕ) (old : List (List ℕ)) → is_seen old label ≡ false → most ≤ length old → is_too_many most old label ≡ true
too_many label most old unseen many = (let on = le-leb most (length old) many in rw (unseen, on) refl)

-- a word that is the text of a label spells it
pub numbered_hinted : (word : List ℕ) (most : ℕ) (texts : List (List ℕ)) (l : ℕ) → AreReadLabels texts → slice_get texts l ≡ Some word → IsNumbered word most texts texts l
numbered_hinted word most texts l a e = record {
  label = word;
  spelled = a.spelled l word e;
  interned = interned_old word most texts texts l (position-at texts l word a.once e) refl;
}
