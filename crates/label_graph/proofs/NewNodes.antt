-- One more node.
use Rattle.std.proofs.Common.{◌≡◌, ℕ, zero, suc, ◌+◌, ◌<◌, ◌^◌, Bool, true, cond, List, [], ◌∷◌, ◌++◌, length, Option, None, Some, refl, sym, ap, ◌∙◌, subst, arith, length-append, drop, map, true≢false, ◌⊎◌, inl, inr, get_or}
use Rattle.std.specs.Prelude.{IsSome, slice_get, is_some, option_and_then}
use Rattle.std.specs.List.{count_by}
use Rattle.std.proofs.lemmas.List.{map-append, length-map, length-take-le}
use Rattle.std.proofs.lemmas.List.Sums.{sum_by-append}
use Rattle.std.proofs.lemmas.Option.{slice_get-get_or}
use Rattle.graph_spec.specs.Changes.{with_node}
use Rattle.label_graph.specs.Nodes.{Node, labels_of, number_at, texts_of, children_of, parents_of, IsKept, KeepsReserved}
use Rattle.label_graph.specs.ReservedGraphs.{graph_by, entry_texts, reserved_by}
use Rattle.label_graph.specs.LabelTable.{LabelTable, entries, with_shown, renumbered}
use Rattle.label_graph.specs.Soundness.{IsSoundGraph, HaveLabelNumbers}
use Rattle.label_graph.proofs.KeepsSound.{edges-same, lists-kept}
use Rattle.label_graph.proofs.ShownLabels.{IsShown, is_shown, get-more, entries-shown, texts-shown}

number-kept : (ls : List (Option ℕ)) (x : Option ℕ) (n : ℕ) → IsSome (number_at ls n) → IsSome (number_at (ls ++ x ∷ []) n)
number-kept [] x n h = absurd (true≢false (sym h))
number-kept (y ∷ ys) x zero h = h
number-kept (y ∷ ys) x (suc n) h = number-kept ys x n h

number-cases : (ls : List (Option ℕ)) (x : Option ℕ) (n m : ℕ) → number_at (ls ++ x ∷ []) n ≡ Some m → (number_at ls n ≡ Some m) ⊎ (x ≡ Some m)
number-cases [] x zero m e = inr e
number-cases [] x (suc n) m e = inl e
number-cases (y ∷ ys) x zero m e = inl e
number-cases (y ∷ ys) x (suc n) m e = number-cases ys x n m e

-- more labels behind them don't change what labels say
pub texts-more : (texts more : List (List ℕ)) (ls : List (Option ℕ)) → ((n l : ℕ) → number_at ls n ≡ Some l → l < length texts) → texts_of (texts ++ more) ls ≡ texts_of texts ls
texts-more texts more [] h = refl
texts-more texts more (None ∷ xs) h = ap (λ r. None ∷ r) (texts-more texts more xs (λ n. h (suc n)))
texts-more texts more (Some l ∷ xs) h = λ i. get-more texts more l (h 0 l refl) i ∷ texts-more texts more xs (λ n. h (suc n)) i

count-push : {X : Type 0} (p : X → Bool) (xs : List X) (y : X) → p y ≡ true → count_by p (xs ++ y ∷ []) ≡ count_by p xs + 1
count-push p xs y e = let step : ◌≡◌ {A = ℕ} (cond (p y) 1 0) 1 = ap (λ b. cond b 1 0) e in omega (arith, sum_by-append (λ x. cond (p x) 1 0) xs (y ∷ []), step)

-- a number below the first ones stays
number-front : (ls : List (Option ℕ)) (x : Option ℕ) (n : ℕ) → n < length ls → number_at (ls ++ x ∷ []) n ≡ number_at ls n
number-front [] x n h = absurd (omega arith)
number-front (y ∷ ys) x zero h = refl
number-front (y ∷ ys) x (suc n) h = number-front ys x n (omega arith)

module _ (table new : LabelTable) (numbers : List (Option ℕ)) (count l : ℕ) (number : ℕ → ℕ) (a : HaveLabelNumbers table numbers count) (s : IsShown table new l number) where
  pushed : texts_of new.texts (numbers ++ Some (number l) ∷ []) ≡ texts_of table.texts numbers ++ slice_get (entries table) l ∷ []
  pushed =
      map-append (option_and_then (slice_get new.texts)) numbers (Some (number l) ∷ [])
      ∙ ap (λ x. texts_of new.texts numbers ++ x ∷ []) s.text
      ∙ ap (λ r. r ++ slice_get (entries table) l ∷ []) (ap (λ t. texts_of t numbers) s.texts ∙ texts-more table.texts s.more numbers a.below)

  pub texts-pushed : (t : List ℕ) → slice_get (entries table) l ≡ Some t → texts_of new.texts (numbers ++ Some (number l) ∷ []) ≡ texts_of table.texts numbers ++ Some t ∷ []
  texts-pushed t e = pushed ∙ ap (λ x. texts_of table.texts numbers ++ x ∷ []) e

  some-text : IsSome (slice_get (entries table) l)
  some-text = ap is_some (sym s.text ∙ slice_get-get_or new.texts (number l) [] s.below)

  pub labels-pushed : length numbers < 2 ^ 30 → HaveLabelNumbers new (numbers ++ Some (number l) ∷ []) (count + 1)
  labels-pushed few = record {
    few_nodes = omega (arith, length-append numbers (Some (number l) ∷ []));
    once = s.once;
    below = λ m k e. elim (number-cases numbers (Some (number l)) m k e) [
      | inl h ↦ omega (arith, a.below m k h, ap length s.texts, length-append table.texts s.more)
      | inr h ↦ let same : number l ≡ k = cc in omega (arith, same, s.below)
    ];
    node_count_is =
        ap (λ c. c + 1) a.node_count_is
        ∙ sym (count-push is_some (texts_of table.texts numbers) (slice_get (entries table) l) some-text)
        ∙ ap (count_by is_some) (sym pushed);
  }

module _ (table : LabelTable) (shown : ℕ) (old new : List Node) (edges count l : ℕ) (ls : List ℕ) (pairs : List (ℕ × ℕ)) (relabels : List ℕ)
    (o : IsSoundGraph table shown old edges count (l ∷ ls) pairs relabels)
    (labels : labels_of (shown + 1) new ≡ labels_of shown old ++ Some (renumbered table l l) ∷ [])
    (children : (w : ℕ) → children_of new w ≡ children_of old w) (parents : (w : ℕ) → parents_of new w ≡ parents_of old w) (r : KeepsReserved old new) where
  s : IsShown table (with_shown table l) l (renumbered table l)
  s = is_shown table l o.labels.once o.reserved.labels.0

  size : length (labels_of shown old) ≡ shown
  size = length-take-le shown (map (λ x. x.label) old) (omega (arith, o.reserved.rows, length-map old (λ x. x.label)))

  kept : (w : ℕ) → IsKept (shown + 1) new w → IsKept shown old w
  kept w k h =
      subst (λ n. IsSome n) (ap (λ n. number_at n w) labels ∙ number-front (labels_of shown old) (Some (renumbered table l l)) w (omega (arith, h, size))) (k (omega (arith, h)))

  pub sound-node : shown < 2 ^ 30
      → IsSoundGraph (with_shown table l) (shown + 1) new edges (count + 1) (map (renumbered table l) ls) pairs (map (renumbered table l) relabels)
  sound-node few = record {
    lists = lists-kept shown (shown + 1) old new edges children parents
        (λ w h. subst (λ n. IsSome (number_at n w)) (sym labels) (number-kept (labels_of shown old) (Some (renumbered table l l)) w h)) o.lists;
    labels = subst (λ n. HaveLabelNumbers (with_shown table l) n (count + 1)) (sym labels)
        (labels-pushed table (with_shown table l) (labels_of shown old) count l (renumbered table l) o.labels s (omega (arith, few, size)));
    reserved = record {
      labels = entries-shown table (with_shown table l) l (renumbered table l) s ls o.reserved.labels.1;
      relabels = entries-shown table (with_shown table l) l (renumbered table l) s relabels o.reserved.relabels;
      rows = omega (arith, o.reserved.rows, r.size, length-map ls (renumbered table l));
      children = λ w k. omega (arith, o.reserved.children w (kept w k), r.child w);
      parents = λ w k. omega (arith, o.reserved.parents w (kept w k), r.parent w);
    };
  }

  -- the graph has one more node, and the label isn't reserved any more
  module _ (t : List ℕ) (texts : List (List ℕ)) (is : entry_texts table (l ∷ ls) ≡ t ∷ texts) where
    text : slice_get (entries table) l ≡ Some t
    text = slice_get-get_or (entries table) l [] o.reserved.labels.0 ∙ ap (λ x. Some (get_or x 0 [])) is

    pub node-added : graph_by (with_shown table l) (shown + 1) new ≡ with_node (graph_by table shown old) t
    node-added i = record {
      allocated = (ap (texts_of (with_shown table l).texts) labels ∙ texts-pushed table (with_shown table l) (labels_of shown old) count l (renumbered table l) o.labels s t text) i;
      edges = edges-same old new children i;
      seen = s.seen t text i;
    }

    pub label-taken : reserved_by (with_shown table l) (map (renumbered table l) ls) pairs (map (renumbered table l) relabels)
        ≡ record { labels = texts; pairs = pairs; relabels = entry_texts table relabels }
    label-taken i = record {
      labels = (texts-shown table (with_shown table l) l (renumbered table l) s ls o.reserved.labels.1 ∙ ap (λ x. drop 1 x) is) i;
      pairs = pairs;
      relabels = texts-shown table (with_shown table l) l (renumbered table l) s relabels o.reserved.relabels i;
    }
