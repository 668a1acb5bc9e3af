-- A node gets another label.
use Rattle.std.proofs.Common.{◌≡◌, ℕ, zero, suc, ◌<◌, true, cond, List, [], ◌∷◌, length, Option, None, Some, refl, sym, ap, ◌∙◌, subst, arith, IsTrue, true≢false, length-append, length-set, map, ◌⊎◌, inl, inr}
use Rattle.std.specs.Prelude.{slice_get, slice_set, is_some, IsSome, option_and_then}
use Rattle.std.specs.List.{count_by}
use Rattle.std.proofs.lemmas.List.{map-set, length-map}
use Rattle.std.proofs.lemmas.List.Sums.{sum_by-cons}
use Rattle.graph_spec.specs.Graphs.{is_live}
use Rattle.change_spec.specs.Steps.{labelled}
use Rattle.label_graph.specs.Nodes.{Node, labels_of, number_at, texts_of, children_of, parents_of, IsLive, IsKept, KeepsReserved}
use Rattle.label_graph.specs.ReservedGraphs.{graph_by, reserved_by, without_reserved_relabel}
use Rattle.label_graph.specs.LabelTable.{LabelTable, entries, with_shown, renumbered, without_number}
use Rattle.label_graph.specs.Soundness.{IsSoundGraph, HaveLabelNumbers}
use Rattle.label_graph.proofs.KeepsSound.{edges-same, lists-kept}
use Rattle.label_graph.proofs.Additions.{live-number}
use Rattle.label_graph.proofs.NewNodes.{texts-more}
use Rattle.label_graph.proofs.ShownLabels.{IsShown, is_shown, entries-shown, texts-shown}
use Rattle.label_graph.proofs.TakenNumbers.{texts-taken, entries-taken}

-- a number is written where there was one
some-set : (ls : List (Option ℕ)) (u k w : ℕ) → IsSome (number_at ls w) → IsSome (number_at (slice_set ls u (Some k)) w)
some-set [] u k w h = h
some-set (x ∷ xs) zero k zero h = refl
some-set (x ∷ xs) zero k (suc w) h = h
some-set (x ∷ xs) (suc u) k zero h = h
some-set (x ∷ xs) (suc u) k (suc w) h = some-set xs u k w h

some-before : (ls : List (Option ℕ)) (u k w : ℕ) → IsSome (number_at ls u) → IsSome (number_at (slice_set ls u (Some k)) w) → IsSome (number_at ls w)
some-before [] u k w live h = h
some-before (x ∷ xs) zero k zero live h = live
some-before (x ∷ xs) zero k (suc w) live h = h
some-before (x ∷ xs) (suc u) k zero live h = h
some-before (x ∷ xs) (suc u) k (suc w) live h = some-before xs u k w live h

set-cases : (ls : List (Option ℕ)) (u k w m : ℕ) → number_at (slice_set ls u (Some k)) w ≡ Some m → (number_at ls w ≡ Some m) ⊎ (k ≡ m)
set-cases [] u k w m e = inl e
set-cases (x ∷ xs) zero k zero m e = inr (let same : Some k ≡ Some m = e in cc)
set-cases (x ∷ xs) zero k (suc w) m e = inl e
set-cases (x ∷ xs) (suc u) k zero m e = inl e
set-cases (x ∷ xs) (suc u) k (suc w) m e = set-cases xs u k w m e

count-set : (texts : List (Option (List ℕ))) (u : ℕ) (t : List ℕ) → is_some (option_and_then (λ l. l) (slice_get texts u)) ≡ true → count_by is_some (slice_set texts u (Some t)) ≡ count_by is_some texts
count-set [] u t h = absurd (true≢false (sym h))
count-set (None ∷ xs) zero t h = absurd (true≢false (sym h))
count-set (Some x ∷ xs) zero t h = omega (arith, sum_by-cons (λ y. cond (is_some y) 1 0) (Some t) xs, sum_by-cons (λ y. cond (is_some y) 1 0) (Some x) xs)
count-set (y ∷ xs) (suc u) t h =
    omega (arith, sum_by-cons (λ y. cond (is_some y) 1 0) y (slice_set xs u (Some t)), sum_by-cons (λ y. cond (is_some y) 1 0) y xs, count-set xs u t h)

module _ (table new : LabelTable) (numbers : List (Option ℕ)) (count u l : ℕ) (t : List ℕ) (number : ℕ → ℕ) (a : HaveLabelNumbers table numbers count) (s : IsShown table new l number)
    (is : slice_get (entries table) l ≡ Some t) where
  pub texts-set : texts_of new.texts (slice_set numbers u (Some (number l))) ≡ slice_set (texts_of table.texts numbers) u (Some t)
  texts-set =
      map-set (option_and_then (slice_get new.texts)) numbers u (Some (number l))
      ∙ ap (slice_set (texts_of new.texts numbers) u) (s.text ∙ is)
      ∙ ap (λ r. slice_set r u (Some t)) (ap (λ x. texts_of x numbers) s.texts ∙ texts-more table.texts s.more numbers a.below)

  pub labels-set : is_some (option_and_then (λ l. l) (slice_get (texts_of table.texts numbers) u)) ≡ true → HaveLabelNumbers new (slice_set numbers u (Some (number l))) count
  labels-set live =
      let x : Option ℕ = Some (number l) in
      record {
        few_nodes = omega (arith, a.few_nodes, length-set numbers u x);
        once = s.once;
        below = λ n m e. elim (set-cases numbers u (number l) n m e) [
          | inl h ↦ omega (arith, a.below n m h, ap length s.texts, length-append table.texts s.more)
          | inr h ↦ omega (arith, h, s.below)
        ];
        node_count_is = a.node_count_is ∙ sym (count-set (texts_of table.texts numbers) u t live) ∙ ap (count_by is_some) (sym texts-set);
      }

module _ (table : LabelTable) (shown : ℕ) (old new : List Node) (edges count u l : ℕ) (t : List ℕ) (numbers : List ℕ) (pairs : List (ℕ × ℕ)) (relabels : List ℕ)
    (o : IsSoundGraph table shown old edges count numbers pairs relabels) (entry : l < length (entries table)) (is : slice_get (entries table) l ≡ Some t)
    (live : IsTrue (is_live (graph_by table shown old) u)) (labels : labels_of shown new ≡ slice_set (labels_of shown old) u (Some (renumbered table l l)))
    (children : (w : ℕ) → children_of new w ≡ children_of old w) (parents : (w : ℕ) → parents_of new w ≡ parents_of old w) (r : KeepsReserved old new) where
  s : IsShown table (with_shown table l) l (renumbered table l)
  s = is_shown table l o.labels.once entry

  still-live : (w : ℕ) → IsLive shown old w → IsLive shown new w
  still-live w h = subst (λ ls. IsSome (number_at ls w)) (sym labels) (some-set (labels_of shown old) u (renumbered table l l) w h)

  kept : (w : ℕ) → IsKept shown new w → IsKept shown old w
  kept w k h =
      some-before (labels_of shown old) u (renumbered table l l) w (live-number table shown old u live) (subst (λ ls. IsSome (number_at ls w)) labels (k h))

  pub sound-labelled : IsSoundGraph (with_shown table l) shown new edges count (map (renumbered table l) numbers) pairs (map (renumbered table l) (without_number relabels l))
  sound-labelled = record {
    lists = lists-kept shown shown old new edges children parents still-live o.lists;
    labels = subst (λ ls. HaveLabelNumbers (with_shown table l) ls count) (sym labels)
        (labels-set table (with_shown table l) (labels_of shown old) count u l t (renumbered table l) o.labels s is live);
    reserved = record {
      labels = entries-shown table (with_shown table l) l (renumbered table l) s numbers o.reserved.labels;
      relabels = entries-shown table (with_shown table l) l (renumbered table l) s (without_number relabels l) (entries-taken (length (entries table)) l relabels o.reserved.relabels);
      rows = omega (arith, o.reserved.rows, r.size, length-map numbers (renumbered table l));
      children = λ w k. omega (arith, o.reserved.children w (kept w k), r.child w);
      parents = λ w k. omega (arith, o.reserved.parents w (kept w k), r.parent w);
    };
  }

  pub graph-labelled : graph_by (with_shown table l) shown new ≡ labelled (graph_by table shown old) u t
  graph-labelled i = record {
    allocated = (ap (texts_of (with_shown table l).texts) labels ∙ texts-set table (with_shown table l) (labels_of shown old) count u l t (renumbered table l) o.labels s is) i;
    edges = edges-same old new children i;
    seen = s.seen t is i;
  }

  -- the label is reserved once less
  pub reserved-labelled : reserved_by (with_shown table l) (map (renumbered table l) numbers) pairs (map (renumbered table l) (without_number relabels l))
      ≡ without_reserved_relabel (reserved_by table numbers pairs relabels) t
  reserved-labelled i = record {
    labels = texts-shown table (with_shown table l) l (renumbered table l) s numbers o.reserved.labels i;
    pairs = pairs;
    relabels =
        (texts-shown table (with_shown table l) l (renumbered table l) s (without_number relabels l) (entries-taken (length (entries table)) l relabels o.reserved.relabels)
        ∙ texts-taken table t l o.labels.once is relabels o.reserved.relabels) i;
  }
