-- The test for walks that show why a node answers decides the definition.
use Rattle.std.proofs.Common.{◌≡◌, ℕ, List, [], ◌∷◌, map, true, Option, Some, None, refl, sym, ap, ◌∙◌, true≢false}
use Rattle.std.specs.Prelude.{◌&&◌, ◌↔◌}
use Rattle.std.proofs.lemmas.Bool.{and_from, and_parts, eqb-true, eq-eqb}
use Rattle.graph_spec.specs.Shapes.{Shape}
use Rattle.path_spec.specs.Trees.{Expr}
use Rattle.path_spec.specs.Matches.{Word, Matches}
use Rattle.path_spec.proofs.WordTests.{says}
use Rattle.walk_spec.specs.LeastWalks.{AreLinked, EndIn, Shows}
use Rattle.walk_spec.specs.Tests.{labelled, word_of, are_linked, end_in, word_matches, shows}

linked_is : (s : Shape) (nodes : List ℕ) → are_linked s nodes ≡ true → AreLinked s nodes
linked_is s [] h = tt
linked_is s (u ∷ []) h = tt
linked_is s (u ∷ c ∷ nodes) h = let k = and_parts (s.edge u c) (are_linked s (c ∷ nodes)) h in (k.0, linked_is s (c ∷ nodes) k.1)

is_linked : (s : Shape) (nodes : List ℕ) → AreLinked s nodes → are_linked s nodes ≡ true
is_linked s [] h = refl
is_linked s (u ∷ []) h = refl
is_linked s (u ∷ c ∷ nodes) h = and_from (s.edge u c) (are_linked s (c ∷ nodes)) h.0 (is_linked s (c ∷ nodes) h.1)

end_is : (nodes : List ℕ) (v : ℕ) → end_in nodes v ≡ true → EndIn nodes v
end_is [] v h = absurd (true≢false (sym h))
end_is (u ∷ []) v h = eqb-true u v h
end_is (u ∷ c ∷ nodes) v h = end_is (c ∷ nodes) v h

is_end : (nodes : List ℕ) (v : ℕ) → EndIn nodes v → end_in nodes v ≡ true
is_end [] v h = absurd h
is_end (u ∷ []) v h = eq-eqb u v h
is_end (u ∷ c ∷ nodes) v h = is_end (c ∷ nodes) v h

-- one more label in front
front_labelled : (o : Option (List ℕ)) (p : Option Word) (os : List (Option (List ℕ))) (w : Word) → ((x : Word) → p ≡ Some x → os ≡ map Some x) → labelled o p ≡ Some w
    → (o ∷ os) ≡ map Some w
front_labelled None p os w h e = let k : ◌≡◌ {A = Option Word} None (Some w) = e in cc
front_labelled (Some t) None os w h e = let k : ◌≡◌ {A = Option Word} None (Some w) = e in cc
front_labelled (Some t) (Some x) os w h e =
    let k : ◌≡◌ {A = Option Word} (Some (t ∷ x)) (Some w) = e in
    let same : t ∷ x ≡ w = cc in
    ap (λ r. Some t ∷ r) (h x refl) ∙ ap (λ r. map Some r) same

word_is : (s : Shape) (nodes : List ℕ) (w : Word) → word_of s nodes ≡ Some w → map s.label nodes ≡ map Some w
word_is s [] w h = let same : [] ≡ w = cc in ap (λ r. map Some r) same
word_is s (u ∷ nodes) w h = front_labelled (s.label u) (word_of s nodes) (map s.label nodes) w (λ x e. word_is s nodes x e) h

is_word : (s : Shape) (nodes : List ℕ) (w : Word) → map s.label nodes ≡ map Some w → word_of s nodes ≡ Some w
is_word s [] [] h = refl
is_word s [] (t ∷ w) h = absurd (cc)
is_word s (u ∷ nodes) [] h = absurd (cc)
is_word s (u ∷ nodes) (t ∷ w) h =
    let k : s.label u ≡ Some t = cc in
    let m : map s.label nodes ≡ map Some w = cc in
    ap (λ o. labelled o (word_of s nodes)) k ∙ ap (λ p. labelled (Some t) p) (is_word s nodes w m)

matched : (e : Expr) (o : Option Word) → word_matches e o ≡ true → (w : Word) × (o ≡ Some w) × Matches e w
matched e None h = absurd (true≢false (sym h))
matched e (Some w) h = (w, refl, (says e).yes_is w h)

-- the test is passed by just the walks that show it
pub shows_is : (s : Shape) (e : Expr) (v : ℕ) (nodes : List ℕ) → (shows s e v nodes ≡ true) ↔ Shows s e v nodes
shows_is s e v nodes = (
  λ h.
      let a = and_parts (are_linked s nodes) (end_in nodes v && word_matches e (word_of s nodes)) h in
      let b = and_parts (end_in nodes v) (word_matches e (word_of s nodes)) a.1 in
      let m = matched e (word_of s nodes) b.1 in
      record { word = m.0; labels = word_is s nodes m.0 m.1; linked = linked_is s nodes a.0; end = end_is nodes v b.0; matches = m.2 },
  λ h.
      let m = ap (word_matches e) (is_word s nodes h.word h.labels) ∙ (says e).is_yes h.word h.matches in
      and_from (are_linked s nodes) (end_in nodes v && word_matches e (word_of s nodes)) (is_linked s nodes h.linked)
      (and_from (end_in nodes v) (word_matches e (word_of s nodes)) (is_end nodes v h.end) m),
)
