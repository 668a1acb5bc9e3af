-- A made graph file is within the limits, and each line of it spells a triple.
use Rattle.std.proofs.Common.{◌≡◌, ◌∙◌, ◌<◌, ◌≤◌, ◌*◌, ◌^◌, ℕ, zero, suc, true, false, List, [], ◌∷◌, ◌++◌, length, length-append, map, Some, refl, sym, ap, rules, arith, lit<, subst, if◌then◌else◌}
use Rattle.std.specs.Prelude.{codes, decimal, slice_get}
use Rattle.std.specs.List.{list_all}
use Rattle.std.proofs.lemmas.Fmt.{length-decimal-le}
use Rattle.px_base.specs.declared.lines.TheConstants.{GRAPH_BYTES, LINE_BYTES}
use Rattle.graph_spec.specs.Lines.{Line, cut}
use Rattle.graph_spec.proofs.LineLemmas.{cut-feed}
use Rattle.triples_read.specs.Lines.{SpellsTriple}
use Rattle.triples_read.specs.declared.term.Triple.{Triple}
use Rattle.workload.specs.Generator.{state_after}
use Rattle.workload.specs.MadeTexts.{after_line, graph_line, graph_lines, is_node_at, lines_text, made_graph_text, node_term, object_at, object_term, predicate_at, predicate_term, subject_at, triple_line, value_at, value_term}
use Rattle.workload_spec.proofs.GraphLines.{drawn_small, graph_spelled}
use Rattle.workload_spec.proofs.Plain.{all_linked, ink_decimal, is_plain, plain_ink, uncut}

-- a short line without an end in it
record IsShort (line : List ℕ) : Type 0 where
  plain : list_all is_plain line ≡ true
  short : length line ≤ 40

term_short : (head tail : List ℕ) (n : ℕ) → n < 2 ^ 32 → list_all is_plain head ≡ true → list_all is_plain tail ≡ true → length head ≤ 15 → length tail ≤ 5
    → IsShort (head ++ decimal n ++ tail)
term_short head tail n h f g hs ts =
    let wide : n < 2 ^ 64 = omega (arith, h) in
    let d : length (decimal n) ≤ 20 = length-decimal-le 20 n (omega arith) (omega (arith, h)) wide in
    let a = length-append (head ++ decimal n) tail in
    let b = length-append head (decimal n) in
    record {
      plain = all_linked is_plain (head ++ decimal n) tail (all_linked is_plain head (decimal n) f (plain_ink (decimal n) (ink_decimal n wide))) g;
      short = omega (arith, d, a, b, hs, ts);
    }

object_short : (x : ℕ) → IsShort (object_term x)
object_short x = elim (is_node_at x) as (λ b. IsShort (if b then node_term (object_at x) else value_term (value_at x))) [
  | true ↦ term_short (codes "<http://e/s") (codes ">") (object_at x) far refl refl (omega arith) (omega arith)
  | false ↦ term_short (codes "\"v") (codes "\"") (value_at x) value refl refl (omega arith) (omega arith)
]
  where
    far : object_at x < 2 ^ 32
    far = let a = drawn_small (state_after 1 x) 4000 (lit< tt) in let c = drawn_small (state_after 3 x) 16 (lit< tt) in omega (arith, a, c)

    value : value_at x < 2 ^ 32
    value = let v = drawn_small (state_after 4 x) 500 (lit< tt) in omega (arith, v)

line_plain : (s p o : List ℕ) → IsShort s → IsShort p → IsShort o → list_all is_plain (triple_line s p o) ≡ true
line_plain s p o f g h =
    all_linked is_plain (s ++ codes " " ++ p ++ codes " " ++ o) (codes " .")
    (all_linked is_plain (s ++ codes " " ++ p ++ codes " ") o
    (all_linked is_plain (s ++ codes " " ++ p) (codes " ")
    (all_linked is_plain (s ++ codes " ") p (all_linked is_plain s (codes " ") f.plain refl) g.plain) refl) h.plain) refl

line_short : (s p o : List ℕ) → IsShort s → IsShort p → IsShort o → length (triple_line s p o) ≤ 200
line_short s p o f g h =
    let a = length-append (s ++ codes " " ++ p ++ codes " " ++ o) (codes " .") in
    let b = length-append (s ++ codes " " ++ p ++ codes " ") o in
    let c = length-append (s ++ codes " " ++ p) (codes " ") in
    let d = length-append (s ++ codes " ") p in
    let e = length-append s (codes " ") in
    let i = f.short in
    let j = g.short in
    let k = h.short in
    omega (arith, a, b, c, d, e, i, j, k)

pub record IsTripleLine (line : List ℕ) : Type 0 where
  pub plain : list_all is_plain line ≡ true
  pub short : length line ≤ 200
  pub triple : Triple
  pub spelled : SpellsTriple line triple

pub line_proper : (x : ℕ) → IsTripleLine (graph_line x)
line_proper x =
    let a = drawn_small (state_after 1 x) 4000 (lit< tt) in
    let b = drawn_small (state_after 2 x) 8 (lit< tt) in
    let s = term_short (codes "<http://e/s") (codes ">") (subject_at x) (omega (arith, a)) refl refl (omega arith) (omega arith) in
    let p = term_short (codes "<http://e/p") (codes ">") (predicate_at x) (omega (arith, b)) refl refl (omega arith) (omega arith) in
    let t = graph_spelled x in
    record {
      plain = line_plain (node_term (subject_at x)) (predicate_term (predicate_at x)) (object_term x) s p (object_short x);
      short = line_short (node_term (subject_at x)) (predicate_term (predicate_at x)) (object_term x) s p (object_short x);
      triple = t.0;
      spelled = t.1;
    }

abbrev pub fed : List ℕ → Line
fed line = record { text = line; end = 10 ∷ [] }

pub graph_cut : (n x : ℕ) → cut (lines_text (graph_lines n x)) ≡ map fed (graph_lines n x)
graph_cut zero x = refl
graph_cut (suc n) x =
    cut-feed (graph_line x) (lines_text (graph_lines n (after_line x))) (uncut (graph_line x) (line_proper x).plain) ∙ ap (λ t. fed (graph_line x) ∷ t) (graph_cut n (after_line x))

graph_length : (n x : ℕ) → length (lines_text (graph_lines n x)) ≤ 201 * n
graph_length zero x = omega arith
graph_length (suc n) x =
    let e = length-append (graph_line x) (10 ∷ lines_text (graph_lines n (after_line x))) in
    let s = (line_proper x).short in
    let i = graph_length n (after_line x) in
    omega (arith, e, s, i)

same_line : (a b : Line) → Some a ≡ Some b → a ≡ b
same_line a b e = cc

each_line : (n x i : ℕ) (l : Line) → slice_get (map fed (graph_lines n x)) i ≡ Some l → IsTripleLine l.text
each_line zero x i l e = cc
each_line (suc n) x zero l e = subst (λ t. IsTripleLine t.text) (same_line (fed (graph_line x)) l (search (rules, e))) (line_proper x)
each_line (suc n) x (suc i) l e = each_line n (after_line x) i l (search (rules, e))

pub graph_small : (seed : ℕ) → length (made_graph_text seed) ≤ GRAPH_BYTES
unfolding made_graph_text
graph_small seed = go 20000 (omega arith)
  where
    go : (n : ℕ) → n ≤ 20000 → length (lines_text (graph_lines n seed)) ≤ GRAPH_BYTES
    go n h = let l = graph_length n seed in omega (arith, l, h)

pub graph_proper : (seed i : ℕ) (l : Line) → slice_get (cut (made_graph_text seed)) i ≡ Some l → (length l.text ≤ LINE_BYTES) × (t : Triple) × SpellsTriple l.text t
unfolding made_graph_text
graph_proper seed i l e = go 20000 e
  where
    go : (n : ℕ) → slice_get (cut (lines_text (graph_lines n seed))) i ≡ Some l → (length l.text ≤ LINE_BYTES) × (t : Triple) × SpellsTriple l.text t
    go n h =
        let p = each_line n seed i l (ap (λ ls. slice_get ls i) (sym (graph_cut n seed)) ∙ h) in
        (let s = p.short in omega (arith, s), p.triple, p.spelled)
