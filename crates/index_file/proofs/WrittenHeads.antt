-- The lines before the views give the graph.
use Rattle.std.proofs.Common.{◌≡◌, ℕ, ◌<◌, ◌≤◌, ◌^◌, List, [], ◌∷◌, ◌++◌, length, Option, Some, refl, sym, ◌∙◌, ap, arith, append_assoc}
use Rattle.std.specs.Prelude.{codes, decimal, if◌then◌else◌}
use Rattle.std.proofs.lemmas.Bool.{le-leb}
use Rattle.graph_spec.specs.Graphs.{Graph, IsGraph}
use Rattle.label_graph.specs.GraphViews.{edge_count}
use Rattle.index_file.specs.declared.due.Due.TheVariants as due
use Rattle.index_file.specs.Statements.{title, allocated, edges, views}
use Rattle.index_file.specs.Readings.{Reading, nothing_read, next_reading, counted_views}
use Rattle.index_file.specs.WrittenFiles.{count_line, node_lines, edge_lines, head_text}
use Rattle.index_file.specs.WholeFiles.{HasLabels}
use Rattle.index_file.proofs.WrittenLines.{uncut_both, uncut_above, uncut_decimal, number_written}
use Rattle.index_file.proofs.TakenTexts.{Leads, leads_both, leads_line, leads_one, leads_text}
use Rattle.index_file.proofs.WrittenNodes.{nodes_read, nodes_lead}
use Rattle.index_file.proofs.WrittenEdges.{pairs_below, edges_read, edges_lead, edges_few}
use Rattle.index_file.proofs.WrittenViews.{views_read}

-- the first line was read
abbrev title_read : Reading
title_read = record { due = due.Allocated; k = 0; allocated = []; pairs = []; views = [] }

given_taken : (n k : ℕ) → k ≤ 8 → next_reading (allocated n k) title_read ≡ Some (nodes_read k n [])
given_taken n k h = rw (le-leb k 8 h) refl

abbrev given_line : ℕ → ℕ → List ℕ
given_line n k = codes "given " ++ (decimal n ++ (codes " k " ++ decimal k))

-- the same text, grouped by lines
grouped : (n k : ℕ) (more : List ℕ)
    → codes "pathindex 1" ++ 10 ∷ (given_line n k ++ 10 ∷ more) ≡ codes "pathindex 1" ++ 10 ∷ codes "given " ++ decimal n ++ codes " k " ++ decimal k ++ 10 ∷ more
grouped n k more =
    ap (λ x. codes "pathindex 1" ++ 10 ∷ (codes "given " ++ x))
    (append_assoc (decimal n) (codes " k " ++ decimal k) (10 ∷ more) ∙ ap (λ x. decimal n ++ x) (append_assoc (codes " k ") (decimal k) (10 ∷ more)))
    ∙ sym (four (codes "pathindex 1" ++ 10 ∷ codes "given ") (decimal n) (codes " k ") (decimal k) (10 ∷ more))
  where
    four : (a b c d e : List ℕ) → a ++ b ++ c ++ d ++ e ≡ a ++ (b ++ (c ++ (d ++ e)))
    four a b c d e = append_assoc (a ++ b ++ c) d e ∙ append_assoc (a ++ b) c (d ++ e) ∙ append_assoc a b (c ++ (d ++ e))

edges_leads : (k m : ℕ) (labels : List (Option (List ℕ))) → m < 2 ^ 64 → Leads (count_line (codes "edges ") m) (nodes_read k 0 labels) (edges_read k labels m [])
edges_leads k m labels h =
    leads_one (codes "edges " ++ decimal m) (edges m) (nodes_read k 0 labels) (edges_read k labels m [])
    (uncut_both (codes "edges ") (decimal m) (uncut_above (codes "edges ") refl) (uncut_decimal m h)) (decimal m, refl, number_written m h) refl

views_taken : (k n : ℕ) (labels : List (Option (List ℕ))) (pairs : List (ℕ × ℕ)) → n ≤ 20
    → next_reading (views n) (edges_read k labels 0 pairs) ≡ Some (views_read k labels pairs n 0 [])
views_taken k n labels pairs h =
    ap (λ m. Some (views_read k labels pairs m 0 []))
    (let same : counted_views n ≡ n = ap (λ b. if b then n else 1000000000000000000) (le-leb n 1000000000000000000 (omega (arith, h))) in same)

views_leads : (k n : ℕ) (labels : List (Option (List ℕ))) (pairs : List (ℕ × ℕ)) → n ≤ 20
    → Leads (count_line (codes "views ") n) (edges_read k labels 0 pairs) (views_read k labels pairs n 0 [])
views_leads k n labels pairs h =
    let small : n < 2 ^ 64 = omega (arith, h) in
    leads_one (codes "views " ++ decimal n) (views n) (edges_read k labels 0 pairs) (views_read k labels pairs n 0 [])
    (uncut_both (codes "views ") (decimal n) (uncut_above (codes "views ") refl) (uncut_decimal n small)) (decimal n, refl, number_written n small)
    (views_taken k n labels pairs h)

module _ (g : Graph) (k n : ℕ) (w : IsGraph g) (few : length g.allocated ≤ 4294967295) (low : k ≤ 8) (labels : HasLabels g) where
  front_leads : Leads (codes "pathindex 1" ++ 10 ∷ codes "given " ++ decimal (length g.allocated) ++ codes " k " ++ decimal k ++ 10 ∷ node_lines g) nothing_read (nodes_read k 0 g.allocated)
  front_leads =
      let size = length g.allocated in
      let small : size < 2 ^ 64 = omega (arith, few) in
      let level : k < 2 ^ 64 = omega (arith, low) in
      leads_text (codes "pathindex 1" ++ 10 ∷ (given_line size k ++ 10 ∷ node_lines g)) _ nothing_read (nodes_read k 0 g.allocated) (grouped size k (node_lines g))
      (leads_line (codes "pathindex 1") (given_line size k ++ 10 ∷ node_lines g) title nothing_read title_read (nodes_read k 0 g.allocated) (uncut_above (codes "pathindex 1") refl) refl refl
      (leads_line (given_line size k) (node_lines g) (allocated size k) title_read (nodes_read k size []) (nodes_read k 0 g.allocated)
      (uncut_both (codes "given ") (decimal size ++ (codes " k " ++ decimal k)) (uncut_above (codes "given ") refl)
      (uncut_both (decimal size) (codes " k " ++ decimal k) (uncut_decimal size small) (uncut_both (codes " k ") (decimal k) (uncut_above (codes " k ") refl) (uncut_decimal k level))))
      (decimal size ++ (codes " k " ++ decimal k), refl, (decimal size, decimal k, refl, number_written size small, number_written k level))
      (given_taken size k low) (nodes_lead g k labels)))

  pub head_leads : n ≤ 20 → Leads (head_text g k n) nothing_read (views_read k g.allocated (pairs_below g (length g.allocated)) n 0 [])
  head_leads h =
      let front = codes "pathindex 1" ++ 10 ∷ codes "given " ++ decimal (length g.allocated) ++ codes " k " ++ decimal k ++ 10 ∷ node_lines g in
      let count = count_line (codes "edges ") (edge_count g) in
      let all = pairs_below g (length g.allocated) in
      leads_both (front ++ count ++ edge_lines g) (count_line (codes "views ") n) nothing_read (edges_read k g.allocated 0 all) (views_read k g.allocated all n 0 [])
      (leads_both (front ++ count) (edge_lines g) nothing_read (edges_read k g.allocated (edge_count g) []) (edges_read k g.allocated 0 all)
      (leads_both front count nothing_read (nodes_read k 0 g.allocated) (edges_read k g.allocated (edge_count g) []) front_leads (edges_leads k (edge_count g) g.allocated (edges_few g w few)))
      (edges_lead g k w few))
      (views_leads k n g.allocated all h)
