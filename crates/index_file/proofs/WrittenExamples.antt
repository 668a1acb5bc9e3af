-- The text of a worked file, and what it holds.
use Rattle.std.proofs.Common.{◌≡◌, ℕ, List, [], ◌∷◌, ◌++◌, ◌+◌, Bool, refl, ◌∙◌, ap, cond, Some, None, nat_eq, map}
use Rattle.std.specs.Prelude.{codes, decimal, ◌&&◌, if◌then◌else◌}
use Rattle.std.specs.Fmt.{digits}
use Rattle.std.specs.FinSet as set
use Rattle.std.specs.Ordering.{eq_by_cmp}
use Rattle.std.proofs.Math.Bool.{or-false}
use Rattle.graph_spec.specs.Graphs.{Graph, edge_cmp, has_edge}
use Rattle.graph_spec.specs.Shapes.{shape_of}
use Rattle.graph_spec.proofs.EdgeOrder.{edge_cmp_total, eq_pair}
use Rattle.label_graph.specs.GraphViews.{edge_count}
use Rattle.bisim_spec.specs.declared.kind.Kind.TheVariants as kind
use Rattle.bisim_spec.specs.Tests.{together}
use Rattle.index_api.specs.declared.kinds.Via.TheVariants.{A, One, Fb, B}
use Rattle.extent_report.specs.ListedBlocks.{texts_below}
use Rattle.extent_report.proofs.NumberedTexts.{texts_same}
use Rattle.index_file.specs.SavedFiles.{edges_of}
use Rattle.index_file.specs.WrittenFiles.{count_line, node_lines, edge_line, edges_from, edge_lines, head_text}
use Rattle.index_file.specs.WholeFiles.{TestedView, views_text, file_text, blocks_by, saved_graph, indexes_of}
use Rattle.index_file.proofs.SavedEdges.{edges_are}

-- three nodes, of which the first is the parent of the second; a label was seen that none of them has
abbrev worked : Graph
worked = record {
  allocated = Some (codes "a") ∷ Some (codes "b") ∷ Some (codes "a") ∷ [];
  edges = edges_of ((0, 1) ∷ []);
  seen = codes "x" ∷ codes "b" ∷ codes "a" ∷ [];
}

edge_is : (u v : ℕ) → has_edge worked u v ≡ (nat_eq u 0 && nat_eq v 1)
edge_is u v = edges_are ((0, 1) ∷ []) u v ∙ or-false (eq_by_cmp edge_cmp (u, v) (0, 1)) ∙ eq_pair u v 0 1

count_is : edge_count worked ≡ 1
count_is =
    set.len-insert edge_cmp_total set.empty (0, 1)
    ∙ ap (λ b. cond b (set.len {R = edge_cmp} set.empty) (set.len {R = edge_cmp} set.empty + 1)) (set.contains-empty edge_cmp (0, 1))
    ∙ ap (λ n. n + 1) (set.len-empty edge_cmp)

edges_are_one : edge_lines worked ≡ codes "0 1\n"
unfolding digits
edges_are_one =
    texts_same 3 (edges_from worked) (λ u. texts_below 3 (λ v. if nat_eq u 0 && nat_eq v 1 then edge_line u v else [])) (λ u l.
    texts_same 3 (λ v. if has_edge worked u v then edge_line u v else []) (λ v. if nat_eq u 0 && nat_eq v 1 then edge_line u v else []) (λ v m.
    ap (λ b. if b then edge_line u v else []) (edge_is u v)))

abbrev front : List ℕ
front = codes "pathindex 1" ++ 10 ∷ codes "given " ++ decimal 3 ++ codes " k " ++ decimal 2 ++ 10 ∷ node_lines worked

head_is : head_text worked 2 5 ≡ codes "pathindex 1\ngiven 3 k 2\nlive a\nlive b\nlive a\nedges 1\n0 1\nviews 5\n"
unfolding digits
head_is =
    ap (λ x. front ++ count_line (codes "edges ") (edge_count worked) ++ x ++ count_line (codes "views ") 5) edges_are_one
    ∙ ap (λ n. front ++ count_line (codes "edges ") n ++ codes "0 1\n" ++ count_line (codes "views ") 5) count_is

-- blocks are ranked by their first nodes, whatever their numbers are
abbrev by_label : ℕ → ℕ → Bool
by_label = together (Some 7 ∷ Some 3 ∷ Some 7 ∷ [])

abbrev each_alone : ℕ → ℕ → Bool
each_alone = together (Some 4 ∷ Some 2 ∷ Some 0 ∷ [])

abbrev five : List TestedView
five =
    record { via = A 0; test = by_label } ∷ record { via = A 1; test = by_label } ∷ record { via = A 2; test = by_label } ∷ record { via = One; test = by_label }
    ∷ record { via = Fb; test = each_alone } ∷ []

views_are : views_text (shape_of worked) five ≡ codes "view a0\n0\n1\n0\nview a1\n0\n1\n0\nview a2\n0\n1\n0\nview one\n0\n1\n0\nview fb\n0\n1\n2\n"
unfolding digits
views_are = refl

whole_is : file_text worked 2 five ≡ codes
    "pathindex 1\ngiven 3 k 2\nlive a\nlive b\nlive a\nedges 1\n0 1\nviews 5\nview a0\n0\n1\n0\nview a1\n0\n1\n0\nview a2\n0\n1\n0\nview one\n0\n1\n0\nview fb\n0\n1\n2\n"
whole_is = ap (λ x. x ++ views_text (shape_of worked) five) head_is
    ∙ ap (λ x. codes "pathindex 1\ngiven 3 k 2\nlive a\nlive b\nlive a\nedges 1\n0 1\nviews 5\n" ++ x) views_are

-- they are all indexes of their kinds, as they are listed
five_listed : map (λ (v : TestedView). v.via) five ≡ indexes_of (kind.Fb ∷ kind.A ∷ kind.One ∷ []) 2
five_listed = refl

bounded_alone : indexes_of (kind.B ∷ []) 1 ≡ B 0 ∷ B 1 ∷ []
bounded_alone = refl

no_index : indexes_of [] 2 ≡ []
no_index = refl

-- what the file holds: labels in the order of first use, and no others; a number that is gone has no block
labels_held : (saved_graph worked).seen ≡ codes "a" ∷ codes "b" ∷ []
labels_held = refl

blocks_held : blocks_by (shape_of worked) by_label ≡ Some 0 ∷ Some 1 ∷ Some 0 ∷ []
blocks_held = refl

gone_held : blocks_by (shape_of (record worked { allocated = Some (codes "a") ∷ None ∷ Some (codes "b") ∷ [] })) each_alone ≡ Some 0 ∷ None ∷ Some 1 ∷ []
gone_held = refl
