-- The lines of a graph, part by part.
use Rattle.std.proofs.Common.{◌≡◌, ℕ, zero, suc, ◌+◌, ◌-◌, ◌<◌, ◌≤◌, List, [], ◌∷◌, ◌++◌, length, drop, get_or, refl, sym, ◌∙◌, ap, arith, append-nil, append_assoc, length-append}
use Rattle.std.proofs.Math.ListN.{drop_of_length-le}
use Rattle.std.specs.Prelude.{codes, decimal, Option, None, Some}
use Rattle.std.specs.List.{flat_map}
use Rattle.std.specs.List.Sorted.{IsStrictlyIncreasing}
use Rattle.graph_spec.specs.Graphs.{Graph, IsGraph, has_edge, label_of}
use Rattle.graph_spec.specs.Members.{has}
use Rattle.label_graph.specs.GraphViews.{edge_count}
use Rattle.extent_report.specs.ListedBlocks.{texts_below}
use Rattle.index_file.specs.WrittenFiles.{count_line, node_line, node_lines, edge_line, edge_lines, edges_from, head_text}
use Rattle.index_file.specs.GraphParts.{texts_from, title_text, views_line, nodes_unwritten, edges_unwritten, stage_left, lines_left, turns_left, steps_left, Gave}
use Rattle.index_file.specs.declared.graph_lines.Stage.{Stage}
use Rattle.index_file.specs.declared.graph_lines.Stage.TheVariants.{Title, Nodes, Edges, Over}
use Rattle.index_file.specs.declared.graph_lines.GraphLines.{GraphLines}
use Rattle.index_file.proofs.ListedEdges.{edges_listed}

-- ---- what is written from a number on

from_below : (f : ℕ → List ℕ) (n m : ℕ) → texts_below n f ++ texts_from m n f ≡ texts_below (n + m) f
from_below f n zero = append-nil (texts_below n f) ∙ (let e : n ≡ n + 0 = omega arith in ap (λ k. texts_below k f) e)
from_below f n (suc m) =
    let e : suc n + m ≡ n + suc m = omega arith in
    sym (append_assoc (texts_below n f) (f n) (texts_from m (suc n) f)) ∙ from_below f (suc n) m ∙ ap (λ k. texts_below k f) e

-- the numbers from 0 on are all
from_first : (f : ℕ → List ℕ) (n : ℕ) → texts_from (n - 0) 0 f ≡ texts_below n f
from_first f n =
    let e : n - 0 ≡ n = omega arith in
    let z : 0 + n ≡ n = omega arith in
    ap (λ k. texts_from k 0 f) e ∙ from_below f 0 n ∙ ap (λ k. texts_below k f) z

one_from : (f : ℕ → List ℕ) (n m : ℕ) → n < m → texts_from (m - n) n f ≡ f n ++ texts_from (m - (n + 1)) (n + 1) f
one_from f n m l =
    let e : m - n ≡ suc (m - (n + 1)) = omega (arith, l) in
    let s : suc n ≡ n + 1 = omega arith in
    ap (λ k. texts_from k n f) e ∙ ap (λ k. f n ++ texts_from (m - (n + 1)) k f) s

none_from : (f : ℕ → List ℕ) (n m : ℕ) → m ≤ n → texts_from (m - n) n f ≡ []
none_from f n m l = let e : m - n ≡ 0 = omega (arith, l) in ap (λ k. texts_from k n f) e

-- ---- one step

left_at : (g : Graph) (l : GraphLines) (s : Stage) → l.stage ≡ s → lines_left g l ≡ stage_left s g l
left_at g l s e = ap (λ x. stage_left x g l) e

turns_at : (g : Graph) (l : GraphLines) (s : Stage) → l.stage ≡ s → turns_left l.stage (length g.allocated) l.number ≡ turns_left s (length g.allocated) l.number
turns_at g l s e = ap (λ x. turns_left x (length g.allocated) l.number) e

-- what was given isn't empty, and no further number has to be asked
fewer : (g : Graph) (old new : GraphLines) (lines : List ℕ) (more less : ℕ) → lines_left g old ≡ lines ++ lines_left g new → 0 < length lines
    → turns_left old.stage (length g.allocated) old.number ≡ more → turns_left new.stage (length g.allocated) new.number ≡ less → less ≤ more → steps_left g new < steps_left g old
fewer g old new lines more less e some a b l =
    let both = ap length e in
    let parts = length-append lines (lines_left g new) in
    omega (arith, both, parts, some, a, b, l)

pub no_line : (before left : List ℕ) → Gave before before left left
no_line before left = record { lines = []; given = sym (append-nil before); left_is = refl }

pub same_left : (before after left rest : List ℕ) → after ≡ before → rest ≡ left → Gave before after left rest
same_left before after left rest e s = record { lines = []; given = e ∙ sym (append-nil before); left_is = sym s }

pub gave_twice : (a b c left middle rest : List ℕ) → Gave a b left middle → Gave b c middle rest → Gave a c left rest
gave_twice a b c left middle rest x y = record {
  lines = x.lines ++ y.lines;
  given = y.given ∙ ap (λ t. t ++ y.lines) x.given ∙ append_assoc a x.lines y.lines;
  left_is = x.left_is ∙ ap (λ t. x.lines ++ t) y.left_is ∙ sym (append_assoc x.lines y.lines rest);
}

-- many bytes are some lines
pub gave_some : (before after left rest : List ℕ) → Gave before after left rest → length before < length after → length rest < length left
gave_some before after left rest x l =
    let a = ap length x.given in
    let b = length-append before x.lines in
    let c = ap length x.left_is in
    let d = length-append x.lines rest in
    omega (arith, a, b, c, d, l)

-- what was given and what is left, together
pub gave_all : (before after left rest : List ℕ) → Gave before after left rest → after ++ rest ≡ before ++ left
gave_all before after left rest x = ap (λ t. t ++ rest) x.given ∙ append_assoc before x.lines rest ∙ ap (λ t. before ++ t) (sym x.left_is)

-- ---- the first lines

in_order : (p a n m k z nodes edges lines views : List ℕ)
    → p ++ a ++ n ++ m ++ k ++ (z ++ nodes) ++ edges ++ lines ++ views ≡ (p ++ a ++ n ++ (m ++ k ++ z)) ++ (nodes ++ (edges ++ (lines ++ views)))
in_order p a n m k z nodes edges lines views = simp append_assoc

title_left : (g : Graph) (k views : ℕ) → head_text g k views ≡ title_text (length g.allocated) k ++ nodes_unwritten g views 0
title_left g k views =
    let rest = count_line (codes "edges ") (edge_count g) ++ (edge_lines g ++ views_line views) in
    let tail : node_lines g ++ rest ≡ nodes_unwritten g views 0 = ap (λ t. t ++ rest) (sym (from_first (λ n. node_line (label_of g n)) (length g.allocated))) in
    in_order (codes "pathindex 1") (10 ∷ codes "given ") (decimal (length g.allocated)) (codes " k ") (decimal k) (10 ∷ []) (node_lines g) (count_line (codes "edges ") (edge_count g)) (edge_lines g) (views_line views)
    ∙ ap (λ t. title_text (length g.allocated) k ++ t) tail

pub title_given : (g : Graph) (l : GraphLines) (before after : List ℕ) → l.stage ≡ Title → after ≡ before ++ title_text (length g.allocated) l.k
    → Gave before after (lines_left g l) (nodes_unwritten g l.views 0)
title_given g l before after s e = record {
  lines = title_text (length g.allocated) l.k;
  given = e;
  left_is = left_at g l Title s ∙ title_left g l.k l.views;
}

pub title_fewer : (g : Graph) (l : GraphLines) → l.stage ≡ Title → steps_left g (record l { stage = Nodes; number = 0 }) < steps_left g l
title_fewer g l s =
    fewer g l (record l { stage = Nodes; number = 0 }) (title_text (length g.allocated) l.k) (length g.allocated) (length g.allocated)
    (left_at g l Title s ∙ title_left g l.k l.views) (omega arith) (turns_at g l Title s) refl (omega arith)

-- ---- the lines of the numbers

node_next : (g : Graph) (l : GraphLines) → l.stage ≡ Nodes → l.number < length g.allocated
    → lines_left g l ≡ node_line (label_of g l.number) ++ lines_left g (record l { number = l.number + 1 })
node_next g l s w =
    let f : ℕ → List ℕ = λ n. node_line (label_of g n) in
    let rest = count_line (codes "edges ") (edge_count g) ++ (edge_lines g ++ views_line l.views) in
    left_at g l Nodes s ∙ ap (λ t. t ++ rest) (one_from f l.number (length g.allocated) w)
    ∙ append_assoc (f l.number) (texts_from (length g.allocated - (l.number + 1)) (l.number + 1) f) rest
    ∙ ap (λ t. f l.number ++ t) (sym (left_at g (record l { number = l.number + 1 }) Nodes s))

node_some : (o : Option (List ℕ)) → 0 < length (node_line o)
node_some None = omega arith
node_some (Some t) = omega arith

pub node_given : (g : Graph) (l : GraphLines) (before after : List ℕ) → l.stage ≡ Nodes → l.number < length g.allocated → after ≡ before ++ node_line (label_of g l.number)
    → Gave before after (lines_left g l) (lines_left g (record l { number = l.number + 1 }))
node_given g l before after s w e = record { lines = node_line (label_of g l.number); given = e; left_is = node_next g l s w }

pub node_fewer : (g : Graph) (l : GraphLines) → l.stage ≡ Nodes → l.number < length g.allocated → steps_left g (record l { number = l.number + 1 }) < steps_left g l
node_fewer g l s w =
    fewer g l (record l { number = l.number + 1 }) (node_line (label_of g l.number)) (length g.allocated) (length g.allocated)
    (node_next g l s w) (node_some (label_of g l.number)) (turns_at g l Nodes s) (turns_at g (record l { number = l.number + 1 }) Nodes s) (omega arith)

-- ---- how many edges there are

count_next : (g : Graph) (l : GraphLines) (given : ℕ) → l.stage ≡ Nodes → length g.allocated ≤ l.number → length l.children.items ≤ given
    → lines_left g l ≡ count_line (codes "edges ") (edge_count g) ++ edges_unwritten g l.views l.from (drop given l.children.items) 0
count_next g l given s w all =
    let f : ℕ → List ℕ = λ n. node_line (label_of g n) in
    let count = count_line (codes "edges ") (edge_count g) in
    left_at g l Nodes s ∙ ap (λ t. t ++ (count ++ (edge_lines g ++ views_line l.views))) (none_from f l.number (length g.allocated) w)
    ∙ ap (λ t. count ++ (t ++ views_line l.views)) (sym (from_first (edges_from g) (length g.allocated)))
    ∙ ap (λ t. count ++ (flat_map (edge_line l.from) t ++ (texts_from (length g.allocated - 0) 0 (edges_from g) ++ views_line l.views))) (sym (drop_of_length-le l.children.items all))

pub count_given : (g : Graph) (l : GraphLines) (given : ℕ) (before after : List ℕ) → l.stage ≡ Nodes → length g.allocated ≤ l.number → given ≡ length l.children.items
    → after ≡ before ++ count_line (codes "edges ") (edge_count g) → Gave before after (lines_left g l) (edges_unwritten g l.views l.from (drop given l.children.items) 0)
count_given g l given before after s w all e = record {
  lines = count_line (codes "edges ") (edge_count g);
  given = e;
  left_is = count_next g l given s w (omega (arith, all));
}

pub count_fewer : (g : Graph) (l : GraphLines) (given : ℕ) → l.stage ≡ Nodes → length g.allocated ≤ l.number → given ≡ length l.children.items
    → steps_left g (record l { stage = Edges; number = 0; given = given }) < steps_left g l
count_fewer g l given s w all =
    fewer g l (record l { stage = Edges; number = 0; given = given }) (count_line (codes "edges ") (edge_count g)) (length g.allocated) (length g.allocated - 0)
    (count_next g l given s w (omega (arith, all))) (omega arith) (turns_at g l Nodes s) refl (omega arith)

-- ---- the edges

first_of : (xs : List ℕ) (n d : ℕ) → n < length xs → drop n xs ≡ get_or xs n d ∷ drop (suc n) xs
first_of [] n d l = absurd (omega (arith, l))
first_of (x ∷ xs) zero d l = refl
first_of (x ∷ xs) (suc n) d l = first_of xs n d (omega (arith, l))

dropped : (xs : List ℕ) (n d : ℕ) → n < length xs → drop n xs ≡ get_or xs n d ∷ drop (n + 1) xs
dropped xs n d l = let e : suc n ≡ n + 1 = omega arith in first_of xs n d l ∙ ap (λ k. get_or xs n d ∷ drop k xs) e

edge_next : (g : Graph) (l : GraphLines) (d : ℕ) → l.stage ≡ Edges → l.given < length l.children.items
    → lines_left g l ≡ edge_line l.from (get_or l.children.items l.given d) ++ lines_left g (record l { given = l.given + 1 })
edge_next g l d s w =
    let x = get_or l.children.items l.given d in
    let rest = texts_from (length g.allocated - l.number) l.number (edges_from g) ++ views_line l.views in
    left_at g l Edges s ∙ ap (λ xs. flat_map (edge_line l.from) xs ++ rest) (dropped l.children.items l.given d w)
    ∙ append_assoc (edge_line l.from x) (flat_map (edge_line l.from) (drop (l.given + 1) l.children.items)) rest
    ∙ ap (λ t. edge_line l.from x ++ t) (sym (left_at g (record l { given = l.given + 1 }) Edges s))

edge_some : (u v : ℕ) → 0 < length (edge_line u v)
edge_some u v =
    let a = length-append (decimal u ++ 32 ∷ decimal v) (10 ∷ []) in
    omega (arith, a)

pub edge_given : (g : Graph) (l : GraphLines) (d : ℕ) (before after : List ℕ) → l.stage ≡ Edges → l.given < length l.children.items
    → after ≡ before ++ edge_line l.from (get_or l.children.items l.given d) → Gave before after (lines_left g l) (lines_left g (record l { given = l.given + 1 }))
edge_given g l d before after s w e = record { lines = edge_line l.from (get_or l.children.items l.given d); given = e; left_is = edge_next g l d s w }

pub edge_fewer : (g : Graph) (l : GraphLines) (d : ℕ) → l.stage ≡ Edges → l.given < length l.children.items → steps_left g (record l { given = l.given + 1 }) < steps_left g l
edge_fewer g l d s w =
    fewer g l (record l { given = l.given + 1 }) (edge_line l.from (get_or l.children.items l.given d)) (length g.allocated - l.number) (length g.allocated - l.number)
    (edge_next g l d s w) (edge_some l.from (get_or l.children.items l.given d)) (turns_at g l Edges s) (turns_at g (record l { given = l.given + 1 }) Edges s) (omega arith)

-- the edges of the next number
module _ (g : Graph) (l new : GraphLines) (is_graph : IsGraph g) (s : l.stage ≡ Edges) (t : new.stage ≡ Edges) (none : length l.children.items ≤ l.given) (w : l.number < length g.allocated)
    (views : new.views ≡ l.views) (from : new.from ≡ l.number) (given : new.given ≡ 0) (number : new.number ≡ l.number + 1)
    (rises : IsStrictlyIncreasing new.children.items) (members : (v : ℕ) → has new.children.items v ≡ has_edge g l.number v) where
  pub turn_same : lines_left g new ≡ lines_left g l
  turn_same =
      let f = edges_from g in
      let after = texts_from (length g.allocated - (l.number + 1)) (l.number + 1) f ++ views_line l.views in
      let here : lines_left g new ≡ edges_unwritten g l.views l.number new.children.items (l.number + 1) = left_at g new Edges t ∙ rw views (rw from (rw given (rw number refl))) in
      let before : lines_left g l ≡ texts_from (length g.allocated - l.number) l.number f ++ views_line l.views =
      left_at g l Edges s ∙ ap (λ xs. flat_map (edge_line l.from) xs ++ (texts_from (length g.allocated - l.number) l.number f ++ views_line l.views)) (drop_of_length-le l.children.items none) in
      here ∙ ap (λ x. x ++ after) (edges_listed g l.number new.children.items is_graph rises members)
      ∙ sym (append_assoc (f l.number) (texts_from (length g.allocated - (l.number + 1)) (l.number + 1) f) (views_line l.views))
      ∙ ap (λ x. x ++ views_line l.views) (sym (one_from f l.number (length g.allocated) w)) ∙ sym before

  pub turn_fewer : steps_left g new < steps_left g l
  turn_fewer =
      let same = ap length turn_same in
      let a = turns_at g l Edges s in
      let b = turns_at g new Edges t in
      omega (arith, same, a, b, number, w)

-- ---- the last line

last_left : (g : Graph) (l : GraphLines) → l.stage ≡ Edges → length l.children.items ≤ l.given → length g.allocated ≤ l.number → lines_left g l ≡ views_line l.views ++ []
last_left g l s none w =
    left_at g l Edges s ∙ ap (λ xs. flat_map (edge_line l.from) xs ++ (texts_from (length g.allocated - l.number) l.number (edges_from g) ++ views_line l.views)) (drop_of_length-le l.children.items none)
    ∙ ap (λ t. t ++ views_line l.views) (none_from (edges_from g) l.number (length g.allocated) w) ∙ sym (append-nil (views_line l.views))

pub last_given : (g : Graph) (l : GraphLines) (before after : List ℕ) → l.stage ≡ Edges → length l.children.items ≤ l.given → length g.allocated ≤ l.number
    → after ≡ before ++ views_line l.views → Gave before after (lines_left g l) []
last_given g l before after s none w e = record { lines = views_line l.views; given = e; left_is = last_left g l s none w }

pub last_fewer : (g : Graph) (l : GraphLines) → l.stage ≡ Edges → length l.children.items ≤ l.given → length g.allocated ≤ l.number → steps_left g (record l { stage = Over }) < steps_left g l
last_fewer g l s none w =
    fewer g l (record l { stage = Over }) (views_line l.views) (length g.allocated - l.number) 0 (last_left g l s none w) (omega arith) (turns_at g l Edges s) refl (omega arith)
