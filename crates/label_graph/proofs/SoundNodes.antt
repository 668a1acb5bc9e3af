-- What sound nodes stand for.
use Rattle.std.proofs.Common.{◌≡◌, ℕ, zero, suc, Bool, true, false, List, [], ◌∷◌, length, Option, None, Some, refl, sym, ap, ◌∙◌, subst, get_or, true≢false}
use Rattle.std.specs.Prelude.{IsSome, IsTrue, slice_get, is_some, option_and_then, position, bytes_eq, ◌&&◌}
use Rattle.std.specs.List.{IsDistinct}
use Rattle.std.proofs.Math.Seq.{take-append_seam}
use Rattle.std.proofs.lemmas.Option.{slice_get-get_or, get_or_from_slice_get}
use Rattle.std.proofs.lemmas.List.Folds.{list_any_at}
use Rattle.graph_spec.specs.Graphs.{Graph, IsGraph, label_of, has_edge, is_seen}
use Rattle.graph_spec.specs.Members.{Lists}
use Rattle.graph_spec.specs.Shapes.{IsNode, shape_of}
use Rattle.label_graph.specs.Nodes.{Node, labels_of, number_at, texts_of, children_of, parents_of, IsLive}
use Rattle.label_graph.specs.LabelTable.{LabelTable, entries}
use Rattle.label_graph.specs.ReservedGraphs.{graph_by}
use Rattle.label_graph.specs.Soundness.{IsSoundGraph, HaveLabelNumbers}
use Rattle.label_graph.specs.GraphViews.{label_number, is_linked}
use Rattle.label_graph.proofs.EdgeLists.{has_edge-children}
use Rattle.label_graph.proofs.Positions.{position-at}
use Rattle.label_graph.proofs.Tables.{texts-distinct, bytes_laws}

pub texts-once : (table : LabelTable) → IsDistinct bytes_eq (entries table) → IsDistinct bytes_eq table.texts
texts-once table d = subst (IsDistinct bytes_eq) (take-append_seam table.texts table.ahead) (texts-distinct (length table.texts) (entries table) d)

pub label_of-number : (texts : List (List ℕ)) (numbers : List (Option ℕ)) (n : ℕ)
    → option_and_then (λ l. l) (slice_get (texts_of texts numbers) n) ≡ option_and_then (slice_get texts) (number_at numbers n)
label_of-number texts [] n = refl
label_of-number texts (x ∷ xs) zero = refl
label_of-number texts (x ∷ xs) (suc n) = label_of-number texts xs n

and_all : (a b c : Bool) → (a ≡ true → (b ≡ true) × (c ≡ true)) → (a && (b && c)) ≡ a
and_all false b c h = refl
and_all true b c h = let p = h refl in ap (λ x. x && c) p.0 ∙ p.1

module _ (table : LabelTable) (numbers : List (Option ℕ)) (count : ℕ) (a : HaveLabelNumbers table numbers count) (n : ℕ) where
  number_back : (o : Option ℕ) → number_at numbers n ≡ o → option_and_then (λ t. position (bytes_eq t) table.texts) (option_and_then (slice_get table.texts) o) ≡ o
  number_back None e = refl
  number_back (Some l) e =
      let at = slice_get-get_or table.texts l [] (a.below n l e) in
      ap (option_and_then (λ t. position (bytes_eq t) table.texts)) at
      ∙ position-at table.texts l (get_or table.texts l []) (texts-once table a.once) at

  -- a node's label is found by its text
  pub label_number-is : option_and_then (λ t. position (bytes_eq t) table.texts) (option_and_then (λ l. l) (slice_get (texts_of table.texts numbers) n)) ≡ number_at numbers n
  label_number-is =
      ap (option_and_then (λ t. position (bytes_eq t) table.texts)) (label_of-number table.texts numbers n) ∙ number_back (number_at numbers n) refl

some-first : {X Y : Type 0} (f : X → Option Y) (o : Option X) → IsSome (option_and_then f o) → IsSome o
some-first f None h = h
some-first f (Some x) h = refl

module _ (table : LabelTable) (shown : ℕ) (nodes : List Node) (edges count : ℕ) (numbers : List ℕ) (pairs : List (ℕ × ℕ)) (relabels : List ℕ) (s : IsSoundGraph table shown nodes edges count numbers pairs relabels) where
  g : Graph
  g = graph_by table shown nodes

  pub number-is : (n : ℕ) → label_number (graph_by table shown nodes) n ≡ number_at (labels_of shown nodes) n
  number-is n = label_number-is table (labels_of shown nodes) count s.labels n

  pub linked-is : (u v : ℕ) → is_linked (graph_by table shown nodes) u v ≡ has_edge (graph_by table shown nodes) u v
  linked-is u v =
      and_all (has_edge (graph_by table shown nodes) u v) (is_some (label_number (graph_by table shown nodes) u)) (is_some (label_number (graph_by table shown nodes) v)) (λ h.
      let e = s.lists.ends u v (sym (has_edge-children nodes u v) ∙ h) in
      (ap is_some (number-is u) ∙ e.from, ap is_some (number-is v) ∙ e.onto))

  pub child-list : (n : ℕ) → Lists (has_edge (graph_by table shown nodes) n) (children_of nodes n)
  child-list n = record { once = s.lists.children_once n; members = λ m. sym (has_edge-children nodes n m) }

  pub parent-list : (n : ℕ) → Lists (λ u. has_edge (graph_by table shown nodes) u n) (parents_of nodes n)
  parent-list n = record { once = s.lists.parents_once n; members = λ m. sym (s.lists.mirrors m n) ∙ sym (has_edge-children nodes m n) }

  pub child-links : (n : ℕ) → Lists (is_linked (graph_by table shown nodes) n) (children_of nodes n)
  child-links n = record { once = s.lists.children_once n; members = λ m. (child-list n).members m ∙ sym (linked-is n m) }

  pub parent-links : (n : ℕ) → Lists (λ u. is_linked (graph_by table shown nodes) u n) (parents_of nodes n)
  parent-links n = record { once = s.lists.parents_once n; members = λ m. (parent-list n).members m ∙ sym (linked-is m n) }

  node-is : (n : ℕ) → IsLive shown nodes n → IsNode (shape_of (graph_by table shown nodes)) n
  node-is n h = some-first (λ t. position (bytes_eq t) table.texts) (label_of (graph_by table shown nodes) n) (ap is_some (number-is n) ∙ h)

  labelled-seen : (n : ℕ) (t : List ℕ) (o : Option ℕ) → number_at (labels_of shown nodes) n ≡ o → label_of (graph_by table shown nodes) n ≡ Some t → IsTrue (is_seen table.texts t)
  labelled-seen n t None e h =
      absurd (true≢false (sym (ap is_some h) ∙ ap is_some (label_of-number table.texts (labels_of shown nodes) n ∙ ap (option_and_then (slice_get table.texts)) e)))
  labelled-seen n t (Some l) e h =
      let at = sym (label_of-number table.texts (labels_of shown nodes) n ∙ ap (option_and_then (slice_get table.texts)) e) ∙ h in
      let text = get_or_from_slice_get table.texts l t [] at in
      list_any_at (bytes_eq t) table.texts l [] (s.labels.below n l e) (ap (bytes_eq t) text ∙ bytes_laws.refl t)

  -- the labels seen are distinct, each live node's label is one of them, and edges join live nodes
  pub is_graph : IsGraph (graph_by table shown nodes)
  is_graph = record {
    distinct = texts-once table s.labels.once;
    labelled = λ n t h. labelled-seen n t (number_at (labels_of shown nodes) n) refl h;
    from = λ u v h. node-is u (s.lists.ends u v (sym (has_edge-children nodes u v) ∙ h)).from;
    onto = λ u v h. node-is v (s.lists.ends u v (sym (has_edge-children nodes u v) ∙ h)).onto;
  }
