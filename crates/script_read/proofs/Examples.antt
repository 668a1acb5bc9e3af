-- What lines spell, at worked lines and at near misses.
use Rattle.std.proofs.Common.{◌≡◌, ℕ, ◌<◌, ◌^◌, List, [], ◌∷◌, length, drop, refl, sym, ap, ◌∙◌, subst, arith, lit<, ◌⊎◌, inl, inr}
use Rattle.std.specs.Prelude.{codes, decimal, slice_index}
use Rattle.std.proofs.lemmas.Fmt.{decimal_digit, first_decimal}
use Rattle.graph_spec.specs.Words.{node_word}
use Rattle.change_spec.specs.Steps.{node, link, unlink, drop as drop_node, relabel}
use Rattle.triples_read.specs.declared.term.Term.TheVariants.{Iri, Blank}
use Rattle.triples_read.specs.declared.term.Triple.{Triple}
use Rattle.triples_read.specs.Lines.{SpellsTriple}
use Rattle.triples_read.proofs.OneTriple.{spelled_not_empty}
use Rattle.path_query.specs.Labels.{SpellsLabel}
use Rattle.path_spec.specs.Trees.{Expr, only, last, once, label}
use Rattle.branch_spec.specs.Trees as tree
use Rattle.path_query.proofs.Examples.{plain_a, iri_a, iri_escaped, no_label_and}
use Rattle.bisim_spec.specs.declared.kind.Kind.{Kind}
use Rattle.bisim_spec.specs.declared.kind.Kind.TheVariants as kind
use Rattle.index_api.specs.declared.kinds.Via.{Via}
use Rattle.index_api.specs.declared.kinds.Via.TheVariants.{Data, A, One, Fb, B}
use Rattle.script_read.specs.Commands.{Command, change, begin, end as end_group, insert, delete, path, branch, why, check, extents, sizes, save, forget, IsQuiet, IsSpelled, SpellsNodes, NoCommand}
use Rattle.script_read.specs.FirstWords.{expression_text}

-- blanks may stand at both ends and between the words
node_spelled : IsSpelled (codes " node\ta ") (change (node (codes "a")))
node_spelled = (codes "a", refl, inl (plain_a, refl))

-- a label may be an IRI, which has one spelling
iri_spelled : IsSpelled (codes "node <http://e/a>") (change (node (codes "<http://e/a>")))
iri_spelled = (codes "<http://e/a>", refl, iri_a)

escape_spelled : IsSpelled (codes "node <http://e/\\u0061>") (change (node (codes "<http://e/a>")))
escape_spelled = (codes "<http://e/\\u0061>", refl, iri_escaped)

abbrev second : List (List ℕ) → List ℕ
second [] = []
second (a ∷ []) = []
second (a ∷ b ∷ ws) = b

abbrev first : List (List ℕ) → List ℕ
first [] = []
first (a ∷ ws) = a

link_spelled : IsSpelled (codes "link n0 n1") (change (link 0 1))
link_spelled = (
  ap (λ d. codes "link" ∷ (110 ∷ d) ∷ codes "n1" ∷ []) (sym (decimal_digit 0 (lit< tt)))
      ∙ ap (λ d. codes "link" ∷ node_word 0 ∷ (110 ∷ d) ∷ []) (sym (decimal_digit 1 (lit< tt))),
  lit< tt,
  lit< tt,
)

unlink_spelled : IsSpelled (codes "unlink n1 n0") (change (unlink 1 0))
unlink_spelled = (
  ap (λ d. codes "unlink" ∷ (110 ∷ d) ∷ codes "n0" ∷ []) (sym (decimal_digit 1 (lit< tt)))
      ∙ ap (λ d. codes "unlink" ∷ node_word 1 ∷ (110 ∷ d) ∷ []) (sym (decimal_digit 0 (lit< tt))),
  lit< tt,
  lit< tt,
)

drop_spelled : IsSpelled (codes "drop n7") (change (drop_node 7))
drop_spelled = (ap (λ d. codes "drop" ∷ (110 ∷ d) ∷ []) (sym (decimal_digit 7 (lit< tt))), lit< tt)

relabel_spelled : IsSpelled (codes "relabel n7 a") (change (relabel 7 (codes "a")))
relabel_spelled = (codes "a", ap (λ d. codes "relabel" ∷ (110 ∷ d) ∷ codes "a" ∷ []) (sym (decimal_digit 7 (lit< tt))), lit< tt, inl (plain_a, refl))

-- a node is written with an n, and one is dropped at a time
no_bare_number : (u : ℕ) → ¬ IsSpelled (codes "drop 0") (change (drop_node u))
no_bare_number u h = omega (arith, ap (λ ws. slice_index (second ws) 0) h.0)

no_second_node : (u : ℕ) → ¬ IsSpelled (codes "drop n0 n1") (change (drop_node u))
no_second_node u h = omega (arith, ap length h.0)

-- a number has no leading zero
no_two_digits : (n d : ℕ) → n < 2 ^ 64 → decimal n ≡ 48 ∷ d ∷ [] → ⊥
no_two_digits n d b e = elim (zero_or_more n) [
  | inl z ↦ (let l : decimal 0 ≡ 48 ∷ d ∷ [] = ap decimal (sym z) ∙ e in let one = decimal_digit 0 (lit< tt) in omega (arith, ap length (sym one ∙ l)))
  | inr p ↦ omega (arith, first_decimal n p b, ap (λ l. slice_index l 0) e)
]
  where
    zero_or_more : (n : ℕ) → (n ≡ 0) ⊎ (0 < n)
    zero_or_more n = grind arith

no_zero_in_front : (u v : ℕ) → ¬ IsSpelled (codes "link n00 n1") (change (link u v))
no_zero_in_front u v h =
    (let z : codes "link" ∷ codes "n00" ∷ codes "n1" ∷ [] ≡ codes "link" ∷ (110 ∷ decimal u) ∷ (110 ∷ decimal v) ∷ [] = h.0 in
    let d : 48 ∷ 48 ∷ [] ≡ decimal u = ap (λ ws. drop 1 (second ws)) z in
    no_two_digits u 48 (let b = h.1 in omega (arith, b)) (sym d))

-- one word too many
no_third_word : (t : List ℕ) → ¬ IsSpelled (codes "node a b") (change (node t))
no_third_word t h = omega (arith, ap length h.1)

no_word_behind_iri : (t : List ℕ) → ¬ IsSpelled (codes "node <http://e/a> x") (change (node t))
no_word_behind_iri t h = omega (arith, ap length h.1)

-- the node is named first, and one label comes behind it
no_label_left_out : (u : ℕ) (t : List ℕ) → ¬ IsSpelled (codes "relabel n0") (change (relabel u t))
no_label_left_out u t h = omega (arith, ap length h.1)

no_second_label : (u : ℕ) (t : List ℕ) → ¬ IsSpelled (codes "relabel n0 a b") (change (relabel u t))
no_second_label u t h = omega (arith, ap length h.1)

-- `begin` and `end` stand alone
begin_spelled : IsSpelled (codes " begin\t") begin
begin_spelled = refl

end_spelled : IsSpelled (codes "end") end_group
end_spelled = refl

no_word_behind_begin : ¬ IsSpelled (codes "begin x") begin
no_word_behind_begin h = omega (arith, ap length h)

no_longer_word : ¬ IsSpelled (codes "ends") end_group
no_longer_word h = omega (arith, ap (λ ws. length (first ws)) h)

-- a triple is spelled as in a graph file, perhaps with a comment behind it
abbrev a_b_c : Triple
a_b_c = record { subject = Iri (codes "a"); predicate = codes "b"; object = Blank (codes "c") }

behind_blank : SpellsTriple (codes " <a> <b>_:c.#") a_b_c
unfolding lib.Utf8.encode
behind_blank = (
  record { chars = codes " <a> <b>_:c.#"; scalars = refl; encoded = refl },
  codes " ",
  codes "<a> <b>_:c.",
  [],
  codes "#",
  refl,
  ((refl, refl), tt),
  record {
    subject = codes "<a>";
    gap = codes " ";
    predicate = codes "<b>";
    gap2 = [];
    object = codes "_:c";
    gap3 = [];
    whole = refl;
    gaps = (((refl, refl), tt), tt, tt);
    is_subject = (codes "a", (codes "a", refl, (codes "a", [], refl, inl (refl, refl, refl), refl)), refl);
    is_predicate = (codes "b", (codes "b", refl, (codes "b", [], refl, inl (refl, refl, refl), refl)), refl);
    is_object = (codes "c", (refl, (99, [], refl, refl, refl, inl refl)), refl);
  },
  tt,
  inr ([], refl),
)

insert_spelled : IsSpelled (codes "insert <a> <b>_:c.#") (insert a_b_c)
insert_spelled = (refl, behind_blank)

delete_spelled : IsSpelled (codes "\tdelete <a> <b>_:c.#") (delete a_b_c)
delete_spelled = (refl, behind_blank)

-- the word is one of its own, and a comment alone is no triple
no_word_before_triple : (t : Triple) → ¬ IsSpelled (codes "insert<a> <b> <c> .") (insert t)
no_word_before_triple t h = omega (arith, ap length h.0)

no_triple_left_out : (t : Triple) → ¬ IsSpelled (codes "delete # <a> <b> <c> .") (delete t)
unfolding lib.Utf8.encode
no_triple_left_out t h =
    spelled_not_empty (codes " # <a> <b> <c> .") t h.1
    (record { chars = codes " # <a> <b> <c> ."; scalars = refl; encoded = refl }, codes " ", codes "# <a> <b> <c> .", refl, ((refl, refl), tt), inr (codes " <a> <b> <c> .", refl))

-- a blank line and a comment are quiet
blank_quiet : IsQuiet (codes " \t")
blank_quiet = tt

comment_quiet : IsQuiet (codes "  # node a")
comment_quiet = refl

-- an expression is asked through the graph itself, or through an index
path_spelled : IsSpelled (codes "path data  a\t") (path Data (only (last (once (label (codes "a"))))))
path_spelled = ((refl, refl, tt), ([], codes "a", [], refl, inl (plain_a, refl), tt, refl, refl))

path_of_index : IsSpelled (codes "path one a") (path One (only (last (once (label (codes "a"))))))
path_of_index = ((refl, refl, tt), ([], codes "a", [], refl, inl (plain_a, refl), tt, refl, refl))

path_of_level : IsSpelled (codes "path a2 a") (path (A 2) (only (last (once (label (codes "a"))))))
path_of_level = ((refl, ap (λ d. 97 ∷ d) (sym (decimal_digit 2 (lit< tt))), lit< tt), ([], codes "a", [], refl, inl (plain_a, refl), tt, refl, refl))

-- the word behind `path` has to be one of these
no_other_way : (via : Via) (e : Expr) → ¬ IsSpelled (codes "path two a") (path via e)
no_other_way Data e h = omega (arith, ap (λ l. slice_index l 0) h.0.1)
no_other_way (A level) e h = omega (arith, ap (λ l. slice_index l 0) h.0.1)
no_other_way One e h = omega (arith, ap (λ l. slice_index l 0) h.0.1)
no_other_way Fb e h = omega (arith, ap (λ l. slice_index l 0) h.0.1)
no_other_way (B level) e h = omega (arith, ap (λ l. slice_index l 0) h.0.1)

-- `branch` takes branching queries, and `path` doesn't
branch_spelled : IsSpelled (codes "branch fb  a\t") (branch Fb (tree.first_step (tree.step (tree.label (codes "a")) tree.none) tree.no_step))
branch_spelled = ((refl, refl, tt), ([], codes "a", [], refl, inl (plain_a, refl), (λ _. tt), refl, refl))

up_spelled : IsSpelled (codes "branch data a\\_") (branch Data (tree.first_step (tree.step (tree.label (codes "a")) tree.none) (tree.go tree.parent (tree.step tree.any tree.none) tree.no_step)))
up_spelled = (
  (refl, refl, tt),
  ([], codes "a", codes "\\_", refl, inl (plain_a, refl), (λ _. refl), ([], codes "\\", codes "_", refl, refl, refl, ([], codes "_", [], refl, refl, tt, refl, refl), refl), refl),
)

no_branch_of_path : (via : Via) (q : tree.Branch) → ¬ IsSpelled (codes "path data a") (branch via q)
no_branch_of_path via q h = omega (arith, ap (λ l. slice_index l 0) h.0.0)

-- a node, and then a path expression
why_spelled : IsSpelled (codes "why  n7 a ") (why 7 (only (last (once (label (codes "a"))))))
why_spelled = ((refl, ap (λ d. 110 ∷ d) (sym (decimal_digit 7 (lit< tt))), lit< tt), ([], codes "a", [], refl, inl (plain_a, refl), tt, refl, refl))

no_why_of_nodes : (v : ℕ) (e : Expr) → ¬ IsSpelled (codes "why a a") (why v e)
no_why_of_nodes v e h = omega (arith, ap (λ l. slice_index l 0) h.0.1)

-- nodes with a comma between each two, and no blank
check_spelled : IsSpelled (codes "check n1,n2 a") (check (1 ∷ 2 ∷ []) (only (last (once (label (codes "a"))))))
check_spelled = (
  (
    refl,
    (
      ap (λ d. (110 ∷ d) ∷ codes "n2" ∷ []) (sym (decimal_digit 1 (lit< tt))) ∙ ap (λ d. node_word 1 ∷ (110 ∷ d) ∷ []) (sym (decimal_digit 2 (lit< tt))),
      (lit< tt, (lit< tt, tt)),
    ),
  ),
  ([], codes "a", [], refl, inl (plain_a, refl), tt, refl, refl),
)

no_gap : (nodes : List ℕ) → ¬ SpellsNodes (codes "n1,,n2") nodes
no_gap [] h = (let n = ap length h.0 in omega (arith, n))
no_gap (x ∷ []) h = (let n = ap length h.0 in omega (arith, n))
no_gap (x ∷ y ∷ ns) h = (let n = ap (λ ws. length (second ws)) h.0 in omega (arith, n))

no_nodes : (nodes : List ℕ) → ¬ SpellsNodes [] nodes
no_nodes [] h = (let n = ap length h.0 in omega (arith, n))
no_nodes (x ∷ ns) h = (let n = ap (λ ws. length (first ws)) h.0 in omega (arith, n))

-- a kind of indexes is named without a level, and the graph itself is no kind
forget_spelled : IsSpelled (codes "forget a") (forget kind.A)
forget_spelled = refl

no_level_forgotten : (kind : Kind) → ¬ IsSpelled (codes "forget a0") (forget kind)
no_level_forgotten kind.A h = omega (arith, ap (λ ws. length (second ws)) h)
no_level_forgotten kind.One h = omega (arith, ap (λ ws. length (second ws)) h)
no_level_forgotten kind.Fb h = omega (arith, ap (λ ws. slice_index (second ws) 0) h)
no_level_forgotten kind.B h = omega (arith, ap (λ ws. slice_index (second ws) 0) h)

no_data_forgotten : (kind : Kind) → ¬ IsSpelled (codes "forget data") (forget kind)
no_data_forgotten kind.A h = omega (arith, ap (λ ws. slice_index (second ws) 0) h)
no_data_forgotten kind.One h = omega (arith, ap (λ ws. slice_index (second ws) 0) h)
no_data_forgotten kind.Fb h = omega (arith, ap (λ ws. slice_index (second ws) 0) h)
no_data_forgotten kind.B h = omega (arith, ap (λ ws. slice_index (second ws) 0) h)

-- the blocks of an index; its level has no zero in front
extents_spelled : IsSpelled (codes " extents fb ") (extents Fb)
extents_spelled = (refl, tt)

extents_level : IsSpelled (codes "extents a2") (extents (A 2))
extents_level = (ap (λ d. codes "extents" ∷ (97 ∷ d) ∷ []) (sym (decimal_digit 2 (lit< tt))), lit< tt)

extents_bounded : IsSpelled (codes "extents b1") (extents (B 1))
extents_bounded = (ap (λ d. codes "extents" ∷ (98 ∷ d) ∷ []) (sym (decimal_digit 1 (lit< tt))), lit< tt)

no_blocks_of_data : (via : Via) → ¬ IsSpelled (codes "extents data") (extents via)
no_blocks_of_data Data h = h.1
no_blocks_of_data (A level) h = (let e = ap (λ ws. slice_index (second ws) 0) h.0 in omega (arith, e))
no_blocks_of_data One h = (let e = ap (λ ws. slice_index (second ws) 0) h.0 in omega (arith, e))
no_blocks_of_data Fb h = (let e = ap (λ ws. slice_index (second ws) 0) h.0 in omega (arith, e))
no_blocks_of_data (B level) h = (let e = ap (λ ws. slice_index (second ws) 0) h.0 in omega (arith, e))

no_zero_in_level : (via : Via) → ¬ IsSpelled (codes "extents a01") (extents via)
no_zero_in_level Data h = h.1
no_zero_in_level (A level) h =
    (let d : 48 ∷ 49 ∷ [] ≡ decimal level = ap (λ ws. drop 1 (second ws)) h.0 in
    no_two_digits level 49 (let b = h.1 in omega (arith, b)) (sym d))
no_zero_in_level One h = (let e = ap (λ ws. slice_index (second ws) 0) h.0 in omega (arith, e))
no_zero_in_level Fb h = (let e = ap (λ ws. slice_index (second ws) 0) h.0 in omega (arith, e))
no_zero_in_level (B level) h = (let e = ap (λ ws. slice_index (second ws) 0) h.0 in omega (arith, e))

no_index_named : (via : Via) → ¬ IsSpelled (codes "extents") (extents via)
no_index_named via h = omega (arith, ap length h.0)

-- `sizes` stands alone
sizes_spelled : IsSpelled (codes "sizes") sizes
sizes_spelled = refl

no_word_behind_sizes : ¬ IsSpelled (codes "sizes x") sizes
no_word_behind_sizes h = omega (arith, ap length h)

-- so does `save`, which is a word of its own
save_spelled : IsSpelled (codes "\tsave ") save
save_spelled = refl

no_word_behind_save : ¬ IsSpelled (codes "save f") save
no_word_behind_save h = omega (arith, ap length h)

no_saves : ¬ IsSpelled (codes "saves") save
no_saves h = omega (arith, ap (λ ws. length (first ws)) h)

no_sizes_saved : ¬ IsSpelled (codes "sizes") save
no_sizes_saved h = omega (arith, ap (λ ws. slice_index (first ws) 1) h)

-- the text of an expression has no blanks at its ends, and all those that stand within it
text_of_query : expression_text (codes " path\tdata  a / b\t ") ≡ codes "a / b"
text_of_query = refl

-- blanks alone are no expression
no_text : expression_text (codes "path data \t ") ≡ []
no_text = refl

-- a word of the query languages is no label, so the line is no command
bad_label : NoCommand (codes "node and")
bad_label = (λ q. omega (arith, q), other)
  where
    other : (c : Command) → ¬ IsSpelled (codes "node and") c
    other (change (node t)) h = no_label_and t (subst (λ w. SpellsLabel w t) (sym (ap second h.1)) h.2)
    other (change (link u v)) h = omega (arith, ap length h.0)
    other (change (unlink u v)) h = omega (arith, ap length h.0)
    other (change (drop_node u)) h = omega (arith, ap (λ ws. slice_index (first ws) 0) h.0)
    other (change (relabel u t)) h = omega (arith, ap length h.1)
    other begin h = omega (arith, ap length h)
    other end_group h = omega (arith, ap length h)
    other (insert t) h = omega (arith, ap (λ l. slice_index l 0) h.0)
    other (delete t) h = omega (arith, ap (λ l. slice_index l 0) h.0)
    other (path via e) h = omega (arith, ap (λ l. slice_index l 0) h.0.0)
    other (branch via q) h = omega (arith, ap (λ l. slice_index l 0) h.0.0)
    other (why v e) h = omega (arith, ap (λ l. slice_index l 0) h.0.0)
    other (check nodes e) h = omega (arith, ap (λ l. slice_index l 0) h.0.0)
    other (extents via) h = omega (arith, ap (λ ws. slice_index (first ws) 0) h.0)
    other sizes h = omega (arith, ap length h)
    other save h = omega (arith, ap length h)
    other (forget kind) h = omega (arith, ap (λ ws. slice_index (first ws) 0) h)
