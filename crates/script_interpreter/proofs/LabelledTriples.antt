-- The labels of terms and of triples, and of a graph that represents triples.
use Rattle.std.proofs.Common.{◌≡◌, ℕ, List, Some, inl, inr, refl, sym, ap, ◌∙◌, subst, arith, is_some}
use Rattle.std.specs.Prelude.{IsTrue, codes, slice_index, encode_utf8_all}
use Rattle.std.proofs.Math.Seq.{take-length}
use Rattle.graph_spec.specs.Graphs.{Graph, label_of}
use Rattle.triples_read.specs.declared.term.Term.{Term}
use Rattle.triples_read.specs.declared.term.Term.TheVariants.{Iri, Blank, Literal}
use Rattle.triples_read.specs.declared.term.Triple.{Triple}
use Rattle.triples_read.specs.Canonical.{IsSpelled}
use Rattle.triple_names.specs.Items.{Item, of_term, of_triple, term_label, predicate_label, item_label, is_part, has_item}
use Rattle.triple_names.specs.Names.{Names}
use Rattle.triple_names.specs.Represented.{Represents}
use Rattle.triple_names.proofs.ItemLaws.{find_one, part_triple}
use Rattle.path_query.specs.Labels.{IsPlainLabel, SpellsLabel}
use Rattle.path_query.proofs.PathRoundTrips.{label_again}
use Rattle.index_file.specs.WholeFiles.{HasLabels}

plain_iri : IsPlainLabel (codes "iri")
plain_iri = (refl, (λ e. omega (arith, ap (λ l. slice_index l 0) e)), (λ e. omega (arith, ap (λ l. slice_index l 0) e)), (λ e. omega (arith, ap (λ l. slice_index l 0) e)))

plain_blank : IsPlainLabel (codes "blank")
plain_blank = (refl, (λ e. omega (arith, ap (λ l. slice_index l 0) e)), (λ e. omega (arith, ap (λ l. slice_index l 0) e)), (λ e. omega (arith, ap (λ l. slice_index l 0) e)))

plain_literal : IsPlainLabel (codes "literal")
plain_literal = (refl, (λ e. omega (arith, ap (λ l. slice_index l 0) e)), (λ e. omega (arith, ap (λ l. slice_index l 0) e)), (λ e. omega (arith, ap (λ l. slice_index l 0) e)))

-- the label of a term is spelled as it is
pub term_spelled : (x : Term) → SpellsLabel (term_label x) (term_label x)
term_spelled (Iri iri) = inl (plain_iri, refl)
term_spelled (Blank label) = inl (plain_blank, refl)
term_spelled (Literal text datatype tag) = inl (plain_literal, refl)

-- so is that of a triple that some line spells
pub predicate_spelled : (t : Triple) → IsSpelled t → SpellsLabel (predicate_label t.predicate) (predicate_label t.predicate)
predicate_spelled t (line, (cs, before, triple, behind, comment, whole, blanks, is, more, ending)) =
    let word = encode_utf8_all is.predicate in
    label_again word (predicate_label t.predicate) (inr (t.predicate, (omega arith, is.predicate, take-length word, is.is_predicate), refl))

-- the label of each item of the triples is spelled as it is
item_spelled : (g : Graph) (n : Names) (s : List Triple) → Represents g n s → (p : Item) → IsTrue (has_item s p) → SpellsLabel (item_label p) (item_label p)
item_spelled g n s r (of_term x) h = term_spelled x
item_spelled g n s r (of_triple t) h =
    let one = find_one (λ u. is_part u (of_triple t)) s h in
    predicate_spelled t (subst IsSpelled (sym (part_triple one.0 t one.2)) (r.spelled one.0 one.1))

same_text : (t u : List ℕ) → Some t ≡ Some u → t ≡ u
same_text t u e = cc

same_number : (m n : ℕ) → Some m ≡ Some n → m ≡ n
same_number m n e = cc

-- The nodes of a graph that represents triples have labels.
pub represented_labels : (g : Graph) (n : Names) (s : List Triple) → Represents g n s → HasLabels g
represented_labels g n s r m t e =
    let node = r.image.all m (ap is_some e) in
    let place = r.image.labelled node.0 node.1 in
    let same : place.0 ≡ m = same_number place.0 m (sym place.1 ∙ node.2) in
    let label : Some (item_label node.0) ≡ Some t = sym place.2 ∙ ap (label_of g) same ∙ e in
    subst (λ x. SpellsLabel x x) (same_text (item_label node.0) t label) (item_spelled g n s r node.0 node.1)
