-- What has a node of its own in the graph of a set of triples: each subject and each object, and each triple.
use Rattle.std.specs.Prelude.{ℕ, Bool, false, ◌&&◌, ◌||◌, List, codes, bytes_eq}
use Rattle.std.specs.List.{list_any}
use Rattle.triples_read.specs.declared.term.Term.{Term}
use Rattle.triples_read.specs.declared.term.Term.TheVariants.{Iri, Blank, Literal}
use Rattle.triples_read.specs.declared.term.Triple.{Triple}
use Rattle.triples_read.specs.Canonical.{iri_spelling}
use Rattle.term_table.specs.Terms.{same_term}

-- the three parts are equal
abbrev pub same_triple : Triple → Triple → Bool
same_triple t u = same_term t.subject u.subject && (bytes_eq t.predicate u.predicate && same_term t.object u.object)

-- the label of a term's node
abbrev pub term_label : Term → List ℕ
term_label (Iri iri) = codes "iri"
term_label (Blank label) = codes "blank"
term_label (Literal text datatype tag) = codes "literal"

-- the label of a triple's node: its predicate in the canonical spelling, brackets included
abbrev pub predicate_label : List ℕ → List ℕ
predicate_label iri = iri_spelling iri

-- a term, or a triple
pub data Item : Type 0 where
  -- a term
  of_term : Term → Item
  -- a triple
  of_triple : Triple → Item

-- both are terms or both triples, and they are equal
abbrev pub same_item : Item → Item → Bool
same_item (of_term x) (of_term y) = same_term x y
same_item (of_triple t) (of_triple u) = same_triple t u
same_item a b = false

-- the label of an item's node
abbrev pub item_label : Item → List ℕ
item_label (of_term x) = term_label x
item_label (of_triple t) = predicate_label t.predicate

-- the item is the triple, its subject or its object
abbrev pub is_part : Triple → Item → Bool
is_part t p = same_item p (of_term t.subject) || (same_item p (of_triple t) || same_item p (of_term t.object))

-- an edge leads from the subject of a triple to the triple, and one from the triple to its object
abbrev pub joins : Triple → Item → Item → Bool
joins t p q = (same_item p (of_term t.subject) && same_item q (of_triple t)) || (same_item p (of_triple t) && same_item q (of_term t.object))

-- the item has a node in the graph of the triples
abbrev pub has_item : List Triple → Item → Bool
has_item s p = list_any (λ t. is_part t p) s

-- an edge leads from the one item to the other in the graph of the triples
abbrev pub has_join : List Triple → Item → Item → Bool
has_join s p q = list_any (λ t. joins t p q) s
