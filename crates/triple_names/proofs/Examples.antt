-- The definitions at a worked triple, and at near misses.
use Rattle.std.proofs.Common.{◌≡◌, ℕ, List, [], ◌∷◌, refl, Some, None, true, false}
use Rattle.std.specs.Prelude.{codes}
use Rattle.std.specs.FinSet as set
use Rattle.graph_spec.specs.Graphs.{Graph, empty_graph}
use Rattle.change_spec.specs.Steps.{node, link}
use Rattle.triples_read.specs.declared.term.Term.{Term}
use Rattle.triples_read.specs.declared.term.Term.TheVariants.{Iri, Blank}
use Rattle.triples_read.specs.declared.term.Triple.{Triple}
use Rattle.triple_names.specs.Items.{of_term, of_triple, predicate_label, has_item, has_join}
use Rattle.triple_names.specs.Names.{Names, no_names}
use Rattle.triple_names.specs.TripleChanges.{placed_in, insert_steps, delete_change, noted}
use Rattle.triple_names.specs.Represented.{with_triple, without_triple}

abbrev a : Term
a = Iri (codes "a")

abbrev b : Term
b = Blank (codes "b")

abbrev says : Term → Term → Triple
says x y = record { subject = x; predicate = codes "p"; object = y }

abbrev p : List ℕ
p = predicate_label (codes "p")

-- a triple of two terms needs three nodes; one whose terms are the same needs two
inserts_three : insert_steps no_names empty_graph (says a b) ≡ node (codes "iri") ∷ node p ∷ node (codes "blank") ∷ link 0 1 ∷ link 1 2 ∷ []
inserts_three = refl

inserts_two : insert_steps no_names empty_graph (says a a) ≡ node (codes "iri") ∷ node p ∷ link 0 1 ∷ link 1 0 ∷ []
inserts_two = refl

placed_two : placed_in no_names empty_graph (says a a) ≡ record { subject = 0; triple = 1; object = 0 }
placed_two = refl

-- the names after that
abbrev named : Names
named = noted (says a a) (placed_in no_names empty_graph (says a a)) no_names

names_two : named ≡ record { terms = (a, 0) ∷ []; triples = (says a a, 1) ∷ [] }
names_two = refl

-- with its two nodes there, only the edges are left of it
abbrev nodes : Graph
nodes = record { allocated = Some (codes "iri") ∷ Some p ∷ []; edges = set.empty; seen = codes "iri" ∷ p ∷ [] }

inserts_again : insert_steps named nodes (says a a) ≡ link 0 1 ∷ link 1 0 ∷ []
inserts_again = refl

-- a number whose node is gone isn't there: the term gets a new one
abbrev one_gone : Graph
one_gone = record nodes { allocated = None ∷ Some p ∷ [] }

inserts_new : insert_steps named one_gone (says a a) ≡ node (codes "iri") ∷ link 2 1 ∷ link 1 2 ∷ []
inserts_new = refl

renames : noted (says a a) (placed_in named one_gone (says a a)) named ≡ record { terms = (a, 2) ∷ []; triples = (says a a, 1) ∷ [] }
renames = refl

-- what isn't there can't be deleted
absent : delete_change no_names empty_graph (says a a) ≡ None
absent = refl

never_named : delete_change named nodes (says a b) ≡ None
never_named = refl

-- a term of the same characters and another kind has no node; an edge leads to the triple, and none back
other_kind : has_item (says a b ∷ []) (of_term (Blank (codes "a"))) ≡ false
other_kind = refl

forth : has_join (says a b ∷ []) (of_term a) (of_triple (says a b)) ≡ true
forth = refl

not_back : has_join (says a b ∷ []) (of_triple (says a b)) (of_term a) ≡ false
not_back = refl

-- inserted twice it is there once, and deleted it is gone
twice : with_triple (with_triple [] (says a b)) (says a b) ≡ says a b ∷ []
twice = refl

deleted : without_triple (says a b ∷ says a a ∷ []) (says a b) ≡ says a a ∷ []
deleted = refl
