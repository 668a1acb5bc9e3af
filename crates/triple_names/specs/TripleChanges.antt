-- The changes that insert a triple into a graph and delete it, and what is noted of an insert.
use Rattle.std.specs.Prelude.{ℕ, ◌+◌, not, Bool, List, [], ◌∷◌, ◌++◌, length, Option, None, Some, if◌then◌else◌}
use Rattle.graph_spec.specs.Graphs.{Graph}
use Rattle.graph_spec.specs.Changes.{is_used}
use Rattle.change_spec.specs.Steps.{Step, node, link, drop, without_node}
use Rattle.triples_read.specs.declared.term.Triple.{Triple}
use Rattle.term_table.specs.Terms.{same_term}
use Rattle.triple_names.specs.Items.{of_term, of_triple, same_triple, term_label, predicate_label}
use Rattle.triple_names.specs.Names.{Names, node_there, with_number}
use Rattle.triple_names.specs.declared.inserting.Placed.{Placed}

-- the number of a node that is there, else the next one
abbrev pub given_number : Option ℕ → ℕ → ℕ
given_number None next = next
given_number (Some m) next = m

-- the next number behind that
abbrev pub next_after : Option ℕ → ℕ → ℕ
next_after None next = next + 1
next_after (Some m) next = next

-- the node of the object: that of the subject, where they are one term
abbrev pub object_there : Names → Graph → Triple → ℕ → Option ℕ
object_there n g t subject = if same_term t.object t.subject then Some subject else node_there n g (of_term t.object)

-- the numbers that the parts of a triple have, or will be given
abbrev pub placed_in : Names → Graph → Triple → Placed
placed_in n g t =
    let next = length g.allocated in
    let subject = given_number (node_there n g (of_term t.subject)) next in
    let second = next_after (node_there n g (of_term t.subject)) next in
    let third = next_after (node_there n g (of_triple t)) second in
    record {
      subject = subject;
      triple = given_number (node_there n g (of_triple t)) second;
      object = given_number (object_there n g t subject) third;
    }

-- one more node, where there is none
abbrev pub node_unless : Option ℕ → List ℕ → List Step
node_unless None label = node label ∷ []
node_unless (Some m) label = []

-- The steps that insert a triple: nodes for its subject, for itself and for its object, where they have none; then its edges.
abbrev pub insert_steps : Names → Graph → Triple → List Step
insert_steps n g t =
    let p = placed_in n g t in
    node_unless (node_there n g (of_term t.subject)) (term_label t.subject)
    ++ (node_unless (node_there n g (of_triple t)) (predicate_label t.predicate)
    ++ (node_unless (object_there n g t p.subject) (term_label t.object)
    ++ (link p.subject p.triple ∷ link p.triple p.object ∷ [])))

-- the three numbers are those of the parts of the triple from now on
abbrev pub noted : Triple → Placed → Names → Names
noted t p n = record {
  terms = with_number (same_term t.object) t.object p.object (with_number (same_term t.subject) t.subject p.subject n.terms);
  triples = with_number (same_triple t) t p.triple n.triples;
}

-- the node has no neighbour but the other one: without that, no edge begins or ends at it
abbrev pub is_only_neighbour : Graph → ℕ → ℕ → Bool
is_only_neighbour g u other = not (is_used (without_node g other) u)

-- the node of a term goes with that of a triple, where it is there and has no other neighbour
abbrev pub drop_with : Graph → Option ℕ → ℕ → List Step
drop_with g None triple = []
drop_with g (Some u) triple = if is_only_neighbour g u triple then drop u ∷ [] else []

-- The steps that delete a triple whose node has this number: that node; then the node of its subject, and that of its object
-- where this is another term, if they have no other neighbour.
abbrev pub delete_steps : Names → Graph → Triple → ℕ → List Step
delete_steps n g t triple =
    drop triple ∷ (drop_with g (node_there n g (of_term t.subject)) triple
    ++ (if same_term t.object t.subject then [] else drop_with g (node_there n g (of_term t.object)) triple))

-- the steps that delete a triple, and none if it isn't there
abbrev pub deletion : Names → Graph → Triple → Option ℕ → Option (List Step)
deletion n g t None = None
deletion n g t (Some triple) = Some (delete_steps n g t triple)

-- the steps that delete a triple, and none where it has no live node
abbrev pub delete_change : Names → Graph → Triple → Option (List Step)
delete_change n g t = deletion n g t (node_there n g (of_triple t))
