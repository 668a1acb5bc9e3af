-- The definitions at worked triples, and at near misses.
use Rattle.std.proofs.Common.{◌≡◌, ℕ, ◌∙◌, ap, true, false, ◌||◌, cond, ◌+◌, List, [], ◌∷◌, ◌++◌, refl, Result, None, Some, Ok, Err, lit≤}
use Rattle.std.specs.Prelude.{codes, nat_lt, if◌then◌else◌}
use Rattle.std.specs.FinSet as set
use Rattle.std.proofs.Math.Bool.{or-true}
use Rattle.std.proofs.Math.Utf8.{encode}
use Rattle.graph_spec.specs.declared.limits.Limits.{Limits}
use Rattle.graph_spec.specs.declared.refusal.Refusal.{Refusal}
use Rattle.graph_spec.specs.declared.refusal.Refusal.TheVariants.{Limit}
use Rattle.graph_spec.specs.ProgramLimits.{program_limits}
use Rattle.graph_spec.specs.Graphs.{Graph, edge_cmp, has_edge}
use Rattle.graph_spec.specs.Changes.{with_edge, edge_fits}
use Rattle.change_spec.specs.Steps.{and_then}
use Rattle.graph_spec.proofs.EdgeOrder.{edge_cmp_total}
use Rattle.triples_read.specs.Lines.{xsd_string}
use Rattle.triples_read.specs.declared.term.Term.{Term}
use Rattle.triples_read.specs.declared.term.Term.TheVariants.{Iri, Blank, Literal}
use Rattle.triples_read.specs.declared.term.Triple.{Triple}
use Rattle.graph_load.specs.TripleGraphs.{LoadState, nothing_loaded, need, with_graph, then_do, onto_term, with_triple}
use Rattle.triple_names.specs.Items.{predicate_label}
use Rattle.term_table.specs.Terms.{same_term}

abbrev a : Term
a = Iri (codes "a")

abbrev b : Term
b = Iri (codes "b")

abbrev one : Triple
one = record { subject = a; predicate = codes "p"; object = b }

-- the nodes of the triple: its subject, the triple itself, its object
abbrev nodes : Graph
nodes = record {
  allocated = Some (codes "iri") ∷ Some (predicate_label (codes "p")) ∷ Some (codes "iri") ∷ [];
  edges = set.empty;
  seen = codes "iri" ∷ predicate_label (codes "p") ∷ [];
}

abbrev with_triples : Graph → List (Triple × ℕ) → LoadState
with_triples g triples = record { graph = g; terms = (a, 0) ∷ (b, 2) ∷ []; triples = triples }

-- and its two edges
abbrev after_one : LoadState
after_one = with_triples (with_edge (with_edge nodes 0 1) 1 2) ((one, 1) ∷ [])

abbrev last : LoadState → Result LoadState Refusal
last l = Ok (record l { triples = l.triples ++ (one, 1) ∷ [] })

first_fits : edge_fits nodes program_limits 0 1 ≡ true
first_fits =
    ap (λ x. x || nat_lt (set.len nodes.edges) program_limits.edges) (set.contains-empty edge_cmp (0, 1))
    ∙ ap (λ n. nat_lt n program_limits.edges) (set.len-empty edge_cmp)

second_fits : edge_fits (with_edge nodes 0 1) program_limits 1 2 ≡ true
second_fits =
    ap (λ n. has_edge (with_edge nodes 0 1) 1 2 || nat_lt n program_limits.edges)
    (set.len-insert edge_cmp_total set.empty (0, 1) ∙ ap (λ x. cond x (set.len nodes.edges) (set.len nodes.edges + 1)) (set.contains-empty edge_cmp (0, 1)) ∙ ap (λ n. n + 1) (set.len-empty edge_cmp))
    ∙ or-true (has_edge (with_edge nodes 0 1) 1 2)

-- what a change of one step comes to
abbrev alone : Result Graph Refusal → Result Graph Refusal
alone r = and_then r (λ h. Ok h)

-- one triple gives three nodes and two edges
loads_one : with_triple program_limits one nothing_loaded ≡ Ok after_one
unfolding encode
loads_one =
    ap (λ x. then_do (then_do (with_graph (with_triples nodes []) (alone (if x then Ok (with_edge nodes 0 1) else Err Limit))) (onto_term program_limits 1 b)) last) first_fits
    ∙ ap (λ x. then_do (with_graph (with_triples (with_edge nodes 0 1) []) (alone (if x then Ok (with_edge (with_edge nodes 0 1) 1 2) else Err Limit))) last) second_fits

-- the same triple again adds nothing
loads_again : with_triple program_limits one after_one ≡ Ok after_one
loads_again = refl

-- an object that comes as a subject is a node already
is_there : need program_limits b after_one ≡ Ok after_one
is_there = refl

-- an IRI, a blank node and a literal of the same characters are three terms, and so are literals with other tags
iri_or_literal : same_term (Iri (codes "a")) (Literal (codes "a") xsd_string None) ≡ false
iri_or_literal = refl

iri_or_blank : same_term (Iri (codes "a")) (Blank (codes "a")) ≡ false
iri_or_blank = refl

other_tags : same_term (Literal (codes "a") xsd_string (Some (codes "en"))) (Literal (codes "a") xsd_string (Some (codes "de"))) ≡ false
other_tags = refl

-- a triple that needs a third node of two is refused
two_nodes : Limits
two_nodes = record program_limits { nodes = 2; nodes_bounded = lit≤ tt }

third_node : with_triple two_nodes one nothing_loaded ≡ Err Limit
unfolding two_nodes encode
third_node = refl
