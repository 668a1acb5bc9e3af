-- How the numbers of terms and of triples are stored.
use Rattle.std.specs.Prelude.{ℕ, List, refl}
use Rattle.std.specs.Coded.{Coded, code_by, coded×, coded_ℕ, coded_list}
use Rattle.triples_read.specs.declared.term.Term.{Term}
use Rattle.triples_read.specs.declared.term.Triple.{Triple}
use Rattle.triples_read.specs.contracts.term.Term as terms
use Rattle.triples_read.specs.contracts.term.Triple as triples
use Rattle.triple_names.specs.Names.{ReservedNames}

-- as three lists
abbrev pub names_code : Coded ReservedNames
names_code =
    code_by (List (Term × ℕ) × (List (Triple × ℕ) × List Triple))
    (coded× (coded_list (coded× terms.the_row.coded coded_ℕ)) (coded× (coded_list (coded× triples.the_row.coded coded_ℕ)) (coded_list triples.the_row.coded)))
    (λ n. (n.names.terms, (n.names.triples, n.reserved)))
    (λ p. record { names = record { terms = p.0; triples = p.1.0 }; reserved = p.1.1 })
    (λ _. refl)
