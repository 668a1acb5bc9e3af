-- What was found is found again where more has come.
use Rattle.std.proofs.Common.{◌≡◌, ℕ, List, Option, Some, None, sym}
use Rattle.std.specs.Prelude.{IfSome, position, bytes_eq}
use Rattle.triples_read.specs.declared.term.Term.{Term}
use Rattle.graph_load.specs.declared.loader.Loader.{Loader}
use Rattle.term_table.specs.declared.table.Found.{Found}
use Rattle.term_table.specs.FoundTerms.{IsFound, IsFoundAs}
use Rattle.graph_load.specs.Loaders.{Grows}
use Rattle.graph_load.proofs.EdgeSteps.{number_stays}
use Rattle.graph_load.proofs.AddTriple.{place_stays, predicate_stays}

pub term_again_found : (old new : Loader) → Grows old new → (x : Term) (o : Option Found) → IsFoundAs old.terms x o → IfSome o (IsFound new.terms x)
term_again_found old new grows x None h = tt
term_again_found old new grows x (Some f) h = record {
  place = place_stays old new grows x f.place (sym h.place);
  number = number_stays old new grows x f.number (sym h.number);
}

pub predicate_again_found : (old new : Loader) → Grows old new → (iri : List ℕ) (o : Option ℕ) → o ≡ position (bytes_eq iri) old.predicates
    → IfSome o (λ p. position (bytes_eq iri) new.predicates ≡ Some p)
predicate_again_found old new grows iri None h = tt
predicate_again_found old new grows iri (Some p) h = predicate_stays old new grows iri p (sym h)
