-- The steps by which the edges of a triple are added.
use Rattle.std.proofs.Common.{◌≡◌, ℕ, List, Some, ap, ◌∙◌}
use Rattle.std.specs.Prelude.{unwrap_or}
use Rattle.graph_spec.specs.declared.limits.Limits.{Limits}
use Rattle.change_spec.specs.Steps.{link}
use Rattle.triples_read.specs.declared.term.Term.{Term}
use Rattle.triples_read.specs.declared.term.Triple.{Triple}
use Rattle.graph_load.specs.declared.loader.Loader.{Loader}
use Rattle.graph_load.specs.TripleGraphs.{need, changed, then_do, from_term, onto_term, linked}
use Rattle.term_table.specs.Terms.{number_of, same_term}
use Rattle.graph_load.specs.Loaders.{load_state, Grows, LoaderStep, IsStopped}
use Rattle.triple_names.proofs.PlaceLaws.{lookup_append, begins_trans}

pub grows_trans : (a b c : Loader) → Grows a b → Grows b c → Grows a c
grows_trans a b c h k = record {
  terms = begins_trans a.terms b.terms c.terms h.terms k.terms;
  predicates = begins_trans a.predicates b.predicates c.predicates h.predicates k.predicates;
  known = k.known ∙ h.known;
}

pub number_stays : (old new : Loader) → Grows old new → (x : Term) (n : ℕ) → number_of old.terms x ≡ Some n → number_of new.terms x ≡ Some n
number_stays old new grows x n h = ap (λ ts. number_of ts x) grows.terms.1 ∙ lookup_append (same_term x) old.terms grows.terms.0 n h

module _ (limits : Limits) (x : Term) (n : ℕ) (y : Term) (old a : Loader) (from onto : ℕ)
    (is_from : number_of old.terms x ≡ Some from) (needs : LoaderStep (need limits y) old a) (is_onto : number_of a.terms y ≡ Some onto) where
  first : (triples : List (Triple × ℕ)) → linked limits x n y (load_state old triples) ≡ then_do (changed limits (link from n) (load_state a triples)) (onto_term limits n y)
  first triples =
      ap (λ r. then_do r (λ l. then_do (from_term limits x n l) (onto_term limits n y))) (needs.does triples)
      ∙ ap (λ o. then_do (changed limits (link (unwrap_or o 0) n) (load_state a triples)) (onto_term limits n y)) (number_stays old a needs.grows x from is_from)

  pub linked_stopped_first : IsStopped (changed limits (link from n)) a → IsStopped (linked limits x n y) old
  linked_stopped_first stop triples =
      let s = stop triples in
      (s.0, first triples ∙ ap (λ r. then_do r (onto_term limits n y)) s.1)

  module _ (b : Loader) (links : LoaderStep (changed limits (link from n)) a b) where
    second : (triples : List (Triple × ℕ)) → linked limits x n y (load_state old triples) ≡ changed limits (link n onto) (load_state b triples)
    second triples =
        first triples ∙ ap (λ r. then_do r (onto_term limits n y)) (links.does triples)
        ∙ ap (λ o. changed limits (link n (unwrap_or o 0)) (load_state b triples)) (number_stays a b links.grows y onto is_onto)

    pub linked_stopped_second : IsStopped (changed limits (link n onto)) b → IsStopped (linked limits x n y) old
    linked_stopped_second stop triples = let s = stop triples in (s.0, second triples ∙ s.1)

    pub linked_steps : (c : Loader) → LoaderStep (changed limits (link n onto)) b c → LoaderStep (linked limits x n y) old c
    linked_steps c last = record {
      does = λ triples. second triples ∙ last.does triples;
      sound = last.sound;
      grows = grows_trans old b c (grows_trans old a b needs.grows links.grows) last.grows;
    }

pub linked_stopped : (limits : Limits) (x : Term) (n : ℕ) (y : Term) (old : Loader) → IsStopped (need limits y) old → IsStopped (linked limits x n y) old
linked_stopped limits x n y old stop triples =
    let s = stop triples in
    (s.0, ap (λ r. then_do r (λ l. then_do (from_term limits x n l) (onto_term limits n y))) s.1)
