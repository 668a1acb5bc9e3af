-- What steps of a loader keep.
use Rattle.std.proofs.Common.{◌≡◌, ℕ, ◌+◌, ◌≤◌, Bool, true, false, List, [], ◌∷◌, ◌++◌, length, Some, None, Result, Ok, Err, refl, sym, ap, ◌∙◌, subst, arith, append-nil}
use Rattle.std.specs.Prelude.{OnOk, if◌then◌else◌, bytes_eq}
use Rattle.std.specs.List.{list_any}
use Rattle.std.proofs.lemmas.List.{length_push}
use Rattle.graph_spec.specs.declared.limits.Limits.{Limits}
use Rattle.change_spec.specs.Steps.{node, link, apply}
use Rattle.label_graph.specs.ReservedGraphs.{ReservedGraph, none_reserved}
use Rattle.triples_read.specs.declared.term.Term.{Term}
use Rattle.triple_names.specs.Items.{term_label, predicate_label}
use Rattle.graph_load.specs.declared.loader.Loader.{Loader}
use Rattle.graph_load.specs.TripleGraphs.{need, changed, with_graph}
use Rattle.term_table.specs.Terms.{number_of, same_term}
use Rattle.triple_names.specs.TableIndexes.{with_predicate}
use Rattle.graph_load.specs.Loaders.{load_state, IsSoundLoader, LoaderStep}
use Rattle.term_table.specs.Entries.{Begins}
use Rattle.triple_names.proofs.PlaceLaws.{lookup_push}
use Rattle.triple_names.proofs.KeyLaws.{keys_still}
use Rattle.term_table.proofs.SameTerms.{term_same}
use Rattle.graph_load.proofs.ChangeLaws.{node_made, link_made, need_new}

-- a term becomes a node
pub term_steps : (limits : Limits) (x : Term) (old : Loader) (h : ReservedGraph) (n : ℕ) (terms : List (Term × ℕ)) → IsSoundLoader old → number_of old.terms x ≡ None
    → apply (node (term_label x) ∷ []) old.graph.graph limits ≡ Ok h.graph → h.reserved ≡ none_reserved → n ≡ length old.graph.graph.allocated → terms ≡ old.terms ++ (x, n) ∷ []
    → LoaderStep (need limits x) old (record old { graph = h; terms = terms })
term_steps limits x old h n terms sound none made reserved number added =
    let exact : terms ≡ old.terms ++ (x, length old.graph.graph.allocated) ∷ [] = added ∙ ap (λ m. old.terms ++ (x, m) ∷ []) number in
    let allocated = node_made (term_label x) old.graph.graph limits h.graph made in
    let longer = ap length added ∙ length_push old.terms (x, n) in
    let few = sound.terms in
    let fewer = sound.predicates in
    record {
      does = λ triples. need_new limits x (load_state old triples) h.graph none made ∙ ap (λ ts. Ok (record { graph = h.graph; terms = ts; triples = triples })) (sym exact);
      sound = record {
        reserved = reserved;
        terms = omega (arith, allocated, longer, few);
        predicates = omega (arith, allocated, fewer);
        known = keys_still old.terms terms old.predicates old.predicates ((x, n) ∷ [], added) ([], sym (append-nil old.predicates)) old.known sound.known;
      };
      grows = record { terms = ((x, n) ∷ [], added); predicates = ([], sym (append-nil old.predicates)); known = refl };
    }

pub term_number : (terms : List (Term × ℕ)) (x : Term) (n : ℕ) → number_of terms x ≡ None → number_of (terms ++ (x, n) ∷ []) x ≡ Some n
term_number terms x n none = lookup_push (same_term x) terms x n (term_same x) none

record Interned (old new : List (List ℕ)) : Type 0 where
  pub begins : Begins old new
  pub more : length old ≤ length new
  pub few : length new ≤ length old + 1

interned : (b : Bool) (xs : List (List ℕ)) (x : List ℕ) → Interned xs (if b then xs else xs ++ x ∷ [])
interned true xs x = record { begins = ([], sym (append-nil xs)); more = omega arith; few = omega arith }
interned false xs x = let longer = length_push xs x in record { begins = (x ∷ [], refl); more = omega (arith, longer); few = omega (arith, longer) }

-- the node of a triple is added
pub node_steps : (limits : Limits) (iri : List ℕ) (old : Loader) (h : ReservedGraph) (predicates : List (List ℕ)) → IsSoundLoader old
    → apply (node (predicate_label iri) ∷ []) old.graph.graph limits ≡ Ok h.graph → h.reserved ≡ none_reserved → predicates ≡ with_predicate old.predicates iri
    → LoaderStep (changed limits (node (predicate_label iri))) old (record old { graph = h; predicates = predicates })
node_steps limits iri old h predicates sound made reserved added =
    let is : Interned old.predicates predicates = subst (Interned old.predicates) (sym added) (interned (list_any (bytes_eq iri) old.predicates) old.predicates iri) in
    let allocated = node_made (predicate_label iri) old.graph.graph limits h.graph made in
    let few = sound.terms in
    let fewer = sound.predicates in
    let next = is.few in
    record {
      does = λ triples. ap (with_graph (load_state old triples)) made;
      sound = record {
        reserved = reserved;
        terms = omega (arith, allocated, few);
        predicates = omega (arith, allocated, next, fewer);
        known = keys_still old.terms old.terms old.predicates predicates ([], sym (append-nil old.terms)) is.begins old.known sound.known;
      };
      grows = record { terms = ([], sym (append-nil old.terms)); predicates = is.begins; known = refl };
    }

-- an edge is added
pub link_steps : (limits : Limits) (u v : ℕ) (old : Loader) (h : ReservedGraph) → IsSoundLoader old → apply (link u v ∷ []) old.graph.graph limits ≡ Ok h.graph → h.reserved ≡ none_reserved
    → LoaderStep (changed limits (link u v)) old (record old { graph = h })
link_steps limits u v old h sound made reserved =
    let same = link_made u v old.graph.graph limits h.graph made in
    let few = sound.terms in
    let fewer = sound.predicates in
    record {
      does = λ triples. ap (with_graph (load_state old triples)) made;
      sound = record {
        reserved = reserved;
        terms = omega (arith, few, ap length same);
        predicates = omega (arith, fewer, ap length same);
        known = sound.known;
      };
      grows = record { terms = ([], sym (append-nil old.terms)); predicates = ([], sym (append-nil old.predicates)); known = refl };
    }

-- what follows from two facts that hold where there is a value
pub on_ok_both : {T E P Q R : Type 0} (r : Result T E) → (P → Q → R) → OnOk r P → OnOk r Q → OnOk r R
on_ok_both (Ok x) f p q = f p q
on_ok_both (Err e) f p q = tt
