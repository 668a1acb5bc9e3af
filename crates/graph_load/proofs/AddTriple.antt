-- How a triple is taken.
use Rattle.std.proofs.Common.{◌≡◌, ℕ, true, false, List, [], ◌∷◌, ◌++◌, length, Some, Ok, sym, ap, ◌∙◌, subst}
use Rattle.std.specs.Prelude.{position, bytes_eq, if◌then◌else◌}
use Rattle.std.specs.List.{list_any, AllByRecursion}
use Rattle.std.specs.Map.{keys_of, lookup}
use Rattle.std.proofs.lemmas.List.{map-append}
use Rattle.graph_spec.specs.declared.limits.Limits.{Limits}
use Rattle.change_spec.specs.Steps.{node}
use Rattle.triples_read.specs.declared.term.Term.{Term}
use Rattle.triples_read.specs.declared.term.Triple.{Triple}
use Rattle.term_table.specs.Terms.{same_term, place_in}
use Rattle.triple_names.specs.declared.triple_table.Key.{Key}
use Rattle.triple_names.specs.Items.{same_triple, predicate_label}
use Rattle.triple_names.specs.TableIndexes.{is_key_of, same_key, IsKeyIn, AreKeysIn}
use Rattle.triple_names.proofs.PlaceLaws.{position_append}
use Rattle.triple_names.proofs.KeyLaws.{known_key, key_of_same, key_in, pushed_alike}
use Rattle.graph_load.specs.declared.loader.Loader.{Loader}
use Rattle.graph_load.specs.TripleGraphs.{need, changed, then_do, linked, placed, with_triple}
use Rattle.graph_load.specs.Loaders.{load_state, is_known, Holds, IsSoundLoader, Grows, LoaderStep, IsStopped, IsTaken, IsUntaken}
use Rattle.graph_load.proofs.EdgeSteps.{grows_trans}
use Rattle.graph_load.proofs.KnownTriples.{known_stays, number_known_stays, loaded_known}

-- a triple that is known stays
pub taken_known : (limits : Limits) (t : Triple) (r : Loader) → IsSoundLoader r → is_known r t ≡ true → IsTaken limits t r r
taken_known limits t r sound known = record {
  sound = sound;
  does = λ triples holds. (
    triples,
    holds,
    ap (λ b. if b then Ok (load_state r triples) else then_do (need limits t.subject (load_state r triples)) (λ a. then_do (placed limits t (length a.graph.allocated) a) (λ b. Ok (record b { triples = b.triples ++ (t, length a.graph.allocated) ∷ [] })))) (loaded_known r triples holds t ∙ known),
  );
}

all_push : {X : Type 0} (P : X → Type 0) (xs : List X) (x : X) → AllByRecursion P xs → P x → AllByRecursion P (xs ++ x ∷ [])
all_push P [] x h q = (q, tt)
all_push P (y ∷ ys) x h q = (h.0, all_push P ys x h.1 q)

module _ (limits : Limits) (t : Triple) (old : Loader) (unknown : is_known old t ≡ false) where
  fresh : (triples : List (Triple × ℕ)) → Holds old triples → with_triple limits t (load_state old triples) ≡ then_do (need limits t.subject (load_state old triples)) (λ a. then_do (placed limits t (length a.graph.allocated) a) (λ b. Ok (record b { triples = b.triples ++ (t, length a.graph.allocated) ∷ [] })))
  fresh triples holds = ap (λ b. if b then Ok (load_state old triples) else then_do (need limits t.subject (load_state old triples)) (λ a. then_do (placed limits t (length a.graph.allocated) a) (λ b. Ok (record b { triples = b.triples ++ (t, length a.graph.allocated) ∷ [] })))) (loaded_known old triples holds t ∙ unknown)

  pub untaken_subject : IsStopped (need limits t.subject) old → IsUntaken limits t old
  untaken_subject stop triples holds =
      let s = stop triples in
      (s.0, fresh triples holds ∙ ap (λ r. then_do r (λ a. then_do (placed limits t (length a.graph.allocated) a) (λ b. Ok (record b { triples = b.triples ++ (t, length a.graph.allocated) ∷ [] })))) s.1)

  module _ (a : Loader) (needs : LoaderStep (need limits t.subject) old a) where
    first : (triples : List (Triple × ℕ)) → Holds old triples
        → with_triple limits t (load_state old triples) ≡ then_do (placed limits t (length a.graph.graph.allocated) (load_state a triples)) (λ b. Ok (record b { triples = b.triples ++ (t, length a.graph.graph.allocated) ∷ [] }))
    first triples holds = fresh triples holds ∙ ap (λ r. then_do r (λ a. then_do (placed limits t (length a.graph.allocated) a) (λ b. Ok (record b { triples = b.triples ++ (t, length a.graph.allocated) ∷ [] })))) (needs.does triples)

    pub untaken_node : IsStopped (changed limits (node (predicate_label t.predicate))) a → IsUntaken limits t old
    untaken_node stop triples holds =
        let s = stop triples in
        (s.0, first triples holds ∙ ap (λ r. then_do (then_do r (linked limits t.subject (length a.graph.graph.allocated) t.object)) (λ b. Ok (record b { triples = b.triples ++ (t, length a.graph.graph.allocated) ∷ [] }))) s.1)

    module _ (n : ℕ) (number : n ≡ length a.graph.graph.allocated) (b : Loader) (adds : LoaderStep (changed limits (node (predicate_label t.predicate))) a b) where
      second : (triples : List (Triple × ℕ)) → Holds old triples
          → with_triple limits t (load_state old triples) ≡ then_do (linked limits t.subject n t.object (load_state b triples)) (λ b. Ok (record b { triples = b.triples ++ (t, n) ∷ [] }))
      second triples holds =
          first triples holds ∙ ap (λ r. then_do (then_do r (linked limits t.subject (length a.graph.graph.allocated) t.object)) (λ b. Ok (record b { triples = b.triples ++ (t, length a.graph.graph.allocated) ∷ [] }))) (adds.does triples)
          ∙ ap (λ m. then_do (linked limits t.subject m t.object (load_state b triples)) (λ b. Ok (record b { triples = b.triples ++ (t, m) ∷ [] }))) (sym number)

      pub untaken_linked : IsStopped (linked limits t.subject n t.object) b → IsUntaken limits t old
      untaken_linked stop triples holds =
          let s = stop triples in
          (s.0, second triples holds ∙ ap (λ r. then_do r (λ b. Ok (record b { triples = b.triples ++ (t, n) ∷ [] }))) s.1)

      module _ (c : Loader) (joins : LoaderStep (linked limits t.subject n t.object) b c) (sound : IsSoundLoader old) where
        grown : Grows old c
        grown = grows_trans old b c (grows_trans old a b needs.grows adds.grows) joins.grows

        pub still_unknown : (key : Key) → place_in c.terms t.subject ≡ Some key.subject → position (bytes_eq t.predicate) c.predicates ≡ Some key.predicate
            → place_in c.terms t.object ≡ Some key.object → list_any (same_key key) (keys_of c.known) ≡ false
        still_unknown key s p o = known_key c.terms c.predicates t (keys_of c.known) key s p o ∙ known_stays old c grown sound t ∙ unknown

        pub taken_new : (key : Key) (known : List (Key × ℕ)) → place_in c.terms t.subject ≡ Some key.subject → position (bytes_eq t.predicate) c.predicates ≡ Some key.predicate
            → place_in c.terms t.object ≡ Some key.object → known ≡ c.known ++ (key, n) ∷ [] → IsTaken limits t old (record c { known = known })
        taken_new key known s p o added = record {
          sound = record {
            reserved = joins.sound.reserved;
            terms = joins.sound.terms;
            predicates = joins.sound.predicates;
            known = subst (AreKeysIn c.terms c.predicates) (sym added) (all_push (λ e. IsKeyIn c.terms c.predicates e.0) c.known (key, n) joins.sound.known (key_in c.terms c.predicates t key s p o));
          };
          does = λ triples holds. (
            triples ++ (t, n) ∷ [],
            (λ u.
                pushed_alike (same_triple u) (is_key_of c.terms c.predicates u) triples c.known t key n (holds u ∙ sym (number_known_stays old c grown sound u)) (sym (key_of_same c.terms c.predicates t key s p o u))
                ∙ ap (lookup (is_key_of c.terms c.predicates u)) (sym added)),
            second triples holds ∙ ap (λ r. then_do r (λ b. Ok (record b { triples = b.triples ++ (t, n) ∷ [] }))) (joins.does triples),
          );
        }

-- the places of the subject and the predicate stay
pub place_stays : (old new : Loader) → Grows old new → (x : Term) (i : ℕ) → place_in old.terms x ≡ Some i → place_in new.terms x ≡ Some i
place_stays old new grows x i h =
    ap (λ ts. place_in ts x) grows.terms.1 ∙ ap (position (same_term x)) (map-append (λ e. e.0) old.terms grows.terms.0) ∙ position_append (same_term x) (keys_of old.terms) (keys_of grows.terms.0) i h

pub predicate_stays : (old new : Loader) → Grows old new → (iri : List ℕ) (i : ℕ) → position (bytes_eq iri) old.predicates ≡ Some i → position (bytes_eq iri) new.predicates ≡ Some i
predicate_stays old new grows iri i h = ap (position (bytes_eq iri)) grows.predicates.1 ∙ position_append (bytes_eq iri) old.predicates grows.predicates.0 i h
