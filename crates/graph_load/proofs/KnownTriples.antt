-- Which triples a loader knows.
use Rattle.std.proofs.Common.{◌≡◌, ℕ, List, sym, ap, ◌∙◌}
use Rattle.std.specs.Prelude.{is_some}
use Rattle.std.specs.List.{list_any}
use Rattle.std.specs.Map.{keys_of, lookup}
use Rattle.triples_read.specs.declared.term.Triple.{Triple}
use Rattle.triple_names.specs.Items.{same_triple}
use Rattle.triple_names.specs.TableIndexes.{is_key_of}
use Rattle.triple_names.proofs.KeyLaws.{numbers_stay}
use Rattle.triple_names.proofs.PlaceLaws.{is_some-lookup}
use Rattle.graph_load.specs.declared.loader.Loader.{Loader}
use Rattle.graph_load.specs.Loaders.{is_known, number_known, Holds, IsSoundLoader, Grows}

-- the numbers of triples stay
pub number_known_stays : (old new : Loader) → Grows old new → IsSoundLoader old → (t : Triple) → number_known new t ≡ number_known old t
number_known_stays old new grows sound t =
    (λ i. lookup (is_key_of (grows.terms.1 i) (grows.predicates.1 i) t) (grows.known i))
    ∙ numbers_stay old.terms grows.terms.0 old.predicates grows.predicates.0 t old.known sound.known

-- what has a number is known
known_by : (r : Loader) (t : Triple) → is_some (number_known r t) ≡ is_known r t
known_by r t = is_some-lookup (is_key_of r.terms r.predicates t) r.known

-- what is known stays
pub known_stays : (old new : Loader) → Grows old new → IsSoundLoader old → (t : Triple) → is_known new t ≡ is_known old t
known_stays old new grows sound t = sym (known_by new t) ∙ ap is_some (number_known_stays old new grows sound t) ∙ known_by old t

-- the triples that are loaded are those that are known
pub loaded_known : (r : Loader) (triples : List (Triple × ℕ)) → Holds r triples → (t : Triple) → list_any (same_triple t) (keys_of triples) ≡ is_known r t
loaded_known r triples holds t = sym (is_some-lookup (same_triple t) triples) ∙ ap is_some (holds t) ∙ known_by r t
