-- What an engine answers to an edit, from what it answers to the change.
use Rattle.std.proofs.Common.{◌≡◌, ◌≢◌, ◌↔◌, List, Option, Some, None, Result, Ok, Err, IfOk, OnErr, refl, sym, subst}
use Rattle.graph_spec.specs.declared.refusal.Refusal.{Refusal}
use Rattle.graph_spec.specs.declared.refusal.Refusal.TheVariants.{NoNode}
use Rattle.graph_spec.specs.Graphs.{Graph}
use Rattle.change_spec.specs.Steps.{Step}
use Rattle.triples_read.specs.declared.term.Triple.{Triple}
use Rattle.triple_names.specs.declared.inserting.Placed.{Placed}
use Rattle.triple_names.specs.Names.{Names, AreSameNames}
use Rattle.triple_names.specs.TripleChanges.{placed_in, noted}
use Rattle.triple_names.proofs.SameNames.{noted_alike, same_through}
use Rattle.graph_update.specs.declared.staging.Applied.{Applied}
use Rattle.pathindex_core.specs.declared.errors.UpdateError.{UpdateError}
use Rattle.pathindex_core.specs.declared.errors.UpdateError.TheVariants.{Refused, Memory}
use Rattle.pathindex_core.specs.Engines.{EngineSeen}
use Rattle.pathindex_core.specs.Calls.{IsMade}
use Rattle.pathindex_core.specs.Updates.{outcome_in}
use Rattle.pathindex_session.specs.Edits.{IsEdited, outcome_of, names_with}

-- the steps were asked for as one change
pub edited : (steps : Option (List Step)) (c : List Step) (e f : EngineSeen) (result : Result Applied UpdateError) → steps ≡ Some c
    → ((r : Refusal) → (result ≡ Err (Refused r)) ↔ (outcome_in c e.opened ≡ Err r)) → IfOk result (IsMade c e f) → OnErr result (f ≡ e)
    → IsEdited steps e f result
edited steps c e f (Ok answer) is refused made err = record {
  made = (c, is, made);
  refused = λ r x. absurd (cc);
  kept = λ r x a y. (let z = (refused r).1 (subst (λ s. outcome_of e s ≡ Err r) is x) in cc);
  err = tt;
}
edited steps c e f (Err error) is refused made err = record {
  made = tt;
  refused = λ r x. subst (λ s. outcome_of e s ≡ Err r) (sym is) ((refused r).0 x);
  kept = λ r x a y. cc;
  err = err;
}

-- there are none, since the triple isn't there
pub not_there : (steps : Option (List Step)) (e f : EngineSeen) → steps ≡ None → f ≡ e → IsEdited steps e f (Err (Refused NoNode))
not_there steps e f is same = record {
  made = tt;
  refused = λ r x. subst (λ s. outcome_of e s ≡ Err r) (sym is) (cc);
  kept = λ r x a y. cc;
  err = same;
}

-- memory ran out before
pub not_tried : (steps : Option (List Step)) (e f : EngineSeen) → f ≡ e → IsEdited steps e f (Err Memory)
not_tried steps e f same = record {
  made = tt;
  refused = λ r x. absurd (cc);
  kept = λ r x a y. cc;
  err = same;
}

-- the numbers of a triple's parts were noted, once it was staged
pub noted_names : (old mid new : Names) (g : Graph) (t : Triple) (p : Placed) → p ≡ placed_in old g t → AreSameNames mid old → AreSameNames new (noted t p mid)
    → AreSameNames new (names_with old g t)
noted_names old mid new g t p is staged noted_so =
    same_through new (noted t p mid) (names_with old g t) noted_so (subst (λ q. AreSameNames (noted t p mid) (noted t q old)) is (noted_alike mid old t p staged))
