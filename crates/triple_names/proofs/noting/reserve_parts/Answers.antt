use Rattle.triple_names.proofs.PlaceLaws.{begins_same}
use Rattle.triple_names.proofs.StagedLaws.{stay_trans, place_stays}
use Rattle.triple_names.proofs.noting.reserve_parts.Goals as goal

pub returns-in_err-subject-clause-begins : goal.returns-in_err-subject-clause-begins
returns-in_err-subject-clause-begins c = begins_same c.args.predicates.now

pub returns-in_err-object-clause-stay : goal.returns-in_err-object-clause-stay
returns-in_err-object-clause-stay c =
    stay_trans c.args.terms.now c.reserve_term.new.terms c.reserve_term-2.new.terms c.args.later.now.entries c.reserve_term.new.later.entries c.reserve_term-2.new.later.entries
    c.reserve_term.ensures.stay c.reserve_term-2.ensures.stay

pub returns-clause-stay : goal.returns-clause-stay
returns-clause-stay c =
    stay_trans c.args.terms.now c.reserve_term.new.terms c.reserve_term-2.new.terms c.args.later.now.entries c.reserve_term.new.later.entries c.reserve_term-2.new.later.entries
    c.reserve_term.ensures.stay c.reserve_term-2.ensures.stay

pub returns-clause-key : goal.returns-clause-key
returns-clause-key c = record {
  subject = (place_stays c.reserve_term.new.terms c.reserve_term-2.new.terms c.reserve_term.new.later.entries c.reserve_term-2.new.later.entries c.args.triple.now.subject c.in_ok-subject.subject
      c.reserve_term-2.ensures.stay c.in_ok-subject.ensures.place).place;
  predicate = c.in_ok-predicate.ensures.place;
  object = c.in_ok-object.ensures.place.place;
}

pub returns-clause-places : goal.returns-clause-places
returns-clause-places c = record {
  subject = c.reserve_term-2.ensures.stay.places c.in_ok-subject.subject c.in_ok-subject.ensures.place.reserved;
  object = c.in_ok-object.ensures.place.reserved;
}
