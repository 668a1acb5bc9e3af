use Rattle.triple_names.proofs.StagedLaws.{tables_stay, names_stay, reserved_stay, tables_staged, names_staged, reserved_staged, kept_staged}
use Rattle.triple_names.proofs.name_tables.Names.stage.Goals as goal

pub invariant_of-self : goal.invariant_of-self
invariant_of-self c =
    let s = c.self.inside in
    let new = c.reserve_parts.new in
    tables_stay s.terms new.terms s.predicates new.predicates s.triples s.later_terms.entries new.later.entries s.later_triples.entries c.reserve_parts.ensures.stay c.reserve_parts.ensures.begins c.self.invariant

pub returns-in_err-key-clause-names : goal.returns-in_err-key-clause-names
returns-in_err-key-clause-names c =
    let s = c.self.inside in
    let new = c.reserve_parts.new in
    rw (← c.self.view_is)
    (names_stay s.terms new.terms s.predicates new.predicates s.triples s.later_terms.entries new.later.entries s.later_triples.entries c.reserve_parts.ensures.stay c.reserve_parts.ensures.begins c.self.invariant)

pub returns-in_err-key-clause-kept : goal.returns-in_err-key-clause-kept
returns-in_err-key-clause-kept c =
    let s = c.self.inside in
    let new = c.reserve_parts.new in
    rw (← c.self.view_is)
    (reserved_stay s.terms new.terms s.predicates new.predicates s.triples s.later_terms.entries new.later.entries s.later_triples.entries c.reserve_parts.ensures.stay c.reserve_parts.ensures.begins c.self.invariant)

pub invariant_of-self-in_err-reserve_key : goal.invariant_of-self-in_err-reserve_key
invariant_of-self-in_err-reserve_key c =
    let s = c.self.inside in
    let new = c.reserve_parts.new in
    rw c.in_err-reserve_key.ensures.err
    (tables_stay s.terms new.terms s.predicates new.predicates s.triples s.later_terms.entries new.later.entries s.later_triples.entries c.reserve_parts.ensures.stay c.reserve_parts.ensures.begins c.self.invariant)

pub returns-in_err-reserve_key-clause-names : goal.returns-in_err-reserve_key-clause-names
returns-in_err-reserve_key-clause-names c =
    let s = c.self.inside in
    let new = c.reserve_parts.new in
    rw (c.in_err-reserve_key.ensures.err, ← c.self.view_is)
    (names_stay s.terms new.terms s.predicates new.predicates s.triples s.later_terms.entries new.later.entries s.later_triples.entries c.reserve_parts.ensures.stay c.reserve_parts.ensures.begins c.self.invariant)

pub returns-in_err-reserve_key-clause-kept : goal.returns-in_err-reserve_key-clause-kept
returns-in_err-reserve_key-clause-kept c =
    let s = c.self.inside in
    let new = c.reserve_parts.new in
    rw (c.in_err-reserve_key.ensures.err, ← c.self.view_is)
    (reserved_stay s.terms new.terms s.predicates new.predicates s.triples s.later_terms.entries new.later.entries s.later_triples.entries c.reserve_parts.ensures.stay c.reserve_parts.ensures.begins c.self.invariant)

pub invariant_of-self-2 : goal.invariant_of-self-2
invariant_of-self-2 c =
    let s = c.self.inside in
    let new = c.reserve_parts.new in
    rw (c.in_ok-reserve_key.ensures.added, c.get-number.ensures)
    (tables_staged s.terms new.terms s.predicates new.predicates s.triples s.later_terms.entries new.later.entries s.later_triples.entries c.reserve_parts.ensures.stay c.reserve_parts.ensures.begins
    c.self.invariant c.args.triple.now c.in_ok-key.key c.in_ok-key.ensures.key c.in_ok-key.ensures.places)

pub returns-clause-names : goal.returns-clause-names
returns-clause-names c =
    let s = c.self.inside in
    let new = c.reserve_parts.new in
    rw (c.in_ok-reserve_key.ensures.added, c.get-number.ensures, ← c.self.view_is)
    (names_staged s.terms new.terms s.predicates new.predicates s.triples s.later_terms.entries new.later.entries s.later_triples.entries c.reserve_parts.ensures.stay c.reserve_parts.ensures.begins
    c.self.invariant c.args.triple.now c.in_ok-key.key c.in_ok-key.ensures.key c.in_ok-key.ensures.places)

pub returns-clause-reserved : goal.returns-clause-reserved
returns-clause-reserved c =
    let s = c.self.inside in
    let new = c.reserve_parts.new in
    rw (c.in_ok-reserve_key.ensures.added, c.get-number.ensures)
    (reserved_staged s.terms new.terms s.predicates new.predicates s.triples s.later_terms.entries new.later.entries s.later_triples.entries c.reserve_parts.ensures.stay c.reserve_parts.ensures.begins
    c.self.invariant c.args.triple.now c.in_ok-key.key c.in_ok-key.ensures.key c.in_ok-key.ensures.places)

pub returns-clause-kept : goal.returns-clause-kept
returns-clause-kept c =
    let s = c.self.inside in
    let new = c.reserve_parts.new in
    rw (c.in_ok-reserve_key.ensures.added, c.get-number.ensures, ← c.self.view_is)
    (kept_staged s.terms new.terms s.predicates new.predicates s.triples s.later_terms.entries new.later.entries s.later_triples.entries c.reserve_parts.ensures.stay c.reserve_parts.ensures.begins
    c.self.invariant c.args.triple.now c.in_ok-key.key c.in_ok-key.ensures.key c.in_ok-key.ensures.places)
