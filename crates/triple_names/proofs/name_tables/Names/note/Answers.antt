use Rattle.std.proofs.Common.{◌≡◌, Some, true, sym, subst}
use Rattle.triple_names.specs.Names.{ReservedNames}
use Rattle.triple_names.specs.Represented.{is_among}
use Rattle.triple_names.proofs.StagedLaws.{set_kept}
use Rattle.triple_names.proofs.NotedLaws.{staged_key, staged_entry, staged_places, tables_noted, names_noted}
use Rattle.triple_names.proofs.name_tables.Names.note.Goals as goal

pub unreachable-requires : goal.unreachable-requires
unreachable-requires c =
    let s = c.self.inside in
    let staged = subst (λ (n : ReservedNames). is_among n.reserved c.args.triple ≡ true) (sym c.self.view_is) c.requires in
    staged_key s.terms s.predicates s.triples s.later_terms.entries s.later_triples.entries c.args.triple c.self.invariant staged (rw c.in_default.is at c.find_key.ensures.none)

pub note_term-requires : goal.note_term-requires
note_term-requires c =
    let s = c.self.inside in
    let staged = subst (λ (n : ReservedNames). is_among n.reserved c.args.triple ≡ true) (sym c.self.view_is) c.requires in
    let has = rw c.in-Some.is at c.find_key.ensures.found in
    (staged_places s.terms s.predicates s.triples s.later_terms.entries s.later_triples.entries c.args.triple c.self.invariant staged c.in-Some.key has).subject

pub note_term-requires-2 : goal.note_term-requires-2
note_term-requires-2 c =
    let s = c.self.inside in
    let staged = subst (λ (n : ReservedNames). is_among n.reserved c.args.triple ≡ true) (sym c.self.view_is) c.requires in
    let has = rw c.in-Some.is at c.find_key.ensures.found in
    set_kept c.in-Some.key.subject (Some c.args.placed.subject) s.later_terms.entries c.note_term.new.later.entries c.note_term.ensures c.in-Some.key.object
    (staged_places s.terms s.predicates s.triples s.later_terms.entries s.later_triples.entries c.args.triple c.self.invariant staged c.in-Some.key has).object

pub note_triple-requires : goal.note_triple-requires
note_triple-requires c =
    let s = c.self.inside in
    let staged = subst (λ (n : ReservedNames). is_among n.reserved c.args.triple ≡ true) (sym c.self.view_is) c.requires in
    let has = rw c.in-Some.is at c.find_key.ensures.found in
    staged_entry s.terms s.predicates s.triples s.later_terms.entries s.later_triples.entries c.args.triple c.self.invariant staged c.in-Some.key has

pub invariant_of-self : goal.invariant_of-self
invariant_of-self c =
    let s = c.self.inside in
    let has = rw c.in-Some.is at c.find_key.ensures.found in
    tables_noted s.terms s.predicates s.triples s.later_terms.entries c.note_term.new.later.entries c.note_term-2.new.later.entries s.later_triples.entries c.note_triple.new.later.entries
    c.args.triple c.args.placed c.in-Some.key has c.self.invariant c.note_term.ensures c.note_term-2.ensures c.note_triple.ensures.keys c.note_triple.ensures.set

pub returns-clause-names : goal.returns-clause-names
returns-clause-names c =
    let s = c.self.inside in
    let has = rw c.in-Some.is at c.find_key.ensures.found in
    rw (← c.self.view_is) (names_noted s.terms s.predicates s.triples s.later_terms.entries c.note_term.new.later.entries c.note_term-2.new.later.entries s.later_triples.entries c.note_triple.new.later.entries
    c.args.triple c.args.placed c.in-Some.key has c.self.invariant c.note_term.ensures c.note_term-2.ensures c.note_triple.ensures.keys c.note_triple.ensures.set)
