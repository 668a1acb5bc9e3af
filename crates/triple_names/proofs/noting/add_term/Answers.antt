use Rattle.std.proofs.Common.{◌≡◌, ◌∙◌, None, sym, ap, subst}
use Rattle.std.proofs.lemmas.Result.{err_from_is_err_and}
use Rattle.term_table.specs.Terms.{same_term}
use Rattle.triple_names.specs.NameTables.{IsSetAt}
use Rattle.triple_names.proofs.PlaceLaws.{none_passes, lookup_none}
use Rattle.triple_names.proofs.StagedLaws.{stay_same, place_ahead, term_added, place_added}
use Rattle.triple_names.proofs.noting.add_term.Goals as goal

pub returns-in_err-copy_term-clause-stay : goal.returns-in_err-copy_term-clause-stay
returns-in_err-copy_term-clause-stay c = stay_same c.args.terms.now c.args.later.now.entries

pub returns-in_err-insert-clause-stay : goal.returns-in_err-insert-clause-stay
returns-in_err-insert-clause-stay c = rw c.in_err-insert.ensures.err (stay_same c.args.terms.now c.args.later.now.entries)

pub insert-requires-2 : goal.insert-requires-2
insert-requires-2 c =
    rw (c.new-copy.ensures, c.in_ok-copy_term.ensures)
    (record { absent = lookup_none (same_term c.args.term.now) c.args.terms.now (none_passes (same_term c.args.term.now) _ c.requires) })

pub returns-in_err-place-clause-stay : goal.returns-in_err-place-clause-stay
returns-in_err-place-clause-stay c =
    rw c.in_err-place.ensures.err
    (place_ahead c.args.terms.now c.args.later.now.entries c.insert.new.self.entries None (subst (λ n. IsSetAt n None c.args.later.now.entries c.insert.new.self.entries) c.len.ensures c.in_ok-insert.ensures.updates.0))

pub returns-clause-stay : goal.returns-clause-stay
returns-clause-stay c =
    rw (c.in_ok-place.ensures.added, c.new-copy.ensures, c.in_ok-copy_term.ensures)
    (term_added c.args.terms.now c.args.later.now.entries c.insert.new.self.entries c.args.term.now c.requires
    (subst (λ n. IsSetAt n None c.args.later.now.entries c.insert.new.self.entries) c.len.ensures c.in_ok-insert.ensures.updates.0))

pub returns-clause-place : goal.returns-clause-place
returns-clause-place c =
    rw (c.in_ok-place.ensures.place, c.in_ok-place.ensures.added, c.new-copy.ensures, c.in_ok-copy_term.ensures)
    (place_added c.args.terms.now c.args.later.now.entries c.insert.new.self.entries c.args.term.now c.requires
    (subst (λ n. IsSetAt n None c.args.later.now.entries c.insert.new.self.entries) c.len.ensures c.in_ok-insert.ensures.updates.0))
