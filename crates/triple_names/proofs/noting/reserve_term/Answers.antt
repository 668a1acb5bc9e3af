use Rattle.std.proofs.Common.{◌≡◌, ◌∙◌, Some, nat_eq, sym, ap}
use Rattle.std.specs.Option.{option_map}
use Rattle.term_table.specs.Terms.{place_in, number_of}
use Rattle.triple_names.proofs.KeyLaws.{itself}
use Rattle.triple_names.proofs.StagedLaws.{stay_same, number_stays, entry_reserved}
use Rattle.triple_names.proofs.noting.reserve_term.Goals as goal

pub add_term-requires : goal.add_term-requires
add_term-requires c = sym c.find.ensures.place ∙ ap (option_map (λ f. f.place)) c.in_default.is

pub returns-in_err-reserve_place-clause-stay : goal.returns-in_err-reserve_place-clause-stay
returns-in_err-reserve_place-clause-stay c = rw c.in_err-reserve_place.ensures.err (stay_same c.args.terms.now c.args.later.now.entries)

pub returns-clause-stay : goal.returns-clause-stay
returns-clause-stay c =
    let place : place_in c.args.terms.now c.args.term.now ≡ Some c.in-Some.found.place = sym c.find.ensures.place ∙ ap (option_map (λ f. f.place)) c.in-Some.is in
    let number : number_of c.args.terms.now c.args.term.now ≡ Some c.in-Some.found.number = sym c.find.ensures.number ∙ ap (option_map (λ f. f.number)) c.in-Some.is in
    rw c.in_ok-reserve_place.ensures.added (number_stays c.args.terms.now c.args.later.now.entries c.args.term.now c.in-Some.found.place c.in-Some.found.number place number)

pub returns-clause-place : goal.returns-clause-place
returns-clause-place c =
    rw c.in_ok-reserve_place.ensures.added (record {
      place = sym c.find.ensures.place ∙ ap (option_map (λ f. f.place)) c.in-Some.is;
      reserved = entry_reserved (nat_eq c.in-Some.found.place) c.in-Some.found.place (Some c.in-Some.found.number) c.args.later.now.entries (itself c.in-Some.found.place);
    })
