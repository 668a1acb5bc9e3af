use Rattle.std.proofs.Common.{◌≡◌, ◌∙◌, ap, sym, None, Some}
use Rattle.std.specs.Option.{option_map}
use Rattle.term_table.specs.Terms.{place_in, number_of}
use Rattle.triple_names.specs.NameTables.{later_or, later_at}
use Rattle.triple_names.proofs.name_tables.number_of_term.Goals as goal

pub returns-in_default : goal.returns-in_default
returns-in_default c =
    let place : place_in c.args.terms.now c.args.term.now ≡ None = sym c.find.ensures.place ∙ ap (option_map (λ f. f.place)) c.in_default.is in
    let number : number_of c.args.terms.now c.args.term.now ≡ None = sym c.find.ensures.number ∙ ap (option_map (λ f. f.number)) c.in_default.is in
    sym (λ i. later_or (later_at c.args.later.now.entries (place i)) (number i))

pub returns : goal.returns
returns c =
    let place : place_in c.args.terms.now c.args.term.now ≡ Some c.in-Some.found.place = sym c.find.ensures.place ∙ ap (option_map (λ f. f.place)) c.in-Some.is in
    let number : number_of c.args.terms.now c.args.term.now ≡ Some c.in-Some.found.number = sym c.find.ensures.number ∙ ap (option_map (λ f. f.number)) c.in-Some.is in
    c.number_of_found.ensures ∙ sym (λ i. later_or (later_at c.args.later.now.entries (place i)) (number i))
