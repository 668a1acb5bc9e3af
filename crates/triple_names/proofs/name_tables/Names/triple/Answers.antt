use Rattle.std.proofs.Common.{◌∙◌, ap}
use Rattle.triple_names.specs.Names.{ReservedNames, triple_number}
use Rattle.triple_names.proofs.TableLaws.{number_lacking, number_at}
use Rattle.triple_names.proofs.name_tables.Names.triple.Goals as goal

pub returns-in_default : goal.returns-in_default
returns-in_default c =
    number_lacking c.self.inside.terms c.self.inside.predicates c.self.inside.triples c.self.inside.later_triples.entries c.args.triple.now
    c.self.invariant.known c.self.invariant.later (rw c.in_default.is at c.find_key.ensures.none)
    ∙ ap (λ (n : ReservedNames). triple_number n.names.triples c.args.triple.now) c.self.view_is

pub returns : goal.returns
returns c =
    c.number_of_key.ensures
    ∙ number_at c.self.inside.terms c.self.inside.predicates c.self.inside.triples c.self.inside.later_triples.entries c.args.triple.now
    c.self.invariant.known c.self.invariant.later c.in-Some.key (rw c.in-Some.is at c.find_key.ensures.found)
    ∙ ap (λ (n : ReservedNames). triple_number n.names.triples c.args.triple.now) c.self.view_is
