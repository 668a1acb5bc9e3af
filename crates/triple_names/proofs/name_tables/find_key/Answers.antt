use Rattle.std.proofs.Common.{◌∙◌, ap, sym}
use Rattle.std.specs.Option.{option_map}
use Rattle.triple_names.proofs.KeyLaws.{unknown_subject, unknown_predicate, unknown_object}
use Rattle.triple_names.proofs.name_tables.find_key.Goals as goal

pub returns-in_default-clause-none : goal.returns-in_default-clause-none
returns-in_default-clause-none c = λ ks.
    unknown_subject c.args.terms.now c.args.predicates.now c.args.triple.now ks (sym c.find.ensures.place ∙ ap (option_map (λ f. f.place)) c.in_default.is)

pub returns-in_default-find-clause-none : goal.returns-in_default-find-clause-none
returns-in_default-find-clause-none c = λ ks.
    unknown_predicate c.args.terms.now c.args.predicates.now c.args.triple.now ks (sym c.find-2.ensures ∙ c.in_default-find.is)

pub returns-in_default-find-2-clause-none : goal.returns-in_default-find-2-clause-none
returns-in_default-find-2-clause-none c = λ ks.
    unknown_object c.args.terms.now c.args.predicates.now c.args.triple.now ks (sym c.find-3.ensures.place ∙ ap (option_map (λ f. f.place)) c.in_default-find-2.is)

pub returns-clause-found : goal.returns-clause-found
returns-clause-found c = record {
  subject = sym c.find.ensures.place ∙ ap (option_map (λ f. f.place)) c.in-Some.is;
  predicate = sym c.find-2.ensures ∙ c.in-Some-find.is;
  object = sym c.find-3.ensures.place ∙ ap (option_map (λ f. f.place)) c.in-Some-find-2.is;
}
