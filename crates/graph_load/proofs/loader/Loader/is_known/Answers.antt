use Rattle.std.proofs.Common.{◌∙◌, ap, sym}
use Rattle.std.specs.Option.{option_map}
use Rattle.std.specs.Map.{keys_of}
use Rattle.graph_load.specs.Hashed.{triple_of}
use Rattle.triple_names.proofs.KeyLaws.{unknown_subject, unknown_predicate, unknown_object, known_key}
use Rattle.graph_load.proofs.loader.Loader.is_known.Goals as goal

pub returns-in_default : goal.returns-in_default
returns-in_default c =
    sym (unknown_subject c.args.self.now.terms c.args.self.now.predicates (triple_of c.args.triple.now) (keys_of c.args.self.now.known) (sym c.requires.places.subject.place ∙ ap (option_map (λ f. f.place)) c.in_default.is))

pub returns-in_default-predicate : goal.returns-in_default-predicate
returns-in_default-predicate c =
    sym (unknown_predicate c.args.self.now.terms c.args.self.now.predicates (triple_of c.args.triple.now) (keys_of c.args.self.now.known) (sym c.requires.places.predicate ∙ c.in_default-predicate.is))

pub returns-in_default-object : goal.returns-in_default-object
returns-in_default-object c =
    sym (unknown_object c.args.self.now.terms c.args.self.now.predicates (triple_of c.args.triple.now) (keys_of c.args.self.now.known) (sym c.requires.places.object.place ∙ ap (option_map (λ f. f.place)) c.in_default-object.is))

pub returns : goal.returns
returns c =
    c.contains.ensures
    ∙ known_key c.args.self.now.terms c.args.self.now.predicates (triple_of c.args.triple.now) (keys_of c.args.self.now.known) _
    (sym c.requires.places.subject.place ∙ ap (option_map (λ f. f.place)) c.in-Some.is)
    (sym c.requires.places.predicate ∙ c.in-Some-predicate.is)
    (sym c.requires.places.object.place ∙ ap (option_map (λ f. f.place)) c.in-Some-object.is)
