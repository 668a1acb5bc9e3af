use Rattle.std.proofs.Common.{◌∙◌, ap, Ok}
use Rattle.pathindex_calls.specs.Changes.{Inserts}
use Rattle.pathindex_calls.proofs.TextLaws.{triple_read, no_triple}
use Rattle.pathindex_calls.proofs.changes.insert.Goals as goal

pub returns-in-Ok-Some : goal.returns-in-Ok-Some
returns-in-Ok-Some c =
    triple_read (λ x. Inserts x) c.args.text.now c.in-Ok-Some.triple c.args.session.now c.insert_triple.new.session c.insert_triple.result c.read_line.result
    (c.in-Ok-Some.is ∙ ap (λ o. Ok o) c.in-Ok-Some.field-0-is) c.read_line.ensures.triple c.insert_triple.ensures

pub returns-in-Ok-None : goal.returns-in-Ok-None
returns-in-Ok-None c =
    no_triple (λ x. Inserts x) c.args.text.now c.args.session.now c.said.result c.read_line.result (c.in-Ok-None.is ∙ ap (λ o. Ok o) c.in-Ok-None.field-0-is)
    c.read_line.ensures.spelled c.said.ensures
