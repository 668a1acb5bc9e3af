use Rattle.std.proofs.Common.{Some, ap, sym, subst}
use Rattle.triple_names.specs.TripleChanges.{insert_steps}
use Rattle.any_index.specs.AnyMeanings.{meaning_of}
use Rattle.pathindex_core.specs.Engines.{by_meaning, graph_in}
use Rattle.pathindex_session.specs.Edits.{IsEdited}
use Rattle.pathindex_session.proofs.EditLaws.{edited, noted_names}
use Rattle.pathindex_session.proofs.editing.insert.Goals as goal

pub returns-in-Ok-update-clause-edited : goal.returns-in-Ok-update-clause-edited
returns-in-Ok-update-clause-edited c =
    let steps = Some (insert_steps c.args.names.now.names (graph_in c.args.engine.now.opened) c.args.triple) in
    let e = by_meaning meaning_of c.args.engine.now in let f = by_meaning meaning_of c.update.new.self in
    subst (λ r. IsEdited steps e f r) c.in-Ok-update.is
    (edited steps c.in-Ok.change e f c.update.result (ap (λ s. Some s) (sym c.in-Ok.ensures.change)) c.update.ensures.refused c.update.ensures.made c.update.ensures.err)

pub returns-in-Ok-update-clause-names : goal.returns-in-Ok-update-clause-names
returns-in-Ok-update-clause-names c =
    noted_names c.args.names.now.names c.prepare.new.names.names c.note.new.self.names (graph_in c.args.engine.now.opened) c.args.triple c.in-Ok.placed c.in-Ok.ensures.placed
    c.prepare.ensures.names c.note.ensures.names

pub returns-in-Err-update-clause-edited : goal.returns-in-Err-update-clause-edited
returns-in-Err-update-clause-edited c =
    let steps = Some (insert_steps c.args.names.now.names (graph_in c.args.engine.now.opened) c.args.triple) in
    let e = by_meaning meaning_of c.args.engine.now in let f = by_meaning meaning_of c.update.new.self in
    subst (λ r. IsEdited steps e f r) c.in-Err-update.is
    (edited steps c.in-Ok.change e f c.update.result (ap (λ s. Some s) (sym c.in-Ok.ensures.change)) c.update.ensures.refused c.update.ensures.made c.update.ensures.err)
