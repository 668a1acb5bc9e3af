use Rattle.std.proofs.Common.{◌≡◌, Some, subst}
use Rattle.graph_spec.specs.Graphs.{Graph}
use Rattle.triple_names.specs.TripleChanges as changes
use Rattle.any_index.specs.AnyMeanings.{meaning_of}
use Rattle.pathindex_core.specs.Engines.{by_meaning, graph_in}
use Rattle.pathindex_session.proofs.EditLaws.{edited}
use Rattle.pathindex_session.proofs.editing.delete.Goals as goal

pub returns-in-Ok-clause-edited : goal.returns-in-Ok-clause-edited
returns-in-Ok-clause-edited c =
    edited (changes.delete_change c.args.names.now.names (graph_in c.args.engine.now.opened) c.args.triple.now) c.in-Ok.change (by_meaning meaning_of c.args.engine.now)
    (by_meaning meaning_of c.update.new.self) c.update.result
    (subst (λ (g : Graph). changes.delete_change c.args.names.now.names g c.args.triple.now ≡ Some c.in-Ok.change) c.graph.ensures c.in-Ok.ensures.change)
    c.update.ensures.refused c.update.ensures.made c.update.ensures.err
