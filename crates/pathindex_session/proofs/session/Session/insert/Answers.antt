use Rattle.std.proofs.Common.{OnOk, subst}
use Rattle.triple_names.specs.Names.{AreSameNames}
use Rattle.pathindex_session.specs.Sessions.{SessionOf, names_of, graph_of}
use Rattle.pathindex_session.specs.Edits.{names_with}
use Rattle.pathindex_session.proofs.session.Session.insert.Goals as goal

pub returns-clause-names : goal.returns-clause-names
returns-clause-names c =
    subst (λ (s : SessionOf). OnOk c.insert.result (AreSameNames c.insert.new.names.names (names_with (names_of s) (graph_of s) c.args.triple))) c.self.view_is c.insert.ensures.names
