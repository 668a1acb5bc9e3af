use Rattle.std.proofs.Common.{subst}
use Rattle.index_file.specs.WholeFiles.{HasLabels, IsIndexFile}
use Rattle.pathindex_core.specs.Engines.{kept_in}
use Rattle.pathindex_session.specs.Sessions.{SessionOf, engine_in, graph_of}
use Rattle.pathindex_session.proofs.session.Session.save.Goals as goal

pub returns-in-Ok-clause-whole : goal.returns-in-Ok-clause-whole
returns-in-Ok-clause-whole c =
    subst (λ (s : SessionOf). HasLabels (graph_of s) → IsIndexFile (graph_of s) (kept_in (engine_in s)) c.in-Ok.text) c.self.view_is c.in-Ok.ensures.whole
