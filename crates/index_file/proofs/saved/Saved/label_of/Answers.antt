use Rattle.std.proofs.Common.{ap, ◌∙◌}
use Rattle.label_graph.specs.GraphViews.{label_number}
use Rattle.index_file.specs.SavedFiles.{SavedFile}
use Rattle.index_file.proofs.saved.Saved.label_of.Goals as goal

pub returns : goal.returns
returns c = c.label.ensures ∙ ap (λ (f : SavedFile). label_number f.graph c.args.n) c.self.view_is
