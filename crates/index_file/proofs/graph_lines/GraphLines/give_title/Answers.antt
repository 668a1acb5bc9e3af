use Rattle.std.proofs.Common.{◌++◌, ◌∙◌, ap}
use Rattle.std.specs.Prelude.{string_bytes}
use Rattle.index_file.specs.GraphParts.{title_text}
use Rattle.index_file.proofs.GraphPartLaws.{title_given, title_fewer}
use Rattle.index_file.proofs.graph_lines.GraphLines.give_title.Goals as goal

pub returns-clause-given : goal.returns-clause-given
returns-clause-given c =
    title_given c.args.graph.now.graph c.args.self.now _ _ c.requires
    (c.in_ok-push_title.ensures ∙ ap (λ n. string_bytes c.args.out.now ++ title_text n c.args.self.now.k) c.created.ensures.count)

pub returns-clause-fewer : goal.returns-clause-fewer
returns-clause-fewer c = title_fewer c.args.graph.now.graph c.args.self.now c.requires
