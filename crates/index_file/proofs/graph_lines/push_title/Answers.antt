use Rattle.std.specs.Prelude.{codes, decimal, string_bytes}
use Rattle.extent_report.proofs.NumberedTexts.{three_pushed}
use Rattle.index_file.specs.WrittenFiles.{count_line}
use Rattle.index_file.proofs.graph_lines.push_title.Goals as goal

pub returns : goal.returns
returns c =
    three_pushed (string_bytes c.args.out.now) (codes "pathindex 1\ngiven ") (decimal c.args.created) (count_line (codes " k ") c.args.k) _ _ _
    c.in_ok-push_str.ensures.bytes c.in_ok-push_decimal.ensures c.in_ok-push_count.ensures
