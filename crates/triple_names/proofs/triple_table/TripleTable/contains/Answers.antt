use Rattle.std.proofs.Common.{◌∙◌, ap, is_some}
use Rattle.triple_names.specs.TableIndexes.{same_key}
use Rattle.triple_names.proofs.PlaceLaws.{is_some-lookup}
use Rattle.triple_names.proofs.triple_table.TripleTable.contains.Goals as goal

pub returns : goal.returns
returns c = c.is_some.ensures ∙ ap is_some c.get.ensures ∙ is_some-lookup (same_key c.args.key) c.args.self.now
