use Rattle.std.proofs.Common.{◌∙◌, ap}
use Rattle.path_automaton.specs.MarkRows.{flags_of}
use Rattle.path_automaton.proofs.Bits.{flags_of-nil}
use Rattle.path_automaton.proofs.row.Row.new.Goals as goal

pub returns : goal.returns
returns c = ap (flags_of c.args.width) c.new.ensures.items ∙ flags_of-nil c.args.width
