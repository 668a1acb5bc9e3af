use Rattle.std.proofs.Common.{rules}
use Rattle.px_base.specs.ReaderStates.{stream}
use Rattle.graph_load.proofs.LineSteps.{reads_result}
use Rattle.graph_load.proofs.batch.read_next.Goals as goal

pub returns-in-Ok-true : goal.returns-in-Ok-true
returns-in-Ok-true g c = record {
  reads = reads_result c.args.reader.now c.next.new.self (stream c.args.reader.now (g.H.Shelf.left c.args.shelf.now)) (stream c.next.new.self (g.H.Shelf.left c.next.new.shelf))
      (c.in-Ok-true.ensures.line c.in-Ok-true.field-0-test) c.requires.can.line_limit c.requires.can.text_limit c.take.result c.args.waiting.now.items c.take.new.waiting.items
      (rw (c.line.ensures, c.number.ensures) at c.take.ensures.puts);
  can = search rules;
  nearer = search rules;
  none = search rules;
  found = search rules;
  same = search rules;
  fault = search rules;
  no_fault = search rules;
}
