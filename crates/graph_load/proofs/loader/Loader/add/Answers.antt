use Rattle.std.proofs.Common.{sym}
use Rattle.graph_load.specs.Hashed.{triple_of}
use Rattle.graph_load.proofs.AddTriple.{taken_known}
use Rattle.graph_load.proofs.loader.Loader.add.Goals as goal

pub returns-then-is_known-clause-taken : goal.returns-then-is_known-clause-taken
returns-then-is_known-clause-taken c = taken_known c.args.limits.now (triple_of c.args.triple.now) c.args.self.now c.requires.sound (sym c.if-is_known.ensures)
