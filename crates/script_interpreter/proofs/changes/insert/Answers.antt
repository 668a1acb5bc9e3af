use Rattle.std.proofs.Common.{ap, ◌∙◌}
use Rattle.graph_spec.specs.Graphs.{Graph}
use Rattle.triple_names.specs.TripleChanges.{insert_steps, placed_in}
use Rattle.pathindex_core.specs.Engines.{by_meaning}
use Rattle.script_interpreter.proofs.TripleCalls.{noted_obeyed, unnoted_obeyed}
use Rattle.script_interpreter.proofs.changes.insert.Goals as goal

pub returns-then-not-accepted-clause-ok : goal.returns-then-not-accepted-clause-ok
returns-then-not-accepted-clause-ok g c =
    unnoted_obeyed (by_meaning g.B.PathIndex.meaning c.args.engine.now) (by_meaning g.B.PathIndex.meaning c.make.new.engine) c.args.triple c.args.names.now.names c.stage.new.self.names c.in_ok-change.change _ _
    (c.in_ok-change.ensures.change ∙ ap (λ (h : Graph). insert_steps c.args.names.now.names h c.args.triple) c.graph.ensures)
    c.stage.ensures.names (rw c.if-not-accepted.true at (c.in_ok-accepted.ensures.ok c.args.names.now.names))

pub returns-clause-ok : goal.returns-clause-ok
returns-clause-ok g c =
    noted_obeyed (by_meaning g.B.PathIndex.meaning c.args.engine.now) (by_meaning g.B.PathIndex.meaning c.make.new.engine) c.args.triple c.in_ok-change.placed c.args.names.now.names c.stage.new.self.names c.note.new.self.names c.in_ok-change.change _ _
    (c.in_ok-change.ensures.change ∙ ap (λ (h : Graph). insert_steps c.args.names.now.names h c.args.triple) c.graph.ensures)
    (c.in_ok-change.ensures.placed ∙ ap (λ (h : Graph). placed_in c.args.names.now.names h c.args.triple) c.graph.ensures)
    c.stage.ensures.names c.note.ensures.names (rw c.if-not-accepted.false at (c.in_ok-accepted.ensures.ok c.args.names.now.names))
