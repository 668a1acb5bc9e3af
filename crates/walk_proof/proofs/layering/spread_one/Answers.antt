use Rattle.std.proofs.Common.{ℕ, get_or}
use Rattle.std.specs.Prelude.{slice_get}
use Rattle.state_sets.proofs.Lists.{has_at}
use Rattle.walk_proof.proofs.MarkLaws.{wide_on}
use Rattle.walk_proof.proofs.LoopLaws.{read_source_next, read_source_marked}
use Rattle.walk_proof.proofs.layering.spread_one.Goals as goal

pub spread_source-requires-clause-source : goal.spread_source-requires-clause-source
spread_source-requires-clause-source g c = c.requires.sources (get_or c.args.sources.now c.loop-i.i 0) (has_at c.args.sources.now c.loop-i.i c.loop-i-test.true)

pub spread_source-requires-clause-wide : goal.spread_source-requires-clause-wide
spread_source-requires-clause-wide g c = wide_on _ _ _ _ _ _ _ c.loop-i.invariant.notes c.requires.wide

pub loop-i-preserved : goal.loop-i-preserved
loop-i-preserved g c =
    let at = λ (k : ℕ). slice_get c.args.program.now k in
    let size = g.G.Digraph.span c.args.g.now in
    let label_at = g.G.Digraph.label_at c.args.g.now in
    let edge = g.G.Digraph.edge c.args.g.now in
    let sources = c.args.sources.now in
    let i = c.loop-i.i in
    let was = c.loop-i.invariant in
    let now = c.in_ok-spread_source.ensures in
    let rows2 = c.loop-i.rows.items in
    let rows3 = c.spread_source.new.rows.items in
    record {
      notes = read_source_next at size label_at edge sources c.args.state c.args.node i c.args.rows.now.items rows2 rows3 c.args.layer.now c.loop-i.layer c.spread_source.new.layer c.loop-i-test.true was.notes now.notes;
      marked = read_source_marked at size label_at edge sources c.args.state c.args.node i rows2 rows3 c.loop-i.layer c.spread_source.new.layer c.loop-i-test.true was.marked now.notes now.marked;
    }
