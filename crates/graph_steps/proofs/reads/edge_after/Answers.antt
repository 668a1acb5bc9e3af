use Rattle.std.proofs.Common.{◌∙◌, arith}
use Rattle.graph_steps.proofs.NamedParts.{skips_from, skips_onto, some_step, edge_begun, edge_more}
use Rattle.graph_steps.proofs.reads.edge_after.Goals as goal

pub loop-from-init : goal.loop-from-init
loop-from-init c =
    let f = c.args.prefix.now in
    let u = c.args.u in
    let v = c.args.v in
    let b = c.args.present in
    record {
      from = c.begun-from.ensures.there ∙ edge_begun f u u v c.begun-from.result.place b (skips_from f u v c.requires.onto) c.begun-from.ensures.place;
      onto = c.begun-onto.ensures.there ∙ edge_begun f v u v c.begun-onto.result.place b (skips_onto f u v c.requires.from) c.begun-onto.ensures.place;
    }

pub loop-from-preserved : goal.loop-from-preserved
loop-from-preserved c =
    let f = c.args.prefix.now in
    let u = c.args.u in
    let v = c.args.v in
    let b = c.args.present in
    let len = c.len-len.ensures in
    let first = c.loop-from-test.true in
    let second = c.if-onto-len.true in
    let s = some_step f c.loop-from.from.place (omega (arith, len, first)) in
    let t = some_step f c.loop-from.onto.place (omega (arith, len, second)) in
    record {
      from =
          c.moved-from.ensures.there s.0 s.1
          ∙ edge_more f s.0 u u v c.loop-from.from.place c.moved-from.result.place b c.loop-from.from.there (skips_from f u v c.requires.onto) s.1 c.moved-from.ensures.place c.loop-from.invariant.from;
      onto =
          c.moved-onto.ensures.there t.0 t.1
          ∙ edge_more f t.0 v u v c.loop-from.onto.place c.moved-onto.result.place b c.loop-from.onto.there (skips_onto f u v c.requires.from) t.1 c.moved-onto.ensures.place c.loop-from.invariant.onto;
    }
