use Rattle.std.proofs.Common.{◌∙◌, ◌∷◌, ◌+◌, sym, ap, arith, drop}
use Rattle.graph_update.specs.ShownNeighbours.{new_at, with_first}
use Rattle.graph_update.proofs.NamedParts.{new_next}
use Rattle.graph_update.proofs.neighbours.first_added.Goals as goal

pub loop-i-preserved : goal.loop-i-preserved
loop-i-preserved c =
    let low = c.loop-i.invariant.low in
    let further = c.next_naming-next.ensures.ordered in
    record {
      same = new_next c.args.side c.args.change.now c.args.n (c.loop-i.i + 1) c.next_naming-next.result c.next_naming-next.ensures
          ∙ sym (c.linked.ensures ∙ ap (λ o. with_first o (new_at c.args.side (drop (c.loop-i.i + 1) c.args.change.now) c.args.n)) c.in_default.is) ∙ c.loop-i.invariant.same;
      low = omega (arith, low, further);
    }

pub returns-in-Some-clause-some : goal.returns-in-Some-clause-some
returns-in-Some-clause-some c = record {
  is = sym c.loop-i.invariant.same ∙ c.linked.ensures ∙ ap (λ o. with_first o (new_at c.args.side (drop (c.loop-i.i + 1) c.args.change.now) c.args.n)) c.in-Some.is
      ∙ ap (λ ms. c.in-Some.m ∷ ms) (sym (new_next c.args.side c.args.change.now c.args.n (c.loop-i.i + 1) c.next_naming-next.result c.next_naming-next.ensures));
}
