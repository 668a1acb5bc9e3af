use Rattle.std.proofs.Common.{◌≡◌, ap, sym, subst, arith, length, Some, true}
use Rattle.std.specs.Prelude.{IfSome, position, bytes_eq}
use Rattle.graph_spec.specs.Graphs.{is_seen}
use Rattle.change_spec.specs.Steps.{after}
use Rattle.graph_update.specs.PendingChanges.{Pending, graph_after}
use Rattle.graph_update.proofs.pending.After.number_of.Goals as goal

pub added_number-requires-clause-seen : goal.added_number-requires-clause-seen
added_number-requires-clause-seen c =
    subst (λ k. is_seen (after k c.self.inside.graph.now.graph).seen c.args.label.now ≡ true) (sym c.steps.ensures)
    (subst (λ (q : Pending). is_seen (graph_after q).seen c.args.label.now ≡ true) (sym c.self.view_is) c.requires.seen)

pub added_number-requires-clause-few : goal.added_number-requires-clause-few
added_number-requires-clause-few c =
    let few = c.requires.few in
    let same = ap (λ k. length (after k c.self.inside.graph.now.graph).seen) c.steps.ensures in
    let view = ap (λ (q : Pending). length (graph_after q).seen) c.self.view_is in
    omega (arith, few, same, view)

pub returns-in-Some : goal.returns-in-Some
returns-in-Some c = subst (λ o. IfSome o (λ n. position (bytes_eq c.args.label.now) (graph_after c.args.self.now).seen ≡ Some n)) c.in-Some.is c.entry_of.ensures

pub returns-in-None : goal.returns-in-None
returns-in-None c =
    subst (λ (q : Pending). position (bytes_eq c.args.label.now) (graph_after q).seen ≡ Some c.added_number.result) c.self.view_is
    (subst (λ k. position (bytes_eq c.args.label.now) (after k c.self.inside.graph.now.graph).seen ≡ Some c.added_number.result) c.steps.ensures c.added_number.ensures)
