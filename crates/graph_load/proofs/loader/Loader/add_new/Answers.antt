use Rattle.std.proofs.Common.{◌≡◌, rules, Some}
use Rattle.std.specs.Prelude.{IsErrOf}
use Rattle.change_spec.specs.Steps.{node}
use Rattle.triples_read.specs.declared.term.Term.{Term}
use Rattle.graph_load.specs.declared.limited_changes.Stop.TheVariants.{Limit}
use Rattle.graph_load.specs.TripleGraphs.{need, changed, linked}
use Rattle.triple_names.specs.Items.{predicate_label}
use Rattle.term_table.specs.Terms.{number_of}
use Rattle.graph_load.specs.Loaders.{IsStopped}
use Rattle.graph_load.specs.Hashed.{triple_of}
use Rattle.graph_load.proofs.EdgeSteps.{number_stays, grows_trans}
use Rattle.graph_load.proofs.FoundAgain.{predicate_again_found, term_again_found}
use Rattle.graph_load.proofs.AddTriple.{untaken_subject, untaken_node, untaken_linked, still_unknown, taken_new, place_stays, predicate_stays}
use Rattle.graph_load.proofs.loader.Loader.add_new.Goals as goal

pub returns-in_err-from-clause-limit : goal.returns-in_err-from-clause-limit
returns-in_err-from-clause-limit c =
    let stopped : IsErrOf c.from_residual.result Limit → IsStopped (need c.args.limits.now c.args.triple.now.subject) c.args.self.now = search rules in
    λ e. untaken_subject c.args.limits.now (triple_of c.args.triple.now) c.args.self.now c.requires.unknown (stopped e)

pub returns-in_err-predicate-clause-limit : goal.returns-in_err-predicate-clause-limit
returns-in_err-predicate-clause-limit c =
    let stopped : IsErrOf c.from_residual-in_err-predicate.result Limit → IsStopped (changed c.args.limits.now (node (predicate_label c.args.triple.now.predicate))) c.need.new.self = search rules in
    λ e. untaken_node c.args.limits.now (triple_of c.args.triple.now) c.args.self.now c.requires.unknown c.need.new.self c.in_ok-from.ensures.steps (stopped e)

pub returns-in_err-object-clause-limit : goal.returns-in_err-object-clause-limit
returns-in_err-object-clause-limit c =
    let stopped : IsErrOf c.from_residual-in_err-object.result Limit → (x : Term) → number_of c.add_node.new.self.terms x ≡ Some c.in_ok-from.from.number
    → IsStopped (linked c.args.limits.now x c.in_ok-predicate.node c.args.triple.now.object) c.add_node.new.self = search rules in
    λ e. untaken_linked c.args.limits.now (triple_of c.args.triple.now) c.args.self.now c.requires.unknown c.need.new.self c.in_ok-from.ensures.steps
    c.in_ok-predicate.node c.in_ok-predicate.ensures.number c.add_node.new.self c.in_ok-predicate.ensures.steps
    (stopped e c.args.triple.now.subject (number_stays c.need.new.self c.add_node.new.self c.in_ok-predicate.ensures.steps.grows c.args.triple.now.subject c.in_ok-from.from.number c.in_ok-from.ensures.number))

pub add-requires : goal.add-requires
add-requires c =
    let t = triple_of c.args.triple.now in
    let from = number_stays c.need.new.self c.add_node.new.self c.in_ok-predicate.ensures.steps.grows t.subject c.in_ok-from.from.number c.in_ok-from.ensures.number in
    let joins = c.in_ok-object.ensures.steps t.subject from in
    let grows = grows_trans c.need.new.self c.add_node.new.self c.join.new.self c.in_ok-predicate.ensures.steps.grows joins.grows in
    record {
      absent = still_unknown c.args.limits.now t c.args.self.now c.requires.unknown c.need.new.self c.in_ok-from.ensures.steps
          c.in_ok-predicate.node c.in_ok-predicate.ensures.number c.add_node.new.self c.in_ok-predicate.ensures.steps c.join.new.self joins c.requires.sound _
          (place_stays c.need.new.self c.join.new.self grows t.subject c.in_ok-from.from.place c.in_ok-from.ensures.place)
          (predicate_stays c.add_node.new.self c.join.new.self joins.grows t.predicate c.in_ok-predicate.predicate c.in_ok-predicate.ensures.place)
          c.in_ok-object.ensures.place;
    }

pub returns-clause-taken : goal.returns-clause-taken
returns-clause-taken c =
    let t = triple_of c.args.triple.now in
    let from = number_stays c.need.new.self c.add_node.new.self c.in_ok-predicate.ensures.steps.grows t.subject c.in_ok-from.from.number c.in_ok-from.ensures.number in
    let joins = c.in_ok-object.ensures.steps t.subject from in
    let grows = grows_trans c.need.new.self c.add_node.new.self c.join.new.self c.in_ok-predicate.ensures.steps.grows joins.grows in
    taken_new c.args.limits.now t c.args.self.now c.requires.unknown c.need.new.self c.in_ok-from.ensures.steps
    c.in_ok-predicate.node c.in_ok-predicate.ensures.number c.add_node.new.self c.in_ok-predicate.ensures.steps c.join.new.self joins c.requires.sound _ c.add.new.self
    (place_stays c.need.new.self c.join.new.self grows t.subject c.in_ok-from.from.place c.in_ok-from.ensures.place)
    (predicate_stays c.add_node.new.self c.join.new.self joins.grows t.predicate c.in_ok-predicate.predicate c.in_ok-predicate.ensures.place)
    c.in_ok-object.ensures.place c.in_ok-add.ensures

pub add_node-requires-clause-found : goal.add_node-requires-clause-found
add_node-requires-clause-found c =
    predicate_again_found c.args.self.now c.need.new.self c.in_ok-from.ensures.steps.grows c.args.triple.now.predicate c.args.places.now.predicate c.requires.places.predicate

pub join-requires-clause-found : goal.join-requires-clause-found
join-requires-clause-found c =
    term_again_found c.args.self.now c.add_node.new.self
    (grows_trans c.args.self.now c.need.new.self c.add_node.new.self c.in_ok-from.ensures.steps.grows c.in_ok-predicate.ensures.steps.grows)
    c.args.triple.now.object c.args.places.now.object c.requires.places.object
