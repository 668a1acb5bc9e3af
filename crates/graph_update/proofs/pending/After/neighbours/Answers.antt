use Rattle.std.proofs.Common.{rules, ◌≡◌, ◌∙◌, ap, sym, subst, arith, length, true}
use Rattle.graph_spec.specs.Members.{Lists}
use Rattle.change_spec.specs.Steps.{after}
use Rattle.change_spec.specs.Named.{is_dropped}
use Rattle.graph_update.specs.ShownNeighbours.{leads_between, shown_at}
use Rattle.graph_update.specs.PendingChanges.{Pending, graph_after, lost_at}
use Rattle.graph_update.proofs.PendingLaws.{new_graph, dropped_dead}
use Rattle.graph_update.proofs.ShownLaws.{not_named, bare_list, bare_paid, dead_list, dead_paid, shown_list, shown_paid}
use Rattle.graph_update.proofs.pending.After.neighbours.Goals as goal

pub returns-then-not-may_name-clause-neighbours : goal.returns-then-not-may_name-clause-neighbours
returns-then-not-may_name-clause-neighbours g c =
    let graph = c.self.inside.graph.now.graph in
    let steps = c.self.inside.change.now in
    let side = c.args.side in
    let n = c.args.n in
    let unnamed = not_named steps n c.may_name.result c.may_name.ensures.named c.if-not-may_name.true in
    let lists : Lists (leads_between side graph n) c.args.items.now = subst (λ (p : Pending). Lists (leads_between side p.before n) c.args.items.now) (sym c.self.view_is) c.requires.lists in
    subst (λ (p : Pending). Lists (leads_between side (graph_after p) n) c.of.result) c.self.view_is
    (subst (Lists (leads_between side (after steps graph) n)) (sym c.of.ensures) (bare_list side steps graph n c.args.items.now unnamed (c.self.invariant.stays (search rules)) lists))

pub returns-then-not-may_name-clause-cost : goal.returns-then-not-may_name-clause-cost
returns-then-not-may_name-clause-cost g c =
    let graph = c.self.inside.graph.now.graph in
    let steps = c.self.inside.change.now in
    let side = c.args.side in
    let n = c.args.n in
    let unnamed = not_named steps n c.may_name.result c.may_name.ensures.named c.if-not-may_name.true in
    let lists : Lists (leads_between side graph n) c.args.items.now = subst (λ (p : Pending). Lists (leads_between side p.before n) c.args.items.now) (sym c.self.view_is) c.requires.lists in
    let after_lists = bare_list side steps graph n c.args.items.now unnamed (c.self.invariant.stays (search rules)) lists in
    let law = bare_paid side steps graph n c.args.items.now unnamed c.self.invariant.sound (new_graph steps graph c.self.invariant.new c.self.invariant.sound) lists after_lists in
    let lost = ap (λ (p : Pending). lost_at side p n) c.self.view_is in
    let same = ap length c.of.ensures in
    omega (arith, law, lost, same)

pub returns-then-is_dropped-clause-neighbours : goal.returns-then-is_dropped-clause-neighbours
returns-then-is_dropped-clause-neighbours g c =
    let graph = c.self.inside.graph.now.graph in
    let steps = c.self.inside.change.now in
    let side = c.args.side in
    let n = c.args.n in
    let gone : is_dropped steps n ≡ true = ap (λ (p : Pending). is_dropped p.change n) c.self.view_is ∙ sym c.is_dropped.ensures ∙ c.if-is_dropped.true in
    let sound = new_graph steps graph c.self.invariant.new c.self.invariant.sound in
    subst (λ (p : Pending). Lists (leads_between side (graph_after p) n) c.of-then-is_dropped.result) c.self.view_is
    (subst (Lists (leads_between side (after steps graph) n)) (sym c.of-then-is_dropped.ensures) (dead_list side (after steps graph) n sound (dropped_dead steps graph n c.self.invariant.new gone)))

pub returns-then-is_dropped-clause-cost : goal.returns-then-is_dropped-clause-cost
returns-then-is_dropped-clause-cost g c =
    let graph = c.self.inside.graph.now.graph in
    let steps = c.self.inside.change.now in
    let side = c.args.side in
    let n = c.args.n in
    let gone : is_dropped steps n ≡ true = ap (λ (p : Pending). is_dropped p.change n) c.self.view_is ∙ sym c.is_dropped.ensures ∙ c.if-is_dropped.true in
    let sound = new_graph steps graph c.self.invariant.new c.self.invariant.sound in
    let lists : Lists (leads_between side graph n) c.args.items.now = subst (λ (p : Pending). Lists (leads_between side p.before n) c.args.items.now) (sym c.self.view_is) c.requires.lists in
    let law = dead_paid side steps graph n c.args.items.now (dropped_dead steps graph n c.self.invariant.new gone) c.self.invariant.sound sound lists in
    let lost = ap (λ (p : Pending). lost_at side p n) c.self.view_is in
    let same = ap length c.of-then-is_dropped.ensures in
    omega (arith, law, lost, same)

pub returns-clause-neighbours : goal.returns-clause-neighbours
returns-clause-neighbours g c =
    let graph = c.self.inside.graph.now.graph in
    let steps = c.self.inside.change.now in
    let side = c.args.side in
    let n = c.args.n in
    let lists : Lists (leads_between side graph n) c.args.items.now = subst (λ (p : Pending). Lists (leads_between side p.before n) c.args.items.now) (sym c.self.view_is) c.requires.lists in
    subst (λ (p : Pending). Lists (leads_between side (graph_after p) n) c.shown.result) c.self.view_is
    (subst (Lists (leads_between side (after steps graph) n)) (sym {b = shown_at side steps n c.args.items.now} c.shown.ensures) (shown_list side steps graph n c.args.items.now lists))

pub returns-clause-cost : goal.returns-clause-cost
returns-clause-cost g c =
    let graph = c.self.inside.graph.now.graph in
    let steps = c.self.inside.change.now in
    let side = c.args.side in
    let n = c.args.n in
    let lists : Lists (leads_between side graph n) c.args.items.now = subst (λ (p : Pending). Lists (leads_between side p.before n) c.args.items.now) (sym c.self.view_is) c.requires.lists in
    let law = shown_paid side steps graph n c.args.items.now c.self.invariant.sound (new_graph steps graph c.self.invariant.new c.self.invariant.sound) lists in
    let lost = ap (λ (p : Pending). lost_at side p n) c.self.view_is in
    let same = ap length c.shown.ensures in
    let fresh = c.fresh_count.ensures in
    let ticked = c.tick_by.ensures in
    omega (arith, law, lost, same, fresh, ticked)
