use Rattle.std.proofs.Common.{◌≡◌, ◌∙◌, ◌++◌, ◌∷◌, [], IsTrue, false, ap, cond, rules}
use Rattle.graph_spec.specs.Graphs.{is_live}
use Rattle.graph_spec.specs.Members.{has}
use Rattle.graph_update.specs.PendingChanges.{graph_after}
use Rattle.one_update.specs.UnsteadyNodes.{one}
use Rattle.one_update.proofs.unsteady.keeps_parent.Goals as goal

pub returns-clause-yes : goal.returns-clause-yes
returns-clause-yes g c = λ h. (let r = c.has_parent_in.ensures.yes h in (r.0, r.1, (c.in-Some.b, search rules, r.2)))

pub returns-clause-read : goal.returns-clause-read
returns-clause-read g c =
    let live : IsTrue (is_live (graph_after c.args.after.now) c.args.v) = search rules in
    let off : has c.args.read.now.keys c.args.v ≡ false = search rules in
    one live off (c.in_ok-insert.ensures.keys ∙ ap (λ b. cond b c.args.read.now.keys (c.args.read.now.keys ++ c.args.v ∷ [])) off) c.has_parent_in.ensures.cost
