use Rattle.std.proofs.Common.{◌≡◌, ◌↔◌, Err, subst}
use Rattle.graph_spec.specs.declared.refusal.Refusal.{Refusal}
use Rattle.pathindex_core.specs.declared.errors.UpdateError.TheVariants.{Refused}
use Rattle.pathindex_core.specs.Updates.{outcome_in}
use Rattle.pathindex_session.specs.Sessions.{SessionOf}
use Rattle.pathindex_session.proofs.session.Session.update.Goals as goal

pub returns-clause-refused : goal.returns-clause-refused
returns-clause-refused c =
    subst (λ (s : SessionOf). (r : Refusal) → (c.update.result ≡ Err (Refused r)) ↔ (outcome_in c.args.change s.engine.opened ≡ Err r)) c.self.view_is c.update.ensures.refused
