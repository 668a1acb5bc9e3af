use Rattle.std.proofs.Common.{rules, sym, subst}
use Rattle.std.proofs.lemmas.Result.{IfOk-weaker}
use Rattle.graph_spec.specs.Members.{at}
use Rattle.key_table.specs.NumberedKeys.{Interns}
use Rattle.bisim_spec.specs.NodeKeys.{IsWritten}
use Rattle.bisim_levels.proofs.recent_keys.RecentKeys.intern_written.Goals as goal

pub returns-clause-ok : goal.returns-clause-ok
returns-clause-ok c =
    let block = at c.args.base.now in
    let written = c.in_ok-write_key.ensures block (λ m o within allocated. search rules) in
    let key = subst (IsWritten block c.args.nodes.now c.args.number) (sym c.deref.ensures.value) written in
    rw (← c.self.view_is)
    (IfOk-weaker c.intern.result (λ k. Interns c.self.inside.table c.intern.new.self c.deref.result.now k) _
    (λ k interned. (c.deref.result.now, key, interned)) c.intern.ensures.ok)
