use Rattle.std.proofs.Common.{ℕ, List}
use Rattle.std.proofs.lemmas.Result.{IfOk-weaker}
use Rattle.graph_spec.specs.Members.{at}
use Rattle.key_table.specs.NumberedKeys.{Interns}
use Rattle.bisim_spec.specs.NodeKeys.{IsWritten}
use Rattle.bisim_levels.proofs.WrittenSides.{written_parents}
use Rattle.bisim_levels.proofs.refining.find_key.Goals as goal

pub returns-in-Parents-clause-ok : goal.returns-in-Parents-clause-ok
returns-in-Parents-clause-ok c =
    let f = at c.args.base.now in
    let parents = c.args.parents.now in
    rw c.in-Parents.is
    (IfOk-weaker c.find_parents_key.result (λ k. (key : List ℕ) × IsWritten f parents c.args.number key × Interns c.args.keys.now c.find_parents_key.new.keys key k) _
    (λ k r. (r.0, written_parents f parents c.args.children.now r.0 c.args.number r.1, r.2)) c.find_parents_key.ensures.ok)

pub returns-in-Both-clause-ok : goal.returns-in-Both-clause-ok
returns-in-Both-clause-ok c = rw c.in-Both.is c.intern_both.ensures.ok
