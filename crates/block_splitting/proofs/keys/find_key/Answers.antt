use Rattle.std.proofs.Common.{rules, ◌∷◌, [], ℕ, List, subst, sym}
use Rattle.std.proofs.lemmas.Result.{IfOk-weaker}
use Rattle.graph_spec.specs.Members.{at}
use Rattle.key_table.specs.NumberedKeys.{Interns}
use Rattle.bisim_spec.specs.NodeKeys.{IsWritten}
use Rattle.bisim_spec.proofs.WrittenKeys.{written_one}
use Rattle.block_splitting.proofs.keys.find_key.Goals as goal

pub returns-in-Some-clause-ok : goal.returns-in-Some-clause-ok
returns-in-Some-clause-ok c =
    let only = c.in-Some.ensures in
    let key : List ℕ = c.args.number ∷ c.in-Some.around ∷ [] in
    IfOk-weaker c.intern_pair.result (Interns c.args.keys.now c.intern_pair.new.self key) _
    (λ k interned. (key, written_one _ _ only.0 _ _ only.1 only.2, interned)) c.intern_pair.ensures.ok

pub returns-clause-ok : goal.returns-clause-ok
returns-clause-ok c =
    let p = c.args.blocks.now.block_of in
    let written = c.in_ok-write_key.ensures (at p) (λ m o within allocated. search rules) in
    IfOk-weaker c.intern.result (Interns c.args.keys.now c.intern.new.self c.deref.result.now) _
    (λ k interned. (c.deref.result.now, subst (IsWritten (at p) c.args.nodes.now c.args.number) (sym c.deref.ensures.value) written, interned)) c.intern.ensures.ok
