use Rattle.std.proofs.Common.{◌∷◌, [], ℕ, List}
use Rattle.std.proofs.lemmas.Result.{IfOk-weaker}
use Rattle.key_table.specs.NumberedKeys.{Interns}
use Rattle.bisim_spec.proofs.WrittenKeys.{written_one}
use Rattle.bisim_levels.proofs.refining.find_parents_key.Goals as goal

pub returns-in-Some-clause-ok : goal.returns-in-Some-clause-ok
returns-in-Some-clause-ok c =
    let only = c.in-Some.ensures in
    let key : List ℕ = c.args.number ∷ c.in-Some.around ∷ [] in
    IfOk-weaker c.intern_pair.result (Interns c.args.keys.now c.intern_pair.new.self key) _
    (λ k interned. (key, written_one _ _ only.0 _ _ only.1 only.2, interned)) c.intern_pair.ensures.ok
