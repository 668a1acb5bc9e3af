use Rattle.std.proofs.lemmas.Result.{on_ok_weaker}
use Rattle.bisim_levels.proofs.WrittenSides.{written_parents}
use Rattle.bisim_levels.proofs.keys.write_sided_key.Goals as goal

pub returns-in-Parents : goal.returns-in-Parents
returns-in-Parents g c =
    rw c.in-Parents.is (on_ok_weaker c.write_key.result (λ h. λ f gives. written_parents f c.args.parents.now c.args.children.now _ _ (h f gives)) c.write_key.ensures)

pub returns-in-Both : goal.returns-in-Both
returns-in-Both g c = rw c.in-Both.is c.write_both_key.ensures
