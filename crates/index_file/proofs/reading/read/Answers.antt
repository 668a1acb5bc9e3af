use Rattle.std.proofs.Common.{subst, sym}
use Rattle.std.proofs.lemmas.Result.{IfOk-weaker}
use Rattle.index_file.specs.Readings.{file_of}
use Rattle.index_file.specs.ReadFiles.{SpelledIn}
use Rattle.index_file.proofs.ReadSpelled.{spelled_in, refuses_none}
use Rattle.index_file.proofs.reading.read.Goals as goal

pub returns-in-Ok-clause-spelled : goal.returns-in-Ok-clause-spelled
returns-in-Ok-clause-spelled g c =
    let files = g.H.Shelf.files c.args.shelf.now in
    IfOk-weaker c.saved_of.result _ _
    (λ s e. subst (SpelledIn files c.args.name.now) (sym e) (spelled_in c.args.limits.now files c.args.name.now (file_of c.in-Ok.draft) c.in-Ok.ensures.read))
    c.saved_of.ensures.saved

pub returns-in-Err-clause-unspelled : goal.returns-in-Err-clause-unspelled
returns-in-Err-clause-unspelled g c = refuses_none c.args.limits.now (g.H.Shelf.files c.args.shelf.now) c.args.name.now c.in-Err.error c.in-Err.ensures.refused
