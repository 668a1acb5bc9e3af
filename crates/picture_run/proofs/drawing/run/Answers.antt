use Rattle.std.proofs.Common.{◌∙◌, map, string_bytes, sym}
use Rattle.picture_run.specs.Words.{settings_of}
use Rattle.picture_run.proofs.Drawings.{has_drawn}
use Rattle.picture_run.proofs.drawing.run.Goals as goal

pub returns-clause-does : goal.returns-clause-does
returns-clause-does g c = rw c.code.ensures c.run_words-status.ensures.does

pub returns-clause-drawn : goal.returns-clause-drawn
returns-clause-drawn g c = λ done.
    has_drawn (settings_of (map string_bytes c.args.words.now)) (g.H.Shelf.files c.args.shelf.now) _ _ _ c.run_words-status.ensures.does (sym c.code.ensures ∙ done)
