use Rattle.std.proofs.Common.{map, string_bytes}
use Rattle.picture_run.specs.Words.{settings_of}
use Rattle.picture_run.proofs.Drawings.{unread}
use Rattle.picture_run.proofs.drawing.run_words.Goals as goal

pub returns-in-Err-clause-does : goal.returns-in-Err-clause-does
returns-in-Err-clause-does g c = unread (settings_of (map string_bytes c.args.words.now)) (g.H.Shelf.files c.args.shelf.now) (g.K.Sink.written c.args.sink.now)
