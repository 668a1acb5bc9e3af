use Rattle.index_file.specs.Readings.{file_of}
use Rattle.index_file.specs.Reads.{holds}
use Rattle.index_file.proofs.LineLaws.{start_can, start_leads}
use Rattle.index_file.proofs.reading.read_open.Goals as goal

pub read_lines-requires : goal.read_lines-requires
read_lines-requires g c = record { can = start_can c.in_ok-reader.reader (g.H.Shelf.is_open c.args.shelf.now) c.in_ok-reader.ensures c.requires }

pub returns-in-Ok-clause-read : goal.returns-in-Ok-clause-read
returns-in-Ok-clause-read g c =
    start_leads c.args.limits.now c.in_ok-reader.reader c.in_ok-draft.draft (g.H.Shelf.left c.args.shelf.now) c.in_ok-reader.ensures c.in_ok-draft.ensures
    (holds (file_of c.read_lines.new.draft)) (rw c.in-Ok.is at c.read_lines.ensures.read)
