use Rattle.triples_read.specs.Quotes.{Escape, escape_at}
use Rattle.triples_read.proofs.BodyPieces.{escape-within}
use Rattle.triples_read.proofs.QuotedPieces.{quote_escapes}
use Rattle.triples_read.proofs.quoted.escape.Goals as goal

pub returns-clause-within : goal.returns-clause-within
returns-clause-within c = escape-within (Escape c.args.quote) (escape_at c.args.quote) (quote_escapes c.args.quote) c.args.bytes.now c.escape_behind.result c.escape_behind.ensures
