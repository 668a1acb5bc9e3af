use Rattle.std.proofs.Common.{◌∙◌, sym}
use Rattle.triples_read.proofs.PrefixLaws.{starts-cons, byte-boundary}
use Rattle.triples_read.proofs.blanks.past_byte.Goals as goal

pub split_at-requires : goal.split_at-requires
split_at-requires c = byte-boundary c.args.byte c.args.text.now c.requires c.utf8.text (sym c.starts_with.ensures ∙ c.if-not-starts_with.false)

pub returns : goal.returns
returns c = starts-cons c.args.byte c.args.text.now c.split_at.result.1.now (sym c.starts_with.ensures ∙ c.if-not-starts_with.false) c.split_at.ensures.back
