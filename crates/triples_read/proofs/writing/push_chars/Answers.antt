use Rattle.std.specs.Prelude.{string_bytes}
use Rattle.std.proofs.lemmas.Str.{IsUtf8-past_char}
use Rattle.triples_read.specs.Quotes.{quoted_char}
use Rattle.triples_read.proofs.LabelEnds.{shorter}
use Rattle.triples_read.proofs.AppendedTexts.{written-on, written-over}
use Rattle.triples_read.proofs.writing.push_chars.Goals as goal

pub chars-smaller : goal.chars-smaller
chars-smaller c = shorter c.chars.rest.now c.in-Some.after.now c.in-Some.c c.in-Some.ensures

pub chars-preserved : goal.chars-preserved
chars-preserved c = (
  IsUtf8-past_char c.chars.rest.now c.in-Some.after.now c.in-Some.c c.chars.invariant.0 c.in-Some.ensures,
  written-on (quoted_char c.args.quote) c.args.text.now c.chars.rest.now c.in-Some.after.now (string_bytes c.args.out.now) (string_bytes c.chars.out) (string_bytes c.push_char.new.out) c.in-Some.c c.chars.invariant.1 c.in-Some.ensures c.in_ok-push_char.ensures,
)

pub returns : goal.returns
returns c = written-over (quoted_char c.args.quote) c.args.text.now c.chars.rest.now (string_bytes c.args.out.now) (string_bytes c.chars.out) c.chars.invariant.1 c.in_default.ensures
