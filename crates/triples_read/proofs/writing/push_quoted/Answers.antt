use Rattle.std.proofs.Common.{sym}
use Rattle.std.specs.Prelude.{string_bytes}
use Rattle.std.specs.Str.{chars}
use Rattle.std.specs.List.{flat_map}
use Rattle.std.proofs.lemmas.Str.{encodes-chars}
use Rattle.triples_read.specs.Quotes.{quoted_char}
use Rattle.triples_read.proofs.AppendedTexts.{tail-pushed, quoted-pushed}
use Rattle.triples_read.proofs.writing.push_quoted.Goals as goal

pub returns : goal.returns
returns c =
    tail-pushed c.push-2.result (string_bytes c.push_chars.new.out) _ _ _ c.push-2.ensures.bytes
    (quoted-pushed c.args.quote (string_bytes c.args.out.now) (string_bytes c.push.new.self) (string_bytes c.push_chars.new.out) (flat_map (quoted_char c.args.quote) (chars c.args.text.now)) c.opening.result c.closing.result c.opening.ensures.is c.closing.ensures.is c.in_ok-push.ensures.bytes (c.in_ok-push_chars.ensures (chars c.args.text.now) (sym (encodes-chars c.args.text.now c.utf8.text))))
