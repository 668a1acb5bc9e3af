use Rattle.std.specs.Prelude.{string_bytes}
use Rattle.triples_read.proofs.AppendedTexts.{tail-pushed, tag-pushed}
use Rattle.triples_read.proofs.writing.push_tag.Goals as goal

pub returns : goal.returns
returns c =
    tail-pushed c.push_str-2.result (string_bytes c.push_str.new.self) _ c.args.tag.now _ c.push_str-2.ensures.bytes (tag-pushed (string_bytes c.args.out.now) _ c.args.tag.now c.in_ok-push_str.ensures.bytes c.utf8.tag)
