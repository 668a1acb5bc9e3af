use Rattle.std.proofs.Common.{length}
use denote.Text.{Utf8}
use denote.Shadow.{shadow}
use Rattle.triples_read.proofs.AppendedTexts.{WrittenSoFar}
use Rattle.std.specs.Prelude.{string_bytes}
use Rattle.triples_read.specs.Quotes.{quoted_char}
use Rattle.triples_read.proofs.writing.push_chars.Given as goal

abbrev pub invariant-chars : goal.invariant-chars
invariant-chars l = shadow (Utf8 l.rest) × WrittenSoFar (quoted_char l.quote) l.text l.rest (string_bytes l.fn.out) (string_bytes l.out)

abbrev pub decreases-chars : goal.decreases-chars
decreases-chars l = length l.rest
