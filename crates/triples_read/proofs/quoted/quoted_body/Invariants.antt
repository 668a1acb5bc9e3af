use denote.Text.{Utf8}
use denote.Shadow.{shadow}
use Rattle.triples_read.specs.Quotes.{PieceIn, closing}
use Rattle.std.proofs.Common.{length, []}
use Rattle.std.specs.Prelude.{string_bytes}
use Rattle.triples_read.specs.Bodies.{Adds}
use Rattle.triples_read.proofs.quoted.quoted_body.Given as goal

abbrev pub invariant-loop-text : goal.invariant-loop-text
invariant-loop-text l = shadow (Utf8 l.rest) × Adds (PieceIn l.quote) (closing l.quote) [] (string_bytes l.text) l.body l.rest

abbrev pub decreases-loop-text : goal.decreases-loop-text
decreases-loop-text l = length l.rest
