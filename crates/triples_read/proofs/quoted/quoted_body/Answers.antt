use Rattle.std.proofs.Common.{[], ◌∷◌}
use Rattle.std.specs.Prelude.{string_bytes}
use Rattle.triples_read.specs.Quotes.{inner, Escape, escape_at, closing, PieceIn}
use Rattle.triples_read.proofs.BodyPieces.{adds-then, adds-none, ended-found, ended-only}
use Rattle.triples_read.proofs.QuotedPieces.{quote_kind, quote_escapes}
use Rattle.triples_read.proofs.quoted.quoted_body.Goals as goal

pub returns-in_default-clause-only : goal.returns-in_default-clause-only
returns-in_default-clause-only c =
    adds-none (PieceIn c.args.quote) (closing c.args.quote) [] (string_bytes c.loop-text.text) c.args.body.now c.loop-text.rest.now c.loop-text.invariant.1 (rw c.in_default.is at c.in_ok-ended.ensures.none)

pub returns-then-ended-clause-found : goal.returns-then-ended-clause-found
returns-then-ended-clause-found c =
    let end = rw c.in-Some.is at c.in_ok-ended.ensures.end in
    ended-found (PieceIn c.args.quote) (closing c.args.quote) (string_bytes c.take_piece.new.text) c.args.body.now c.in-Some.after.now
    (adds-then (PieceIn c.args.quote) (closing c.args.quote) [] (string_bytes c.loop-text.text) (string_bytes c.take_piece.new.text) c.args.body.now c.loop-text.rest.now (closing c.args.quote ∷ c.in-Some.after.now) c.loop-text.invariant.1 (end c.if-ended.true))

pub returns-then-ended-clause-only : goal.returns-then-ended-clause-only
returns-then-ended-clause-only c v tail b =
    let end = rw c.in-Some.is at c.in_ok-ended.ensures.end in
    ended-only (inner c.args.quote) (Escape c.args.quote) (escape_at c.args.quote) (closing c.args.quote) (quote_kind c.args.quote) (quote_escapes c.args.quote) (string_bytes c.take_piece.new.text) c.args.body.now c.in-Some.after.now v tail
    (adds-then (PieceIn c.args.quote) (closing c.args.quote) [] (string_bytes c.loop-text.text) (string_bytes c.take_piece.new.text) c.args.body.now c.loop-text.rest.now (closing c.args.quote ∷ c.in-Some.after.now) c.loop-text.invariant.1 (end c.if-ended.true)) b

pub loop-text-preserved : goal.loop-text-preserved
loop-text-preserved c =
    let more = rw c.in-Some.is at c.in_ok-ended.ensures.more in
    let text = rw c.in-Some.is at c.in_ok-ended.ensures.utf8 in
    (text, adds-then (PieceIn c.args.quote) (closing c.args.quote) [] (string_bytes c.loop-text.text) (string_bytes c.take_piece.new.text) c.args.body.now c.loop-text.rest.now c.in-Some.after.now c.loop-text.invariant.1 (more c.if-ended.false))
