use Rattle.std.proofs.Common.{◌≡◌, ◌∙◌, ap, sym, subst, false, List, ℕ, ◌∷◌}
use Rattle.std.specs.Prelude.{string_bytes}
use Rattle.triples_read.specs.Bodies.{Adds, Body}
use Rattle.triples_read.specs.ByteReaders.{starts_with}
use Rattle.triples_read.specs.Quotes.{inner, Escape, escape_at, closing, PieceIn}
use Rattle.triples_read.proofs.PrefixLaws.{behind-utf8}
use Rattle.triples_read.proofs.BodyPieces.{adds-then, adds-none, stop-none}
use Rattle.triples_read.proofs.QuotedPieces.{quote_kind, quote_escapes}
use Rattle.triples_read.proofs.quoted.take_piece.Goals as goal

pub returns-in-Some-clause-end : goal.returns-in-Some-clause-end
returns-in-Some-clause-end c _ =
    let prefix = c.in-Some.ensures ∙ ap (λ (z : ℕ). z ∷ c.in-Some.behind.now) c.closing.ensures.is in
    subst (λ (z : List ℕ). Adds (PieceIn c.args.quote) (closing c.args.quote) (string_bytes c.args.text.now) (string_bytes c.take_run.new.text) c.args.rest.now z) prefix c.in_ok-after.ensures.found

pub returns-in-Some-clause-utf8 : goal.returns-in-Some-clause-utf8
returns-in-Some-clause-utf8 c = behind-utf8 c.closing.result c.in_ok-after.after.now c.in-Some.behind.now c.closing.ensures.ascii c.in_ok-after.ensures.utf8 c.in-Some.ensures

pub returns-in_default-past_byte-clause-none : goal.returns-in_default-past_byte-clause-none
returns-in_default-past_byte-clause-none c =
    let no_end : starts_with (closing c.args.quote) c.in_ok-after.after.now ≡ false = ap (λ (e : ℕ). starts_with e c.in_ok-after.after.now) (sym c.closing.ensures.is) ∙ c.in_default.ensures in
    adds-none (PieceIn c.args.quote) (closing c.args.quote) (string_bytes c.args.text.now) (string_bytes c.take_run.new.text) c.args.rest.now c.in_ok-after.after.now c.in_ok-after.ensures.found
    (stop-none (inner c.args.quote) (Escape c.args.quote) (escape_at c.args.quote) (closing c.args.quote) (quote_kind c.args.quote) (quote_escapes c.args.quote) c.in_ok-after.after.now c.in_ok-after.ensures.ended no_end c.in_default-past_byte.ensures)

pub returns-in_default-2-clause-none : goal.returns-in_default-2-clause-none
returns-in_default-2-clause-none c =
    let none = rw c.in_default-2.is at c.in_ok-next.ensures.none in
    adds-none (PieceIn c.args.quote) (closing c.args.quote) (string_bytes c.args.text.now) (string_bytes c.take_run.new.text) c.args.rest.now c.in_ok-after.after.now c.in_ok-after.ensures.found
    (λ v tail b. none v tail (subst (λ (z : List ℕ). Body (PieceIn c.args.quote) (closing c.args.quote) z v tail) c.in-Some-past_byte.ensures b))

pub returns-clause-more : goal.returns-clause-more
returns-clause-more c _ =
    let next = rw c.in-Some-2.is at c.in_ok-next.ensures.found in
    adds-then (PieceIn c.args.quote) (closing c.args.quote) (string_bytes c.args.text.now) (string_bytes c.take_run.new.text) (string_bytes c.take_escape.new.text) c.args.rest.now (92 ∷ c.in-Some-past_byte.behind.now) c.in-Some-2.next.now
    (subst (λ (z : List ℕ). Adds (PieceIn c.args.quote) (closing c.args.quote) (string_bytes c.args.text.now) (string_bytes c.take_run.new.text) c.args.rest.now z) c.in-Some-past_byte.ensures c.in_ok-after.ensures.found) next
