use Rattle.std.proofs.Common.{◌∙◌, sym, ap, subst, not}
use Rattle.std.specs.List.{position_or_len}
use Rattle.std.specs.Prelude.{string_bytes, IsUtf8}
use Rattle.std.proofs.lemmas.Str.{IsUtf8-drop}
use Rattle.triples_read.specs.Quotes.{inner, Escape, escape_at, closing}
use Rattle.triples_read.proofs.BodyPieces.{run-added, run-boundary, run-stops}
use Rattle.triples_read.proofs.QuotedPieces.{quote_kind, quote_escapes}
use Rattle.triples_read.proofs.quoted.take_run.Goals as goal

pub split_at-requires : goal.split_at-requires
split_at-requires c =
    run-boundary (inner c.args.quote) (closing c.args.quote) (quote_kind c.args.quote) c.args.rest.now _ (c.run_len.ensures.is ∙ ap (position_or_len (λ b. not (inner c.args.quote b))) c.as_bytes.ensures.value)

pub returns-clause-found : goal.returns-clause-found
returns-clause-found c =
    run-added (inner c.args.quote) (Escape c.args.quote) (escape_at c.args.quote) (closing c.args.quote) (quote_kind c.args.quote) (quote_escapes c.args.quote) c.args.rest.now (string_bytes c.args.text.now) _ _ _ _ c.utf8.rest
    (c.run_len.ensures.is ∙ ap (position_or_len (λ b. not (inner c.args.quote b))) c.as_bytes.ensures.value) c.split_at.ensures.front c.split_at.ensures.back c.in_ok-push_str.ensures.bytes

pub returns-clause-ended : goal.returns-clause-ended
returns-clause-ended c =
    run-stops (inner c.args.quote) c.args.rest.now _ _ (c.run_len.ensures.is ∙ ap (position_or_len (λ b. not (inner c.args.quote b))) c.as_bytes.ensures.value) c.split_at.ensures.back

pub returns-clause-utf8 : goal.returns-clause-utf8
returns-clause-utf8 c =
    let ends = run-boundary (inner c.args.quote) (closing c.args.quote) (quote_kind c.args.quote) c.args.rest.now c.run_len.result (c.run_len.ensures.is ∙ ap (position_or_len (λ b. not (inner c.args.quote b))) c.as_bytes.ensures.value) in
    subst IsUtf8 (sym c.split_at.ensures.back) (IsUtf8-drop c.args.rest.now c.run_len.result c.utf8.rest ends)
