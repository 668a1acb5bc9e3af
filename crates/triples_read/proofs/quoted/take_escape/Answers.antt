use Rattle.std.proofs.Common.{◌∙◌, ◌-◌, sym, ap, subst}
use Rattle.std.specs.Prelude.{string_bytes, IsUtf8}
use Rattle.std.proofs.lemmas.Str.{IsUtf8-drop}
use Rattle.triples_read.specs.Quotes.{inner, Escape, escape_at, closing}
use Rattle.triples_read.proofs.BodyPieces.{escape-added, escape-none, escape-boundary}
use Rattle.triples_read.proofs.QuotedPieces.{quote_kind, quote_escapes}
use Rattle.triples_read.proofs.quoted.take_escape.Goals as goal

pub split_at-requires : goal.split_at-requires
split_at-requires c =
    escape-boundary (Escape c.args.quote) (escape_at c.args.quote) (quote_escapes c.args.quote) c.args.rest.now c.in-Some.c c.in-Some.len c.utf8.rest (c.in-Some.ensures.is ∙ ap (escape_at c.args.quote) c.as_bytes.ensures.value)

pub returns-in_ok-push-in-Some-clause-found : goal.returns-in_ok-push-in-Some-clause-found
returns-in_ok-push-in-Some-clause-found c =
    escape-added (inner c.args.quote) (Escape c.args.quote) (escape_at c.args.quote) (closing c.args.quote) (quote_kind c.args.quote) (quote_escapes c.args.quote) c.args.rest.now (string_bytes c.args.text.now) _ _ _ _
    (c.in-Some.ensures.is ∙ ap (escape_at c.args.quote) c.as_bytes.ensures.value) c.split_at.ensures.back c.in_ok-push-in-Some.ensures.bytes

pub returns-in-None-clause-none : goal.returns-in-None-clause-none
returns-in-None-clause-none c =
    escape-none (inner c.args.quote) (Escape c.args.quote) (escape_at c.args.quote) (closing c.args.quote) (quote_kind c.args.quote) (quote_escapes c.args.quote) c.args.rest.now (c.in-None.ensures.is ∙ ap (escape_at c.args.quote) c.as_bytes.ensures.value)

pub returns-in_ok-push-in-Some-clause-utf8 : goal.returns-in_ok-push-in-Some-clause-utf8
returns-in_ok-push-in-Some-clause-utf8 c =
    let ends = escape-boundary (Escape c.args.quote) (escape_at c.args.quote) (quote_escapes c.args.quote) c.args.rest.now c.in-Some.c c.in-Some.len c.utf8.rest (c.in-Some.ensures.is ∙ ap (escape_at c.args.quote) c.as_bytes.ensures.value) in
    subst IsUtf8 (sym c.split_at.ensures.back) (IsUtf8-drop c.args.rest.now (c.in-Some.len - 1) c.utf8.rest ends)
