use Rattle.std.proofs.Common.{◌∙◌, ap, sym, subst, arith, List, ℕ, [], ◌-◌, length}
use Rattle.std.specs.Prelude.{IsUtf8}
use Rattle.triples_read.specs.Lines.{IsIriPrefix}
use Rattle.triples_read.specs.Quotes.{IsQuoted}
use Rattle.triples_read.specs.declared.quoted.Quote.TheVariants.{Angle}
use Rattle.triples_read.proofs.OpeningQuotes.{quoted-within}
use Rattle.triples_read.proofs.IriPrefixes.{prefix-cut}
use Rattle.triples_read.proofs.iri.read_iri_prefix.Goals as goal

pub returns-in_default-clause-only : goal.returns-in_default-clause-only
returns-in_default-clause-only c n iri prefix =
    let (xs, ys, v, parts, none, len, is, utf8, quoted) = prefix-cut c.args.b.now n iri prefix in
    c.in_default.ensures.whole xs ys parts none

pub returns-in_default-to_str-clause-only : goal.returns-in_default-to_str-clause-only
returns-in_default-to_str-clause-only c n iri prefix =
    let (xs, ys, v, parts, none, len, is, utf8, quoted) = prefix-cut c.args.b.now n iri prefix in
    c.in_default-to_str.ensures.cases.0 (subst IsUtf8 (sym (c.in-Some.ensures.whole xs ys parts none)) utf8)

pub returns-in_default-2-clause-only : goal.returns-in_default-2-clause-only
returns-in_default-2-clause-only c n iri prefix =
    let (xs, ys, v, parts, none, len, is, utf8, quoted) = prefix-cut c.args.b.now n iri prefix in
    let same = c.in-Ok.ensures.cases.0 ∙ c.in-Some.ensures.whole xs ys parts none in
    let only = rw c.in_default-2.is at c.in_ok-iri.ensures.only in
    only v [] (subst (λ (z : List ℕ). IsQuoted Angle z v []) (sym same) quoted)

pub returns-clause-found : goal.returns-clause-found
returns-clause-found c =
    let found = rw c.in-Some-2.is at c.in_ok-iri.ensures.found in
    let own = subst (λ (z : List ℕ). IsQuoted Angle z found.0 c.in-Some-2.rest.now) c.in-Ok.ensures.cases.0 found.2 in
    let made = quoted-within c.args.b.now c.in-Some.prefix.now c.in-Some.ensures.prefix.0 found.0 c.in-Some-2.rest.now c.in-Some.ensures.prefix.1 own in
    subst (λ (t : List ℕ). IsIriPrefix c.args.b.now (length c.in-Some.prefix.now - length c.in-Some-2.rest.now) t) (sym (c.from_string.ensures ∙ found.1)) made

pub returns-clause-only : goal.returns-clause-only
returns-clause-only c n iri prefix =
    let (xs, ys, v, parts, none, len, is, utf8, quoted) = prefix-cut c.args.b.now n iri prefix in
    let cut = c.in-Some.ensures.whole xs ys parts none in
    let only = rw c.in-Some-2.is at c.in_ok-iri.ensures.only in
    let both = only v [] (subst (λ (z : List ℕ). IsQuoted Angle z v []) (sym (c.in-Ok.ensures.cases.0 ∙ cut)) quoted) in
    (c.from_string.ensures ∙ both.0 ∙ sym is, omega (arith, len, ap length cut, ap length both.1))
