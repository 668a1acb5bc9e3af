use Rattle.std.proofs.Common.{◌∙◌, sym, ◌++◌, refl}
use Rattle.std.proofs.Math.Utf8.{encodes}
use Rattle.triples_read.proofs.LiteralLaws.{literal-found, literal-stands}
use Rattle.triples_read.proofs.literal.read_literal.Goals as goal

pub returns-in_default-clause-whole : goal.returns-in_default-clause-whole
returns-in_default-clause-whole c s r text datatype tag is spelled over =
    let (v, u, text_is, quoted, suffix, ok) = literal-stands c.args.text.now s r text datatype tag is spelled in
    let only = rw c.in_default.is at c.in_ok-string.ensures.only in
    only v (encodes (u ++ r)) quoted

pub returns-in_default-2-clause-whole : goal.returns-in_default-2-clause-whole
returns-in_default-2-clause-whole c s r text datatype tag is spelled over =
    let (v, u, text_is, quoted, suffix, ok) = literal-stands c.args.text.now s r text datatype tag is spelled in
    let only = rw c.in-Some.is at c.in_ok-string.ensures.only in
    let both = only v (encodes (u ++ r)) quoted in
    let whole = rw c.in_default-2.is at c.in_ok-datatype.ensures.whole in
    whole u r datatype tag (both.1, ok) suffix over

pub returns-clause-found : goal.returns-clause-found
returns-clause-found c cs is =
    let quoted = rw c.in-Some.is at c.in_ok-string.ensures.found in
    let found = rw c.in-Some-2.is at c.in_ok-datatype.ensures.found in
    literal-found c.args.text.now cs quoted.0 c.from_string-text.result c.in-Some.behind.now c.in-Some-2.datatype c.in-Some-2.tag c.in-Some-2.rest.now is (c.from_string-text.ensures ∙ quoted.1) quoted.2 found

pub returns-clause-whole : goal.returns-clause-whole
returns-clause-whole c s r text datatype tag is spelled over =
    let (v, u, text_is, quoted, suffix, ok) = literal-stands c.args.text.now s r text datatype tag is spelled in
    let only = rw c.in-Some.is at c.in_ok-string.ensures.only in
    let both = only v (encodes (u ++ r)) quoted in
    let whole = rw c.in-Some-2.is at c.in_ok-datatype.ensures.whole in
    let rest = whole u r datatype tag (both.1, ok) suffix over in
    (rw (c.from_string-text.ensures ∙ both.0 ∙ sym text_is, rest.0, rest.1) refl, rest.2)
