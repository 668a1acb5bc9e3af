use Rattle.std.proofs.Common.{◌++◌, ◌∙◌, ap, List, ℕ}
use Rattle.std.specs.Prelude.{string_bytes}
use Rattle.std.specs.Str.{chars}
use Rattle.std.proofs.Math.Utf8.{encodes}
use Rattle.triples_read.specs.Canonical.{iri_text, term_text}
use Rattle.triples_read.proofs.AppendedTexts.{tail-pushed, triple-pushed}
use Rattle.triples_read.proofs.writing.push_triple.Goals as goal

pub returns : goal.returns
returns c =
    let old : List ℕ = string_bytes c.args.out.now in
    let one : List ℕ = string_bytes c.push_term.new.out in
    let two : List ℕ = string_bytes c.push_str.new.self in
    let three : List ℕ = string_bytes c.push_quoted.new.out in
    let four : List ℕ = string_bytes c.push_str-2.new.self in
    let five : List ℕ = string_bytes c.push_term-2.new.out in
    tail-pushed c.push_str-3.result five _ _ _ c.push_str-3.ensures.bytes
    (triple-pushed old one two three four five (term_text c.args.t.now.subject) (iri_text (chars c.args.t.now.predicate)) (term_text c.args.t.now.object)
    c.in_ok-push_term.ensures c.in_ok-push_str.ensures.bytes
    (c.in_ok-push_quoted.ensures ∙ ap (λ (z : List ℕ). two ++ encodes (iri_text (chars z))) c.as_str.ensures)
    c.in_ok-push_str-2.ensures.bytes c.in_ok-push_term-2.ensures)
