use Rattle.std.proofs.Common.{◌≡◌, ◌++◌, ◌∙◌, ap, List, ℕ}
use Rattle.std.specs.Prelude.{string_bytes}
use Rattle.std.specs.Str.{chars}
use Rattle.std.proofs.Math.Utf8.{encodes}
use Rattle.triples_read.specs.Canonical.{string_text, suffix_text}
use Rattle.triples_read.proofs.AppendedTexts.{on-ok-map, two-pushed}
use Rattle.triples_read.proofs.writing.push_literal.Goals as goal

pub returns : goal.returns
returns c =
    let old : List ℕ = string_bytes c.args.out.now in
    let mid : List ℕ = string_bytes c.push_quoted.new.out in
    let new : List ℕ = string_bytes c.push_suffix.new.out in
    let xs : List ℕ = string_text (chars c.args.text.now) in
    let ys : List ℕ = suffix_text c.args.datatype.now c.args.tag.now in
    on-ok-map (new ≡ mid ++ encodes ys) (new ≡ old ++ encodes (xs ++ ys)) c.push_suffix.result
    (λ e. two-pushed old mid new xs ys (c.in_ok-push_quoted.ensures ∙ ap (λ (z : List ℕ). old ++ encodes (string_text (chars z))) c.as_str.ensures) e) c.push_suffix.ensures
