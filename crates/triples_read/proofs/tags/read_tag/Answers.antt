use Rattle.std.proofs.Common.{◌≡◌, ◌∙◌, sym, ap, true, List, ℕ, Option}
use Rattle.triples_read.specs.ByteReaders.{past_tag}
use Rattle.triples_read.proofs.TagLaws.{tag-none, tag-within, tag-boundary, tag-found, tag-only}
use Rattle.triples_read.proofs.tags.read_tag.Goals as goal

-- what is read of the bytes is read of the text
read_of : (text bytes : List ℕ) (left : Option (List ℕ)) → bytes ≡ text → past_tag true true bytes ≡ left → past_tag true true text ≡ left
read_of text bytes left same read = ap (past_tag true true) (sym same) ∙ read

pub returns-in_default-clause-whole : goal.returns-in_default-clause-whole
returns-in_default-clause-whole c s r tag =
    tag-none c.args.text.now s r tag (read_of c.args.text.now c.as_bytes.result.now _ c.as_bytes.ensures.value c.in_default.ensures)

pub overflow_sub-text : goal.overflow_sub-text
overflow_sub-text c =
    tag-within c.args.text.now c.in-Some.behind.now (read_of c.args.text.now c.as_bytes.result.now _ c.as_bytes.ensures.value c.in-Some.ensures)

pub split_at-requires : goal.split_at-requires
split_at-requires c =
    tag-boundary c.args.text.now c.in-Some.behind.now c.utf8.text (read_of c.args.text.now c.as_bytes.result.now _ c.as_bytes.ensures.value c.in-Some.ensures)

pub returns-clause-found : goal.returns-clause-found
returns-clause-found c cs =
    tag-found c.args.text.now c.in-Some.behind.now _ _ c.in_ok-lower.field-0 cs (read_of c.args.text.now c.as_bytes.result.now _ c.as_bytes.ensures.value c.in-Some.ensures) c.split_at.ensures.front c.split_at.ensures.back
    c.in_ok-lower.ensures

pub returns-clause-whole : goal.returns-clause-whole
returns-clause-whole c s r tag =
    tag-only c.args.text.now c.in-Some.behind.now s r tag _ _ c.in_ok-lower.field-0 (read_of c.args.text.now c.as_bytes.result.now _ c.as_bytes.ensures.value c.in-Some.ensures) c.split_at.ensures.front c.split_at.ensures.back
    c.in_ok-lower.ensures
