use Rattle.std.proofs.Common.{◌∙◌, sym, ap, drop, ℕ}
use Rattle.std.specs.List.{prefix_len}
use Rattle.graph_spec.specs.Words.{is_blank}
use Rattle.triples_read.proofs.BlankLaws.{blanks-counted, blanks-boundary}
use Rattle.triples_read.proofs.blanks.skip_blanks.Goals as goal

pub split_at-requires : goal.split_at-requires
split_at-requires c =
    blanks-boundary c.args.text.now c.blanks_len.result c.utf8.text (c.blanks_len.ensures ∙ ap (prefix_len is_blank) c.as_bytes.ensures.value)

pub returns : goal.returns
returns c =
    c.split_at.ensures.back ∙ ap (λ (n : ℕ). drop n c.args.text.now) (c.blanks_len.ensures ∙ ap (prefix_len is_blank) c.as_bytes.ensures.value) ∙ sym (blanks-counted c.args.text.now)
