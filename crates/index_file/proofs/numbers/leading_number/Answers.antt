use Rattle.std.proofs.Common.{ap, sym, ◌∙◌, take, drop}
use Rattle.std.specs.List.{list_all}
use Rattle.std.specs.Char.{is_ascii_digit}
use Rattle.index_file.proofs.DecimalLaws.{front_digits, found_in_front, none_in_front}
use Rattle.index_file.proofs.numbers.leading_number.Goals as goal

pub is_plain-requires : goal.is_plain-requires
is_plain-requires c =
    ap (list_all is_ascii_digit) (c.split_at.ensures.front ∙ ap (λ n. take n c.args.text.now) c.leading_digits-count.ensures.count) ∙ front_digits c.args.text.now

pub returns-then-is_plain-clause-found : goal.returns-then-is_plain-clause-found
returns-then-is_plain-clause-found c = (
  found_in_front c.args.text.now c.split_at.result.0.now c.leading_digits-count.result.1
      (c.split_at.ensures.front ∙ ap (λ n. take n c.args.text.now) c.leading_digits-count.ensures.count)
      (sym c.is_plain.ensures ∙ c.if-is_plain.true) c.leading_digits-count.ensures.value,
  c.split_at.ensures.back ∙ ap (λ n. drop n c.args.text.now) c.leading_digits-count.ensures.count,
)

pub returns-else-is_plain-clause-none : goal.returns-else-is_plain-clause-none
returns-else-is_plain-clause-none c =
    none_in_front c.args.text.now c.split_at.result.0.now
    (c.split_at.ensures.front ∙ ap (λ n. take n c.args.text.now) c.leading_digits-count.ensures.count) (sym c.is_plain.ensures ∙ c.if-is_plain.false)
