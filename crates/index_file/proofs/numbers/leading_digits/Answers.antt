use Rattle.std.proofs.Common.{◌≡◌, length, arith, refl, sym, ◌∙◌, take}
use Rattle.std.specs.Str.Parse.{digits_value}
use Rattle.index_file.proofs.DecimalLaws.{digits_more, value_more, saturated_few, front_at}
use Rattle.index_file.proofs.numbers.leading_digits.Goals as goal

pub loop-i-init : goal.loop-i-init
loop-i-init c = record { digits = λ k l. absurd (omega (arith, l)); value = refl }

pub returns-then-not-is_ascii_digit-clause-count : goal.returns-then-not-is_ascii_digit-clause-count
returns-then-not-is_ascii_digit-clause-count c =
    (front_at c.args.text.now c.loop-i.i c.loop-i.value c.loop-i.auto.i-end c.loop-i.invariant.digits
    (λ _. sym c.is_ascii_digit.ensures.value ∙ c.if-not-is_ascii_digit.true) c.loop-i.invariant.value).0

pub returns-then-not-is_ascii_digit-clause-value : goal.returns-then-not-is_ascii_digit-clause-value
returns-then-not-is_ascii_digit-clause-value c =
    (front_at c.args.text.now c.loop-i.i c.loop-i.value c.loop-i.auto.i-end c.loop-i.invariant.digits
    (λ _. sym c.is_ascii_digit.ensures.value ∙ c.if-not-is_ascii_digit.true) c.loop-i.invariant.value).1

pub with_digit-value-requires-clause-value : goal.with_digit-value-requires-clause-value
with_digit-value-requires-clause-value c = saturated_few c.loop-i.value (digits_value 10 (take c.loop-i.i c.args.text.now)) c.loop-i.invariant.value

pub loop-i-preserved : goal.loop-i-preserved
loop-i-preserved c =
    let digit = sym c.is_ascii_digit.ensures.value ∙ c.if-not-is_ascii_digit.false in
    record {
      digits = digits_more c.args.text.now c.loop-i.i c.loop-i.invariant.digits digit;
      value = value_more c.args.text.now c.loop-i.i c.loop-i.value c.with_digit-value.result c.loop-i-test.true digit c.loop-i.invariant.value c.with_digit-value.ensures;
    }

pub returns-clause-count : goal.returns-clause-count
returns-clause-count c =
    let past = c.loop-i-test.false in
    let within = c.loop-i.auto.i-end in
    let end : length c.args.text.now ≡ c.loop-i.i = omega (arith, past, within) in
    end ∙ (front_at c.args.text.now c.loop-i.i c.loop-i.value within c.loop-i.invariant.digits (λ l. absurd (omega (arith, past, l))) c.loop-i.invariant.value).0

pub returns-clause-value : goal.returns-clause-value
returns-clause-value c =
    let past = c.loop-i-test.false in
    (front_at c.args.text.now c.loop-i.i c.loop-i.value c.loop-i.auto.i-end c.loop-i.invariant.digits (λ l. absurd (omega (arith, past, l))) c.loop-i.invariant.value).1
