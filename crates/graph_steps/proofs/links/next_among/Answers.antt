use Rattle.std.proofs.Common.{◌≡◌, ◌∙◌, ap, sym, arith, length, inl, inr}
use Rattle.std.proofs.lemmas.List.{length-map}
use Rattle.std.proofs.lemmas.Bool.{cases_lt}
use Rattle.graph_steps.specs.StepLists.{step_of, steps_of}
use Rattle.graph_steps.specs.StepLinks.{names_at}
use Rattle.graph_steps.proofs.StepLinks.{name_there, next_named}
use Rattle.graph_steps.proofs.links.next_among.Goals as goal

pub returns-then-names : goal.returns-then-names
returns-then-names c =
    let ss = c.args.steps.now in
    let i = c.loop-i.i in
    let len = length-map ss step_of in
    let test = c.loop-i-test.true in
    let low = c.loop-i.auto in
    next_named (steps_of ss) c.args.n c.args.from i (omega (arith, low)) (omega (arith, len, test)) c.loop-i.invariant
    (λ below. sym (name_there ss i c.args.n c.index-steps-i.result test c.index-steps-i.is) ∙ sym c.names.ensures ∙ c.if-names.true)

pub loop-i-preserved : goal.loop-i-preserved
loop-i-preserved c = λ k low high. elim (cases_lt k c.loop-i.i) [
  | inl below ↦ c.loop-i.invariant k low below
  | inr above ↦ (
      let ss = c.args.steps.now in
      let i = c.loop-i.i in
      let n = c.args.n in
      let same : i ≡ k = omega (arith, above, high) in
      ap (λ j. names_at (steps_of ss) j n) (sym same) ∙ sym (name_there ss i n c.index-steps-i.result c.loop-i-test.true c.index-steps-i.is) ∙ sym c.names.ensures ∙ c.if-names.false)
]

pub returns : goal.returns
returns c =
    let ss = c.args.steps.now in
    let len = length-map ss step_of in
    let past = c.loop-i-test.false in
    let from = c.requires in
    next_named (steps_of ss) c.args.n c.args.from (length ss) (omega (arith, from)) (omega (arith, len)) (λ k low high. c.loop-i.invariant k low (omega (arith, high, past)))
    (λ below. absurd (omega (arith, below, len)))
