use Rattle.std.proofs.Common.{length, ◌<◌, ◌≤◌, arith}
use Rattle.std.proofs.lemmas.Bool.Decides.{nat_tests}
use Rattle.branch_text.proofs.TokenPrefixLaws.{len_to_end, len_of_all}
use Rattle.branch_text.proofs.marks.iri_len.Goals as goal

pub returns-then-before-text-clause-count : goal.returns-then-before-text-clause-count
returns-then-before-text-clause-count c =
    let within : c.before_end-before.result < length c.args.text.now = grind (arith, nat_tests, c.if-before-text.true) in
    len_to_end c.args.text.now c.before_end-before.result c.before_end-before.ensures.count within

pub returns-else-before-text-clause-count : goal.returns-else-before-text-clause-count
returns-else-before-text-clause-count c =
    let past : length c.args.text.now ≤ c.before_end-before.result = grind (arith, nat_tests, c.if-before-text.false) in
    len_of_all c.args.text.now c.before_end-before.result c.before_end-before.ensures.count past
