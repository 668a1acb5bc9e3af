use Rattle.std.proofs.Common.{length, arith}
use Rattle.std.proofs.lemmas.Bool.Decides.{nat_tests}
use Rattle.path_query.proofs.LabelLaws.{label_one, whole_prefix, whole_ends, prefix_whole}
use Rattle.path_query.proofs.labels.read_label.Goals as goal
use Rattle.path_query.proofs.labels.read_label.Goals.{in_default-via-in-Some+else-len-word, in_default-via-in_default}

pub returns-in_err-len-clause-once : goal.returns-in_err-len-clause-once
returns-in_err-len-clause-once c = label_one c.args.word.now

pub returns-in-Some-clause-once : goal.returns-in-Some-clause-once
returns-in-Some-clause-once c = label_one c.args.word.now

pub returns-in_default-clause-once : goal.returns-in_default-clause-once
returns-in_default-clause-once c = label_one c.args.word.now

pub returns-in-Some-clause-found : goal.returns-in-Some-clause-found
returns-in-Some-clause-found c =
    let found = rw c.in-Some.is at c.in_ok-len.ensures.found in
    prefix_whole c.args.word.now c.in-Some.len c.in-Some.label c.if-len-word.true found

pub returns-in_default-clause-none : goal.returns-in_default-clause-none
returns-in_default-clause-none c t h =
    let only = c.in_ok-len.ensures.only (length c.args.word.now) t (whole_prefix c.args.word.now t h) (whole_ends c.args.word.now) in
    elim c.in_default.branch [
      | in_default-via-in-Some+else-len-word w ↦ (let found = rw w.in-Some.is at only in grind (arith, nat_tests, found.1, w.if-len-word.false))
      | in_default-via-in_default w ↦ (rw w.in_default.is at only)
    ]
