use Rattle.std.proofs.Common.{◌∙◌, sym, subst, drop, true≢false}
use Rattle.path_spec.specs.Spelling.{EndsName}
use Rattle.path_query.proofs.TokenPrefixLaws.{as_label}
use Rattle.path_query.proofs.front.read_label.Goals as goal

pub returns-in_default-clause-syntax : goal.returns-in_default-clause-syntax
returns-in_default-clause-syntax c e t q h =
    let a = as_label c.args.text.now t q c.requires h in
    let only = rw c.in_default.is at c.in_ok-label.ensures.only in
    only a.2.len a.0 a.2.prefix a.2.ends

pub returns-else-ends_name-clause-syntax : goal.returns-else-ends_name-clause-syntax
returns-else-ends_name-clause-syntax c e t q h =
    let a = as_label c.args.text.now t q c.requires h in
    let only = rw c.in-Some.is at c.in_ok-label.ensures.only in
    let same = only a.2.len a.0 a.2.prefix a.2.ends in
    true≢false (sym (c.ends_name.ensures.1 (subst EndsName (sym c.split_at.ensures.back) (subst (λ n. EndsName (drop n c.args.text.now)) (sym same.1) a.2.ends))) ∙ c.if-ends_name.false)
