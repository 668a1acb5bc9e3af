use Rattle.std.proofs.Common.{◌∙◌, sym, arith, rules}
use Rattle.picture_run.proofs.Numbers.{not_read}
use Rattle.picture_run.proofs.settings.number_of.Goals as goal

pub returns-in-Err : goal.returns-in-Err
returns-in-Err c =
    sym (not_read c.args.most c.args.text.now c.parse.result c.in-Err.field-0 (search (rules, arith)) c.in-Err.is c.parse.ensures.value.0 (sym c.is_numeral.ensures ∙ c.if-not-is_numeral.false))
