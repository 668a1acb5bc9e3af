use Rattle.std.proofs.Common.{◌∙◌, sym}
use Rattle.command_line.proofs.Seeds.{not_read}
use Rattle.command_line.proofs.form.seed_of.Goals as goal

pub returns-in-Err : goal.returns-in-Err
returns-in-Err c =
    sym (not_read c.args.text.now c.parse.result c.in-Err.field-0 c.in-Err.is c.parse.ensures.value.0 (sym c.is_numeral.ensures ∙ c.if-not-is_numeral.false))
