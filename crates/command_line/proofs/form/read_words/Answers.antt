use Rattle.std.proofs.Common.{◌≡◌, ◌∙◌, ap, sym, subst, map, option_map, string_bytes, rules}
use Rattle.command_line.specs.Forms.{HasLevel}
use Rattle.command_line.specs.FormValues.{form_value, arguments_value}
use Rattle.command_line.specs.Words.{form_of}
use Rattle.command_line.proofs.Levels.{read_level}
use Rattle.command_line.proofs.Usages.{plain_form, reordered_form}
use Rattle.command_line.proofs.form.read_words.Goals as goal

pub returns-clause-plain : goal.returns-clause-plain
returns-clause-plain c u is plain =
    let exact : form_value c.judge.result ≡ form_of (map string_bytes c.args.words.now) = search rules in
    exact ∙ ap form_of is ∙ plain_form u plain

pub returns-clause-reordered : goal.returns-clause-reordered
returns-clause-reordered c u o is plain =
    let exact : form_value c.judge.result ≡ form_of (map string_bytes c.args.words.now) = search rules in
    exact ∙ ap form_of is ∙ reordered_form o u plain

pub returns-clause-level : goal.returns-clause-level
returns-clause-level c = subst HasLevel (sym c.judge.ensures) (read_level (option_map arguments_value c.in_ok-arguments.arguments))
