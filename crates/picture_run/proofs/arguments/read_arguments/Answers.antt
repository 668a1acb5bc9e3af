use Rattle.std.proofs.Common.{map, string_bytes}
use Rattle.command_line.proofs.ClapWords.{gathered, not_gathered}
use Rattle.picture_run.specs.SettingsValues.{arguments_value}
use Rattle.picture_run.specs.Words.{command, arguments_in}
use Rattle.picture_run.proofs.arguments.read_arguments.Goals as goal

pub returns-in-Some : goal.returns-in-Some
returns-in-Some c =
    gathered command arguments_in (map string_bytes c.args.words.now) c.in_ok-matches.field-0 c.in-Some.matches (arguments_value c.gather.result) c.in-Some.is
    c.in_ok-matches.ensures c.gather.ensures

pub returns-in-None : goal.returns-in-None
returns-in-None c = not_gathered command arguments_in (map string_bytes c.args.words.now) c.in_ok-matches.field-0 c.in-None.is c.in_ok-matches.ensures
