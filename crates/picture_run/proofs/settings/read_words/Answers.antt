use Rattle.std.proofs.Common.{option_map}
use Rattle.picture_run.specs.SettingsValues.{arguments_value}
use Rattle.picture_run.proofs.Bounds.{seen_within}
use Rattle.picture_run.proofs.settings.read_words.Goals as goal

pub returns-clause-within : goal.returns-clause-within
returns-clause-within c = seen_within c.judge.result (option_map arguments_value c.in_ok-arguments.arguments) c.judge.ensures
