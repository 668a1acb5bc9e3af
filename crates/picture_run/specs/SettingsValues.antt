-- What the code's values say, in the words of the definitions.
use Rattle.std.specs.Prelude.{option_map}
use Rattle.picture_run.specs.Settings.{Arguments, Settings}
use Rattle.picture_run.specs.declared.settings.Settings.{Settings as SettingsSeen}
use Rattle.picture_run.specs.declared.arguments.Arguments.{Arguments as ArgumentsSeen}

-- what the code's settings say
abbrev pub settings_value : SettingsSeen → Settings
settings_value s = record { file = s.file.now; via = s.via; blocks = s.blocks; members = s.members }

-- what the code's arguments say
abbrev pub arguments_value : ArgumentsSeen → Arguments
arguments_value g = record {
  graph = option_map (λ t. t.now) g.graph;
  graph_of = option_map (λ t. t.now) g.graph_of;
  blocks = option_map (λ t. t.now) g.blocks;
  members = option_map (λ t. t.now) g.members;
}
