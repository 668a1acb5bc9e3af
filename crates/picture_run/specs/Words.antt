-- What the words of the command line say, by clap's definition of a simple command.
use Rattle.std.specs.Prelude.{ℕ, true, List, Option, Some, None, codes}
use Rattle.clap.specs.Simple.{on_top}
use Rattle.clap.specs.Words.{App, Row, first_of, new_app, new_rule, with_rule}
use Rattle.command_line.specs.SimpleCommands.{option_rule, read_by}
use Rattle.picture_run.specs.Settings.{Arguments, Settings, arguments_settings}

-- the words are those after the program's name
abbrev pub bare : App
bare = on_top (λ s. record s { no_binary_name = true }) (new_app (codes "pathindex_dot"))

-- a graph file, and the option --graph-of
abbrev pub graphs : App
graphs = with_rule (with_rule bare (new_rule (codes "graph"))) (option_rule (codes "graph-of"))

-- the options --blocks and --members too; clap requires none of them
abbrev pub command : App
command = with_rule (with_rule graphs (option_rule (codes "blocks"))) (option_rule (codes "members"))

-- the texts, by what clap found for each argument
abbrev pub arguments_in : List Row → Arguments
arguments_in rows = record {
  graph = first_of (codes "graph") rows;
  graph_of = first_of (codes "graph-of") rows;
  blocks = first_of (codes "blocks") rows;
  members = first_of (codes "members") rows;
}

-- what the words give, if clap takes them
abbrev pub read : List (List ℕ) → Option Arguments
read = read_by command arguments_in

-- the settings that the arguments give; none where clap takes none
abbrev pub settings_read : Option Arguments → Option Settings
settings_read None = None
settings_read (Some g) = arguments_settings g

-- what the words ask for; none where they are malformed
abbrev pub settings_of : List (List ℕ) → Option Settings
settings_of words = settings_read (read words)
