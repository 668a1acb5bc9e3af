-- What the words of the command line say, by clap's definition of a simple command.
use Rattle.std.specs.Prelude.{ℕ, Bool, true, false, List, Option, Some, None, codes, bytes_eq}
use Rattle.clap.specs.Simple.{on_top}
use Rattle.clap.specs.declared.builder.action.ArgAction.TheVariants.{SetTrue}
use Rattle.clap.specs.Words.{App, Row, Rule, first_of, new_app, new_rule, with_rule}
use Rattle.command_line.specs.Forms.{Form, neither}
use Rattle.command_line.specs.Arguments.{Arguments, arguments_form}
use Rattle.command_line.specs.SimpleCommands.{accepts, option_rule, read_by}

-- a flag: its word is the name behind two hyphens, and takes no text
abbrev pub flag_rule : List ℕ → Rule
flag_rule name = record (option_rule name) { action = Some SetTrue }

-- the words are those after the program's name
abbrev pub bare : App
bare = on_top (λ s. record s { no_binary_name = true }) (new_app (codes "pathindex"))

-- a script, and the options --graph and --k, none of them required
abbrev pub texts : App
texts = with_rule (with_rule (with_rule bare (new_rule (codes "script"))) (option_rule (codes "graph"))) (option_rule (codes "k"))

-- the options --make and --check too
abbrev pub options : App
options = with_rule (with_rule texts (option_rule (codes "make"))) (option_rule (codes "check"))

-- and three flags
abbrev pub command : App
command = with_rule (with_rule (with_rule options (flag_rule (codes "without-one"))) (flag_rule (codes "without-fb"))) (flag_rule (codes "with-bk"))

-- clap takes the words, unless memory runs out
abbrev pub is_accepted : List (List ℕ) → Bool
is_accepted = accepts command

-- clap gives a flag that is there the text `true`
abbrev pub is_set : Option (List ℕ) → Bool
is_set None = false
is_set (Some text) = bytes_eq text (codes "true")

-- the texts and the flags, by what clap found for each argument
abbrev pub arguments_in : List Row → Arguments
arguments_in rows = record {
  script = first_of (codes "script") rows;
  graph = first_of (codes "graph") rows;
  k = first_of (codes "k") rows;
  make = first_of (codes "make") rows;
  check = first_of (codes "check") rows;
  without_one = is_set (first_of (codes "without-one") rows);
  without_fb = is_set (first_of (codes "without-fb") rows);
  with_bk = is_set (first_of (codes "with-bk") rows);
}

-- what the words give, if clap takes them
abbrev pub read : List (List ℕ) → Option Arguments
read = read_by command arguments_in

-- what the arguments ask for; malformed where clap takes none
abbrev pub form_read : Option Arguments → Form
form_read None = neither
form_read (Some g) = arguments_form g

-- what the words ask for
abbrev pub form_of : List (List ℕ) → Form
form_of words = form_read (read words)
