-- What the code's values say, in the words of the definitions.
use Rattle.std.specs.Prelude.{◌≡◌, Result, IfOk, option_map}
use Rattle.command_line.specs.Forms.{Form, Settings, runs, makes, checks, neither}
use Rattle.command_line.specs.Arguments.{Arguments, arguments_form}
use Rattle.command_line.specs.declared.form.Form.{Form as FormSeen}
use Rattle.command_line.specs.declared.form.Form.TheVariants.{Run, Make, Check, Neither}
use Rattle.command_line.specs.declared.form.Settings.{Settings as SettingsSeen}
use Rattle.command_line.specs.declared.arguments.Arguments.{Arguments as ArgumentsSeen}

-- what the code's settings say
abbrev pub settings_value : SettingsSeen → Settings
settings_value s = record {
  script = s.script.now;
  graph = option_map (λ t. t.now) s.graph;
  k = s.k;
  without_one = s.without_one;
  without_fb = s.without_fb;
  with_bk = s.with_bk;
}

-- what the code's form says
abbrev pub form_value : FormSeen → Form
form_value (Run s) = runs (settings_value s)
form_value (Make seed) = makes seed
form_value (Check file) = checks file.now
form_value Neither = neither

-- what the code's arguments say
abbrev pub arguments_value : ArgumentsSeen → Arguments
arguments_value g = record {
  script = option_map (λ t. t.now) g.script;
  graph = option_map (λ t. t.now) g.graph;
  k = option_map (λ t. t.now) g.k;
  make = option_map (λ t. t.now) g.make;
  check = option_map (λ t. t.now) g.check;
  without_one = g.without_one;
  without_fb = g.without_fb;
  with_bk = g.with_bk;
}

-- the form that is read is the one that these texts and flags give
abbrev pub IsReadAs : {E : Type 0} → Result FormSeen E → Arguments → Type 0
IsReadAs result arguments = IfOk result (λ f. form_value f ≡ arguments_form arguments)
