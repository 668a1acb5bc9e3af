-- A text that is plain is neither a flag nor a subcommand: clap takes it for a value, whatever its bytes are.
use Rattle.std.proofs.Common.{◌≡◌, ◌==◌, ◌∙◌, ℕ, Bool, List, [], ◌∷◌, None, true, false, refl, ap, ap₂, rules, arith, if◌then◌else◌}
use Rattle.std.specs.Prelude.{option_and_then}
use Rattle.std.specs.Option.{option_map_or}
use Rattle.std.specs.Str.{bytes_eq}
use Rattle.clap.specs.Lexer.{long_of, long_of_rest, short_of, short_of_rest, strip_byte}
use Rattle.clap.specs.Faults.{bundle_fault, flag_word_fault, word_fault}
use Rattle.clap.specs.Simple.{Shape}
use Rattle.clap.specs.Walk.{Held, Rule, Step, Waiting, idle, long_or_other, option, plain_word, positional, short_or_plain, subcommand_met, trailing, value, word_met}
use Rattle.command_line.specs.Usage.{IsPlainText}

-- the three questions that clap asks of a word's hyphens
pub record NoFlag (word : List ℕ) : Type 0 where
  pub ends_options : bytes_eq word (45 ∷ 45 ∷ []) ≡ false
  pub long : long_of word ≡ None
  pub short : short_of word ≡ None

pub no_flag : (word : List ℕ) → IsPlainText word → NoFlag word
no_flag [] plain = absurd plain
no_flag (b ∷ bs) plain =
    let other : (b == 45) ≡ false = search (rules, arith, plain) in
    let kept : strip_byte 45 (b ∷ bs) ≡ None = rw other refl in
    record {
      ends_options = rw other refl;
      long = ap (λ o. option_and_then long_of_rest (option_and_then (strip_byte 45) o)) kept;
      short = ap (option_and_then short_of_rest) kept;
    }

-- what clap makes of a word that is no flag
abbrev pub value_met : List Rule → Bool → Waiting → List ℕ → Held → Held × Step
value_met rules is_trailing waiting word held = if is_trailing then (held, value) else plain_word rules waiting word held

no_subcommand : (waiting : Waiting) (word : List ℕ) → subcommand_met [] waiting word ≡ None
no_subcommand idle word = refl
no_subcommand (option id) word = refl
no_subcommand positional word = refl

pub met_as_value : (rules : List Rule) (is_trailing : Bool) (waiting : Waiting) (position : ℕ) (word : List ℕ) (held : Held)
    → NoFlag word → word_met rules [] is_trailing waiting position word held ≡ value_met rules is_trailing waiting word held
met_as_value rules true waiting position word held n = refl
met_as_value rules false waiting position word held n =
    rw (no_subcommand waiting word)
    (ap₂ (λ ends l. if ends then (held, trailing position) else long_or_other rules waiting word l held) n.ends_options n.long
    ∙ ap (λ s. short_or_plain rules waiting word s held) n.short)

pub met_without_fault : (s : Shape) (is_trailing : Bool) (waiting : Waiting) (word : List ℕ) (held : Held)
    → NoFlag word → word_fault s [] is_trailing waiting word held ≡ []
met_without_fault s true waiting word held n = refl
met_without_fault s false waiting word held n =
    rw (no_subcommand waiting word)
    (ap₂ (λ ends l. if ends then [] else flag_word_fault s.rules s.args_override_self l word held) n.ends_options n.long
    ∙ ap (λ o. option_map_or (λ flags. bundle_fault s.rules s.args_override_self flags held) o []) n.short)
