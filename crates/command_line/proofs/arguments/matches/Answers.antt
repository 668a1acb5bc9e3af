use Rattle.std.proofs.Common.{◌≡◌, map, string_bytes, ◌∙◌, true, refl}
use Rattle.clap.specs.Simple.{is_simple}
use Rattle.clap.specs.Words.{is_simple_and_free}
use Rattle.clap.proofs.OnLiterals.{clap_on_literals}
use Rattle.command_line.proofs.ClapWords.{matched, refused}
use Rattle.command_line.specs.Words.{command}
use Rattle.command_line.proofs.arguments.matches.Goals as goal

-- clap's definitions are for this command
simple : is_simple command ≡ true
unfolding clap_on_literals
simple = refl

simple_and_free : is_simple_and_free command ≡ true
unfolding clap_on_literals
simple_and_free = refl

pub returns-in-Ok : goal.returns-in-Ok
returns-in-Ok c =
    matched command simple simple_and_free _ (map string_bytes c.args.words.now) c.in-Ok.matches c.in_ok-make_command.ensures c.in-Ok.ensures.kinds
    (λ simple. (c.in-Ok.ensures.matches simple).0)

pub returns : goal.returns
returns c =
    refused command simple simple_and_free _ (map string_bytes c.args.words.now) c.in-Err.error c.in_ok-make_command.ensures c.in-Err.ensures.kinds
    (λ memory. c.in_default.not-OutOfMemory (c.kind.ensures ∙ memory))
