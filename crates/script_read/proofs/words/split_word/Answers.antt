use Rattle.std.proofs.Common.{◌≡◌, rules}
use Rattle.script_read.specs.FirstWords.{first_word, behind_word}
use Rattle.script_read.proofs.WordLemmas.{is_split}
use Rattle.script_read.proofs.words.split_word.Goals as goal

pub returns-clause-parts : goal.returns-clause-parts
returns-clause-parts c =
    let w : c.split_word.result.0.now ≡ first_word c.args.line.now = search rules in
    let r : c.split_word.result.1.now ≡ behind_word c.args.line.now = search rules in
    rw (w, r) (is_split c.args.line.now)
