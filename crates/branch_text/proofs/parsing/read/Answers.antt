use Rattle.branch_text.proofs.TokenPrefixLaws.{branch_language}
use Rattle.branch_text.proofs.parsing.read.Goals as goal

pub lex-requires : goal.lex-requires
lex-requires c = record { language = branch_language }
