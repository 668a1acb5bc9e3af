use Rattle.path_query.proofs.TokenPrefixLaws.{path_language}
use Rattle.path_query.proofs.parsing.read.Goals as goal

pub lex-requires : goal.lex-requires
lex-requires c = record { language = path_language }
