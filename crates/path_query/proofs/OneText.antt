-- A text spells at most one expression.
use Rattle.std.proofs.Common.{◌≡◌, ℕ, List}
use Rattle.path_spec.specs.Trees.{Expr}
use Rattle.path_spec.specs.Tokens.{tokens}
use Rattle.path_spec.proofs.OneTree.{one_reading}
use Rattle.path_query.specs.Parsed.{SpellsPath}
use Rattle.path_query.proofs.LexerLaws.{tokens_one}
use Rattle.path_query.proofs.TokenPrefixLaws.{path_language}

pub spells_one : (text : List ℕ) (e f : Expr) → SpellsPath text e → SpellsPath text f → e ≡ f
spells_one text e f h k = one_reading e f (tokens_one path_language (tokens e) (tokens f) text h k)
