-- A text spells at most one query.
use Rattle.std.proofs.Common.{◌≡◌, ℕ, List}
use Rattle.branch_spec.specs.Trees.{Branch}
use Rattle.branch_spec.specs.Tokens.{tokens}
use Rattle.branch_spec.proofs.OneQuery.{one_reading}
use Rattle.path_query.proofs.LexerLaws.{tokens_one}
use Rattle.branch_text.specs.Parsed.{SpellsBranch}
use Rattle.branch_text.proofs.TokenPrefixLaws.{branch_language}

pub spells_one : (text : List ℕ) (p q : Branch) → SpellsBranch text p → SpellsBranch text q → p ≡ q
spells_one text p q h k = one_reading p q (tokens_one branch_language (tokens p) (tokens q) text h k)
