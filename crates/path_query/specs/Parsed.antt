-- What a text spells, and what passes a limit.
use Rattle.std.specs.Prelude.{ℕ, ◌||◌, Bool, List, length, nat_lt}
use Rattle.graph_spec.specs.declared.limits.Limits.{Limits}
use Rattle.path_spec.specs.Trees.{Expr}
use Rattle.path_spec.specs.Spelling as spelling
use Rattle.path_query.specs.Labels.{SpellsLabel}
use Rattle.path_query.specs.Depths.{nesting}

-- the text spells the expression, with each label as a name or an IRIREF
abbrev pub SpellsPath : List ℕ → Expr → Type 0
SpellsPath text e = spelling.Spells SpellsLabel text e

-- it has more bytes than the limit, or nests deeper
abbrev pub is_past : Limits → List ℕ → Bool
is_past limits text = nat_lt limits.expr_bytes (length text) || nat_lt limits.expr_depth (nesting text)
