-- What the lines of a script print. Each printed line ends with LF (10).
use Rattle.std.specs.Prelude.{ℕ, ◌+◌, List, [], ◌∷◌, ◌++◌, codes, decimal, nat_eq, if◌then◌else◌, Result, Ok, Err}
use Rattle.graph_spec.specs.declared.refusal.Refusal.{Refusal}
use Rattle.graph_spec.specs.Refusals.{word_of}
use Rattle.graph_spec.specs.Words.{node_word}
use Rattle.graph_spec.specs.Graphs.{Graph}
use Rattle.change_spec.specs.Steps.{Step}
use Rattle.graph_update.specs.declared.staging.Applied.{Applied}
use Rattle.graph_update.specs.StagedChanges.{applied_of}
use Rattle.extent_report.specs.ListedBlocks.{texts_below}
use Rattle.script_interpreter.specs.declared.group.Scope.{Scope}
use Rattle.script_interpreter.specs.declared.group.Scope.TheVariants.{OneLine, LineGroup}
use Rattle.script_interpreter.specs.declared.printing.Printing.{Printing}
use Rattle.script_interpreter.specs.Rules.{if_whole}

-- that it is refused, and why
abbrev pub refused_line : Refusal → List ℕ
refused_line r = codes "refused " ++ word_of r ++ 10 ∷ []

-- that it is carried out
abbrev pub ok_line : List ℕ
ok_line = codes "ok" ++ 10 ∷ []

-- the number of a new node
abbrev pub added_line : ℕ → List ℕ
added_line n = codes "added " ++ node_word n ++ 10 ∷ []

-- the numbers that a change allocates, rising
abbrev pub added_lines : Applied → List ℕ
added_lines a = texts_below a.added (λ i. added_line (a.first + i))

-- What an accepted change prints. A line of its own prints the number that it allocates, or that it is made; a group prints all its
-- numbers, and then that it is made.
abbrev pub made_lines : Scope → Applied → List ℕ
made_lines OneLine a = if nat_eq a.added 0 then ok_line else added_lines a
made_lines LineGroup a = added_lines a ++ ok_line

-- what a change prints, from the graph before it and its outcome
abbrev pub reply : Printing → Scope → List Step → Graph → Result Graph Refusal → List ℕ
reply printing scope c g (Ok h) = if_whole printing (made_lines scope (applied_of c g))
reply printing scope c g (Err r) = refused_line r

-- that the line of this number is bad
abbrev pub bad_line : ℕ → List ℕ
bad_line n = codes "bad " ++ decimal n ++ 10 ∷ []

-- that a node doesn't answer
abbrev pub none_line : List ℕ
none_line = codes "none" ++ 10 ∷ []

-- that nodes show why one answers
abbrev pub yes_line : List ℕ
yes_line = codes "yes" ++ 10 ∷ []

-- that nodes don't show why one answers
abbrev pub no_line : List ℕ
no_line = codes "no" ++ 10 ∷ []
