-- What is read of a line.
use Rattle.std.specs.Prelude.{ℕ, ⊤, List, Option, None, Some, Result, Ok, Err}
use Rattle.graph_spec.specs.declared.limits.Limits.{Limits}
use Rattle.change_spec.specs.Steps.{node, link, unlink, drop, relabel}
use Rattle.script_read.specs.Commands.{Command, change, begin, end, insert, delete, path, branch, why, check, extents, sizes, save, forget, IsQuiet, IsSpelled, PassesLimit, SpellsNothing}
use Rattle.script_read.specs.declared.commands.Command.{Command as Asked}
use Rattle.script_read.specs.declared.commands.Command.TheVariants.{Node, Link, Unlink, Drop, Relabel, Begin, End, Insert, Delete, Path, Branch, Why, Check, Extents, Sizes, Save, Forget}
use Rattle.script_read.specs.declared.commands.ScriptError.{ScriptError}
use Rattle.script_read.specs.declared.commands.ScriptError.TheVariants.{Bad, Limit, Memory}

-- the command that the code's value stands for
abbrev pub command_of : Asked → Command
command_of (Node t) = change (node t)
command_of (Link u v) = change (link u v)
command_of (Unlink u v) = change (unlink u v)
command_of (Drop u) = change (drop u)
command_of (Relabel u t) = change (relabel u t)
command_of Begin = begin
command_of End = end
command_of (Insert t) = insert t
command_of (Delete t) = delete t
command_of (Path via e) = path via e
command_of (Branch via q) = branch via q
command_of (Why v e) = why v e
command_of (Check nodes e) = check nodes e
command_of (Extents via) = extents via
command_of Sizes = sizes
command_of Save = save
command_of (Forget kind) = forget kind

-- The line is quiet; it spells this command, and passes no limit on expressions; it passes one; or it spells nothing. If memory
-- runs out nothing is said.
abbrev pub ReadsCommand : Limits → List ℕ → Result (Option Asked) ScriptError → Type 0
ReadsCommand limits line (Ok None) = IsQuiet line
ReadsCommand limits line (Ok (Some c)) = IsSpelled line (command_of c) × (¬ PassesLimit limits line)
ReadsCommand limits line (Err Limit) = PassesLimit limits line
ReadsCommand limits line (Err Bad) = SpellsNothing limits line
ReadsCommand limits line (Err Memory) = ⊤
