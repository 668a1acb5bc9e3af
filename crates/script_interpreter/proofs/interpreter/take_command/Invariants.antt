use Rattle.script_interpreter.proofs.interpreter.take_command.Given as goal

-- the count of steps that was just opened
abbrev pub ghosts-obey : goal.ghosts-obey
ghosts-obey g a = record { name = a.blank.name; parts = a.blank.parts }
