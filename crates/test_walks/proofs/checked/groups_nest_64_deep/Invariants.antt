use Rattle.test_walks.proofs.checked.groups_nest_64_deep.Given as goal

abbrev pub ghosts-check_nested : goal.ghosts-check_nested
ghosts-check_nested g a = record { name = a.blank.name; parts = a.blank.parts }
