use Rattle.test_walks.proofs.found.a_walk_is_found_through_64_groups.Given as goal

abbrev pub ghosts-check_nested : goal.ghosts-check_nested
ghosts-check_nested g a = record { name = a.blank.name; parts = a.blank.parts }
