use Rattle.test_walks.proofs.checked.walks_of_a_chain_are_checked.Given as goal

abbrev pub ghosts-check_chain : goal.ghosts-check_chain
ghosts-check_chain g a = record { name = a.blank.name; parts = a.blank.parts }
