use Rattle.one_update.proofs.tests.chains_come_apart.Given as goal

abbrev pub ghosts-check_chains : goal.ghosts-check_chains
ghosts-check_chains g a = record { name = a.blank.name; parts = a.blank.parts }
