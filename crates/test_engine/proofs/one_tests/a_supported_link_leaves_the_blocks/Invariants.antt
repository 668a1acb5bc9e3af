use Rattle.test_engine.proofs.one_tests.a_supported_link_leaves_the_blocks.Given as goal

abbrev pub ghosts-graph_of_twins : goal.ghosts-graph_of_twins
ghosts-graph_of_twins g a = record { name = a.blank.name; parts = a.blank.parts }
