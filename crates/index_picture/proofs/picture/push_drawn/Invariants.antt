use Rattle.index_picture.proofs.picture.push_drawn.Given as goal

abbrev pub ghosts-push_arrows : goal.ghosts-push_arrows
ghosts-push_arrows a = record { name = a.blank.name; parts = a.blank.parts }
