use Rattle.index_file.proofs.graph_lines.GraphLines.next.Given as goal

abbrev pub ghosts-give_part : goal.ghosts-give_part
ghosts-give_part a = record { name = a.blank.name; parts = a.blank.parts }
