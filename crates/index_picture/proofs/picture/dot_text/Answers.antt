use Rattle.index_picture.proofs.PictureLines.{has_lines}
use Rattle.index_picture.proofs.picture.dot_text.Goals as goal

pub returns-clause-lines : goal.returns-clause-lines
returns-clause-lines c =
    has_lines c.args.graph.now.graph c.args.summary.now c.args.names.now c.args.most_members _ _ _ _ c.in_ok-text.text.items c.in_ok-text.ensures
