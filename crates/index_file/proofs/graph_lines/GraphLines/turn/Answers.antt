use Rattle.std.proofs.Common.{refl}
use Rattle.index_file.proofs.GraphPartLaws.{turn_same, turn_fewer}
use Rattle.index_file.proofs.graph_lines.GraphLines.turn.Goals as goal

pub returns-clause-same : goal.returns-clause-same
returns-clause-same g c =
    turn_same c.args.graph.now.graph c.args.self.now _ c.created-known.ensures.graph c.requires.stage c.requires.stage c.requires.given c.requires.within refl refl refl refl
    c.in_ok-fill_children.ensures.rising c.in_ok-fill_children.ensures.members

pub returns-clause-fewer : goal.returns-clause-fewer
returns-clause-fewer g c =
    turn_fewer c.args.graph.now.graph c.args.self.now _ c.created-known.ensures.graph c.requires.stage c.requires.stage c.requires.given c.requires.within refl refl refl refl
    c.in_ok-fill_children.ensures.rising c.in_ok-fill_children.ensures.members
