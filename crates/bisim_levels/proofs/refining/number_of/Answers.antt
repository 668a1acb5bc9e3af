use Rattle.std.proofs.Common.{◌∙◌, sym}
use Rattle.graph_spec.specs.Shapes.{shape_of}
use Rattle.graph_spec.specs.Members.{at}
use Rattle.bisim_levels.specs.SidedKeys.{on_side, IsSidedKey}
use Rattle.bisim_levels.proofs.LabelledNodes.{parents_neighbours, children_neighbours}
use Rattle.bisim_levels.proofs.NumberedNodes.{numbers_some}
use Rattle.bisim_levels.proofs.WrittenSides.{lists_both, sided_key_of}
use Rattle.bisim_levels.proofs.refining.number_of.Goals as goal

pub returns-in_ok-k-in-Some-clause-ok : goal.returns-in_ok-k-in-Some-clause-ok
returns-in_ok-k-in-Some-clause-ok c =
    let g = c.args.view.now in
    let block = at c.args.block.now in
    let own = sym c.block_of.ensures ∙ c.in-Some.is in
    let found = c.in_ok-k-in-Some.ensures.ok in
    let is = sided_key_of c.args.sides (shape_of g) block c.args.block.now c.args.n c.in-Some.number (on_side c.parents.result.now c.children.result.now) found.0
    (lists_both c.args.sides (shape_of g) c.args.n c.parents.result.now c.children.result.now (parents_neighbours g c.requires.graph c.args.n c.parents.result.now c.parents.ensures)
    (children_neighbours g c.requires.graph c.args.n c.children.result.now c.children.ensures)) own found.1 in
    numbers_some block (IsSidedKey c.args.sides (shape_of g) c.args.block.now) c.args.n c.in-Some.number c.in_ok-k-in-Some.k c.args.keys.now c.find_key.new.keys found.0 own found.2 is
