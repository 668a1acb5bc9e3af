use Rattle.std.proofs.lemmas.Result.{IfOk-weaker}
use Rattle.std.proofs.Common.{◌↔◌, Bool, IsTrue}
use Rattle.bisim_spec.specs.Bisimilarity.{Bis}
use Rattle.round_refinement.specs.NumberedShapes.{digraph_shape}
use Rattle.index_check.specs.ComparedLists.{AreSame}
use Rattle.index_check.proofs.LevelLaws.{right_where_same, same_where_right}
use Rattle.round_refinement.proofs.LevelLaws.{agree_as}
use Rattle.index_check.proofs.levels.fits_level.Goals as goal

pub returns : goal.returns
returns g c =
    let s = digraph_shape g.G.Digraph c.args.g.now in
    let right = agree_as s c.in_ok-right.right.items c.deref.result.now (Bis s c.args.i) c.deref.ensures.value c.in_ok-right.ensures in
    IfOk-weaker c.are_same.result (λ (yes : Bool). IsTrue yes ↔ AreSame c.deref.result.now c.args.block.now) _
    (λ yes e. (
      λ h. right_where_same s c.deref.result.now c.args.block.now (Bis s c.args.i) right c.requires.partition (e.0 h),
      λ a. e.1 (same_where_right s c.deref.result.now c.args.block.now (Bis s c.args.i) right a),
    ))
    c.are_same.ensures
