use Rattle.std.proofs.Common.{◌↔◌, Bool, IsTrue, length, sym, ◌∙◌, subst}
use Rattle.std.proofs.lemmas.Result.{IfOk-weaker}
use Rattle.label_graph.specs.GraphViews.{label_number, is_linked}
use Rattle.bisim_spec.specs.Partitions.{IsPartition}
use Rattle.index_file.specs.FittingViews.{IsPartitionVia}
use Rattle.index_file.specs.SavedGraphs.{blocks_at}
use Rattle.round_refinement.specs.NumberedShapes.{shape_by_number}
use Rattle.index_check.proofs.ViaLaws.{via_told, partition_told, view_told}
use Rattle.index_check.proofs.fitting.fits.Goals as goal

pub fits_via-requires : goal.fits_via-requires
fits_via-requires c =
    let g = c.args.saved.now.graph in
    let s = shape_by_number (length g.allocated) (label_number g) (is_linked g) in
    let known = c.size-known.ensures in
    record {
      partition = subst (IsPartition s) (sym (c.deref.ensures.value ∙ c.in_ok-block.ensures))
          (partition_told g known.graph known.shape (blocks_at c.args.saved.now c.args.j) (known.partitions c.args.j c.requires));
    }

pub returns : goal.returns
returns c =
    let g = c.args.saved.now.graph in
    let s = shape_by_number (length g.allocated) (label_number g) (is_linked g) in
    let known = c.size-known.ensures in
    let block = blocks_at c.args.saved.now c.args.j in
    let same = c.deref.ensures.value ∙ c.in_ok-block.ensures in
    let told = via_told g known.graph known.shape c.via.result block in
    let view = view_told c.args.saved.now c.args.j c.via.result c.via.ensures in
    IfOk-weaker c.fits_via.result (λ (yes : Bool). IsTrue yes ↔ IsPartitionVia s c.via.result c.deref.result.now) _
    (λ yes e. (
      λ h. view.0 (told.0 (subst (IsPartitionVia s c.via.result) same (e.0 h))),
      λ f. e.1 (subst (IsPartitionVia s c.via.result) (sym same) (told.1 (view.1 f))),
    ))
    c.fits_via.ensures
