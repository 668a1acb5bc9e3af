use Rattle.std.proofs.Common.{◌∙◌, ap, slice_set}
use Rattle.std.specs.Prelude.{map, vec_capacity}
use Rattle.std.proofs.lemmas.List.{map-set}
use Rattle.block_partition.specs.Tables.{slot_value}
use Rattle.block_partition.proofs.slots.Slots.set.Goals as goal

pub returns : goal.returns
returns c =
    let cells = c.self.inside.cells in
    rw (← c.self.view_is)
    (λ i. record {
      places = (map-set slot_value cells.items c.args.n c.cell_of.result ∙ ap (slice_set (map slot_value cells.items) c.args.n) c.cell_of.ensures) i;
      capacity = vec_capacity cells;
    })
