use Rattle.std.proofs.Common.{ℕ, List, sym, ◌∙◌}
use Rattle.std.proofs.lemmas.Result.{IfOk-weaker}
use Rattle.graph_spec.specs.Members.{at}
use Rattle.key_table.specs.NumberedKeys.{Interns}
use Rattle.bisim_spec.specs.NodeKeys.{IsWritten}
use Rattle.bisim_levels.specs.NeighbourSides.{is_neighbour}
use Rattle.bisim_spec.proofs.WrittenKeys.{key_of}
use Rattle.block_splitting.proofs.keys.key_number.Goals as goal

pub returns-clause-ok : goal.returns-clause-ok
returns-clause-ok c =
    let p = c.args.blocks.now.block_of in
    let near = is_neighbour c.args.side c.args.view.now in
    let nodes = c.neighbours.result.now in
    IfOk-weaker c.find_key.result (λ k. (key : List ℕ) × IsWritten (at p) nodes c.in-Some.number key × Interns c.args.keys.now c.find_key.new.keys key k) _
    (λ k w. (w.0, w.2, key_of (at p) p near c.args.n c.in-Some.number nodes w.0 c.neighbours.ensures (sym c.block_of.ensures.block ∙ c.in-Some.is) w.1)) c.find_key.ensures.ok
