use Rattle.std.proofs.Common.{◌<◌, ◌≤◌, ◌^◌, ◌∙◌, ℕ, List, length, Some, slice_set, arith, sym, ap, subst}
use Rattle.std.specs.FinSet as set
use Rattle.graph_spec.specs.Members.{Lists}
use Rattle.graph_spec.proofs.GraphLaws.{is_shape}
use Rattle.bisim_spec.specs.IndexGraphs.{support_at}
use Rattle.bisim_spec.specs.declared.sides.Side.TheVariants.{Children}
use Rattle.graph_update.specs.PendingChanges.{graph_after}
use Rattle.quotient_draft.specs.Drafts.{with_moves, with_supports, shown_blocks, shown_support}
use Rattle.quotient_moves.specs.Shifts.{lead_count, MovesNode}
use Rattle.quotient_moves.proofs.Moved.{moved_set, moved_same, moved_at, parts_most, shifted_all, capacity_for}
use Rattle.quotient_moves.proofs.moving.move_node.Goals as goal

pub shift_neighbours-requires-clause-some : goal.shift_neighbours-requires-clause-some
shift_neighbours-requires-clause-some g c = λ x y.
    let edges = (graph_after c.args.after.now).edges in
    let p = shown_blocks c.args.base.now c.args.draft.now in
    let lp : Lists (λ u. set.contains edges (u, c.args.n)) c.deref.result.now = subst (Lists (λ u. set.contains edges (u, c.args.n))) (sym c.deref.ensures.value) c.in_ok-read_parents.ensures.parents in
    let most = parts_most edges c.args.n c.deref.result.now c.read_children.new.list.items lp c.in_ok-read_children.ensures.children p x y in
    let same = c.requires.supports.each x y in
    omega (arith, most, same)

pub shift_neighbours-requires-clause-few : goal.shift_neighbours-requires-clause-few
shift_neighbours-requires-clause-few g c = λ x y p2 d.
    let edges = (graph_after c.args.after.now).edges in
    let p = shown_blocks c.args.base.now c.args.draft.now in
    let few : set.len edges ≤ 2 ^ 30 = c.created-known.ensures.few_edges in
    let lp : Lists (λ u. set.contains edges (u, c.args.n)) c.deref.result.now = subst (Lists (λ u. set.contains edges (u, c.args.n))) (sym c.deref.ensures.value) c.in_ok-read_parents.ensures.parents in
    let reserved = capacity_for edges c.args.n c.deref.result.now c.read_children.new.list.items lp c.in_ok-read_children.ensures.children p p2 x y few in
    let same = c.requires.supports.each x y in
    omega (arith, reserved, same)

pub shift_neighbours-requires-2-clause-some : goal.shift_neighbours-requires-2-clause-some
shift_neighbours-requires-2-clause-some g c = λ x y.
    let q = c.args.base.now in
    let edges = (graph_after c.args.after.now).edges in
    let n = c.args.n in
    let p = shown_blocks q c.args.draft.now in
    let parents = c.deref.result.now in
    let children = c.deref-2.result.now in
    let lp : Lists (λ u. set.contains edges (u, n)) parents = subst (Lists (λ u. set.contains edges (u, n))) (sym c.deref.ensures.value) c.in_ok-read_parents.ensures.parents in
    let lc : Lists (λ u. set.contains edges (n, u)) children = subst (Lists (λ u. set.contains edges (n, u))) (sym c.deref-2.ensures.value) c.in_ok-read_children.ensures.children in
    let most = parts_most edges n parents children lp lc p x y in
    let first = c.in_ok-shift_neighbours.ensures.shifted x y (slice_set p n (Some c.args.b)) (moved_set n c.block_of-own.result c.args.b p c.block_of-own.ensures.block) in
    let same = c.requires.supports.each x y in
    let alike = ap (λ ms. lead_count Children (with_moves q.blocks.block_of ms) n x y children) c.in_ok-shift_neighbours.ensures.moves in
    omega (arith, most, first, same, alike)

pub shift_neighbours-requires-2-clause-few : goal.shift_neighbours-requires-2-clause-few
shift_neighbours-requires-2-clause-few g c = λ x y p2 d0.
    let q = c.args.base.now in
    let edges = (graph_after c.args.after.now).edges in
    let n = c.args.n in
    let p = shown_blocks q c.args.draft.now in
    let parents = c.deref.result.now in
    let children = c.deref-2.result.now in
    let few : set.len edges ≤ 2 ^ 30 = c.created-known.ensures.few_edges in
    let lp : Lists (λ u. set.contains edges (u, n)) parents = subst (Lists (λ u. set.contains edges (u, n))) (sym c.deref.ensures.value) c.in_ok-read_parents.ensures.parents in
    let lc : Lists (λ u. set.contains edges (n, u)) children = subst (Lists (λ u. set.contains edges (n, u))) (sym c.deref-2.ensures.value) c.in_ok-read_children.ensures.children in
    let d = moved_same n c.block_of-own.result c.args.b p (shown_blocks q c.shift_neighbours.new.draft) p2 (ap (with_moves q.blocks.block_of) c.in_ok-shift_neighbours.ensures.moves) d0 in
    let first = c.in_ok-shift_neighbours.ensures.shifted x y p2 d in
    let reserved = capacity_for edges n parents children lp lc p p2 x y few in
    let same = c.requires.supports.each x y in
    omega (arith, first, reserved, same)

pub put-requires-clause-small : goal.put-requires-clause-small
put-requires-clause-small g c =
    let below : c.args.n < length (graph_after c.args.after.now).allocated = (is_shape (graph_after c.args.after.now) c.in_ok-read_parents.ensures.graph).below c.args.n c.requires.live in
    let few = c.in_ok-read_parents.ensures.few in
    omega (arith, below, few)

pub returns-clause-supports : goal.returns-clause-supports
returns-clause-supports g c = record {
  each = λ x y.
      let q = c.args.base.now in
      let edges = (graph_after c.args.after.now).edges in
      let n = c.args.n in
      let own = c.block_of-own.result in
      let p = shown_blocks q c.args.draft.now in
      let p2 = shown_blocks q c.put.new.self in
      let parents = c.deref.result.now in
      let children = c.deref-2.result.now in
      let lp : Lists (λ u. set.contains edges (u, n)) parents = subst (Lists (λ u. set.contains edges (u, n))) (sym c.deref.ensures.value) c.in_ok-read_parents.ensures.parents in
      let lc : Lists (λ u. set.contains edges (n, u)) children = subst (Lists (λ u. set.contains edges (n, u))) (sym c.deref-2.ensures.value) c.in_ok-read_children.ensures.children in
      let moves = c.in_ok-shift_neighbours.ensures.moves in
      let stay = ap (with_moves q.blocks.block_of) moves in
      let d = moved_at n own c.args.b p (shown_blocks q c.shift_neighbours-2.new.draft) p2 c.block_of-own.ensures.block (ap (with_moves q.blocks.block_of) (c.in_ok-shift_neighbours-2.ensures.moves ∙ moves)) c.in_ok-put.ensures.blocks in
      let first = c.in_ok-shift_neighbours.ensures.shifted x y p2 d in
      let second = c.in_ok-shift_neighbours-2.ensures.shifted x y p2 (subst (λ r. MovesNode n own c.args.b r p2) (sym stay) d) in
      let same = c.requires.supports.each x y in
      let alike = ap (λ r. lead_count Children r n x y children) stay in
      let both = shifted_all edges n parents children lp lc own c.args.b p p2 x y (shown_support q c.shift_neighbours.new.draft x y) (shown_support q c.shift_neighbours-2.new.draft x y) d
      (omega (arith, first, same)) (omega (arith, second, alike)) in
      ap (λ (es : List ((ℕ × ℕ) × ℕ)). support_at (with_supports q.supports es) x y) c.in_ok-put.ensures.supports ∙ both;
}
