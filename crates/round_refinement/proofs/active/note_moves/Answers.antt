use Rattle.std.proofs.Common.{subst}
use Rattle.round_refinement.specs.NumberedShapes.{digraph_shape}
use Rattle.round_refinement.specs.Watches.{IsWatched}
use Rattle.round_refinement.proofs.ActiveLaws.{listed_next, differs_next}
use Rattle.round_refinement.proofs.active.note_moves.Goals as goal

pub returns : goal.returns
returns g c = λ old way listed watched.
    let s = digraph_shape g.G.Digraph c.args.g.now in
    let before = c.args.parts.now.before.items in
    let now = c.args.parts.now.block.items in
    let moved = c.args.parts.now.moved.items in (
      listed_next s old before now c.deref.result.now moved c.deref-2.result.now c.args.books.now.lists c.list_moved.new.lists way listed c.deref.ensures.value c.deref-2.ensures.value
          c.in_ok-list_moved.ensures,
      subst (λ b. IsWatched (g.G.Digraph.edge c.args.g.now) b c.follow.new.self) c.deref-3.ensures.value
          (c.in_ok-follow.ensures old watched (differs_next s old before now c.deref-3.result.now moved c.deref-4.result.now way c.deref-3.ensures.value c.deref-4.ensures.value)),
    )
