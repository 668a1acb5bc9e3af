use Rattle.std.proofs.Common.{◌<◌, ◌+◌, ◌∙◌, ◌&&◌, ◌||◌, ℕ, Bool, ap, sym, arith}
use Rattle.std.specs.Prelude.{nat_eq, is_some}
use Rattle.data_validate.proofs.RisingTests.{is_kept, kept_step}
use Rattle.data_validate.proofs.NotedNodes.{noted_then}
use Rattle.data_validate.proofs.ancestors.note_nodes.Goals as goal

pub overflow_add-from : goal.overflow_add-from
overflow_add-from g c =
    let below : c.in-Some.n < c.args.set.now.size = c.size-known.ensures.below c.in-Some.n c.in-Some.ensures.next.member in
    let small = c.size-known.ensures.small in
    omega (arith, below, small)

pub members-smaller : goal.members-smaller
members-smaller g c =
    let below : c.in-Some.n < c.args.set.now.size = c.size-known.ensures.below c.in-Some.n c.in-Some.ensures.next.member in
    let from = c.in-Some.ensures.next.from in
    omega (arith, below, from)

pub members-preserved : goal.members-preserved
members-preserved g c =
    let set = c.args.set.now.members in
    let is_node : ℕ → Bool = λ m. is_some (g.G.Digraph.label_at c.args.g.now m) in
    let n = c.in-Some.n in
    let from = c.members.from in
    let below : n < c.args.set.now.size = c.size-known.ensures.below n c.in-Some.ensures.next.member in
    record {
      within = omega (arith, below);
      size = c.note_if.ensures.size ∙ c.members.invariant.size;
      noted = noted_then (is_kept set is_node from) (λ m. nat_eq m n && c.is_node.result) (is_kept set is_node (n + 1)) _ _ _ _ _ _
          (λ m. sym (ap (λ t. (nat_eq m n && t) || is_kept set is_node from m) c.is_node.ensures ∙ kept_step set is_node from n c.in-Some.ensures.next m))
          c.members.invariant.noted c.in_ok-note_if.ensures.noted;
    }
