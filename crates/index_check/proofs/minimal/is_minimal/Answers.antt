use Rattle.std.proofs.Common.{refl, sym, ◌∙◌, subst, IsSome}
use Rattle.std.proofs.lemmas.Bool.{and_parts, and_from}
use Rattle.graph_spec.specs.Members.{at}
use Rattle.bisim_spec.proofs.Bisimilar.{some_of, is_some_at}
use Rattle.index_check.specs.ClosedParents.{is_closed_parent}
use Rattle.index_check.specs.OuterParents.{TellsByOuter, AreInnerLabels}
use Rattle.index_check.proofs.LevelLaws.{determines_as, refines_own}
use Rattle.round_refinement.proofs.LevelLaws.{of_node, is_shape_by_number}
use Rattle.index_check.proofs.MinimalLaws.{minimal_where, keys_where, closed_where, outer_where}
use Rattle.index_check.proofs.minimal.is_minimal.Goals as goal

pub refine-requires-clause-own : goal.refine-requires-clause-own
refine-requires-clause-own g c = λ n h. subst IsSome (c.in_ok-labels.ensures n) (subst (λ k. IsSome (at k n)) c.deref.ensures.value h)

pub refine-requires-clause-base : goal.refine-requires-clause-base
refine-requires-clause-base g c = λ n h. c.requires.stable.partition.live n (of_node (g.G.Digraph.label_at c.args.g.now n) h)

pub inner_labels-requires : goal.inner_labels-requires
inner_labels-requires g c = λ n h. subst (λ k. IsSome (at k n)) (sym c.deref-3.ensures.value) (subst IsSome (sym (c.in_ok-labels.ensures n)) h)

pub refine_by_closed-requires-clause-own : goal.refine_by_closed-requires-clause-own
refine_by_closed-requires-clause-own g c = λ n h.
    let x = some_of (at c.in_ok-linked.linked.items n) (subst (λ k. IsSome (at k n)) c.deref-4.ensures.value h) in
    is_some_at (g.G.Digraph.label_at c.args.g.now n) x.0 (c.in_ok-linked.ensures.some n x.0 x.1).0

pub refine_by_closed-requires-clause-base : goal.refine_by_closed-requires-clause-base
refine_by_closed-requires-clause-base g c = λ n h. c.requires.stable.partition.live n (of_node (g.G.Digraph.label_at c.args.g.now n) h)

pub inner_labels-requires-2 : goal.inner_labels-requires-2
inner_labels-requires-2 g c = λ n h. c.requires.stable.partition.live n (of_node (g.G.Digraph.label_at c.args.g.now n) h)

pub tells_by_outer-requires-clause-own : goal.tells_by_outer-requires-clause-own
tells_by_outer-requires-clause-own g c = λ n h.
    let x = some_of (at c.in_ok-inner.inner.items n) (subst (λ k. IsSome (at k n)) c.deref-6.ensures.value h) in
    is_some_at (g.G.Digraph.label_at c.args.g.now n) x.0 (c.in_ok-inner.ensures.some n x.0 x.1).0

pub tells_by_outer-requires-clause-base : goal.tells_by_outer-requires-clause-base
tells_by_outer-requires-clause-base g c = λ n h. c.requires.stable.partition.live n (of_node (g.G.Digraph.label_at c.args.g.now n) h)

pub returns : goal.returns
returns g c =
    let size = g.G.Digraph.span c.args.g.now in
    let label = g.G.Digraph.label_at c.args.g.now in
    let edge = g.G.Digraph.edge c.args.g.now in
    let block = c.args.block.now in
    let labels = c.in_ok-labels.labels.items in
    let linked = c.in_ok-linked.linked.items in
    let inner = c.in_ok-inner.inner.items in
    let next = c.in_ok-next.next.items in
    let closed = c.in_ok-closed.closed.items in
    let st = c.requires.stable in
    let shape = is_shape_by_number size label edge (g.met.G.Digraph.below c.args.g.now) (g.met.G.Digraph.ends c.args.g.now) in
    let kin = subst (λ l. AreInnerLabels l label edge linked) c.deref-3.ensures.value c.in_ok-linked.ensures in
    let by_parents = refines_own c.deref.result.now labels block next edge c.deref.ensures.value c.in_ok-next.ensures in
    let by_all = refines_own c.deref-4.result.now linked block closed (is_closed_parent block edge) c.deref-4.ensures.value c.in_ok-closed.ensures in (
      λ h.
          let p = and_parts c.are_both.result c.in_ok-by_outer.by_outer (sym c.are_both-2.ensures ∙ h) in
          let q = and_parts c.in_ok-by_key.by_key c.in_ok-by_closed.by_closed (sym c.are_both.ensures ∙ p.0) in
          minimal_where size label edge block labels linked inner next closed shape st c.in_ok-labels.ensures kin c.in_ok-inner.ensures by_parents by_all
          (determines_as _ _ _ _ c.deref-2.ensures.value refl (c.in_ok-by_key.ensures.0 q.0))
          (determines_as _ _ _ _ c.deref-5.ensures.value refl (c.in_ok-by_closed.ensures.0 q.1))
          (subst (λ l. TellsByOuter (at l) block edge) c.deref-6.ensures.value (c.in_ok-by_outer.ensures.0 p.1)),
      λ min.
          c.are_both-2.ensures ∙ and_from c.are_both.result c.in_ok-by_outer.by_outer
          (c.are_both.ensures ∙ and_from c.in_ok-by_key.by_key c.in_ok-by_closed.by_closed
          (c.in_ok-by_key.ensures.1 (determines_as _ _ _ _ (sym c.deref-2.ensures.value) refl (keys_where size label edge block labels next st min c.in_ok-labels.ensures by_parents)))
          (c.in_ok-by_closed.ensures.1 (determines_as _ _ _ _ (sym c.deref-5.ensures.value) refl (closed_where size label edge block labels linked closed st min kin by_all))))
          (c.in_ok-by_outer.ensures.1 (subst (λ l. TellsByOuter (at l) block edge) (sym c.deref-6.ensures.value) (outer_where size label edge block inner st min c.in_ok-inner.ensures))),
    )
