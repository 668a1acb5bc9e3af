use Rattle.std.proofs.Common.{◌≡◌, ℕ, ◌+◌, inl, inr, Some, drop, get_or, sym, ap, ◌∙◌, subst, true≢false, IsTrue, refl}
use Rattle.std.proofs.lemmas.Bool.{eqb-true}
use Rattle.std.proofs.lemmas.List.{drop_more, drop_all}
use Rattle.graph_spec.specs.Members.{has}
use Rattle.path_automaton.specs.Programs.{state_at}
use Rattle.path_automaton.specs.declared.state.State.TheVariants.{End}
use Rattle.state_sets.specs.StateSets.{AreClosed, Behind}
use Rattle.state_sets.proofs.Readings.{IsReading, reading_begins, reading_next, reading_stops, reading_ends, reading_ended}
use Rattle.walk_check.proofs.checking.reads_to_end.Goals as goal

pub nodes-init : goal.nodes-init
nodes-init g c =
    let at = state_at c.args.program.now in
    let size = g.G.Digraph.span c.args.g.now in
    let label_at = g.G.Digraph.label_at c.args.g.now in
    let edge = g.G.Digraph.edge c.args.g.now in
    record {
      states = c.requires.states;
      next = c.requires.next;
      place = inl c.size-place.ensures;
      reading = subst (λ p. IsReading at size label_at edge c.args.v c.args.start c.args.walk.now c.args.states.now.1 p c.args.walk.now) (sym c.size-place.ensures)
          (reading_begins at size label_at edge c.args.v c.args.start c.args.walk.now c.args.states.now.1 c.requires.begun);
    }

pub returns-then-not-leads : goal.returns-then-not-leads
returns-then-not-leads g c =
    let at = state_at c.args.program.now in
    let size = g.G.Digraph.span c.args.g.now in
    let label_at = g.G.Digraph.label_at c.args.g.now in
    let edge = g.G.Digraph.edge c.args.g.now in
    let walk = c.args.walk.now in
    let i = c.nodes.i in (
      λ e. absurd (true≢false (sym e)),
      λ w. absurd (reading_stops at size label_at edge c.args.v c.args.start walk c.nodes.states.1 c.nodes.place (get_or walk i 0) (drop i walk) (drop (i + 1) walk) c.nodes.invariant.reading
          (drop_more walk i 0 c.nodes-test.true) (λ h. true≢false (sym h ∙ sym c.leads.ensures.leads ∙ c.if-not-leads.true)) w),
    )

pub nodes-preserved : goal.nodes-preserved
nodes-preserved g c =
    let at = state_at c.args.program.now in
    let size = g.G.Digraph.span c.args.g.now in
    let label_at = g.G.Digraph.label_at c.args.g.now in
    let edge = g.G.Digraph.edge c.args.g.now in
    let walk = c.args.walk.now in
    let i = c.nodes.i in
    let label = c.label.result in
    let closed = subst (λ xs. AreClosed at (Behind at (λ n. Some label) xs 0) c.read.new.states.1) c.list.ensures.list c.in_ok-read.ensures.closed in
    record {
      states = ap (λ s. s.0) c.swap.ensures.x_after ∙ c.read.ensures.size ∙ c.nodes.invariant.next;
      next = ap (λ s. s.0) c.swap.ensures.y_after ∙ c.nodes.invariant.states;
      place = inr (c.leads.ensures.node c.if-not-leads.false);
      reading = subst (λ s. IsReading at size label_at edge c.args.v c.args.start walk s.1 (get_or walk i 0) (drop (i + 1) walk)) (sym c.swap.ensures.x_after)
          (reading_next at size label_at edge c.args.v c.args.start label walk c.nodes.states.1 c.read.new.states.1 c.nodes.place (get_or walk i 0) (drop i walk) (drop (i + 1) walk)
          c.nodes.invariant.reading (drop_more walk i 0 c.nodes-test.true) (sym c.leads.ensures.leads ∙ c.if-not-leads.false) c.label.ensures closed);
    }

pub returns-then-place-v : goal.returns-then-place-v
returns-then-place-v g c =
    let at = state_at c.args.program.now in
    let size = g.G.Digraph.span c.args.g.now in
    let label_at = g.G.Digraph.label_at c.args.g.now in
    let edge = g.G.Digraph.edge c.args.g.now in
    let walk = c.args.walk.now in
    let i = c.nodes.i in
    let past = drop_all i walk c.nodes-test.false in
    let same = c.list-then-place-v.ensures.list in (
      λ e. let k = c.has_end.ensures.yes e in
          reading_ended at size label_at edge c.args.v c.args.start walk c.nodes.states.1 c.nodes.place k.0 (drop i walk) c.nodes.invariant.reading past c.if-place-v.true
          (subst (λ xs. IsTrue (has xs k.0)) same k.1) k.2,
      λ w. let k = reading_ends at size label_at edge c.args.v c.args.start walk c.nodes.states.1 c.nodes.place (drop i walk) c.nodes.invariant.reading past w in
          c.has_end.ensures.none k.1 (subst (λ xs. IsTrue (has xs k.1)) (sym same) k.2) k.3,
    )

pub returns-else-place-v : goal.returns-else-place-v
returns-else-place-v g c =
    let at = state_at c.args.program.now in
    let size = g.G.Digraph.span c.args.g.now in
    let label_at = g.G.Digraph.label_at c.args.g.now in
    let edge = g.G.Digraph.edge c.args.g.now in
    let walk = c.args.walk.now in
    let i = c.nodes.i in (
      λ e. absurd (c.if-place-v.false (eqb-true c.nodes.place c.args.v e)),
      λ w. absurd (c.if-place-v.false (reading_ends at size label_at edge c.args.v c.args.start walk c.nodes.states.1 c.nodes.place (drop i walk) c.nodes.invariant.reading (drop_all i walk c.nodes-test.false) w).0),
    )
