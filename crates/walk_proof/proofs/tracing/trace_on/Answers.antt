use Rattle.std.proofs.Common.{◌≡◌, ◌<◌, ◌≤◌, ◌+◌, ◌-◌, ◌∙◌, ℕ, inl, inr, [], length, refl, sym, subst, arith, Some, IsTrue}
use Rattle.std.specs.Prelude.{slice_get, ◌↔◌}
use Rattle.std.proofs.lemmas.List.{get_or_read}
use Rattle.graph_spec.specs.Members.{has}
use Rattle.state_sets.specs.StateSets.{AreClosed, Behind}
use Rattle.walk_proof.specs.Marking.{IsMarked, Among, IsCleared}
use Rattle.walk_proof.specs.Layering.{layer_at, IsCandidateBy}
use Rattle.walk_proof.proofs.Inside.{state_within}
use Rattle.walk_proof.proofs.TraceLaws.{AreBelow, IsTracing, all_below, below_less, tracing_begins, candidate_there, to_marked, from_marked, tracing_next, tracing_ends}
use Rattle.walk_proof.proofs.tracing.trace_on.Goals as goal

pub nodes-init : goal.nodes-init
nodes-init g c =
    let at = λ (k : ℕ). slice_get c.args.program.now k in
    let size = g.G.Digraph.span c.args.g.now in
    let label_at = g.G.Digraph.label_at c.args.g.now in
    let edge = g.G.Digraph.edge c.args.g.now in
    let v = c.args.end in
    let start = c.args.start in
    let layers = c.args.layers.now in
    let rows0 = c.args.rows.now.items in
    let is = c.requires.layered in
    let some = is.some in
    let d = length layers - 1 in
    let last : d + 1 ≡ length layers = omega (arith, some) in
    let first = c.requires.first d last in
    let place = c.size-place.ensures in
    let states = c.keep_marked.new.states.items in
    let full = c.list.result.now in
    let kept0 = subst (λ p. (s : ℕ) → IsTrue (has states s) ↔ (IsTrue (has full s) × IsMarked c.deref.result.now s p)) place c.in_ok-keep_marked.ensures in
    let kept : (s : ℕ) → IsTrue (has states s) ↔ (IsTrue (has full s) × IsMarked rows0 s size) =
    subst (λ r. (s : ℕ) → IsTrue (has states s) ↔ (IsTrue (has full s) × IsMarked r s size)) c.deref.ensures.value kept0 in
    let closed = subst (λ xs. AreClosed at (λ s. s ≡ start) xs) (sym c.list.ensures.list) c.requires.begun in
    let below = all_below at size label_at edge v (d + 1) layers rows0 is last in
    let t = tracing_begins at size label_at edge v start d layers rows0 is last first full states rows0 closed below kept in
    record {
      within = omega (arith, last);
      rows = c.requires.wide.count;
      behind = c.requires.behind;
      states = λ s h. subst (λ m. s < m) c.requires.behind (c.list.ensures.below s (subst (λ xs. IsTrue (has xs s)) c.list.ensures.list ((kept s).0 h).0));
      place = inl place;
      below = below;
      tracing = subst (λ p. IsTracing at size label_at edge v start layers d states c.args.walk.now.items p) (sym place)
          (subst (λ w. IsTracing at size label_at edge v start layers d states w size) (sym c.requires.empty) t);
    }

pub clear-requires : goal.clear-requires
clear-requires g c s x a =
    let layers = c.args.layers.now in
    let within = c.nodes.invariant.within in
    let leaving = c.pairs.ensures ∙ get_or_read layers c.nodes.left _ within c.index-layers-left.is [] in
    subst (λ n. s < n) (sym c.nodes.invariant.rows)
    (state_within c.args.program.now s (c.requires.layered.place c.nodes.left s x within (subst (λ l. Among l s x) leaving a)).0)

pub next_node-requires-clause-layer : goal.next_node-requires-clause-layer
next_node-requires-clause-layer g c s x a =
    let layers = c.args.layers.now in
    let within = c.nodes.invariant.within in
    let n = c.nodes.left - 1 in
    let near : n < length layers = omega (arith, within) in
    let due = c.pairs-in-nodes.ensures ∙ get_or_read layers n _ near c.index-layers-left-in-nodes.is [] in
    state_within c.args.program.now s (c.requires.layered.place n s x near (subst (λ l. Among l s x) due a)).0

pub next_node-requires-clause-some : goal.next_node-requires-clause-some
next_node-requires-clause-some g c =
    let at = λ (k : ℕ). slice_get c.args.program.now k in
    let size = g.G.Digraph.span c.args.g.now in
    let label_at = g.G.Digraph.label_at c.args.g.now in
    let edge = g.G.Digraph.edge c.args.g.now in
    let v = c.args.end in
    let start = c.args.start in
    let layers = c.args.layers.now in
    let rows0 = c.args.rows.now.items in
    let is = c.requires.layered in
    let some = is.some in
    let d = length layers - 1 in
    let last : d + 1 ≡ length layers = omega (arith, some) in
    let first = c.requires.first d last in
    let within = c.nodes.invariant.within in
    let test = c.nodes-test.true in
    let left = c.nodes.left in
    let n = left - 1 in
    let e : n + 1 ≡ left = omega (arith, test) in
    let place = c.nodes.place in
    let states = c.nodes.states.items in
    let traced = c.nodes.walk.items in
    let rows = c.clear.new.rows.items in
    let leaving = c.pairs.ensures ∙ get_or_read layers left _ within c.index-layers-left.is [] in
    let due = c.pairs-in-nodes.ensures ∙ get_or_read layers n _ (omega (arith, within, e)) c.index-layers-left-in-nodes.is [] in
    let cleared = subst (λ l. IsCleared (Among l) c.nodes.rows.items rows) leaving c.clear.ensures in
    let below = subst (λ m. AreBelow at size label_at edge v m layers rows) (sym e)
    (below_less at size label_at edge v (left + 1) left layers rows0 c.nodes.rows.items rows is refl (omega (arith, within)) c.nodes.invariant.below cleared) in
    let t = subst (λ m. IsTracing at size label_at edge v start layers m states traced place) (sym e) c.nodes.invariant.tracing in
    let there = candidate_there at size label_at edge v start d layers rows0 is last first n place states traced t in
    subst (λ l. (x : ℕ) × IsCandidateBy at size label_at edge (Among l) c.deref-in-nodes-2.result.now place x) (sym due)
    (subst (λ xs. (x : ℕ) × IsCandidateBy at size label_at edge (Among (layer_at layers n)) xs place x) (sym c.deref-in-nodes-2.ensures.value) there)

pub next_node-requires-clause-marked : goal.next_node-requires-clause-marked
next_node-requires-clause-marked g c x =
    let at = λ (k : ℕ). slice_get c.args.program.now k in
    let size = g.G.Digraph.span c.args.g.now in
    let label_at = g.G.Digraph.label_at c.args.g.now in
    let edge = g.G.Digraph.edge c.args.g.now in
    let v = c.args.end in
    let start = c.args.start in
    let layers = c.args.layers.now in
    let rows0 = c.args.rows.now.items in
    let is = c.requires.layered in
    let some = is.some in
    let d = length layers - 1 in
    let last : d + 1 ≡ length layers = omega (arith, some) in
    let first = c.requires.first d last in
    let within = c.nodes.invariant.within in
    let test = c.nodes-test.true in
    let left = c.nodes.left in
    let n = left - 1 in
    let e : n + 1 ≡ left = omega (arith, test) in
    let place = c.nodes.place in
    let states = c.nodes.states.items in
    let traced = c.nodes.walk.items in
    let rows = c.clear.new.rows.items in
    let leaving = c.pairs.ensures ∙ get_or_read layers left _ within c.index-layers-left.is [] in
    let due = c.pairs-in-nodes.ensures ∙ get_or_read layers n _ (omega (arith, within, e)) c.index-layers-left-in-nodes.is [] in
    let cleared = subst (λ l. IsCleared (Among l) c.nodes.rows.items rows) leaving c.clear.ensures in
    let below = subst (λ m. AreBelow at size label_at edge v m layers rows) (sym e)
    (below_less at size label_at edge v (left + 1) left layers rows0 c.nodes.rows.items rows is refl (omega (arith, within)) c.nodes.invariant.below cleared) in
    let t = subst (λ m. IsTracing at size label_at edge v start layers m states traced place) (sym e) c.nodes.invariant.tracing in
    let to = to_marked at size label_at edge v start d layers rows0 is last first n place states traced t rows below x in
    let from = from_marked at size label_at edge v start d layers rows0 is last first n place states traced t rows below x in
    let both : IsCandidateBy at size label_at edge (Among (layer_at layers n)) states place x ↔ IsCandidateBy at size label_at edge (IsMarked rows) states place x = (to, from) in
    subst (λ l. IsCandidateBy at size label_at edge (Among l) c.deref-in-nodes-2.result.now place x
    ↔ IsCandidateBy at size label_at edge (IsMarked c.deref-in-nodes.result.now) c.deref-in-nodes-2.result.now place x) (sym due)
    (subst (λ xs. IsCandidateBy at size label_at edge (Among (layer_at layers n)) xs place x
    ↔ IsCandidateBy at size label_at edge (IsMarked c.deref-in-nodes.result.now) xs place x) (sym c.deref-in-nodes-2.ensures.value)
    (subst (λ r. IsCandidateBy at size label_at edge (Among (layer_at layers n)) states place x ↔ IsCandidateBy at size label_at edge (IsMarked r) states place x)
    (sym c.deref-in-nodes.ensures.value) both))

pub nodes-preserved : goal.nodes-preserved
nodes-preserved g c =
    let at = λ (k : ℕ). slice_get c.args.program.now k in
    let size = g.G.Digraph.span c.args.g.now in
    let label_at = g.G.Digraph.label_at c.args.g.now in
    let edge = g.G.Digraph.edge c.args.g.now in
    let v = c.args.end in
    let start = c.args.start in
    let layers = c.args.layers.now in
    let rows0 = c.args.rows.now.items in
    let is = c.requires.layered in
    let some = is.some in
    let d = length layers - 1 in
    let last : d + 1 ≡ length layers = omega (arith, some) in
    let first = c.requires.first d last in
    let within = c.nodes.invariant.within in
    let test = c.nodes-test.true in
    let left = c.nodes.left in
    let n = left - 1 in
    let e : n + 1 ≡ left = omega (arith, test) in
    let place = c.nodes.place in
    let states = c.nodes.states.items in
    let traced = c.nodes.walk.items in
    let rows = c.clear.new.rows.items in
    let leaving = c.pairs.ensures ∙ get_or_read layers left _ within c.index-layers-left.is [] in
    let due = c.pairs-in-nodes.ensures ∙ get_or_read layers n _ (omega (arith, within, e)) c.index-layers-left-in-nodes.is [] in
    let cleared = subst (λ l. IsCleared (Among l) c.nodes.rows.items rows) leaving c.clear.ensures in
    let below = subst (λ m. AreBelow at size label_at edge v m layers rows) (sym e)
    (below_less at size label_at edge v (left + 1) left layers rows0 c.nodes.rows.items rows is refl (omega (arith, within)) c.nodes.invariant.below cleared) in
    let t = subst (λ m. IsTracing at size label_at edge v start layers m states traced place) (sym e) c.nodes.invariant.tracing in
    let node = c.in_ok-node.node in
    let now = c.in_ok-node.ensures in
    let full = c.list-in-nodes.result.now in
    let states2 = c.keep_marked-in-nodes.new.states.items in
    let candidate = subst (λ xs. IsCandidateBy at size label_at edge (Among (layer_at layers n)) xs place node) c.deref-in-nodes-2.ensures.value
    (subst (λ l. IsCandidateBy at size label_at edge (Among l) c.deref-in-nodes-2.result.now place node) due now.candidate) in
    let least = subst (λ xs. (x : ℕ) → IsCandidateBy at size label_at edge (Among (layer_at layers n)) xs place x → node ≤ x) c.deref-in-nodes-2.ensures.value
    (subst (λ l. (x : ℕ) → IsCandidateBy at size label_at edge (Among l) c.deref-in-nodes-2.result.now place x → node ≤ x) due now.least) in
    let label = c.label.result in
    let closed = subst (λ xs. AreClosed at (Behind at (λ m. Some label) states 0) xs) (sym c.list-in-nodes.ensures.list)
    (subst (λ xs. AreClosed at (Behind at (λ m. Some label) xs 0) c.read.new.states.1) c.deref-in-nodes-3.ensures.value c.in_ok-read.ensures.closed) in
    let kept = subst (λ r. (s : ℕ) → IsTrue (has states2 s) ↔ (IsTrue (has full s) × IsMarked r s node)) c.deref-in-nodes-4.ensures.value c.in_ok-keep_marked-2.ensures in
    let sized = c.read.ensures.size ∙ c.nodes.invariant.behind in
    record {
      within = omega (arith, within);
      rows = c.clear.ensures.count ∙ c.nodes.invariant.rows;
      behind = sized;
      states = λ s h. subst (λ m. s < m) sized (c.list-in-nodes.ensures.below s (subst (λ xs. IsTrue (has xs s)) c.list-in-nodes.ensures.list ((kept s).0 h).0));
      place = inr now.node;
      below = below;
      tracing = subst (λ w. IsTracing at size label_at edge v start layers n states2 w node) (sym c.in_ok-push.ensures.items)
          (tracing_next at size label_at edge v start d layers rows0 is last first n place states traced t full states2 node label rows below candidate least c.label.ensures closed kept);
    }

pub returns : goal.returns
returns g c =
    let at = λ (k : ℕ). slice_get c.args.program.now k in
    let size = g.G.Digraph.span c.args.g.now in
    let label_at = g.G.Digraph.label_at c.args.g.now in
    let edge = g.G.Digraph.edge c.args.g.now in
    let v = c.args.end in
    let start = c.args.start in
    let layers = c.args.layers.now in
    let rows0 = c.args.rows.now.items in
    let is = c.requires.layered in
    let some = is.some in
    let d = length layers - 1 in
    let last : d + 1 ≡ length layers = omega (arith, some) in
    let first = c.requires.first d last in
    let done = c.nodes-test.false in
    let none : c.nodes.left ≡ 0 = omega (arith, done) in
    tracing_ends at size label_at edge v start d layers rows0 is last first c.nodes.states.items c.nodes.walk.items c.nodes.place
    (subst (λ m. IsTracing at size label_at edge v start layers m c.nodes.states.items c.nodes.walk.items c.nodes.place) none c.nodes.invariant.tracing)
