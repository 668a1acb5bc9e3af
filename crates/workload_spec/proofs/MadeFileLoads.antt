-- A made graph file loads.
use Rattle.std.proofs.Common.{◌+◌, ◌*◌, ◌<◌, ◌≤◌, ℕ, zero, suc, List, length, map, refl, sym, arith, lit<, lit≤, subst, inr}
use Rattle.px_base.specs.declared.lines.TheConstants.{GRAPH_BYTES}
use Rattle.graph_spec.specs.Graphs.{Graph}
use Rattle.graph_spec.specs.Lines.{Line}
use Rattle.graph_spec.specs.ProgramLimits.{program_limits}
use Rattle.graph_load.specs.Loads.{IsWithinFile, Loads, LoadsFrom, Place, at_start, loaded, past, takes}
use Rattle.graph_load.specs.TripleGraphs.{LoadState, nothing_loaded}
use Rattle.workload.specs.MadeTexts.{after_line, graph_line, graph_lines, lines_text, made_graph_text}
use Rattle.workload_spec.proofs.ProperGraph.{fed, graph_cut, line_proper}
use Rattle.workload_spec.proofs.TakenTriples.{HasAtMost, Takes, new_taken, nothing_has, triple_taken}

-- what may have come of that many lines
abbrev HasLoaded : ℕ → ℕ → LoadState → Type 0
HasLoaded low k l = HasAtMost low (3 * k) (2 * k) (3 * k) l

-- the lines load, to a graph with at least one allocated number and at most 60,000
pub record AreLoaded (lines : List Line) (p : Place) : Type 0 where
  pub state : LoadState
  pub loads : LoadsFrom program_limits lines p (loaded state)
  pub some : 0 < length state.graph.allocated
  pub few : length state.graph.allocated ≤ 60000

one_more : (k : ℕ) (l : LoadState) → HasAtMost 1 (3 * k + 1 + 1 + 1) (2 * k + 1 + 1) (3 * k + 1 + 1 + 1) l → HasLoaded 1 (k + 1) l
one_more k l h = record {
  live = h.live;
  some = h.some;
  few_nodes = (let f = h.few_nodes in omega (arith, f));
  few_edges = (let f = h.few_edges in omega (arith, f));
  few_labels = (let f = h.few_labels in omega (arith, f));
}

line_within : (p : Place) (line : List ℕ) (n : ℕ) → length line ≤ 200 → p.bytes + 201 * (n + 1) ≤ GRAPH_BYTES → IsWithinFile p (fed line)
line_within p line n short space = (omega (arith, short), omega (arith, short, space))

-- the bytes that are taken with a line leave enough for the others
bytes_left : (p : Place) (line : List ℕ) (n : ℕ) (m : LoadState) → length line ≤ 200 → p.bytes + 201 * (n + 1) ≤ GRAPH_BYTES → (past p (fed line) m).bytes + 201 * n ≤ GRAPH_BYTES
bytes_left p line n m short space = omega (arith, short, space)

-- the limits allow what a triple adds
within_limits : (k n : ℕ) → k + suc n ≤ 20000 → (3 * k + 1 + 1 < 2097152) × (2 * k + 1 < 4194304) × (3 * k + 1 + 1 < 1048576)
within_limits k n few = (omega (arith, few), omega (arith, few), omega (arith, few))

-- the first line's triple is taken, and the other lines load
line_loads : (p : Place) (n x k : ℕ) → p.bytes + 201 * (n + 1) ≤ GRAPH_BYTES → (took : Takes program_limits (line_proper x).triple p.state (3 * k) (2 * k) (3 * k))
    → AreLoaded (map fed (graph_lines n (after_line x))) (past p (fed (graph_line x)) took.next) → AreLoaded (map fed (graph_lines (suc n) x)) p
line_loads p n x k space took rest = record {
  state = rest.state;
  loads = inr (line_within p (graph_line x) n (line_proper x).short space, takes (line_proper x).triple (line_proper x).spelled took.next took.made (loaded rest.state) rest.loads);
  some = rest.some;
  few = rest.few;
}

load_more : (n x k : ℕ) (p : Place) → HasLoaded 1 k p.state → k + n ≤ 20000 → p.bytes + 201 * n ≤ GRAPH_BYTES → AreLoaded (map fed (graph_lines n x)) p
load_more zero x k p has few space = record { state = p.state; loads = refl; some = has.some; few = (let h = has.few_nodes in omega (arith, h, few)) }
load_more (suc n) x k p has few space =
    let fits = within_limits k n few in
    let bytes : p.bytes + 201 * (n + 1) ≤ GRAPH_BYTES = omega (arith, space) in
    let took = triple_taken program_limits (line_proper x).triple p.state (3 * k) (2 * k) (3 * k) has fits.0 fits.1 fits.2 in
    line_loads p n x k bytes took
    (load_more n (after_line x) (k + 1) (past p (fed (graph_line x)) took.next) (one_more k took.next took.few) (omega (arith, few)) (bytes_left p (graph_line x) n took.next (line_proper x).short bytes))

load_all : (n x : ℕ) → suc n ≤ 20000 → AreLoaded (map fed (graph_lines (suc n) x)) at_start
load_all n x few =
    let bytes : 0 + 201 * (n + 1) ≤ GRAPH_BYTES = omega (arith, few) in
    let took = new_taken program_limits (line_proper x).triple nothing_loaded 0 0 0 0 nothing_has refl (lit< tt) (lit< tt) (lit< tt) in
    line_loads at_start n x 0 bytes took
    (load_more n (after_line x) 1 (past at_start (fed (graph_line x)) took.next) (one_more 0 took.next took.few) (omega (arith, few)) (bytes_left at_start (graph_line x) n took.next (line_proper x).short bytes))

-- The graph file of a seed loads, to a graph with at least one allocated number and at most 60,000.
pub made_loads : (seed : ℕ) → (g : Graph) × Loads program_limits (made_graph_text seed) (loaded g) × (0 < length g.allocated) × (length g.allocated ≤ 60000)
unfolding made_graph_text
made_loads seed = go 20000 (lit< tt) (lit≤ tt)
  where
    go : (n : ℕ) → 0 < n → n ≤ 20000 → (g : Graph) × Loads program_limits (lines_text (graph_lines n seed)) (loaded g) × (0 < length g.allocated) × (length g.allocated ≤ 60000)
    go zero some few = absurd (omega (arith, some))
    go (suc n) some few =
        let all = load_all n seed few in
        let ends = subst (λ ls. LoadsFrom program_limits ls at_start (loaded all.state)) (sym (graph_cut (suc n) seed)) all.loads in
        (all.state.graph, record { ending = loaded all.state; ends = ends; is = refl }, all.some, all.few)
