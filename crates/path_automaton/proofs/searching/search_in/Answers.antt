use Rattle.std.proofs.Common.{◌≡◌, ◌∙◌, ℕ, ◌+◌, ◌<◌, [], sym, ap, subst, inl, inr, rules, arith, length, List, Option, Some, IsTrue, IsSome}
use Rattle.std.specs.Prelude.{slice_get}
use Rattle.std.proofs.lemmas.List.{length-append}
use Rattle.path_automaton.specs.ProductSteps.{label_in, edge_in}
use Rattle.graph_spec.specs.Members.{has}
use Rattle.path_automaton.specs.MarkRows.{HasRows}
use Rattle.path_automaton.specs.ListedPairs.{all_at, IsTaken}
use Rattle.path_automaton.specs.NewMarks.{SpreadsOver, SucceedsOne, IsEntered, MarksOne}
use Rattle.path_automaton.proofs.PairMarks.{members_le, wide_on, falls, length_at, row_there}
use Rattle.path_automaton.proofs.SearchInvariant.{searching_begins, searching_next, searching_ends, state_listed, place_listed, ends_in, marks_inside, none_rises, IsSearching}
use Rattle.std.specs.Prelude.{MatchOption}
use Rattle.path_automaton.proofs.searching.search_in.Goals as goal

taken_of : (ks k : List (ℕ × ℕ)) (places : List ℕ) (o : Option ℕ) (s : ℕ) → o ≡ Some s → MatchOption o (ks ≡ []) (λ x. IsTaken ks k x places) → IsTaken ks k s places
taken_of ks k places o s is h = subst (λ o. MatchOption o (ks ≡ []) (λ x. IsTaken ks k x places)) is h

pub mark_all-requires-clause-there : goal.mark_all-requires-clause-there
mark_all-requires-clause-there g c =
    let l = c.in_ok-frontier.ensures.wide c.args.start (subst (λ n. c.args.start < n) (sym c.count.ensures.count) c.requires.start) in
    row_there c.in_ok-frontier.frontier.rows.items c.args.start 0 (omega arith)

pub runs-init : goal.runs-init
runs-init g c =
    let size = c.size-size.ensures in
    let label_at = label_in (g.S.Scope.keeps c.args.scope.now) (g.G.Digraph.label_at c.args.g.now) in
    let edge = edge_in (g.S.Scope.keeps c.args.scope.now) (g.G.Digraph.edge c.args.g.now) in
    let span = g.G.Digraph.span c.args.g.now in
    let at = λ (k : ℕ). slice_get c.args.program.now k in
    let states = length c.args.program.now in
    let First : ℕ → Type 0 = λ v. IsTrue (has c.args.places.now v) in
    let made = c.in_ok-frontier.ensures in
    let begun = c.in_ok-mark_all.ensures in
    let none = c.in_ok-answers.ensures in
    let wide : HasRows states (span + 1) c.in_ok-frontier.frontier.rows.items =
    subst (λ n. HasRows states (n + 1) c.in_ok-frontier.frontier.rows.items) size (subst (λ n. HasRows n (c.size-size.result + 1) c.in_ok-frontier.frontier.rows.items) c.count.ensures.count made.wide) in
    record {
      wide = wide_on states (span + 1) c.in_ok-frontier.frontier.rows.items c.mark_all.new.self.rows.items begun.spreads.wide wide;
      size = ap (λ b. b.size) none ∙ size;
      searching = subst (λ a. IsSearching at span label_at edge First c.args.start states c.mark_all.new.self.rows.items c.mark_all.new.self.worklist a) (sym (ap (λ b. b.members) none))
          (searching_begins at span label_at edge First c.args.start states c.in_ok-frontier.frontier.rows.items c.mark_all.new.self.rows.items c.mark_all.new.self.worklist
          c.requires.start made.unmarked none_rises
          (subst (λ k. SpreadsOver (λ s v. (s ≡ c.args.start) × First v) c.in_ok-frontier.frontier.rows.items c.mark_all.new.self.rows.items k c.mark_all.new.self.worklist) made.none begun.spreads)
          begun.marked c.requires.places);
    }

pub note_ends-requires-clause-state : goal.note_ends-requires-clause-state
note_ends-requires-clause-state g c =
    let kept = c.runs.invariant.searching in
    let t = taken_of c.runs.frontier.worklist c.take.new.self c.take.new.places.items c.in_ok-state.field-0 c.in-Some.state c.in-Some.is c.in_ok-state.ensures in
    state_listed _ (g.G.Digraph.span c.args.g.now) (label_in (g.S.Scope.keeps c.args.scope.now) (g.G.Digraph.label_at c.args.g.now)) (edge_in (g.S.Scope.keeps c.args.scope.now) (g.G.Digraph.edge c.args.g.now)) (λ v. IsTrue (has c.args.places.now v)) c.args.start (length c.args.program.now)
    c.runs.frontier.rows.items c.runs.frontier.worklist c.take.new.self c.in-Some.state c.take.new.places.items c.runs.answers.members kept t.last t.some

pub visit-requires-clause-state : goal.visit-requires-clause-state
visit-requires-clause-state g c =
    let kept = c.runs.invariant.searching in
    let t = taken_of c.runs.frontier.worklist c.take.new.self c.take.new.places.items c.in_ok-state.field-0 c.in-Some.state c.in-Some.is c.in_ok-state.ensures in
    state_listed _ (g.G.Digraph.span c.args.g.now) (label_in (g.S.Scope.keeps c.args.scope.now) (g.G.Digraph.label_at c.args.g.now)) (edge_in (g.S.Scope.keeps c.args.scope.now) (g.G.Digraph.edge c.args.g.now)) (λ v. IsTrue (has c.args.places.now v)) c.args.start (length c.args.program.now)
    c.runs.frontier.rows.items c.runs.frontier.worklist c.take.new.self c.in-Some.state c.take.new.places.items c.runs.answers.members kept t.last t.some

pub visit-requires-clause-places : goal.visit-requires-clause-places
visit-requires-clause-places g c v h =
    let kept = c.runs.invariant.searching in
    let t = taken_of c.runs.frontier.worklist c.take.new.self c.take.new.places.items c.in_ok-state.field-0 c.in-Some.state c.in-Some.is c.in_ok-state.ensures in
    (place_listed _ (g.G.Digraph.span c.args.g.now) (label_in (g.S.Scope.keeps c.args.scope.now) (g.G.Digraph.label_at c.args.g.now)) (edge_in (g.S.Scope.keeps c.args.scope.now) (g.G.Digraph.edge c.args.g.now)) (λ v. IsTrue (has c.args.places.now v)) c.args.start (length c.args.program.now)
    c.runs.frontier.rows.items c.runs.frontier.worklist c.take.new.self c.in-Some.state c.take.new.places.items c.runs.answers.members kept t.last v
    (subst (λ x. IsTrue (has x v)) c.deref-in-Some.ensures.value h)).2

pub runs-smaller : goal.runs-smaller
runs-smaller g c =
    let t = taken_of c.runs.frontier.worklist c.take.new.self c.take.new.places.items c.in_ok-state.field-0 c.in-Some.state c.in-Some.is c.in_ok-state.ensures in
    let spreads = c.in_ok-visit.ensures.spreads in
    let count : length c.runs.frontier.worklist ≡ length c.take.new.self + length c.take.new.places.items =
    ap length t.last ∙ length-append c.take.new.self (all_at c.in-Some.state c.take.new.places.items) ∙ ap (λ n. length c.take.new.self + n) (length_at c.in-Some.state c.take.new.places.items) in
    falls _ _ _ (length c.take.new.places.items) _ _ _ _ count t.some spreads.counted spreads.more spreads.same_pairs (members_le c.visit.new.frontier.rows.items)

pub runs-preserved : goal.runs-preserved
runs-preserved g c =
    let v = c.in_ok-visit.ensures in
    let n = c.note_ends.ensures in
    let span = g.G.Digraph.span c.args.g.now in
    let label_at = label_in (g.S.Scope.keeps c.args.scope.now) (g.G.Digraph.label_at c.args.g.now) in
    let edge = edge_in (g.S.Scope.keeps c.args.scope.now) (g.G.Digraph.edge c.args.g.now) in
    let First : ℕ → Type 0 = λ v. IsTrue (has c.args.places.now v) in
    let at = λ (k : ℕ). slice_get c.args.program.now k in
    let states = length c.args.program.now in
    let kept = c.runs.invariant in
    let rows = c.runs.frontier.rows.items in
    let after = c.visit.new.frontier in
    let places = c.take.new.places.items in
    let t = taken_of c.runs.frontier.worklist c.take.new.self places c.in_ok-state.field-0 c.in-Some.state c.in-Some.is c.in_ok-state.ensures in
    let noted = c.deref.ensures.value in
    let visited = c.deref-in-Some.ensures.value in
    let ends : (u v : ℕ) → IsTrue (edge u v) → IsSome (label_at v) = ends_in (g.S.Scope.keeps c.args.scope.now) (g.G.Digraph.label_at c.args.g.now) (g.G.Digraph.edge c.args.g.now) (g.met.G.Digraph.ends c.args.g.now) in
    record {
      wide = wide_on states (span + 1) rows after.rows.items v.spreads.wide kept.wide;
      size = n.size ∙ kept.size;
      searching = searching_next at span label_at edge First c.args.start states rows after.rows.items c.runs.frontier.worklist c.take.new.self after.worklist c.in-Some.state places
          c.runs.answers.members c.note_ends.new.answers.members kept.searching t.last
          (subst (λ x. SpreadsOver (MarksOne at span label_at edge c.in-Some.state x) rows after.rows.items c.take.new.self after.worklist) visited v.spreads)
          (λ none s e h. v.marked none s e (subst (λ x. SucceedsOne span label_at edge (at c.in-Some.state) x s e) (sym visited) h))
          (λ k e. subst (λ x. IsEntered at span label_at edge k x after.rows.items) visited (v.entered k e))
          (marks_inside c.args.program.now span label_at edge ends c.count.ensures.inside c.in-Some.state places
          (λ u p. (place_listed at span label_at edge First c.args.start states rows c.runs.frontier.worklist c.take.new.self c.in-Some.state places c.runs.answers.members kept.searching t.last u p).2))
          n.kept
          (λ e u p b. n.noted e u (subst (λ x. IsTrue (has x u)) (sym noted) p) (subst (λ x. u < x) (sym kept.size) b))
          (λ u h. elim (n.source u h) [ inl old ↦ inl old | inr e ↦ inr (e.0, subst (λ x. u < x) kept.size e.1, subst (λ x. IsTrue (has x u)) noted e.2) ])
          n.rising;
    }

pub returns-clause-ends : goal.returns-clause-ends
returns-clause-ends g c =
    let span = g.G.Digraph.span c.args.g.now in
    let label_at = label_in (g.S.Scope.keeps c.args.scope.now) (g.G.Digraph.label_at c.args.g.now) in
    let edge = edge_in (g.S.Scope.keeps c.args.scope.now) (g.G.Digraph.edge c.args.g.now) in
    let First : ℕ → Type 0 = λ v. IsTrue (has c.args.places.now v) in
    let at = λ (k : ℕ). slice_get c.args.program.now k in
    let states = length c.args.program.now in
    let none : c.runs.frontier.worklist ≡ [] = search rules in
    searching_ends at span label_at edge First c.args.start states c.runs.frontier.rows.items c.runs.answers.members
    (subst (λ k. IsSearching at span label_at edge First c.args.start states c.runs.frontier.rows.items k c.runs.answers.members) none c.runs.invariant.searching)
