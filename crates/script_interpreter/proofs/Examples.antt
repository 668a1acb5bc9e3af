-- The definitions at worked lines, and at near misses.
use Rattle.std.proofs.Common.{◌≡◌, ◌≢◌, ℕ, Bool, List, [], ◌∷◌, ◌++◌, length, ◌<◌, subst, true, false, true≢false, refl, sym, ap, ◌∙◌, arith, append-nil, lit≤, Option, None, Some, inl, inr, Ok, Err}
use Rattle.std.specs.Prelude.{codes, slice_index}
use Rattle.index_api.specs.declared.kinds.Via.{Via}
use Rattle.index_api.specs.declared.kinds.Via.TheVariants.{Data, A, One}
use Rattle.bisim_spec.specs.declared.kind.Kind.TheVariants as kind
use Rattle.graph_spec.specs.Lines.{Line}
use Rattle.graph_spec.specs.declared.refusal.Refusal.TheVariants.{NoNode, Limit}
use Rattle.graph_spec.specs.Graphs.{Graph, empty_graph}
use Rattle.graph_spec.specs.Changes.{with_node}
use Rattle.change_spec.specs.Steps.{Step, node, link, unlink, drop as drop_node, relabel, apply}
use Rattle.graph_spec.specs.Words.{node_word}
use Rattle.graph_spec.specs.ProgramLimits.{program_limits}
use Rattle.triples_read.specs.declared.term.Term.TheVariants.{Iri}
use Rattle.triples_read.specs.declared.term.Triple.{Triple}
use Rattle.triple_names.specs.Names.{no_names}
use Rattle.triple_names.specs.TripleChanges.{insert_steps}
use Rattle.path_query.specs.Labels.{IsPlainLabel, SpellsLabel}
use Rattle.script_interpreter.specs.LineTexts.{reply, bad_line}
use Rattle.script_read.specs.Commands.{Command, change, begin, end as end_group, insert, delete, path, branch, why, check, extents, sizes, save, forget, IsSpelled, Asks, by_path, by_branch, by_why, by_check, NoCommand}
use Rattle.script_read.specs.FirstWords.{first_word}
use Rattle.script_interpreter.specs.declared.group.Scope.TheVariants.{OneLine as OfLine, LineGroup as OfGroup}
use Rattle.script_interpreter.specs.declared.printing.Printing.TheVariants.{Whole, Brief}
use Rattle.script_interpreter.specs.Rules.{rules_for}
use Rattle.script_interpreter.specs.States.{State, BeginsRun}
use Rattle.script_interpreter.specs.Observable.{RanObservable}
use Rattle.index_api.specs.IndexKinds.{is_kept}
use Rattle.extent_report.specs.PrintedAnswers.{answer_line}
use Rattle.extent_report.specs.PrintedLists.{ShowsIndex, ShowsSize}
use Rattle.script_interpreter.specs.Indexes.{ShowsAnswers, answered, ShowsExtents, unkept}
use Rattle.branch_query.specs.Queries.{Query}
use Rattle.pathindex_core.specs.QueryAnswers.{IsAnswered}
use Rattle.index_api.specs.declared.answers.How.TheVariants as how
use Rattle.script_interpreter.specs.Runs.{Progress, Group, start, TakesLine, outside, begins, silent, adds, ends, IsBadIn, text_at_end, end_text, end_status, Makes, RunsLine, RunsLines, IsRun, PrintsPrefix, IsChanged, Obeys, command, changes, inserts, deletes, misses, forgets, lacks}
use Rattle.script_interpreter.proofs.GroupLemmas.{not_in_group, too_many}

plain_a : IsPlainLabel (codes "a")
plain_a = (refl, (λ e. omega (arith, ap (λ l. slice_index l 1) e)), (λ e. omega (arith, ap (λ l. slice_index l 0) e)), (λ e. omega (arith, ap (λ l. slice_index l 0) e)))

pub label_a : SpellsLabel (codes "a") (codes "a")
label_a = inl (plain_a, refl)

-- a line that asks begins with the first byte of `path` (112), `branch` (98), `why` (119) or `check` (99)
pub asks_with : (line : List ℕ) → Asks line → (slice_index (first_word line) 0 ≢ 112) → (slice_index (first_word line) 0 ≢ 98) → (slice_index (first_word line) 0 ≢ 119)
    → (slice_index (first_word line) 0 ≢ 99) → ⊥
asks_with line (by_path via x) p b w c = p (ap (λ l. slice_index l 0) x.0)
asks_with line (by_branch via x) p b w c = b (ap (λ l. slice_index l 0) x.0)
asks_with line (by_why v x) p b w c = w (ap (λ l. slice_index l 0) x.0)
asks_with line (by_check nodes x) p b w c = c (ap (λ l. slice_index l 0) x.0)

-- a state in which the A(k)-family is kept, and no other index, and no term has a number
abbrev pub family_of : Graph → ℕ → State
family_of g k = record { graph = g; kept = record { kinds = kind.A ∷ []; k = k; one = [] }; names = no_names }

abbrev pub first_state : State
first_state = family_of empty_graph 2

-- a run may begin there, if that index is handed in, and not if another is
begins_first : BeginsRun empty_graph no_names (kind.A ∷ []) 2 first_state
begins_first = record { graph = refl; names = λ p. refl; kinds = refl; level = refl; one = λ h. absurd (true≢false (sym h)); none = λ _. refl }

not_there : BeginsRun empty_graph no_names (kind.One ∷ []) 2 first_state → ⊥
not_there h = (let same = h.kinds in cc)

-- nothing is run, and that is a run
run_empty : IsRun (rules_for Whole) first_state [] [] 0 (start first_state)
run_empty = record {
  before = [];
  left = [];
  printed = [];
  ending = [];
  script_is = refl;
  takes = (refl, refl);
  ends = (refl, refl);
  output_is = refl;
}

after_one : Progress
after_one = record { state = family_of (with_node empty_graph (codes "a")) 2; group = None; refused = false; lines = 1; bytes = 7 }

one_more : IsChanged first_state (node (codes "a") ∷ []) (with_node empty_graph (codes "a")) (family_of (with_node empty_graph (codes "a")) 2)
one_more = record { graph = refl; names = refl; kinds = refl; level = refl; same = λ e. absurd (true≢false e); step = λ e h. absurd (true≢false (sym h)); none = λ _. refl }

-- a change forgets no index
kept_on : (c : List Step) (g : Graph) → IsChanged first_state c g (record { graph = g; kept = record { kinds = []; k = 2; one = [] }; names = no_names }) → ⊥
kept_on c g h = (let same = h.kinds in cc)

takes_one : RunsLine (rules_for Whole) (start first_state) (record { text = codes "node a"; end = 10 ∷ [] }) (codes "added " ++ node_word 0 ++ 10 ∷ []) after_one
unfolding after_one
takes_one = record {
  within = (lit≤ tt, lit≤ tt);
  refuses = false;
  takes = outside _ _ _ (command (change (node (codes "a"))) (codes "a", refl, label_a) (λ o. asks_with (codes "node a") o.0 (λ e. omega (arith, e)) (λ e. omega (arith, e)) (λ e. omega (arith, e)) (λ e. omega (arith, e))) _ _ _
      (changes (node (codes "a")) _ _ _ (record { becomes = one_more; printed_is = refl; refuses_is = refl })));
  refused = refl;
  lines = refl;
  bytes = refl;
}

-- a line without a label is no command of any kind
pub no_label : NoCommand (codes "node")
no_label = (λ q. omega (arith, q), other)
  where
    first : List (List ℕ) → List ℕ
    first [] = []
    first (w ∷ ws) = w

    other : (c : Command) → ¬ IsSpelled (codes "node") c
    other (change (node t)) h = omega (arith, ap length h.1)
    other (change (link u v)) h = omega (arith, ap length h.0)
    other (change (unlink u v)) h = omega (arith, ap length h.0)
    other (change (drop_node u)) h = omega (arith, ap length h.0)
    other (change (relabel u t)) h = omega (arith, ap length h.1)
    other begin h = omega (arith, ap (λ ws. slice_index (first ws) 0) h)
    other end_group h = omega (arith, ap (λ ws. slice_index (first ws) 0) h)
    other (insert t) h = omega (arith, ap (λ l. slice_index l 0) h.0)
    other (delete t) h = omega (arith, ap (λ l. slice_index l 0) h.0)
    other (path via e) h = omega (arith, ap (λ l. slice_index l 0) h.0.0)
    other (branch via q) h = omega (arith, ap (λ l. slice_index l 0) h.0.0)
    other (why v e) h = omega (arith, ap (λ l. slice_index l 0) h.0.0)
    other (check nodes e) h = omega (arith, ap (λ l. slice_index l 0) h.0.0)
    other (extents via) h = omega (arith, ap length h.0)
    other sizes h = omega (arith, ap (λ ws. slice_index (first ws) 0) h)
    other save h = omega (arith, ap (λ ws. slice_index (first ws) 0) h)
    other (forget kind) h = omega (arith, ap length h)

-- the second line is no command, so the third isn't taken
run_bad : IsRun (rules_for Whole) first_state (codes "node a\nnode\nnode b\n") ((codes "added " ++ node_word 0 ++ 10 ∷ []) ++ bad_line 2) 4 after_one
unfolding after_one
run_bad = record {
  before = record { text = codes "node a"; end = 10 ∷ [] } ∷ [];
  left = record { text = codes "node"; end = 10 ∷ [] } ∷ record { text = codes "node b"; end = 10 ∷ [] } ∷ [];
  printed = codes "added " ++ node_word 0 ++ 10 ∷ [];
  ending = bad_line 2;
  script_is = refl;
  takes = (codes "added " ++ node_word 0 ++ 10 ∷ [], [], after_one, takes_one, (refl, refl), sym (append-nil _));
  ends = (λ _. inl (no_label, λ o. asks_with (codes "node") o.0 (λ e. omega (arith, e)) (λ e. omega (arith, e)) (λ e. omega (arith, e)) (λ e. omega (arith, e))), refl, refl);
  output_is = refl;
}

-- one line is taken, and the last state is the one after it
ran_one : RanObservable (rules_for Whole) first_state (Some (codes "node a\n")) (Some []) (Some (codes "added " ++ node_word 0 ++ 10 ∷ [])) 0 (λ s. s ≡ after_one.state)
unfolding after_one
ran_one = record {
  output = codes "added " ++ node_word 0 ++ 10 ∷ [];
  last = after_one;
  written = refl;
  is_run = record {
    before = record { text = codes "node a"; end = 10 ∷ [] } ∷ [];
    left = [];
    printed = codes "added " ++ node_word 0 ++ 10 ∷ [];
    ending = [];
    script_is = refl;
    takes = (codes "added " ++ node_word 0 ++ 10 ∷ [], [], after_one, takes_one, (refl, refl), sym (append-nil _));
    ends = (refl, refl);
    output_is = sym (append-nil _);
  };
  ends_in = refl;
}

-- what is said of the last state is said of that of the run: the run of an empty script leaves the first state
last_of_empty : (old new : Option (List ℕ)) (status : ℕ) (Last : State → Type 0) → RanObservable (rules_for Whole) first_state (Some []) old new status Last → Last first_state
last_of_empty old new status Last r = subst (λ p. Last p.state) (only r.is_run.before r.is_run.left r.is_run.printed r.last r.is_run.script_is r.is_run.takes) r.ends_in
  where
    only : (before left : List Line) (printed : List ℕ) (last : Progress) → [] ≡ before ++ left → RunsLines (rules_for Whole) (start first_state) before printed last → last ≡ start first_state
    only [] left printed last e t = t.1
    only (l ∷ ls) left printed last e t = cc

-- the end of a script prints nothing, outside a group
prefix_at_end : (p : Progress) (prefix : List ℕ) → p.group ≡ None → PrintsPrefix (rules_for Whole) p [] prefix → prefix ≡ []
prefix_at_end p prefix n (inl e) = e
prefix_at_end p prefix n (inr (rest, inl t)) = absurd t
prefix_at_end p [] n (inr (rest, inr e)) = refl
prefix_at_end p (b ∷ bs) n (inr (rest, inr e)) = (let none : b ∷ (bs ++ rest) ≡ [] = e.1.0 ∙ ap text_at_end n in cc)

-- what changes that take away print
unlink_done : (h : Graph) → reply Whole OfLine (unlink 0 1 ∷ []) empty_graph (Ok h) ≡ codes "ok\n"
unlink_done h = refl

drop_refused : (g : Graph) → reply Whole OfLine (drop_node 0 ∷ []) g (Err NoNode) ≡ codes "refused no-node\n"
drop_refused g = refl

-- a change that is refused prints why, and leaves the state
obeys_refused : Obeys (rules_for Whole) first_state (change (unlink 0 1)) (codes "refused no-node\n") true first_state
obeys_refused = changes (unlink 0 1) _ _ first_state (record { becomes = refl; printed_is = refl; refuses_is = refl })

-- what is forgotten is kept no longer, and what isn't kept can't be forgotten
forgets_a : Obeys (rules_for Whole) first_state (forget kind.A) (codes "ok\n") false (record { graph = empty_graph; kept = record { kinds = []; k = 2; one = [] }; names = no_names })
forgets_a = forgets kind.A refl

lacks_one : Obeys (rules_for Whole) first_state (forget kind.One) (codes "refused no-index\n") true first_state
lacks_one = lacks kind.One refl

-- a level above the highest one that is kept is refused, and so is an index of a kind that isn't kept
level_refused : ShowsExtents first_state (A 3) (codes "refused no-index\n") true
level_refused = unkept (A 3) refl

one_refused : ShowsExtents (family_of empty_graph 8) One (codes "refused no-index\n") true
one_refused = unkept One refl

-- no level is refused that is kept
level_kept : (s : State) (via : Via) (text : List ℕ) → ShowsExtents s via text true → is_kept s.kept via ≡ false
level_kept s _ _ (unkept via h) = h

-- in the empty graph no two numbers are bisimilar
shows_none : ShowsIndex empty_graph first_state.kept (A 0) (λ u v. false)
shows_none = record { is_kept = refl; decides = λ u v. ((λ e. absurd (true≢false (sym e))), (λ h. (let none : None ≡ Some h.0 = h.1 in cc))) }

not_all : ¬ ShowsIndex empty_graph first_state.kept (A 0) (λ u v. true)
not_all h = (let alike = (h.decides 0 0).0 refl in let none : None ≡ Some alike.0 = alike.1 in cc)

no_level : (r : ℕ → ℕ → Bool) → ¬ ShowsIndex empty_graph first_state.kept (A 3) r
no_level r h = true≢false (sym h.is_kept)

no_graph_itself : (s : State) (r : ℕ → ℕ → Bool) → ¬ ShowsIndex s.graph s.kept Data r
no_graph_itself s r h = true≢false (sym h.is_kept)

no_line_of_one : (g : Graph) (text : List ℕ) → ShowsSize g first_state.kept One text → text ≡ []
no_line_of_one g text (inl h) = (let kept = h.shows.is_kept in absurd (true≢false (sym kept)))
no_line_of_one g text (inr h) = h.1

-- in a brief run a change that is made prints nothing, and one that is refused prints why
brief_made : (g h : Graph) → reply Brief OfLine (unlink 0 1 ∷ []) g (Ok h) ≡ []
brief_made g h = refl

brief_group : (c : List Step) (g h : Graph) → reply Brief OfGroup c g (Ok h) ≡ []
brief_group c g h = refl

brief_refused : (g : Graph) → reply Brief OfLine (drop_node 0 ∷ []) g (Err NoNode) ≡ codes "refused no-node\n"
brief_refused g = refl

brief_forgets : Obeys (rules_for Brief) first_state (forget kind.A) [] false (record { graph = empty_graph; kept = record { kinds = []; k = 2; one = [] }; names = no_names })
brief_forgets = forgets kind.A refl

brief_lacks : Obeys (rules_for Brief) first_state (forget kind.One) (codes "refused no-index\n") true first_state
brief_lacks = lacks kind.One refl

-- and an answer prints how many nodes there are, and not which
brief_answer : (q : Query) → IsAnswered first_state.graph first_state.kept Data q how.Data [] → ShowsAnswers Brief first_state q Data (answer_line how.Data 0 ++ []) false
brief_answer q h = answered Data how.Data [] h

-- a group is one change: its numbers are printed, rising, and then that it is made
abbrev two_added : List Step
two_added = node (codes "a") ∷ node (codes "b") ∷ []

abbrev both : Graph
both = with_node (with_node empty_graph (codes "a")) (codes "b")

abbrev both_printed : List ℕ
both_printed = ((codes "added " ++ node_word 0 ++ 10 ∷ []) ++ (codes "added " ++ node_word 1 ++ 10 ∷ [])) ++ codes "ok\n"

both_made : Makes (rules_for Whole) OfGroup first_state two_added both_printed false (family_of both 2)
both_made = record {
  becomes = record { graph = refl; names = refl; kinds = refl; level = refl; same = λ e. absurd (true≢false e); step = λ e h. absurd (true≢false (sym h)); none = λ _. refl };
  printed_is = refl;
  refuses_is = refl;
}

-- the lines of such a group, one after another
begins_there : TakesLine (rules_for Whole) first_state 1 (codes "begin") None [] false first_state (Some (record { steps = []; line = 1 }))
begins_there = begins refl

adds_first : TakesLine (rules_for Whole) first_state 2 (codes "node a") (Some (record { steps = []; line = 1 })) [] false first_state (Some (record { steps = node (codes "a") ∷ []; line = 1 }))
adds_first = adds _ (node (codes "a")) (codes "a", refl, label_a)

silent_comment : (g : Group) → TakesLine (rules_for Whole) first_state 3 (codes " # b") (Some g) [] false first_state (Some g)
silent_comment g = silent g refl

ends_both : TakesLine (rules_for Whole) first_state 4 (codes "end") (Some (record { steps = two_added; line = 1 })) both_printed false (family_of both 2) None
ends_both = ends _ _ _ _ refl both_made

-- a refused step refuses the whole group, and the state stays
group_refused : Makes (rules_for Whole) OfGroup after_one.state (node (codes "b") ∷ link 0 9 ∷ []) (codes "refused no-node\n") true after_one.state
unfolding after_one
group_refused = record { becomes = refl; printed_is = refl; refuses_is = refl }

-- an empty group is made, and leaves the state
empty_made : Makes (rules_for Whole) OfGroup first_state [] (codes "ok\n") false first_state
empty_made = record {
  becomes = record { graph = refl; names = refl; kinds = refl; level = refl; same = λ _. refl; step = λ e h. absurd (true≢false (sym e)); none = λ _. refl };
  printed_is = refl;
  refuses_is = refl;
}

-- an insert prints as a group does: of `<http://e/a> <http://e/p> <http://e/a>` a term and the triple are new
abbrev looped : Triple
looped = record { subject = Iri (codes "http://e/a"); predicate = codes "http://e/p"; object = Iri (codes "http://e/a") }

insert_prints : (h : Graph) → reply Whole OfGroup (insert_steps no_names empty_graph looped) empty_graph (Ok h) ≡ both_printed
insert_prints h = refl

insert_brief : (g h : Graph) → reply Brief OfGroup (insert_steps no_names g looped) g (Ok h) ≡ []
insert_brief g h = refl

-- a delete of a triple that isn't there is refused, and that alone
delete_missed : Obeys (rules_for Whole) first_state (delete looped) (codes "refused no-node\n") true first_state
delete_missed = misses looped refl

not_deleted : (text : List ℕ) (t : State) → ¬ Obeys (rules_for Whole) first_state (delete looped) text false t
not_deleted text t (deletes _ c _ _ _ found m) = cc

-- a query may not stand in a group, nor may an insert or a group; nor an end outside
sizes_in_group : (g : Group) → IsBadIn program_limits (Some g) (codes "sizes")
sizes_in_group g = not_in_group (codes "sizes") sizes refl (λ x e. cc) (λ e. cc)

insert_in_group : (g : Group) (line : List ℕ) → IsSpelled line (insert looped) → IsBadIn program_limits (Some g) line
insert_in_group g line h = not_in_group line (insert looped) h (λ x e. cc) (λ e. cc)

group_in_group : (g : Group) → IsBadIn program_limits (Some g) (codes "begin")
group_in_group g = not_in_group (codes "begin") begin refl (λ x e. cc) (λ e. cc)

end_outside : IsBadIn program_limits None (codes "end")
end_outside = inr refl

-- where the script ends in a group, the line of its `begin` is bad
in_group : Progress
in_group = record { state = first_state; group = Some (record { steps = node (codes "a") ∷ []; line = 1 }); refused = false; lines = 2; bytes = 13 }

ends_in_group : (end_text in_group ≡ bad_line 1) × (end_status in_group ≡ 4)
unfolding in_group
ends_in_group = (refl, refl)

-- a group of 1,025 steps is refused, whatever they are
too_long : (c : List Step) (g : Graph) → 1024 < length c → apply c g program_limits ≡ Err Limit
too_long c g h = too_many c g program_limits h
