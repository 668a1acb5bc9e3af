-- The nodes of each graph of a run have labels, where those of the first have.
use Rattle.std.proofs.Common.{◌≡◌, ℕ, ◌+◌, Bool, true, false, List, [], ◌∷◌, ◌++◌, Option, None, Some, Result, Ok, Err, refl, sym, subst}
use Rattle.std.specs.Prelude.{⊤, if◌then◌else◌}
use Rattle.graph_spec.specs.declared.refusal.Refusal.{Refusal}
use Rattle.graph_spec.specs.Lines.{Line}
use Rattle.graph_spec.specs.Graphs.{Graph}
use Rattle.change_spec.specs.Steps.{Step, node, link, unlink, drop, relabel, apply}
use Rattle.triples_read.specs.declared.term.Triple.{Triple}
use Rattle.triples_read.specs.Canonical.{IsSpelled as IsSpelledTriple}
use Rattle.triple_names.specs.Items.{of_term, of_triple, term_label, predicate_label}
use Rattle.triple_names.specs.Names.{Names, node_there}
use Rattle.triple_names.specs.TripleChanges.{placed_in, object_there, node_unless, insert_steps, is_only_neighbour, drop_with, delete_steps, deletion}
use Rattle.path_query.specs.Labels.{SpellsLabel}
use Rattle.path_query.proofs.PathRoundTrips.{label_again}
use Rattle.script_read.specs.Commands.{Command, change, IsSpelled}
use Rattle.index_file.specs.WholeFiles.{HasLabels}
use Rattle.index_file.specs.LabelledSteps.{GivesLabel, GiveLabels}
use Rattle.index_file.proofs.LabelledGraphs.{steps_labels}
use Rattle.script_interpreter.specs.declared.group.Scope.{Scope}
use Rattle.script_interpreter.specs.declared.group.Scope.TheVariants.{OneLine as OfLine, LineGroup as OfGroup}
use Rattle.script_interpreter.specs.Rules.{Rules}
use Rattle.script_interpreter.specs.States.{State}
use Rattle.script_interpreter.specs.Runs.{Becomes, Makes, Obeys, changes, inserts, deletes, misses, asks_path, asks_branch, explains, checks, lists, measures, saves, forgets, lacks, Does, nothing, over, command, Progress, Group, start, TakesLine, outside, begins, silent, adds, ends, RunsLine, RunsLines}
use Rattle.script_interpreter.proofs.EngineLemmas.{accepted_after}
use Rattle.script_interpreter.proofs.LabelledTriples.{term_spelled, predicate_spelled}

-- ---- the steps of a change

both_give : (c d : List Step) → GiveLabels c → GiveLabels d → GiveLabels (c ++ d)
both_give [] d h k = k
both_give (s ∷ c) d h k = (h.0, both_give c d h.1 k)

-- a step that a line spells
spelled_gives : (line : List ℕ) (x : Step) → IsSpelled line (change x) → GivesLabel x
spelled_gives line (node t) (word, words, label) = label_again word t label
spelled_gives line (link u v) h = tt
spelled_gives line (unlink u v) h = tt
spelled_gives line (drop u) h = tt
spelled_gives line (relabel u t) (word, words, few, label) = label_again word t label

-- the steps that insert a triple
node_gives : (o : Option ℕ) (label : List ℕ) → SpellsLabel label label → GiveLabels (node_unless o label)
node_gives None label h = (h, tt)
node_gives (Some m) label h = tt

insert_gives : (n : Names) (g : Graph) (t : Triple) → IsSpelledTriple t → GiveLabels (insert_steps n g t)
insert_gives n g t h =
    let p = placed_in n g t in
    let subject = node_unless (node_there n g (of_term t.subject)) (term_label t.subject) in
    let triple = node_unless (node_there n g (of_triple t)) (predicate_label t.predicate) in
    let object = node_unless (object_there n g t p.subject) (term_label t.object) in
    let links = link p.subject p.triple ∷ link p.triple p.object ∷ [] in
    both_give subject (triple ++ (object ++ links)) (node_gives (node_there n g (of_term t.subject)) (term_label t.subject) (term_spelled t.subject))
    (both_give triple (object ++ links) (node_gives (node_there n g (of_triple t)) (predicate_label t.predicate) (predicate_spelled t h))
    (both_give object links (node_gives (object_there n g t p.subject) (term_label t.object) (term_spelled t.object)) (tt, (tt, tt))))

-- the steps that delete one
drop_gives : (g : Graph) (o : Option ℕ) (triple : ℕ) → GiveLabels (drop_with g o triple)
drop_gives g None triple = tt
drop_gives g (Some u) triple = by (is_only_neighbour g u triple)
  where
    by : (b : Bool) → GiveLabels (if b then drop u ∷ [] else [])
    by true = (tt, tt)
    by false = tt

unless_gives : (b : Bool) (c : List Step) → GiveLabels c → GiveLabels (if b then [] else c)
unless_gives true c h = tt
unless_gives false c h = h

same_steps : (c d : List Step) → Some c ≡ Some d → c ≡ d
same_steps c d e = cc

deletion_gives : (n : Names) (g : Graph) (t : Triple) (o : Option ℕ) (c : List Step) → deletion n g t o ≡ Some c → GiveLabels c
deletion_gives n g t None c e = cc
deletion_gives n g t (Some triple) c e =
    let first = drop_with g (node_there n g (of_term t.subject)) triple in
    let second = drop_with g (node_there n g (of_term t.object)) triple in
    subst GiveLabels (same_steps (delete_steps n g t triple) c e)
    (tt, both_give first _ (drop_gives g (node_there n g (of_term t.subject)) triple) (unless_gives _ second (drop_gives g (node_there n g (of_term t.object)) triple)))

-- ---- runs

becomes_labels : (s : State) (c : List Step) (r : Result Graph Refusal) (t : State) → ((h : Graph) → r ≡ Ok h → HasLabels h) → HasLabels s.graph → Becomes s c r t → HasLabels t.graph
becomes_labels s c (Ok h) t accepted labels b = subst HasLabels (sym b.graph) (accepted h refl)
becomes_labels s c (Err r) t accepted labels b = subst (λ (x : State). HasLabels x.graph) (sym b) labels

-- a change is made, or refused
makes_labels : (rules : Rules) (scope : Scope) (s : State) (c : List Step) (printed : List ℕ) (refuses : Bool) (t : State)
    → HasLabels s.graph → GiveLabels c → Makes rules scope s c printed refuses t → HasLabels t.graph
makes_labels rules scope s c printed refuses t labels gives m =
    becomes_labels s c (apply c s.graph rules.limits) t
    (λ h e. subst HasLabels (sym (accepted_after c s.graph h rules.limits e)) (steps_labels c s.graph labels gives)) labels m.becomes

-- a command is carried out
obeys_labels : (rules : Rules) (s : State) (line : List ℕ) (c : Command) (printed : List ℕ) (refuses : Bool) (t : State)
    → HasLabels s.graph → IsSpelled line c → Obeys rules s c printed refuses t → HasLabels t.graph
obeys_labels rules s line _ _ _ _ labels spelled (changes x printed refuses t m) = makes_labels rules OfLine s (x ∷ []) printed refuses t labels (spelled_gives line x spelled, tt) m
obeys_labels rules s line _ _ _ _ labels spelled (inserts x printed refuses t i) =
    makes_labels rules OfGroup s (insert_steps s.names s.graph x) printed refuses (record t { names = s.names }) labels (insert_gives s.names s.graph x (_, spelled.1)) i.makes
obeys_labels rules s line _ _ _ _ labels spelled (deletes x c printed refuses t e m) =
    makes_labels rules OfGroup s c printed refuses t labels (deletion_gives s.names s.graph x (node_there s.names s.graph (of_triple x)) c e) m
obeys_labels rules s line _ _ _ _ labels spelled (misses x e) = labels
obeys_labels rules s line _ _ _ _ labels spelled (asks_path via e text refuses h) = labels
obeys_labels rules s line _ _ _ _ labels spelled (asks_branch via q text refuses h) = labels
obeys_labels rules s line _ _ _ _ labels spelled (explains v e text refuses h) = labels
obeys_labels rules s line _ _ _ _ labels spelled (checks nodes e text h) = labels
obeys_labels rules s line _ _ _ _ labels spelled (lists via text refuses h) = labels
obeys_labels rules s line _ _ _ _ labels spelled (measures text h) = labels
obeys_labels rules s line _ _ _ _ labels spelled (saves text h) = labels
obeys_labels rules s line _ _ _ _ labels spelled (forgets kind e) = labels
obeys_labels rules s line _ _ _ _ labels spelled (lacks kind e) = labels

does_labels : (rules : Rules) (s : State) (line printed : List ℕ) (refuses : Bool) (t : State) → HasLabels s.graph → Does rules s line printed refuses t → HasLabels t.graph
does_labels rules s line _ _ _ labels (nothing quiet) = labels
does_labels rules s line _ _ _ labels (over passes) = labels
does_labels rules s line _ _ _ labels (command c spelled within printed refuses t h) = obeys_labels rules s line c printed refuses t labels spelled h

-- the steps of the group that isn't ended give labels
abbrev pub GroupLabels : Option Group → Type 0
GroupLabels None = ⊤
GroupLabels (Some g) = GiveLabels g.steps

takes_labels : (rules : Rules) (s : State) (number : ℕ) (line : List ℕ) (group : Option Group) (printed : List ℕ) (refuses : Bool) (t : State) (next : Option Group)
    → HasLabels s.graph → GroupLabels group → TakesLine rules s number line group printed refuses t next → HasLabels t.graph × GroupLabels next
takes_labels rules s number line _ _ _ _ _ labels steps (outside printed refuses t h) = (does_labels rules s line printed refuses t labels h, tt)
takes_labels rules s number line _ _ _ _ _ labels steps (begins h) = (labels, tt)
takes_labels rules s number line _ _ _ _ _ labels steps (silent g h) = (labels, steps)
takes_labels rules s number line _ _ _ _ _ labels steps (adds g x h) = (labels, both_give g.steps (x ∷ []) steps (spelled_gives line x h, tt))
takes_labels rules s number line _ _ _ _ _ labels steps (ends g printed refuses t h m) = (makes_labels rules OfGroup s g.steps printed refuses t labels steps m, tt)

-- The nodes of the graph have labels, and the steps of the group that isn't ended give labels: so it is after each line.
pub labels_stay : (rules : Rules) (p : Progress) (l : Line) (text : List ℕ) (q : Progress) → RunsLine rules p l text q
    → HasLabels p.state.graph → GroupLabels p.group → HasLabels q.state.graph × GroupLabels q.group
labels_stay rules p l text q h labels steps = takes_labels rules p.state (p.lines + 1) l.text p.group text h.refuses q.state q.group labels steps h.takes

-- and after lines
labels_last : (rules : Rules) (ls : List Line) (p : Progress) (printed : List ℕ) (q : Progress) → RunsLines rules p ls printed q
    → HasLabels p.state.graph → GroupLabels p.group → HasLabels q.state.graph
labels_last rules [] p printed q h labels steps = subst (λ (x : Progress). HasLabels x.state.graph) (sym h.1) labels
labels_last rules (l ∷ ls) p printed q (text, rest, mid, one, more, e) labels steps =
    let stay = labels_stay rules p l text mid one labels steps in
    labels_last rules ls mid rest q more stay.0 stay.1

-- The lines of a run lead from a graph whose nodes have labels to one whose nodes have labels.
pub run_labels : (rules : Rules) (first : State) (ls : List Line) (printed : List ℕ) (last : Progress) → RunsLines rules (start first) ls printed last
    → HasLabels first.graph → HasLabels last.state.graph
run_labels rules first ls printed last h labels = labels_last rules ls (start first) printed last h labels tt
