-- With which graph and which numbers a run begins, and which script it runs, if the shelf is observable.
use Rattle.std.specs.Prelude.{ℕ, ◌≡◌, ⊤, List, Option, None, Some}
use Rattle.px_base.specs.Files.{File, content_of}
use Rattle.graph_spec.specs.Graphs.{Graph, empty_graph}
use Rattle.graph_spec.specs.ProgramLimits.{program_limits}
use Rattle.triple_names.specs.Names.{Names, AreSameNames, no_names}
use Rattle.graph_load.specs.Loads.{LoadsNamed}
use Rattle.script_interpreter.specs.declared.printing.Printing.TheVariants.{Whole}
use Rattle.script_interpreter.specs.Rules.{rules_for}
use Rattle.script_interpreter.specs.States.{State}
use Rattle.pathindex_run.specs.Headline.{RunsScript}

-- the graph and the numbers of its terms and triples are those with which the run begins
abbrev pub BeginsNamed : Option (List ℕ) → List File → Graph → Names → Type 0
BeginsNamed None files g n = (g ≡ empty_graph) × AreSameNames n no_names
BeginsNamed (Some name) files g n = (text : List ℕ) × (content_of files name ≡ Some text) × LoadsNamed program_limits text g n

-- the same on an observable shelf; of any other nothing is said
abbrev pub BeginsObservable : Option (List ℕ) → Option (List File) → Graph → Names → Type 0
BeginsObservable name None g n = ⊤
BeginsObservable name (Some files) g n = BeginsNamed name files g n

-- the script of that name is run from a first state
abbrev pub ScriptObservable : State → Option (List File) → List ℕ → Option (List ℕ) → Option (List ℕ) → ℕ → (State → Type 0) → Type 0
ScriptObservable first None name old new status Last = ⊤
ScriptObservable first (Some files) name old new status Last = RunsScript (rules_for Whole) first (content_of files name) old new status Last
