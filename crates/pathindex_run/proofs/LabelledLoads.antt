-- The nodes of the graph with which a run begins have labels.
use Rattle.std.proofs.Common.{◌≡◌, ℕ, List, Option, None, Some, refl, sym, subst}
use Rattle.px_base.specs.Files.{File}
use Rattle.graph_spec.specs.declared.limits.Limits.{Limits}
use Rattle.graph_spec.specs.Lines.{cut}
use Rattle.graph_spec.specs.Graphs.{Graph, empty_graph}
use Rattle.graph_spec.specs.ProgramLimits.{program_limits}
use Rattle.triple_names.specs.Names.{Names}
use Rattle.graph_load.specs.TripleGraphs.{names_of}
use Rattle.graph_load.specs.Loads.{Ending, outcome_of, loaded, syntax, limit, at_start, LoadsFrom, Loads, LoadsNamed}
use Rattle.graph_load.proofs.LoadedTexts.{text_represented}
use Rattle.index_file.specs.WholeFiles.{HasLabels}
use Rattle.script_interpreter.proofs.LabelledTriples.{represented_labels}
use Rattle.pathindex_run.specs.Headline.{BeginsWith}
use Rattle.pathindex_run.specs.ObservableFiles.{BeginsNamed}

-- The nodes of a graph that a text loads to, with the numbers of its terms and triples, have labels.
pub named_labels : (limits : Limits) (text : List ℕ) (g : Graph) (n : Names) → LoadsNamed limits text g n → HasLabels g
named_labels limits text g n h =
    let r = text_represented limits text h.state n h.ends h.names in
    subst HasLabels (sym h.graph) (represented_labels h.state.graph n r.0 r.1)

same_graph : (g h : Graph) → loaded g ≡ loaded h → g ≡ h
same_graph g h e = cc

ending_labels : (limits : Limits) (text : List ℕ) (g : Graph) (e : Ending) → LoadsFrom limits (cut text) at_start e → loaded g ≡ outcome_of e → HasLabels g
ending_labels limits text g (loaded l) h is = named_labels limits text g (names_of l) (record { state = l; ends = h; graph = same_graph g l.graph is; names = λ p. refl })
ending_labels limits text g (syntax l) h is = absurd (cc)
ending_labels limits text g (limit l) h is = absurd (cc)

-- So have those of a graph that a text loads to.
pub loads_labels : (limits : Limits) (text : List ℕ) (g : Graph) → Loads limits text (loaded g) → HasLabels g
loads_labels limits text g h = ending_labels limits text g h.ending h.ends h.is

-- The empty graph has no nodes.
pub empty_labels : HasLabels empty_graph
empty_labels m t e = absurd (let none : None ≡ Some t = e in cc)

-- The nodes of the graph with which a run begins have labels: of the empty graph, or of that of a file.
pub begins_labels : (name : Option (List ℕ)) (files : List File) (g : Graph) (n : Names) → BeginsNamed name files g n → HasLabels g
begins_labels None files g n b = subst HasLabels (sym b.0) empty_labels
begins_labels (Some name) files g n b = named_labels program_limits b.0 g n b.2

-- The same, where nothing is said of the numbers of terms and triples.
pub begins_with_labels : (name : Option (List ℕ)) (files : List File) (g : Graph) → BeginsWith name files g → HasLabels g
begins_with_labels None files g b = subst HasLabels (sym b) empty_labels
begins_with_labels (Some name) files g b = loads_labels program_limits b.0 g b.2
