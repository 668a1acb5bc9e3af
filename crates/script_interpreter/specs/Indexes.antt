-- What is printed of the indexes of a state, and of queries that are asked through them.
use Rattle.std.specs.Prelude.{ℕ, ◌≡◌, ◌≢◌, Bool, true, false, List}
use Rattle.graph_spec.specs.declared.refusal.Refusal.TheVariants.{NoIndex}
use Rattle.graph_spec.specs.Graphs.{Graph}
use Rattle.index_api.specs.declared.kinds.Via.{Via}
use Rattle.index_api.specs.declared.kinds.Via.TheVariants.{Data}
use Rattle.index_api.specs.declared.answers.How.{How}
use Rattle.index_api.specs.IndexKinds.{KeptIndexes, is_kept}
use Rattle.branch_query.specs.Queries.{Query}
use Rattle.extent_report.specs.PrintedAnswers.{answer_text}
use Rattle.extent_report.specs.PrintedLists.{ListsIndex, ListsSizes}
use Rattle.index_file.specs.SavedIndexes.{SavesFile}
use Rattle.index_file.specs.WholeFiles.{IsIndexFile}
use Rattle.pathindex_core.specs.QueryAnswers.{IsAnswered}
use Rattle.script_interpreter.specs.LineTexts.{refused_line}
use Rattle.script_interpreter.specs.declared.printing.Printing.{Printing}
use Rattle.script_interpreter.specs.Rules.{prints_nodes}
use Rattle.script_interpreter.specs.States.{State}

-- what is printed of a query of any language, and whether that is a refusal
pub data ShowsAnswers (printing : Printing) (s : State) (q : Query) : Via → List ℕ → Bool → Type 0 where
  answered : (via : Via) (how : How) (nodes : List ℕ) → IsAnswered s.graph s.kept via q how nodes
      → ShowsAnswers printing s q via (answer_text how (prints_nodes printing) nodes) false
  not_asked : (via : Via) → via ≢ Data → is_kept s.kept via ≡ false → ShowsAnswers printing s q via (refused_line NoIndex) true

-- what `extents` prints through an index, and whether that is a refusal
pub data ShowsExtents (s : State) : Via → List ℕ → Bool → Type 0 where
  listed : (via : Via) (text : List ℕ) → ListsIndex s.graph s.kept via text → ShowsExtents s via text false
  unkept : (via : Via) → is_kept s.kept via ≡ false → ShowsExtents s via (refused_line NoIndex) true

-- what `sizes` prints
abbrev pub ShowsSizes : State → List ℕ → Type 0
ShowsSizes s text = ListsSizes s.graph s.kept text

-- The text is an index file of the graph and of the indexes that are kept.
pub record IsSaved (g : Graph) (kept : KeptIndexes) (text : List ℕ) : Type 0 where
  -- how it is written: the graph, and then the view of each index, in the order in which indexes are listed
  pub written : SavesFile g kept text
  -- one file alone is spelled so; it holds these and nothing else, and each view fits
  pub file : IsIndexFile g kept text

-- what `save` prints: an index file of the present graph and of the indexes that are kept
abbrev pub ShowsFile : State → List ℕ → Type 0
ShowsFile s text = IsSaved s.graph s.kept text
