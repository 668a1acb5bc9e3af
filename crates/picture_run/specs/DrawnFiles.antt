-- What a run draws of a graph file, and what it writes if it draws nothing.
use Rattle.std.specs.Prelude.{◌≡◌, ℕ, ◌⊎◌, List, Option, None, Some, codes}
use Rattle.std.specs.Io.KnownBytes.{Appends, Keeps}
use Rattle.px_base.specs.Files.{File}
use Rattle.graph_spec.specs.Graphs.{Graph}
use Rattle.graph_spec.specs.Shapes.{shape_of}
use Rattle.graph_spec.specs.ProgramLimits.{program_limits}
use Rattle.bisim_spec.specs.Partitions.{IsPartition}
use Rattle.triple_names.specs.Names.{Names}
use Rattle.graph_load.specs.Loads.{loaded, syntax, limit}
use Rattle.graph_load.specs.LoadSteps.{LoadsObservable, NamesObservable}
use Rattle.quotient.specs.Quotients.{AreSupports, Quotient, view_of}
use Rattle.index_api.specs.declared.kinds.Via.{Via}
use Rattle.index_api.specs.declared.kinds.Via.TheVariants.{Data, A, One, Fb, B}
use Rattle.index_eval.specs.Exactness.{FitsVia}
use Rattle.index_picture.specs.LoneBlocks.{IsLone}
use Rattle.index_picture.specs.NamedTerms.{AreTermNames}
use Rattle.index_picture.specs.Pictures.{dot_text}
use Rattle.picture_run.specs.Settings.{Settings}
use Rattle.picture_run.specs.ShownTexts.{ShowsLine, StopsAtOnce, graph_line, usage_line}

-- each live node is a block of its own, and the supports are those of the edges
pub record IsWhole (g : Graph) (q : Quotient) : Type 0 where
  -- each live node has a block of its own
  pub lone : IsLone g q.blocks
  -- the support of a pair of blocks is the number of edges from the one to the other
  pub supports : AreSupports g.edges q.blocks.block_of q.supports

-- the index graph is one of this index: exactly the nodes have a block, and it fits the graph
pub record IsIndex (via : Via) (g : Graph) (q : Quotient) : Type 0 where
  -- blocks, labels and supports are those of the index
  pub fits : FitsVia via g (view_of q)
  -- exactly the nodes have a block
  pub nodes : IsPartition (shape_of g) q.blocks.block_of

-- the index graph of the graph itself, or that of an index
abbrev pub IsAsked : Via → Graph → Quotient → Type 0
IsAsked Data g q = IsWhole g q
IsAsked (A i) g q = IsIndex (A i) g q
IsAsked One g q = IsIndex One g q
IsAsked Fb g q = IsIndex Fb g q
IsAsked (B i) g q = IsIndex (B i) g q

-- The text is a picture of the graph, with these names of nodes, as the settings ask for.
pub record IsPicture (s : Settings) (g : Graph) (names : List (List ℕ)) (text : List ℕ) : Type 0 where
  -- the index graph that is drawn
  pub drawn : Quotient
  -- it is one of the graph, and the one asked for
  pub asked : IsAsked s.via g drawn
  -- the text is its picture
  pub text_is : text ≡ dot_text g drawn names s.blocks s.members

-- the picture is written, unless a write fails or memory runs out
abbrev pub ShowsPicture : Settings → Graph → List (List ℕ) → Option (List ℕ) → Option (List ℕ) → ℕ → Type 0
ShowsPicture s g names old new status =
    ((text : List ℕ) × IsPicture s g names text × ShowsLine text 0 old new status) ⊎ ((status ≡ 7) × Keeps old new)

-- The text is a picture of the graph to which the file loads.
pub record IsPictureOf (s : Settings) (files : Option (List File)) (text : List ℕ) : Type 0 where
  -- the graph, the numbers of its terms, and the names of its nodes
  pub graph : Graph
  pub terms : Names
  pub names : List (List ℕ)
  -- the file loads to this graph
  pub loads : LoadsObservable program_limits files s.file (loaded graph)
  -- the terms have the numbers that the load gave them
  pub numbers : NamesObservable program_limits files s.file graph terms
  -- the name of a node is that of a term with its number, or empty
  pub named : AreTermNames terms.terms names
  -- the text is a picture of this graph with these names
  pub picture : IsPicture s graph names text

-- the picture of the file is written, unless a write fails
abbrev pub ShowsFile : Settings → Option (List File) → Option (List ℕ) → Option (List ℕ) → ℕ → Type 0
ShowsFile s files old new status = (text : List ℕ) × IsPictureOf s files text × ShowsLine text 0 old new status

-- a line of the file is refused, and its number and the reason are written
abbrev pub ShowsRefusal : Settings → Option (List File) → Option (List ℕ) → Option (List ℕ) → ℕ → Type 0
ShowsRefusal s files old new status =
    ((l : ℕ) × LoadsObservable program_limits files s.file (syntax l) × ShowsLine (graph_line l (codes "syntax")) 3 old new status)
    ⊎ ((l : ℕ) × LoadsObservable program_limits files s.file (limit l) × ShowsLine (graph_line l (codes "limit")) 3 old new status)

-- what a run with these settings writes: the picture, which line is refused, or nothing
abbrev pub DrawsFile : Settings → Option (List File) → Option (List ℕ) → Option (List ℕ) → ℕ → Type 0
DrawsFile s files old new status =
    ShowsFile s files old new status ⊎ (ShowsRefusal s files old new status ⊎ StopsAtOnce old new status)

-- what a run writes; there are no settings where the words are malformed
abbrev pub Draws : Option Settings → Option (List File) → Option (List ℕ) → Option (List ℕ) → ℕ → Type 0
Draws None files old new status = ShowsLine usage_line 2 old new status
Draws (Some s) files old new status = DrawsFile s files old new status

-- there are settings, and the whole picture of the file is written
abbrev pub HasDrawn : Option Settings → Option (List File) → Option (List ℕ) → Option (List ℕ) → Type 0
HasDrawn None files old new = ⊥
HasDrawn (Some s) files old new = (text : List ℕ) × IsPictureOf s files text × Appends old new text
