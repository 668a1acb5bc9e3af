-- What is written of an index file that is checked.
use Rattle.std.specs.Prelude.{◌≡◌, ℕ, ◌<◌, ◌⊎◌, ⊤, List, length, Option, None, Some, codes}
use Rattle.graph_spec.specs.ProgramLimits.{program_limits}
use Rattle.px_base.specs.Files.{File, content_of}
use Rattle.index_api.specs.declared.kinds.Via.{Via}
use Rattle.index_file.specs.FittingViews.{FitsView}
use Rattle.index_file.specs.Reads.{ReadOutcome, Reads, holds, bad_syntax, past_limit}
use Rattle.index_file.specs.SavedFiles.{SavedFile}
use Rattle.index_file.specs.SavedGraphs.{via_at}
use Rattle.pathindex_run.specs.ShownLines.{ShowsLine, StopsAtOnce}
use Rattle.pathindex_run.specs.UsageTexts.{differs_line, fits_line, index_line}

-- the views before that place fit the graph of the file
abbrev pub FitBelow : SavedFile → ℕ → Type 0
FitBelow file place = (j : ℕ) → j < place → FitsView file j

-- the first view that doesn't fit is of this index
pub record FirstDiffers (file : SavedFile) (via : Via) : Type 0 where
  -- the place of that view in the file
  pub place : ℕ
  -- it is the view of this index
  pub is_there : via_at file place ≡ Some via
  -- all views before it fit
  pub before : FitBelow file place
  -- it doesn't
  pub differs : ¬ FitsView file place

-- each view fits, or the first that doesn't is of this index
abbrev pub FitsBut : SavedFile → Option Via → Type 0
FitsBut file None = FitBelow file (length file.views)
FitsBut file (Some via) = FirstDiffers file via

-- what is written of a file, by whether its views fit
abbrev pub ShowsFit : Option Via → Option (List ℕ) → Option (List ℕ) → ℕ → Type 0
ShowsFit None old new status = ShowsLine fits_line 0 old new status
ShowsFit (Some via) old new status = ShowsLine (differs_line via) 8 old new status

-- what is written, by what the text of the file is read to
abbrev pub ShowsOutcome : ReadOutcome → Option (List ℕ) → Option (List ℕ) → ℕ → Type 0
ShowsOutcome (holds file) old new status = (misfit : Option Via) × FitsBut file misfit × ShowsFit misfit old new status
ShowsOutcome (bad_syntax l) old new status = ShowsLine (index_line l (codes "syntax")) 3 old new status
ShowsOutcome (past_limit l) old new status = ShowsLine (index_line l (codes "limit")) 3 old new status

-- `text` is what the file holds, if it is there. Nothing is written if it isn't, if it isn't read to its end, or if memory runs out.
abbrev pub ChecksFileText : Option (List ℕ) → Option (List ℕ) → Option (List ℕ) → ℕ → Type 0
ChecksFileText None old new status = StopsAtOnce old new status
ChecksFileText (Some text) old new status =
    ((o : ReadOutcome) × Reads program_limits text o × ShowsOutcome o old new status) ⊎ StopsAtOnce old new status

-- the file of that name is checked, as far as the files are observable
abbrev pub ChecksNamed : Option (List File) → List ℕ → Option (List ℕ) → Option (List ℕ) → ℕ → Type 0
ChecksNamed None name old new status = ⊤
ChecksNamed (Some files) name old new status = ChecksFileText (content_of files name) old new status

-- the views were checked, or a write failed or memory ran out
abbrev pub EndsCheck : ℕ → Type 0
EndsCheck status = (status ≡ 0) ⊎ ((status ≡ 8) ⊎ ((status ≡ 6) ⊎ (status ≡ 7)))
