-- What reading a file says of all files that its text may spell.
use Rattle.std.specs.Prelude.{ℕ, ◌≡◌, ⊤, List, Option, None, Some}
use Rattle.px_base.specs.Files.{File, content_of}
use Rattle.graph_spec.specs.declared.limits.Limits.{Limits}
use Rattle.index_file.specs.SavedFiles.{SavedFile}
use Rattle.index_file.specs.Reads.{Spelled, Reads, past_limit}
use Rattle.index_file.specs.declared.reading.SavedError.{SavedError}
use Rattle.index_file.specs.declared.reading.SavedError.TheVariants as error

-- the name is that of an observable file whose text spells this; of opaque files it says nothing
abbrev pub SpelledIn : Option (List File) → List ℕ → SavedFile → Type 0
SpelledIn None name file = ⊤
SpelledIn (Some files) name file = (text : List ℕ) × (content_of files name ≡ Some text) × Spelled text file

-- the name is that of an observable file whose text spells nothing
abbrev pub SpelledByNone : Option (List File) → List ℕ → Type 0
SpelledByNone None name = ⊤
SpelledByNone (Some files) name = (text : List ℕ) × (content_of files name ≡ Some text) × ((file : SavedFile) → ¬ Spelled text file)

-- a line is refused only of a text that spells nothing, unless it passes a limit
abbrev pub RefusesNone : Option (List File) → List ℕ → SavedError → Type 0
RefusesNone files name (error.Syntax l) = SpelledByNone files name
RefusesNone files name (error.Limit l) = ⊤
RefusesNone files name error.Missing = ⊤
RefusesNone files name error.Fault = ⊤
RefusesNone files name error.Memory = ⊤

-- no line of the text passes a limit
abbrev pub IsWithin : Limits → List ℕ → Type 0
IsWithin limits text = (l : ℕ) → ¬ Reads limits text (past_limit l)
