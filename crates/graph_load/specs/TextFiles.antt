-- A text as a file.
use Rattle.std.specs.Prelude.{ℕ, List, []}
use Rattle.px_base.specs.Files.{File}

-- a file without a name
abbrev pub text_file : List ℕ → File
text_file text = record { name = []; bytes = text }
