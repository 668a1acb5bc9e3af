-- A text is the file of one graph at most.
use Rattle.std.proofs.Common.{◌≡◌, ℕ, List, [], ◌∷◌, Some, sym, ap, ◌∙◌, subst}
use Rattle.graph_spec.specs.Lines.{Line, cut}
use Rattle.index_file.specs.SavedFiles.{SavedFile}
use Rattle.index_file.specs.Readings.{Reading, nothing_read, next_reading, file_of}
use Rattle.index_file.specs.Reads.{TakesAll, Spelled}
use Rattle.index_file.proofs.OneStatement.{one_statement}

some_one : (a b : Reading) → Some a ≡ Some b → a ≡ b
some_one a b e = cc

one_last : (lines : List Line) (r a b : Reading) → TakesAll lines r a → TakesAll lines r b → a ≡ b
one_last [] r a b h k = sym h ∙ k
one_last (l ∷ lines) r a b (s, mid, says, step, h) (t, other, tells, next, k) =
    let same : mid ≡ other = some_one mid other (sym step ∙ ap (λ x. next_reading x r) (one_statement l.text s t says tells) ∙ next) in
    one_last lines mid a b h (subst (λ m. TakesAll lines m b) (sym same) k)

pub one_file : (text : List ℕ) (a b : SavedFile) → Spelled text a → Spelled text b → a ≡ b
one_file text a b h k = h.holds ∙ ap file_of (one_last (cut text) nothing_read h.last k.last h.takes k.takes) ∙ sym k.holds
