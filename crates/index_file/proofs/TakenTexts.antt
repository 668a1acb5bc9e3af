-- What a text of lines makes of what was read.
use Rattle.std.proofs.Common.{◌≡◌, ℕ, zero, suc, ◌<◌, List, [], ◌∷◌, ◌++◌, Some, sym, ◌∙◌, ap, subst, arith, append_assoc, append-nil}
use Rattle.graph_spec.specs.Lines.{cut, IsUncut}
use Rattle.graph_spec.proofs.LineLemmas.{cut-feed}
use Rattle.extent_report.specs.ListedBlocks.{texts_below}
use Rattle.index_file.specs.Statements.{Statement, Says}
use Rattle.index_file.specs.Readings.{Reading, next_reading}
use Rattle.index_file.specs.Reads.{TakesAll}

-- behind the lines of the text this is read, whatever follows
abbrev pub Leads : List ℕ → Reading → Reading → Type 0
Leads text r next = (rest : List ℕ) (last : Reading) → TakesAll (cut rest) next last → TakesAll (cut (text ++ rest)) r last

pub leads_both : (a b : List ℕ) (r mid next : Reading) → Leads a r mid → Leads b mid next → Leads (a ++ b) r next
leads_both a b r mid next h k = λ rest last t. subst (λ x. TakesAll (cut x) r last) (sym (append_assoc a b rest)) (h (b ++ rest) last (k rest last t))

-- a line in front of a text
pub leads_line : (line more : List ℕ) (s : Statement) (r mid next : Reading) → IsUncut line → Says line s → next_reading s r ≡ Some mid → Leads more mid next
    → Leads (line ++ 10 ∷ more) r next
leads_line line more s r mid next uncut says step h = λ rest last t.
    subst (λ ls. TakesAll ls r last) (sym (ap cut (append_assoc line (10 ∷ more) rest) ∙ cut-feed line (more ++ rest) uncut)) (s, mid, says, step, h rest last t)

pub leads_none : (r : Reading) → Leads [] r r
leads_none r = λ rest last t. t

-- one line
pub leads_one : (line : List ℕ) (s : Statement) (r next : Reading) → IsUncut line → Says line s → next_reading s r ≡ Some next → Leads (line ++ 10 ∷ []) r next
leads_one line s r next uncut says step = leads_line line [] s r next next uncut says step (leads_none next)

-- the texts of the numbers below a bound
pub leads_below : (f : ℕ → List ℕ) (read : ℕ → Reading) (n : ℕ) → ((i : ℕ) → i < n → Leads (f i) (read i) (read (suc i))) → Leads (texts_below n f) (read 0) (read n)
leads_below f read zero h = leads_none (read 0)
leads_below f read (suc n) h =
    leads_both (texts_below n f) (f n) (read 0) (read n) (read (suc n)) (leads_below f read n (λ i l. h i (omega (arith, l)))) (h n (omega arith))

pub leads_to : (text : List ℕ) (r s next last : Reading) → r ≡ s → next ≡ last → Leads text r next → Leads text s last
leads_to text r s next last e f h = subst (λ x. Leads text x last) e (subst (λ x. Leads text r x) f h)

pub leads_text : (a b : List ℕ) (r next : Reading) → a ≡ b → Leads a r next → Leads b r next
leads_text a b r next e h = subst (λ x. Leads x r next) e h

-- a whole text
pub leads_all : (text : List ℕ) (r last : Reading) → Leads text r last → TakesAll (cut text) r last
leads_all text r last h = subst (λ x. TakesAll (cut x) r last) (append-nil text) (h [] last refl)
  where
    refl : last ≡ last
    refl = λ i. last
