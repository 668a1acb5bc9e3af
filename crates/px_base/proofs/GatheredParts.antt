-- Putting a line together, piece by piece.
use Rattle.std.proofs.Common.{◌≡◌, ℕ, List, [], ◌++◌, ◌∷◌, ◌-◌, suc, length, Option, None, Some, sym, ap, ◌∙◌, append_assoc, Bool, IsTrue, arith, length-append}
use Rattle.std.specs.Io.KnownBytes.{Consumes, Keeps, prepend_known}
use Rattle.std.proofs.KnownBytes.{Consumes-kept, Consumes-trans}
use Rattle.px_base.proofs.Windows.{plain-append}
use Rattle.px_base.specs.GatheredLines.{TakesPart, Overfills, Gathers, IsTooLong}
use Rattle.px_base.specs.LineEnds.{has_end}

-- how far the line has come, where no call failed: a whole end that was ahead at the start is still ahead, and then nothing was read
pub record SoFar {S Files : Type 0} (most : ℕ) (line new window_then window : List ℕ) (shelf_then shelf : S) (before after : Option (List ℕ)) (files_then files_now : Files) (faults_then faults_now : ℕ) (is_open : Bool) : Type 0 where
  pub gathers : Gathers most line new before after
  pub ahead : IsTrue (has_end window_then) → IsTrue (has_end window)
  pub unread : IsTrue (has_end window_then) → shelf ≡ shelf_then
  pub files : files_now ≡ files_then
  pub faults : faults_now ≡ faults_then
  pub still_open : IsTrue is_open

-- how many more turns there can be: each but the first takes a byte at least
abbrev pub steps_left : ℕ → List ℕ → List ℕ → ℕ
steps_left most line [] = suc (most - length line)
steps_left most line (b ∷ ahead) = most - length line

-- the first bytes of a window are the first of what is ahead
pub consumes-part : (left : Option (List ℕ)) (ahead part more : List ℕ) → ahead ≡ part ++ more → Consumes (prepend_known ahead left) (prepend_known more left) part
consumes-part None ahead part more e = tt
consumes-part (Some y) ahead part more e = ap (λ r. r ++ y) e ∙ append_assoc part more y

-- nothing was ahead, and the shelf gave some bytes
pub keeps-filled : (old new : Option (List ℕ)) (ahead bytes : List ℕ) → ahead ≡ [] → Consumes old new bytes → Keeps (prepend_known ahead old) (prepend_known bytes new)
keeps-filled None None ahead bytes e p = tt
keeps-filled None (Some y) ahead bytes e p = tt
keeps-filled (Some x) None ahead bytes e p = absurd p
keeps-filled (Some x) (Some y) ahead bytes e p = sym p ∙ ap (λ r. r ++ x) (sym e)

pub gathers-kept : {most : ℕ} {line new : List ℕ} {a b : Option (List ℕ)} → Gathers most line new a b → (c : Option (List ℕ)) → Keeps b c → Gathers most line new a c
gathers-kept {a = a} {b = b} g c k = record { part = g.part; plain = g.plain; line_is = g.line_is; short = g.short; observable = Consumes-kept a b c g.part g.observable k }

-- one gathering after another
pub gathers-on : {most : ℕ} {line mid new : List ℕ} {a b c : Option (List ℕ)} → Gathers most line mid a b → Gathers most mid new b c → Gathers most line new a c
gathers-on {line = line} {a = a} {b = b} {c = c} g t = record {
  part = g.part ++ t.part;
  plain = plain-append g.part t.part g.plain t.plain;
  line_is = t.line_is ∙ ap (λ l. l ++ t.part) g.line_is ∙ append_assoc line g.part t.part;
  short = t.short;
  observable = Consumes-trans a b c g.part t.part g.observable t.observable;
}

-- the window up to its first LF or CR
pub gathers-part : {most : ℕ} {line mid new ahead rest : List ℕ} {a : Option (List ℕ)} (left : Option (List ℕ))
    → Gathers most line mid a (prepend_known ahead left) → TakesPart most ahead mid rest new → Gathers most line new a (prepend_known rest left)
gathers-part {ahead = ahead} {rest = rest} left g t =
    gathers-on g (record { part = t.part; plain = t.plain; line_is = t.line_is; short = t.short; observable = consumes-part left ahead t.part rest t.ahead_is })

-- what is too long after a prefix was put together is too long from the start
pub too-long-on : {most : ℕ} {line mid : List ℕ} {a b : Option (List ℕ)}
    → Gathers most line mid a b → IsTooLong most mid b → IsTooLong most line a
too-long-on {line = line} {a = a} {b = b} g t =
    let e = ap length g.line_is ∙ length-append line g.part in
    record {
      prefix = g.part ++ t.prefix;
      rest = t.rest;
      plain = plain-append g.part t.prefix g.plain t.plain;
      long = simp length-append (omega (arith, t.long));
      observable = Consumes-trans a b t.rest g.part t.prefix g.observable t.observable;
    }

pub too-long : {most : ℕ} {line mid ahead : List ℕ} {a : Option (List ℕ)} (left : Option (List ℕ))
    → Gathers most line mid a (prepend_known ahead left) → Overfills most ahead mid → IsTooLong most line a
too-long {ahead = ahead} left g t =
    too-long-on g (record { prefix = t.prefix; rest = prepend_known t.rest left; plain = t.plain; long = t.long; observable = consumes-part left ahead t.prefix t.rest t.ahead_is })
