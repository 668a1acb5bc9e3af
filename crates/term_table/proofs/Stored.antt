-- Texts that are stored one behind the other.
use Rattle.std.proofs.Common.{◌≡◌, ℕ, ◌+◌, ◌-◌, ◌≤◌, List, ◌++◌, length, refl, ◌∙◌, ap, arith, drop, append_assoc}
use Rattle.std.specs.Prelude.{slice_range}
use Rattle.std.proofs.lemmas.List.{length-append, take-append-le, drop-append-le, length-drop}
use Rattle.std.proofs.Math.Seq.{drop-append_seam, take-length}
use Rattle.term_table.specs.declared.entries.TermRange.{TermRange}
use Rattle.term_table.specs.TermParts.{Parts}
use Rattle.term_table.specs.Entries.{AreWithin, HasTexts, Begins}

-- what lies in front stays
pub range_kept : (xs more : List ℕ) (a b : ℕ) → a ≤ b → b ≤ length xs → slice_range (xs ++ more) a b ≡ slice_range xs a b
range_kept xs more a b o w =
    let d = length-drop a xs in
    let e : b - a ≤ length (drop a xs) = omega (arith, o, w, d) in
    rw (drop-append-le a xs more (omega (arith, o, w)), take-append-le (b - a) (drop a xs) more e) refl

range_new : (xs t : List ℕ) (a b : ℕ) → a ≡ length xs → b ≡ length xs + length t → slice_range (xs ++ t) a b ≡ t
range_new xs t a b at end =
    let n : b - a ≡ length t = omega (arith, at, end) in
    rw (n, at, drop-append_seam xs t, take-length t) refl

-- the three texts of a term
pub record IsStored (new : List ℕ) (s : TermRange) (p : Parts) : Type 0 where
  pub within : AreWithin (length new) s
  pub texts : HasTexts new s p

pub stored : (a : List ℕ) (s : TermRange) (p : Parts) → s.from ≡ length a → s.text_end ≡ length (a ++ p.text) → s.datatype_end ≡ length ((a ++ p.text) ++ p.datatype)
    → s.to ≡ length (((a ++ p.text) ++ p.datatype) ++ p.tag) → IsStored (((a ++ p.text) ++ p.datatype) ++ p.tag) s p
stored a s p from text datatype to =
    let m = length-append a p.text in
    let n = length-append (a ++ p.text) p.datatype in
    let o = length-append ((a ++ p.text) ++ p.datatype) p.tag in
    let t : s.from ≤ s.text_end = omega (arith, from, text, m) in
    let d : s.text_end ≤ s.datatype_end = omega (arith, text, datatype, n) in
    record {
      within = record { text = t; datatype = d; tag = omega (arith, datatype, to, o); end = omega (arith, to) };
      texts = record {
        text =
            range_kept ((a ++ p.text) ++ p.datatype) p.tag s.from s.text_end t (omega (arith, text, n))
            ∙ range_kept (a ++ p.text) p.datatype s.from s.text_end t (omega (arith, text))
            ∙ range_new a p.text s.from s.text_end from (omega (arith, text, m));
        datatype =
            range_kept ((a ++ p.text) ++ p.datatype) p.tag s.text_end s.datatype_end d (omega (arith, datatype))
            ∙ range_new (a ++ p.text) p.datatype s.text_end s.datatype_end text (omega (arith, datatype, n));
        tag = range_new ((a ++ p.text) ++ p.datatype) p.tag s.datatype_end s.to datatype (omega (arith, to, o));
      };
    }

pub begins_then : (xs ys zs : List ℕ) → Begins xs ys → Begins ys zs → Begins xs zs
begins_then xs ys zs h k = (h.0 ++ k.0, k.1 ∙ ap (λ l. l ++ k.0) h.1 ∙ append_assoc xs h.0 k.0)
