-- Files by name in a list.
use Rattle.std.proofs.Common.{◌≡◌, ℕ, suc, ◌+◌, ◌≤◌, List, [], ◌∷◌, length, Option, None, Some, true, false, refl, sym, ap, ◌∙◌, subst, arith, map, drop, take_all, length-drop, ◌-◌, ◌++◌, take, get_or, cond}
use Rattle.std.specs.Prelude.{Vec, slice_get, option_map, is_some, IsSome, bytes_eq}
use Rattle.std.specs.Global.{Global}
use Rattle.std.specs.List.{position, position_from}
use Rattle.std.proofs.lemmas.Iterator.Adapters.{position_from-zero}
use Rattle.std.proofs.lemmas.Option.{get_or_from_slice_get}
use Rattle.std.proofs.lemmas.List.{drop-drop, drop_all, take-append-drop}
use Rattle.std.specs.Io.KnownBytes.{Consumes, IsAtEnd}
use Rattle.px_base.specs.Files.{content_of}
use Rattle.px_base.specs.InMemory.{file_of, left_of, IsAt}

-- the first file of that name, and its place
pub record FoundAt (files : List (List ℕ × Vec ℕ Global)) (name : List ℕ) (at : ℕ) : Type 0 where
  pub file : List ℕ × Vec ℕ Global
  pub at_is : slice_get files at ≡ Some file
  pub content : content_of (map file_of files) name ≡ Some file.1.items

first_is : (x : List ℕ × Vec ℕ Global) (files : List (List ℕ × Vec ℕ Global)) (name : List ℕ) → bytes_eq x.0 name ≡ true → FoundAt (x ∷ files) name 0
first_is x files name e = record { file = x; at_is = refl; content = ap (λ t. cond t (Some x.1.items) (content_of (map file_of files) name)) e }

one_later : (x : List ℕ × Vec ℕ Global) (files : List (List ℕ × Vec ℕ Global)) (name : List ℕ) (at : ℕ) → bytes_eq x.0 name ≡ false → FoundAt files name at → FoundAt (x ∷ files) name (suc at)
one_later x files name at e f = record {
  file = f.file;
  at_is = f.at_is;
  content = ap (λ t. cond t (Some x.1.items) (content_of (map file_of files) name)) e ∙ f.content;
}

found_from : (i : ℕ) (files : List (List ℕ × Vec ℕ Global)) (name : List ℕ) (at : ℕ) → position_from (λ f. bytes_eq f.0 name) i files ≡ Some at
    → (k : ℕ) × (at ≡ i + k) × FoundAt files name k
found_from i [] name at e = cc
found_from i (x ∷ files) name at e =
    elim (bytes_eq x.0 name) as (λ b. bytes_eq x.0 name ≡ b → cond b (Some i) (position_from (λ f. bytes_eq f.0 name) (i + 1) files) ≡ Some at → (k : ℕ) × (at ≡ i + k) × FoundAt (x ∷ files) name k) [
      | true ↦ λ p q. let same : i ≡ at = cc in (0, omega arith, first_is x files name p)
      | false ↦ λ p q. let later = found_from (i + 1) files name at q in (suc later.0, omega (arith, later.1), one_later x files name later.0 p later.2)
    ] refl e

missing_from : (i : ℕ) (files : List (List ℕ × Vec ℕ Global)) (name : List ℕ) → position_from (λ f. bytes_eq f.0 name) i files ≡ None → content_of (map file_of files) name ≡ None
missing_from i [] name e = refl
missing_from i (x ∷ files) name e =
    elim (bytes_eq x.0 name) as (λ b. cond b (Some i) (position_from (λ f. bytes_eq f.0 name) (i + 1) files) ≡ None → cond b (Some x.1.items) (content_of (map file_of files) name) ≡ None) [
      | true ↦ λ q. cc
      | false ↦ λ q. missing_from (i + 1) files name q
    ] e

pub found : (files xs : List (List ℕ × Vec ℕ Global)) (name : List ℕ) (at : ℕ) → xs ≡ files → Some at ≡ position (λ f. bytes_eq f.0 name) xs → FoundAt files name at
found files xs name at same e =
    let p : position_from (λ f. bytes_eq f.0 name) 0 files ≡ Some at = sym (e ∙ ap (position (λ f. bytes_eq f.0 name)) same ∙ position_from-zero (λ f. bytes_eq f.0 name) files) in
    let f = found_from 0 files name at p in
    let z : f.0 ≡ at = omega (arith, f.1) in
    subst (FoundAt files name) z f.2

pub missing : (files xs : List (List ℕ × Vec ℕ Global)) (name : List ℕ) → xs ≡ files → None ≡ position (λ f. bytes_eq f.0 name) xs → content_of (map file_of files) name ≡ None
missing files xs name same e =
    missing_from 0 files name (sym (e ∙ ap (position (λ f. bytes_eq f.0 name)) same ∙ position_from-zero (λ f. bytes_eq f.0 name) files))

-- what is left of a file of the list
pub left_at : (files : List (List ℕ × Vec ℕ Global)) (current : Option ℕ) (at next : ℕ) (x : List ℕ × Vec ℕ Global) → current ≡ Some at → slice_get files at ≡ Some x
    → left_of files current next ≡ Some (drop next x.1.items)
left_at files current at next x e f = ap (λ c. left_of files c next) e ∙ ap (option_map (λ f. drop next f.1.items)) f

-- the open file, as it is read from the list
pub record OpenAt (files : List (List ℕ × Vec ℕ Global)) (at next : ℕ) (x : List ℕ × Vec ℕ Global) : Type 0 where
  pub at_is : slice_get files at ≡ Some x
  pub within : next ≤ length x.1.items

pub open_at : (files : List (List ℕ × Vec ℕ Global)) (current : Option ℕ) (at next : ℕ) (x : List ℕ × Vec ℕ Global) → current ≡ Some at → IsAt files current next
    → x ≡ get_or files at x → OpenAt files at next x
open_at files current at next x e is read =
    let f = subst (λ c. IsAt files c next) e is in
    let same : f.0 ≡ x = sym (read ∙ get_or_from_slice_get files at f.0 x f.1) in
    record { at_is = subst (λ y. slice_get files at ≡ Some y) same f.1; within = subst (λ y. next ≤ length y.1.items) same f.2 }

pub at_next : (files : List (List ℕ × Vec ℕ Global)) (current : Option ℕ) (at next : ℕ) (x : List ℕ × Vec ℕ Global) → current ≡ Some at → slice_get files at ≡ Some x
    → next ≤ length x.1.items → IsAt files current next
at_next files current at next x e f h = subst (λ c. IsAt files c next) (sym e) (x, f, h)

-- some bytes of the open file were read
pub read_part : (before after : Option (List ℕ)) (bytes part : List ℕ) (next count : ℕ) → before ≡ Some (drop next bytes) → after ≡ Some (drop (next + count) bytes)
    → part ≡ take count (drop next bytes) → Consumes before after part
read_part before after bytes part next count b a p =
    let whole : drop next bytes ≡ take count (drop next bytes) ++ drop (next + count) bytes =
    sym (ap (λ r. take count (drop next bytes) ++ r) (sym (drop-drop count next bytes)) ∙ take-append-drop count (drop next bytes)) in
    rw (b, a, p) whole

pub read_end : (after : Option (List ℕ)) (bytes : List ℕ) (next : ℕ) → after ≡ Some (drop next bytes) → length bytes ≤ next → IsAtEnd after
read_end after bytes next a h = subst IsAtEnd (sym a) (drop_all next bytes h)

pub slice_from : (bytes xs : List ℕ) (next : ℕ) → xs ≡ bytes → take (length xs - next) (drop next xs) ≡ drop next bytes
slice_from bytes xs next e =
    ap (λ ys. take (length ys - next) (drop next ys)) e ∙ take_all (length bytes - next) (drop next bytes) (rw length-drop (omega arith))

-- a file that was found is open, and all of it is left
pub is_open : (files : List (List ℕ × Vec ℕ Global)) (name : List ℕ) (at : ℕ) → FoundAt files name at → is_some (left_of files (Some at) 0) ≡ true
is_open files name at f = ap is_some (left_at files (Some at) at 0 f.file refl f.at_is)

pub opens : (files : List (List ℕ × Vec ℕ Global)) (name : List ℕ) (at : ℕ) → FoundAt files name at
    → IsSome (left_of files (Some at) 0) × (left_of files (Some at) 0 ≡ content_of (map file_of files) name)
opens files name at f = (is_open files name at f, left_at files (Some at) at 0 f.file refl f.at_is ∙ sym f.content)
