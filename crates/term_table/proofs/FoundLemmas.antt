-- What a walk along a chain finds is where the term stands.
use Rattle.std.proofs.Common.{◌≡◌, ℕ, zero, suc, ◌<◌, Bool, true, false, cond, List, [], ◌∷◌, length, Some, None, option_map, map, refl, sym, ap, ◌∙◌, arith, true≢false}
use Rattle.std.specs.Prelude.{position, is_some, bytes_eq, if◌then◌else◌}
use Rattle.std.specs.Map.{keys_of, lookup}
use Rattle.hash_index.specs.Items.{Items}
use Rattle.triples_read.specs.declared.term.Term.{Term}
use Rattle.triples_read.specs.declared.term.Term.TheVariants.{Iri, Blank, Literal}
use Rattle.triples_read.specs.Lines.{xsd_string}
use Rattle.term_table.specs.declared.parts.Sort.TheVariants as sort
use Rattle.term_table.specs.declared.entries.Entry.{Entry}
use Rattle.term_table.specs.Terms.{same_term}
use Rattle.term_table.specs.TermParts.{parts_of, term_of}
use Rattle.term_table.specs.Entries.{entry_at, parts_in, terms_of, IsTermTable, LackParts}
use Rattle.term_table.specs.FoundTerms.{IsFoundAs}
use Rattle.term_table.proofs.SameTerms.{same_bytes, term_is, term_same}
use Rattle.term_table.proofs.Positions.{position-cons}

-- the datatype of strings is put back
untagged_again : (text datatype : List ℕ) (b : Bool) → bytes_eq datatype xsd_string ≡ b
    → term_of (if b then record { sort = sort.Simple; text = text; datatype = []; tag = [] } else record { sort = sort.Plain; text = text; datatype = datatype; tag = [] }) ≡ Literal text datatype None
untagged_again text datatype true is = ap (λ (d : List ℕ). Literal text d None) (sym (same_bytes datatype xsd_string is))
untagged_again text datatype false is = refl

pub term_again : (x : Term) → term_of (parts_of x) ≡ x
term_again (Iri text) = refl
term_again (Blank text) = refl
term_again (Literal text datatype None) = untagged_again text datatype (bytes_eq datatype xsd_string) refl
term_again (Literal text datatype (Some tag)) = refl

pub parts_again : (x : Term) → parts_of (term_of (parts_of x)) ≡ parts_of x
parts_again x = ap parts_of (term_again x)

not_true : (b : Bool) → (b ≡ true → ⊥) → b ≡ false
not_true true h = absurd (h refl)
not_true false h = refl

-- ---- the first entry that passes

record IsFirst (f : Entry → Term × ℕ) (p : Term → Bool) (es : List Entry) (i : ℕ) : Type 0 where
  place : position p (keys_of (map f es)) ≡ Some i
  number : lookup p (map f es) ≡ Some (f (entry_at es i)).1

first_is : (f : Entry → Term × ℕ) (p : Term → Bool) (es : List Entry) (i : ℕ) → i < length es → p (f (entry_at es i)).0 ≡ true
    → ((j : ℕ) → j < i → p (f (entry_at es j)).0 ≡ false) → IsFirst f p es i
first_is f p [] i h here before = absurd (omega (arith, h))
first_is f p (e ∷ es) zero h here before = record {
  place = position-cons p (f e).0 (keys_of (map f es)) ∙ ap (λ b. cond b (Some 0) (option_map suc (position p (keys_of (map f es))))) here;
  number = ap (λ b. cond b (Some (f e).1) (lookup p (map f es))) here;
}
first_is f p (e ∷ es) (suc i) h here before =
    let rest = first_is f p es i (omega (arith, h)) here (λ j l. before (suc j) (omega (arith, l))) in
    let other = before 0 (omega arith) in
    record {
      place = position-cons p (f e).0 (keys_of (map f es)) ∙ ap (λ b. cond b (Some 0) (option_map suc (position p (keys_of (map f es))))) other ∙ ap (option_map suc) rest.place;
      number = ap (λ b. cond b (Some (f e).1) (lookup p (map f es))) other ∙ rest.number;
    }

record IsNone (f : Entry → Term × ℕ) (p : Term → Bool) (es : List Entry) : Type 0 where
  place : position p (keys_of (map f es)) ≡ None
  number : lookup p (map f es) ≡ None

none_is : (f : Entry → Term × ℕ) (p : Term → Bool) (es : List Entry) → ((j : ℕ) → j < length es → p (f (entry_at es j)).0 ≡ false) → IsNone f p es
none_is f p [] others = record { place = refl; number = refl }
none_is f p (e ∷ es) others =
    let rest = none_is f p es (λ j l. others (suc j) (omega (arith, l))) in
    let other = others 0 (omega arith) in
    record {
      place = position-cons p (f e).0 (keys_of (map f es)) ∙ ap (λ b. cond b (Some 0) (option_map suc (position p (keys_of (map f es))))) other ∙ ap (option_map suc) rest.place;
      number = ap (λ b. cond b (Some (f e).1) (lookup p (map f es))) other ∙ rest.number;
    }

-- ---- terms

module _ (arena : List ℕ) (index : Items Entry) (table : IsTermTable arena index) (x : Term) where
  -- an entry of the same term has its parts
  has_parts : (j : ℕ) → j < length index.items → same_term x (term_of (parts_in arena (entry_at index.items j))) ≡ true → parts_in arena (entry_at index.items j) ≡ parts_of x
  has_parts j l same = sym (table.proper j l) ∙ ap parts_of (sym (term_is x _ same))

  pub found_as : (i : ℕ) → i < length index.items → parts_in arena (entry_at index.items i) ≡ parts_of x
      → IsFoundAs (terms_of arena index.items) x (Some (record { place = i; number = (entry_at index.items i).number }))
  found_as i h parts =
      let here : same_term x (term_of (parts_in arena (entry_at index.items i))) ≡ true = ap (λ p. same_term x (term_of p)) parts ∙ ap (same_term x) (term_again x) ∙ term_same x in
      let first = first_is (λ e. (term_of (parts_in arena e), e.number)) (same_term x) index.items i h here
      (λ j l. not_true _ (λ same.
      let within : j < length index.items = omega (arith, l, h) in
      let one : j ≡ i = table.apart j i within h (has_parts j within same ∙ sym parts) in
      omega (arith, one, l))) in
      record { place = sym first.place; number = sym first.number }

  pub absent_as : LackParts arena index.items (parts_of x) → IsFoundAs (terms_of arena index.items) x None
  absent_as none =
      let all = none_is (λ e. (term_of (parts_in arena e), e.number)) (same_term x) index.items (λ j l. not_true _ (λ same. none j l (has_parts j l same))) in
      record { place = sym all.place; number = sym all.number }

  -- what isn't found is absent
  pub absent_parts : lookup (same_term x) (terms_of arena index.items) ≡ None → LackParts arena index.items (parts_of x)
  absent_parts none i h parts =
      let f = found_as i h parts in
      true≢false (ap is_some (f.number ∙ none))
