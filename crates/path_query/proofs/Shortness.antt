-- A text has a byte or more for each label of the longest word, since each of these is a token.
use Rattle.std.proofs.Common.{◌≡◌, ℕ, ◌+◌, ◌≤◌, ◌^◌, List, [], ◌∷◌, length, Option, None, Some, false, inl, inr, refl, sym, ap, min, ◌∙◌, arith, lt-ltb, true≢false}
use Rattle.std.specs.Prelude.{nat_lt, ◌||◌}
use Rattle.std.proofs.lemmas.Bool.{cases_lt}
use Rattle.graph_spec.specs.declared.limits.Limits.{Limits}
use Rattle.path_spec.specs.Longest.{greater}
use Rattle.path_spec.specs.Trees.{star, plus, opt, child, below, Expr, only, or, Seq, last, then, Item, once, signed, Atom, label, any, group}
use Rattle.path_spec.specs.Tokens.{Token, slash, slashes, bar, opening, closing, sign, onto, seq_onto, item_onto, atom_onto, tokens}
use Rattle.path_expr.specs.WordLengths.{longest, seq_longest, item_longest, atom_longest, together}
use Rattle.path_expr.specs.Capped.{capped, greatest_length}
use Rattle.path_query.specs.Lengths.{IsBounded, IsNarrow}
use Rattle.path_query.specs.Depths.{nesting}
use Rattle.path_query.specs.Parsed.{SpellsPath, is_past}
use Rattle.path_query.proofs.LexerLaws.{tokens_few}
use Rattle.path_query.proofs.TokenPrefixLaws.{path_language}

-- the tokens in front of the others are at least as many as the labels of the longest word
abbrev Adds : Option ℕ → List Token → List Token → Type 0
Adds None others all = length others ≤ length all
Adds (Some n) others all = n + length others ≤ length all

none_adds : (o : Option ℕ) (others all : List Token) → Adds o others all → Adds None others all
none_adds None others all h = h
none_adds (Some n) others all h = omega (arith, h)

-- one token more between two parts
both_add : (a b : Option ℕ) (others more all : List Token) (t : Token) → Adds b others more → Adds a (t ∷ more) all → Adds (together a b) others all
both_add None b others more all t h k = let l = none_adds b others more h in omega (arith, l, k)
both_add (Some m) None others more all t h k = omega (arith, h, k)
both_add (Some m) (Some n) others more all t h k = omega (arith, h, k)

greater_adds : (a b : Option ℕ) (others more all : List Token) (t : Token) → Adds b others more → Adds a (t ∷ more) all → Adds (greater a b) others all
greater_adds None b others more all t h k = let l = none_adds b others more h in omega (arith, l, k)
greater_adds (Some m) None others more all t h k = omega (arith, h, k)
greater_adds (Some m) (Some n) others more all t h k = omega (arith, h, k)

fewer_add : (o : Option ℕ) (others all : List Token) (t : Token) → Adds o (t ∷ others) all → Adds o others all
fewer_add None others all t h = omega (arith, h)
fewer_add (Some n) others all t h = omega (arith, h)

more_add : (o : Option ℕ) (others all : List Token) (t : Token) → Adds o others all → Adds o others (t ∷ all)
more_add None others all t h = omega (arith, h)
more_add (Some n) others all t h = omega (arith, h)

any_adds : (o : Option ℕ) (others all : List Token) (t : Token) → Adds o (t ∷ others) all → Adds None others all
any_adds o others all t h = none_adds o others all (fewer_add o others all t h)

mutual
  expr_adds : (e : Expr) (r : List Token) → Adds (longest e) r (onto e r)
  expr_adds (only s) r = seq_adds s r
  expr_adds (or s e) r =
      greater_adds (seq_longest s) (longest e) r (onto e r) (seq_onto s (bar ∷ onto e r)) bar (expr_adds e r) (seq_adds s (bar ∷ onto e r))

  seq_adds : (s : Seq) (r : List Token) → Adds (seq_longest s) r (seq_onto s r)
  seq_adds (last i) r = item_adds i r
  seq_adds (then i child s) r =
      both_add (item_longest i) (seq_longest s) r (seq_onto s r) (item_onto i (slash ∷ seq_onto s r)) slash (seq_adds s r) (item_adds i (slash ∷ seq_onto s r))
  seq_adds (then i below s) r =
      let all = item_onto i (slashes ∷ seq_onto s r) in
      none_adds (together (item_longest i) (seq_longest s)) r all
      (both_add (item_longest i) (seq_longest s) r (seq_onto s r) all slashes (seq_adds s r) (item_adds i (slashes ∷ seq_onto s r)))

  item_adds : (i : Item) (r : List Token) → Adds (item_longest i) r (item_onto i r)
  item_adds (once a) r = atom_adds a r
  item_adds (signed a star) r = any_adds (atom_longest a) r (atom_onto a (sign star ∷ r)) (sign star) (atom_adds a (sign star ∷ r))
  item_adds (signed a plus) r = any_adds (atom_longest a) r (atom_onto a (sign plus ∷ r)) (sign plus) (atom_adds a (sign plus ∷ r))
  item_adds (signed a opt) r = fewer_add (atom_longest a) r (atom_onto a (sign opt ∷ r)) (sign opt) (atom_adds a (sign opt ∷ r))

  atom_adds : (a : Atom) (r : List Token) → Adds (atom_longest a) r (atom_onto a r)
  atom_adds (label t) r = omega arith
  atom_adds any r = omega arith
  atom_adds (group e) r =
      let inner = onto e (closing ∷ r) in
      more_add (longest e) r inner opening (fewer_add (longest e) r inner closing (expr_adds e (closing ∷ r)))

within_bytes : (o : Option ℕ) (all : List Token) (most : ℕ) → Adds o [] all → length all ≤ most → IsBounded o most
within_bytes None all most h le = tt
within_bytes (Some n) all most h le = omega (arith, h, le)

not_past : (limits : Limits) (text : List ℕ) → is_past limits text ≡ false → length text ≤ limits.expr_bytes
not_past limits text fits = elim (cases_lt limits.expr_bytes (length text)) [
  | inl past ↦ absurd (true≢false (sym (ap (λ b. b || nat_lt limits.expr_depth (nesting text)) (lt-ltb limits.expr_bytes (length text) past)) ∙ fits))
  | inr within ↦ within
]

-- a text within the limits has at most 2^30 bytes
pub few_bytes : (limits : Limits) (text : List ℕ) → is_past limits text ≡ false → length text ≤ 2 ^ 30
few_bytes limits text fits = let within = not_past limits text fits in let most = limits.expr_bytes_bounded in omega (arith, within, most)

-- a length that fits into 32 bits fits into 64
pub uncapped : (o : Option ℕ) → IsBounded o (2 ^ 30) → capped greatest_length o ≡ o
uncapped None h = refl
uncapped (Some n) h = let e : min n greatest_length ≡ n = omega (arith, h) in ap Some e

-- what a text within the limits spells
pub narrow : (limits : Limits) (text : List ℕ) (e : Expr) → is_past limits text ≡ false → SpellsPath text e → IsNarrow e
narrow limits text e fits h =
    let few : length (tokens e) ≤ length text = tokens_few path_language (tokens e) text h in
    let short : length text ≤ 2 ^ 30 = few_bytes limits text fits in
    within_bytes (longest e) (tokens e) (2 ^ 30) (expr_adds e []) (omega arith)
