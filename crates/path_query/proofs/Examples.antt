-- The definitions at worked values, and at near misses.
use Rattle.std.proofs.Common.{◌≡◌, inl, inr, ◌++◌, ℕ, true, false, Bool, List, [], ◌∷◌, refl, sym, ap, subst, ◌∙◌, true≢false, ◌||◌, arith}
use Rattle.std.specs.Prelude.{slice_index, codes, ◌==◌, ◌&&◌}
use Rattle.std.specs.List.{list_all, list_any}
use Rattle.std.specs.Str.{chars}
use Rattle.std.proofs.Math.Utf8.{encodes, scalar, scalars}
use Rattle.std.proofs.lemmas.List.{append_cancel_right}
use Rattle.std.proofs.lemmas.Str.{encodes_same, chars-encodes}
use Rattle.triples_read.specs.Characters.{is_iri_char}
use Rattle.triples_read.specs.Terminals.{Many, IriPiece}
use Rattle.triples_read.specs.Canonical.{iri_text, iri_spelling}
use Rattle.triples_read.proofs.Basics.{cons-tail}
use Rattle.path_query.specs.Labels.{IsPlainLabel, SpellsLabel}
use Rattle.path_query.proofs.LabelBytes.{both}
use Rattle.path_query.proofs.LabelLaws.{iri_opens}
use Rattle.path_query.specs.Depths.{nesting}

pub plain_a : IsPlainLabel (codes "a")
plain_a = (refl, (λ e. cc), (λ e. cc), (λ e. cc))

plain_b : IsPlainLabel (codes "b")
plain_b = (refl, (λ e. cc), (λ e. cc), (λ e. cc))

plain_iri : IsPlainLabel (codes "iri")
plain_iri = (refl, (λ e. omega (arith, ap (λ l. slice_index l 0) e)), (λ e. omega (arith, ap (λ l. slice_index l 0) e)), (λ e. omega (arith, ap (λ l. slice_index l 0) e)))

-- characters that stand for themselves in an IRIREF
pieces_then : (cs more w : List ℕ) → list_all (λ c. scalar c && is_iri_char c) cs ≡ true → Many IriPiece more w → Many IriPiece (cs ++ more) (cs ++ w)
pieces_then [] more w h m = m
pieces_then (c ∷ cs) more w h m =
    let a = both (scalar c && is_iri_char c) (list_all (λ c. scalar c && is_iri_char c) cs) h in
    let b = both (scalar c) (is_iri_char c) a.0 in
    (c ∷ [], cs ++ more, refl, inl (refl, b.0, b.1), pieces_then cs more w a.1 m)

-- how an IRI of these characters is spelled
spelling_is : (v iri t : List ℕ) → iri ≡ encodes v → scalars v ≡ true → t ≡ encodes (iri_text v) → t ≡ iri_spelling iri
spelling_is v iri t is ok e = e ∙ ap (λ cs. encodes (iri_text cs)) (sym (ap chars is ∙ chars-encodes v ok))

-- an IRIREF is a label with its brackets
pub iri_a : SpellsLabel (codes "<http://e/a>") (codes "<http://e/a>")
unfolding lib.Utf8.encode
iri_a = inr (
  codes "http://e/a",
  (omega arith, codes "<http://e/a>", refl, (codes "http://e/a", (codes "http://e/a", refl, pieces_then (codes "http://e/a") [] [] refl refl), refl)),
  spelling_is (codes "http://e/a") (codes "http://e/a") (codes "<http://e/a>") refl refl refl,
)

iri_b : SpellsLabel (codes "<http://e/b>") (codes "<http://e/b>")
unfolding lib.Utf8.encode
iri_b = inr (
  codes "http://e/b",
  (omega arith, codes "<http://e/b>", refl, (codes "http://e/b", (codes "http://e/b", refl, pieces_then (codes "http://e/b") [] [] refl refl), refl)),
  spelling_is (codes "http://e/b") (codes "http://e/b") (codes "<http://e/b>") refl refl refl,
)

-- of two ways to write one IRI the label is the same
pub iri_escaped : SpellsLabel (codes "<http://e/\\u0061>") (codes "<http://e/a>")
unfolding lib.Utf8.encode
iri_escaped = inr (
  codes "http://e/a",
  (
    omega arith,
    codes "<http://e/\\u0061>",
    refl,
    (
      codes "http://e/a",
      (
        codes "http://e/\\u0061",
        refl,
        pieces_then (codes "http://e/") (codes "\\u0061") (codes "a") refl
            (codes "\\u0061", [], refl, inr (117, codes "0061", refl, inl (refl, refl), (refl, (refl, (refl, (refl, tt)))), refl, refl), refl),
      ),
      refl,
    ),
  ),
  spelling_is (codes "http://e/a") (codes "http://e/a") (codes "<http://e/a>") refl refl refl,
)

-- the empty IRI is one
iri_empty : SpellsLabel (codes "<>") (codes "<>")
unfolding lib.Utf8.encode
iri_empty = inr ([], (omega arith, codes "<>", refl, ([], ([], refl, refl), refl)), spelling_is [] [] (codes "<>") refl refl refl)

-- the first character of an IRIREF stands for itself, or begins an escape with a backslash (92)
piece_first : (x : ℕ) (xs v : List ℕ) → (x == 92) ≡ false → Many IriPiece (x ∷ xs) v → (is_iri_char x ≡ true) × (w : List ℕ) × Many IriPiece xs w
piece_first x xs [] h m = cc
piece_first x xs (c ∷ v) h (piece, rest, parts, inl (one, ok, class), m) =
    let e : x ∷ xs ≡ c ∷ rest = parts ∙ ap (λ p. p ++ rest) one in
    let first : x ≡ c = cc e in
    (ap is_iri_char first ∙ class, v, subst (λ r. Many IriPiece r v) (sym (cons-tail e)) m)
piece_first x xs (c ∷ v) h (piece, rest, parts, inr (u, hs, spelled, which, digits, is, ok), m) =
    let e : x ∷ xs ≡ 92 ∷ u ∷ (hs ++ rest) = parts ∙ ap (λ p. p ++ rest) spelled in
    let first : x ≡ 92 = cc e in
    absurd (true≢false (ap (λ y. y == 92) (sym first) ∙ h))

pieces_after : (cs more v : List ℕ) → list_any (λ c. c == 92) cs ≡ false → Many IriPiece (cs ++ more) v → (w : List ℕ) × Many IriPiece more w
pieces_after [] more v h m = (v, m)
pieces_after (x ∷ cs) more v h m =
    let e = neither (x == 92) (list_any (λ c. c == 92) cs) h in
    let p = piece_first x (cs ++ more) v e.0 m in
    pieces_after cs more p.1 e.1 p.2
  where
    neither : (a b : Bool) → (a || b) ≡ false → (a ≡ false) × (b ≡ false)
    neither true b h = absurd (true≢false h)
    neither false b h = (refl, h)

-- a blank may not stand inside the brackets
no_blank_inside : (t : List ℕ) → SpellsLabel (codes "<http://e/a b>") t → ⊥
unfolding lib.Utf8.encode
no_blank_inside t (inl (l, e)) = true≢false (sym l.0)
no_blank_inside t (inr (iri, (le, s, prefix, (v, (body, spelled, m), is)), e)) =
    let whole : 60 ∷ (body ++ 62 ∷ []) ≡ codes "<http://e/a b>" = sym spelled ∙ encodes_same s (codes "<http://e/a b>") (sym prefix) in
    let inside : body ≡ codes "http://e/a b" = append_cancel_right body (codes "http://e/a b") (62 ∷ []) (cons-tail whole) in
    let p = pieces_after (codes "http://e/a") (codes " b") v refl (subst (λ x. Many IriPiece x v) inside m) in
    true≢false (sym (piece_first 32 (codes "b") p.0 refl p.1).0)

-- and the closing one is needed
no_open_bracket : (t : List ℕ) → SpellsLabel (codes "<http://e/a") t → ⊥
unfolding lib.Utf8.encode
no_open_bracket t (inl (l, e)) = true≢false (sym l.0)
no_open_bracket t (inr (iri, (le, s, prefix, (v, (body, spelled, m), is)), e)) =
    let whole : 60 ∷ (body ++ 62 ∷ []) ≡ codes "<http://e/a" = sym spelled ∙ encodes_same s (codes "<http://e/a") (sym prefix) in
    true≢false (sym (closed (60 ∷ body)) ∙ ap (list_any (λ c. c == 62)) whole)
  where
    either : (a b : Bool) → b ≡ true → (a || b) ≡ true
    either true b h = refl
    either false b h = h

    closed : (xs : List ℕ) → list_any (λ c. c == 62) (xs ++ 62 ∷ []) ≡ true
    closed [] = refl
    closed (x ∷ xs) = either (x == 62) (list_any (λ c. c == 62) (xs ++ 62 ∷ [])) (closed xs)

-- a word of the query languages is none
pub no_label_and : (t : List ℕ) → SpellsLabel (codes "and") t → ⊥
no_label_and t (inl (l, e)) = l.1 refl
no_label_and t (inr (iri, h, e)) = true≢false (sym (iri_opens (codes "and") 3 iri h))

-- brackets nest, and those between '<' and '>' don't count, nor those behind a '<' that isn't closed
depth_none : nesting (codes "a//b*") ≡ 0
depth_none = refl

depth_two : nesting (codes "(a[b])(c)") ≡ 2
depth_two = refl

depth_quoted : nesting (codes "(<((>)") ≡ 1
depth_quoted = refl

depth_open : nesting (codes "<((a") ≡ 0
depth_open = refl

-- what was closed before counts against what is opened later
depth_closed : nesting (codes "))((") ≡ 0
depth_closed = refl
