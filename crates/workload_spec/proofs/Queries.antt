-- The queries of a made script are spelled by their texts.
use Rattle.std.proofs.Common.{◌≡◌, ◌∙◌, ℕ, true, List, [], ◌∷◌, refl, sym, ap, inl, inr, arith}
use Rattle.std.specs.Prelude.{◌&&◌, codes, slice_index}
use Rattle.std.specs.List.{list_all}
use Rattle.std.specs.Str.{chars}
use Rattle.std.proofs.Math.Utf8.{encodes, scalar, scalars}
use Rattle.std.proofs.lemmas.Str.{chars-encodes}
use Rattle.graph_spec.specs.Words.{is_name}
use Rattle.triples_read.specs.Characters.{is_iri_char}
use Rattle.triples_read.specs.Terminals.{Many, IriPiece}
use Rattle.triples_read.specs.Canonical.{iri_text, iri_spelling}
use Rattle.path_query.specs.Labels.{IsPlainLabel, SpellsLabel}
use Rattle.path_query.specs.Parsed.{SpellsPath}
use Rattle.path_query.proofs.LabelBytes.{both}
use Rattle.path_spec.specs.Trees.{Expr, child, below, only, last, then, once, label}
use Rattle.branch_spec.specs.Trees as tree
use Rattle.branch_text.specs.Parsed.{SpellsBranch}

-- ---- labels

-- characters that stand for themselves in an IRIREF
pub pieces : (cs : List ℕ) → list_all (λ c. scalar c && is_iri_char c) cs ≡ true → Many IriPiece cs cs
pieces [] h = refl
pieces (c ∷ cs) h =
    let a = both (scalar c && is_iri_char c) (list_all (λ c. scalar c && is_iri_char c) cs) h in
    let b = both (scalar c) (is_iri_char c) a.0 in
    (c ∷ [], cs, refl, inl (refl, b.0, b.1), pieces cs a.1)

-- how an IRI of these characters is spelled
spelling_is : (v iri t : List ℕ) → iri ≡ encodes v → scalars v ≡ true → t ≡ encodes (iri_text v) → t ≡ iri_spelling iri
spelling_is v iri t is ok e = e ∙ ap (λ cs. encodes (iri_text cs)) (sym (ap chars is ∙ chars-encodes v ok))

first_predicate : SpellsLabel (codes "<http://e/p0>") (codes "<http://e/p0>")
unfolding lib.Utf8.encode
first_predicate = inr (
  codes "http://e/p0",
  (omega arith, codes "<http://e/p0>", refl, (codes "http://e/p0", (codes "http://e/p0", refl, pieces (codes "http://e/p0") refl), refl)),
  spelling_is (codes "http://e/p0") (codes "http://e/p0") (codes "<http://e/p0>") refl refl refl,
)

second_predicate : SpellsLabel (codes "<http://e/p1>") (codes "<http://e/p1>")
unfolding lib.Utf8.encode
second_predicate = inr (
  codes "http://e/p1",
  (omega arith, codes "<http://e/p1>", refl, (codes "http://e/p1", (codes "http://e/p1", refl, pieces (codes "http://e/p1") refl), refl)),
  spelling_is (codes "http://e/p1") (codes "http://e/p1") (codes "<http://e/p1>") refl refl refl,
)

plain_iri : IsPlainLabel (codes "iri")
plain_iri = (refl, (λ e. omega (arith, ap (λ l. slice_index l 0) e)), (λ e. omega (arith, ap (λ l. slice_index l 0) e)), (λ e. omega (arith, ap (λ l. slice_index l 0) e)))

plain_literal : IsPlainLabel (codes "literal")
plain_literal = (refl, (λ e. omega (arith, ap (λ l. slice_index l 0) e)), (λ e. omega (arith, ap (λ l. slice_index l 0) e)), (λ e. omega (arith, ap (λ l. slice_index l 0) e)))

-- a name of two bytes that begins with `g`
pub plain_letter : (d : ℕ) → is_name (103 ∷ d ∷ []) ≡ true → IsPlainLabel (103 ∷ d ∷ [])
plain_letter d h = (h, (λ e. omega (arith, ap (λ l. slice_index l 0) e)), (λ e. omega (arith, ap (λ l. slice_index l 0) e)), (λ e. omega (arith, ap (λ l. slice_index l 0) e)))

-- ---- paths

abbrev pub long_path : Expr
long_path = only (then (once (label (codes "<http://e/p0>"))) child (then (once (label (codes "iri"))) child (last (once (label (codes "<http://e/p1>"))))))

pub long_spelled : SpellsPath (codes "<http://e/p0>/iri/<http://e/p1>") long_path
long_spelled = (
  [],
  codes "<http://e/p0>",
  codes "/iri/<http://e/p1>",
  refl,
  first_predicate,
  refl,
  (
    [],
    codes "/",
    codes "iri/<http://e/p1>",
    refl,
    refl,
    refl,
    (
      [],
      codes "iri",
      codes "/<http://e/p1>",
      refl,
      inl (plain_iri, refl),
      refl,
      ([], codes "/", codes "<http://e/p1>", refl, refl, refl, ([], codes "<http://e/p1>", [], refl, second_predicate, tt, refl, refl), refl),
      refl,
    ),
    refl,
  ),
  refl,
)

abbrev pub deep_path : Expr
deep_path = only (then (once (label (codes "g0"))) below (last (once (label (codes "literal")))))

pub deep_spelled : SpellsPath (codes "g0//literal") deep_path
deep_spelled = (
  [],
  codes "g0",
  codes "//literal",
  refl,
  inl (plain_letter 48 refl, refl),
  refl,
  ([], codes "//", codes "literal", refl, refl, tt, ([], codes "literal", [], refl, inl (plain_literal, refl), tt, refl, refl), refl),
  refl,
)

-- ---- the branching query

abbrev pub denied : tree.Branch
denied = tree.first_step (tree.step (tree.label (codes "iri")) (tree.pred (tree.one (tree.and
    (tree.rel tree.child (tree.step (tree.label (codes "<http://e/p0>")) tree.none) tree.no_step)
    (tree.lone (tree.fails (tree.one (tree.lone (tree.rel tree.child (tree.step (tree.label (codes "<http://e/p1>")) tree.none) tree.no_step)))))
    )) tree.none)) tree.no_step

pub denied_spelled : SpellsBranch (codes "iri[/<http://e/p0> and not(/<http://e/p1>)]") denied
denied_spelled = (
  [],
  codes "iri",
  codes "[/<http://e/p0> and not(/<http://e/p1>)]",
  refl,
  inl (plain_iri, refl),
  (λ _. refl),
  (
    [],
    codes "[",
    codes "/<http://e/p0> and not(/<http://e/p1>)]",
    refl,
    refl,
    tt,
    (
      [],
      codes "/",
      codes "<http://e/p0> and not(/<http://e/p1>)]",
      refl,
      refl,
      refl,
      (
        [],
        codes "<http://e/p0>",
        codes " and not(/<http://e/p1>)]",
        refl,
        first_predicate,
        (λ _. refl),
        (
          codes " ",
          codes "and",
          codes " not(/<http://e/p1>)]",
          refl,
          refl,
          refl,
          (
            codes " ",
            codes "not",
            codes "(/<http://e/p1>)]",
            refl,
            refl,
            refl,
            (
              [],
              codes "(",
              codes "/<http://e/p1>)]",
              refl,
              refl,
              tt,
              (
                [],
                codes "/",
                codes "<http://e/p1>)]",
                refl,
                refl,
                refl,
                (
                  [],
                  codes "<http://e/p1>",
                  codes ")]",
                  refl,
                  second_predicate,
                  (λ _. refl),
                  (
                    [],
                    codes ")",
                    codes "]",
                    refl,
                    refl,
                    tt,
                    ([], codes "]", [], refl, refl, tt, refl, refl),
                    refl,
                  ),
                  refl,
                ),
                refl,
              ),
              refl,
            ),
            refl,
          ),
          refl,
        ),
        refl,
      ),
      refl,
    ),
    refl,
  ),
  refl,
)
