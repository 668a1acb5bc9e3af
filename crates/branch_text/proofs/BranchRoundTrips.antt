-- What is written is read again as the same tree.
use Rattle.std.proofs.Common.{◌≡◌, ℕ, true, List, [], ◌∷◌, ◌++◌, refl, sym, subst, true≢false}
use Rattle.std.specs.Prelude.{IsTrue}
use Rattle.std.specs.List.{list_all}
use Rattle.path_spec.specs.Spelling.{EndsSlash}
use Rattle.path_query.specs.Labels.{SpellsLabel}
use Rattle.path_query.proofs.PathRoundTrips.{label_again}
use Rattle.branch_spec.specs.Trees as tree
use Rattle.branch_spec.specs.Relaxed.{relax, relax_step, relax_preds, relax_or, relax_and, relax_cond, relax_chain}
use Rattle.branch_spec.specs.Tokens.{Token, lab, underscore, axis, left, right, opening, closing, not_word, and_word, or_word, nothing, test_onto, step_onto, preds_onto, or_onto, and_onto, cond_onto, chain_onto, tokens}
use Rattle.branch_spec.specs.Spelling.{EndsBackslash, SpellsTokens, canonical}
use Rattle.branch_spec.proofs.CanonicalTexts.{SpellThemselves, BeginWithNoAxis, canonical_spells}
use Rattle.branch_text.specs.Parsed.{SpellsBranch, AreLabels, is_spelled, has_text}
use Rattle.path_query.proofs.LabelLaws.{label_first}
use Rattle.path_query.proofs.TokenPrefixLaws.{label_no_slash}
use Rattle.branch_text.proofs.TokenPrefixLaws.{label_no_backslash}

-- the labels of a text are labels
labels : (text : List ℕ) (ts : List Token) → SpellsTokens SpellsLabel text ts → AreLabels ts
labels text [] h = tt
labels text (lab t ∷ ts) (b, w, rest, blanks, spelled, ends, more, e) = (label_again w t spelled, labels rest ts more)
labels text (underscore ∷ ts) (b, w, rest, blanks, spelled, ends, more, e) = labels rest ts more
labels text (axis a ∷ ts) (b, w, rest, blanks, spelled, ends, more, e) = labels rest ts more
labels text (left ∷ ts) (b, w, rest, blanks, spelled, ends, more, e) = labels rest ts more
labels text (right ∷ ts) (b, w, rest, blanks, spelled, ends, more, e) = labels rest ts more
labels text (opening ∷ ts) (b, w, rest, blanks, spelled, ends, more, e) = labels rest ts more
labels text (closing ∷ ts) (b, w, rest, blanks, spelled, ends, more, e) = labels rest ts more
labels text (not_word ∷ ts) (b, w, rest, blanks, spelled, ends, more, e) = labels rest ts more
labels text (and_word ∷ ts) (b, w, rest, blanks, spelled, ends, more, e) = labels rest ts more
labels text (or_word ∷ ts) (b, w, rest, blanks, spelled, ends, more, e) = labels rest ts more
labels text (nothing ∷ ts) (b, w, rest, blanks, spelled, ends, more, e) = absurd spelled

-- and all of it is spelled
all_spelled : (text : List ℕ) (ts : List Token) → SpellsTokens SpellsLabel text ts → list_all is_spelled ts ≡ true
all_spelled text [] h = refl
all_spelled text (lab t ∷ ts) (b, w, rest, blanks, spelled, ends, more, e) = all_spelled rest ts more
all_spelled text (underscore ∷ ts) (b, w, rest, blanks, spelled, ends, more, e) = all_spelled rest ts more
all_spelled text (axis a ∷ ts) (b, w, rest, blanks, spelled, ends, more, e) = all_spelled rest ts more
all_spelled text (left ∷ ts) (b, w, rest, blanks, spelled, ends, more, e) = all_spelled rest ts more
all_spelled text (right ∷ ts) (b, w, rest, blanks, spelled, ends, more, e) = all_spelled rest ts more
all_spelled text (opening ∷ ts) (b, w, rest, blanks, spelled, ends, more, e) = all_spelled rest ts more
all_spelled text (closing ∷ ts) (b, w, rest, blanks, spelled, ends, more, e) = all_spelled rest ts more
all_spelled text (not_word ∷ ts) (b, w, rest, blanks, spelled, ends, more, e) = all_spelled rest ts more
all_spelled text (and_word ∷ ts) (b, w, rest, blanks, spelled, ends, more, e) = all_spelled rest ts more
all_spelled text (or_word ∷ ts) (b, w, rest, blanks, spelled, ends, more, e) = all_spelled rest ts more
all_spelled text (nothing ∷ ts) (b, w, rest, blanks, spelled, ends, more, e) = absurd spelled

-- labels where all is spelled
themselves : (ts : List Token) → AreLabels ts → list_all is_spelled ts ≡ true → SpellThemselves SpellsLabel ts
themselves [] h k = tt
themselves (lab t ∷ ts) h k = (h.0, themselves ts h.1 k)
themselves (underscore ∷ ts) h k = themselves ts h k
themselves (axis a ∷ ts) h k = themselves ts h k
themselves (left ∷ ts) h k = themselves ts h k
themselves (right ∷ ts) h k = themselves ts h k
themselves (opening ∷ ts) h k = themselves ts h k
themselves (closing ∷ ts) h k = themselves ts h k
themselves (not_word ∷ ts) h k = themselves ts h k
themselves (and_word ∷ ts) h k = themselves ts h k
themselves (or_word ∷ ts) h k = themselves ts h k
themselves (nothing ∷ ts) h k = true≢false (sym k)

no_axis : BeginWithNoAxis SpellsLabel
no_axis = record {
  slash = λ t rest h. let f = label_first t t h in subst (λ x. EndsSlash (x ++ rest)) (sym f.is) (label_no_slash f.byte f.opens);
  backslash = λ t rest h. let f = label_first t t h in subst (λ x. EndsBackslash (x ++ rest)) (sym f.is) (label_no_backslash f.byte f.opens);
}

pub are_labels : (text : List ℕ) (q : tree.Branch) → SpellsBranch text q → AreLabels (tokens q)
are_labels text q h = labels text (tokens q) h

pub is_written : (text : List ℕ) (q : tree.Branch) → SpellsBranch text q → IsTrue (has_text q)
is_written text q h = all_spelled text (tokens q) h

pub again : (q : tree.Branch) → AreLabels (tokens q) → IsTrue (has_text q) → SpellsBranch (canonical q) q
again q h k = canonical_spells SpellsLabel no_axis q (themselves (tokens q) h k)

-- the labels of a part stay where it is relaxed, whatever follows it
kept_test : (t : tree.Test) (r q : List Token) → (AreLabels r → AreLabels q) → AreLabels (test_onto t r) → AreLabels (test_onto t q)
kept_test (tree.label t) r q k h = (h.0, k h.1)
kept_test tree.any r q k h = k h

past_test : (t : tree.Test) (r : List Token) → AreLabels (test_onto t r) → AreLabels r
past_test (tree.label t) r h = h.1
past_test tree.any r h = h

mutual
  past_step : (s : tree.Step) (r : List Token) → AreLabels (step_onto s r) → AreLabels r
  past_step (tree.step t ps) r h = past_preds ps r (past_test t (preds_onto ps r) h)

  past_preds : (ps : tree.Preds) (r : List Token) → AreLabels (preds_onto ps r) → AreLabels r
  past_preds tree.none r h = h
  past_preds (tree.pred o ps) r h = past_preds ps r (past_or o (right ∷ preds_onto ps r) h)

  past_or : (o : tree.Or) (r : List Token) → AreLabels (or_onto o r) → AreLabels r
  past_or (tree.one a) r h = past_and a r h
  past_or (tree.or a o) r h = past_or o r (past_and a (or_word ∷ or_onto o r) h)

  past_and : (a : tree.And) (r : List Token) → AreLabels (and_onto a r) → AreLabels r
  past_and (tree.lone c) r h = past_cond c r h
  past_and (tree.and c a) r h = past_and a r (past_cond c (and_word ∷ and_onto a r) h)

  past_cond : (c : tree.Cond) (r : List Token) → AreLabels (cond_onto c r) → AreLabels r
  past_cond (tree.fails o) r h = past_or o (closing ∷ r) h
  past_cond (tree.group o) r h = past_or o (closing ∷ r) h
  past_cond (tree.rel a s ch) r h = past_chain ch r (past_step s (chain_onto ch r) h)
  past_cond tree.always r h = h

  past_chain : (ch : tree.Chain) (r : List Token) → AreLabels (chain_onto ch r) → AreLabels r
  past_chain tree.no_step r h = h
  past_chain (tree.go a s ch) r h = past_chain ch r (past_step s (chain_onto ch r) h)

mutual
  kept_step : (s : tree.Step) (r q : List Token) → (AreLabels r → AreLabels q) → AreLabels (step_onto s r) → AreLabels (step_onto (relax_step s) q)
  kept_step (tree.step t ps) r q k h = kept_test t (preds_onto ps r) (preds_onto (relax_preds ps) q) (kept_preds ps r q k) h

  kept_preds : (ps : tree.Preds) (r q : List Token) → (AreLabels r → AreLabels q) → AreLabels (preds_onto ps r) → AreLabels (preds_onto (relax_preds ps) q)
  kept_preds tree.none r q k h = k h
  kept_preds (tree.pred o ps) r q k h = kept_or o (right ∷ preds_onto ps r) (right ∷ preds_onto (relax_preds ps) q) (kept_preds ps r q k) h

  kept_or : (o : tree.Or) (r q : List Token) → (AreLabels r → AreLabels q) → AreLabels (or_onto o r) → AreLabels (or_onto (relax_or o) q)
  kept_or (tree.one a) r q k h = kept_and a r q k h
  kept_or (tree.or a o) r q k h = kept_and a (or_word ∷ or_onto o r) (or_word ∷ or_onto (relax_or o) q) (kept_or o r q k) h

  kept_and : (a : tree.And) (r q : List Token) → (AreLabels r → AreLabels q) → AreLabels (and_onto a r) → AreLabels (and_onto (relax_and a) q)
  kept_and (tree.lone c) r q k h = kept_cond c r q k h
  kept_and (tree.and c a) r q k h = kept_cond c (and_word ∷ and_onto a r) (and_word ∷ and_onto (relax_and a) q) (kept_and a r q k) h

  kept_cond : (c : tree.Cond) (r q : List Token) → (AreLabels r → AreLabels q) → AreLabels (cond_onto c r) → AreLabels (cond_onto (relax_cond c) q)
  kept_cond (tree.fails o) r q k h = k (past_or o (closing ∷ r) h)
  kept_cond (tree.group o) r q k h = kept_or o (closing ∷ r) (closing ∷ q) k h
  kept_cond (tree.rel a s ch) r q k h = kept_step s (chain_onto ch r) (chain_onto (relax_chain ch) q) (kept_chain ch r q k) h
  kept_cond tree.always r q k h = k h

  kept_chain : (ch : tree.Chain) (r q : List Token) → (AreLabels r → AreLabels q) → AreLabels (chain_onto ch r) → AreLabels (chain_onto (relax_chain ch) q)
  kept_chain tree.no_step r q k h = k h
  kept_chain (tree.go a s ch) r q k h = kept_step s (chain_onto ch r) (chain_onto (relax_chain ch) q) (kept_chain ch r q k) h

pub labels_relaxed : (q : tree.Branch) → AreLabels (tokens q) → AreLabels (tokens (relax q))
labels_relaxed (tree.first_step s ch) h = kept_step s (chain_onto ch []) (chain_onto (relax_chain ch) []) (kept_chain ch [] [] (λ x. x)) h
