-- The canonical text spells the tree.
use Rattle.std.proofs.Common.{ℕ, List, [], ◌∷◌, ◌++◌, refl, ap}
use Rattle.std.specs.Prelude.{codes}
use Rattle.std.specs.List.{flat_map}
use Rattle.path_spec.specs.Spelling.{EndsName, EndsSlash}
use Rattle.branch_spec.specs.Trees.{Axis, child, below, parent, above, Test, label, any, Step, step, Preds, none, pred, Or, one, or, And, lone, and, Cond, fails, group, rel, always, Chain, no_step, go, Branch, first_step}
use Rattle.branch_spec.specs.Tokens.{Token, lab, underscore, axis, left, right, opening, closing, not_word, and_word, or_word, nothing, test_onto, step_onto, preds_onto, or_onto, and_onto, cond_onto, chain_onto, tokens, EndsOr, EndsAnd, EndsChain, EndsStep}
use Rattle.branch_spec.specs.Spelling.{EndsBackslash, EndsToken, axis_text, token_text, canonical, SpellsTokens, Spells}
use Rattle.branch_spec.proofs.OneQuery.{ends_or_and, ends_and_chain, chain_ends}

-- what may follow a name at once
abbrev pub NoName : List Token → Type 0
NoName [] = Unit {0}
NoName (lab t ∷ r) = ⊥
NoName (underscore ∷ r) = ⊥
NoName (axis a ∷ r) = Unit {0}
NoName (left ∷ r) = Unit {0}
NoName (right ∷ r) = Unit {0}
NoName (opening ∷ r) = Unit {0}
NoName (closing ∷ r) = Unit {0}
NoName (not_word ∷ r) = ⊥
NoName (and_word ∷ r) = Unit {0}
NoName (or_word ∷ r) = Unit {0}
NoName (nothing ∷ r) = ⊥

-- what may follow an axis at once
abbrev pub NoAxis : List Token → Type 0
NoAxis [] = Unit {0}
NoAxis (lab t ∷ r) = Unit {0}
NoAxis (underscore ∷ r) = Unit {0}
NoAxis (axis a ∷ r) = ⊥
NoAxis (left ∷ r) = Unit {0}
NoAxis (right ∷ r) = Unit {0}
NoAxis (opening ∷ r) = Unit {0}
NoAxis (closing ∷ r) = Unit {0}
NoAxis (not_word ∷ r) = Unit {0}
NoAxis (and_word ∷ r) = Unit {0}
NoAxis (or_word ∷ r) = Unit {0}
NoAxis (nothing ∷ r) = ⊥

-- no token is taken for a part of a longer one where others follow it at once
abbrev pub Apart : Token → List Token → Type 0
Apart (lab t) r = NoName r
Apart underscore r = Unit {0}
Apart (axis a) r = NoAxis r
Apart left r = Unit {0}
Apart right r = Unit {0}
Apart opening r = Unit {0}
Apart closing r = Unit {0}
Apart not_word r = NoName r
Apart and_word r = Unit {0}
Apart or_word r = Unit {0}
Apart nothing r = Unit {0}

abbrev pub AreApart : List Token → Type 0
AreApart [] = Unit {0}
AreApart (t ∷ r) = Apart t r × AreApart r

-- each label spells itself, and nothing is without a text
abbrev pub SpellThemselves : (List ℕ → List ℕ → Type 0) → List Token → Type 0
SpellThemselves S [] = Unit {0}
SpellThemselves S (lab t ∷ r) = S t t × SpellThemselves S r
SpellThemselves S (underscore ∷ r) = SpellThemselves S r
SpellThemselves S (axis a ∷ r) = SpellThemselves S r
SpellThemselves S (left ∷ r) = SpellThemselves S r
SpellThemselves S (right ∷ r) = SpellThemselves S r
SpellThemselves S (opening ∷ r) = SpellThemselves S r
SpellThemselves S (closing ∷ r) = SpellThemselves S r
SpellThemselves S (not_word ∷ r) = SpellThemselves S r
SpellThemselves S (and_word ∷ r) = SpellThemselves S r
SpellThemselves S (or_word ∷ r) = SpellThemselves S r
SpellThemselves S (nothing ∷ r) = ⊥

step_no_name : (r : List Token) → EndsStep r → NoName r
step_no_name [] h = tt
step_no_name (lab t ∷ r) h = h
step_no_name (underscore ∷ r) h = h
step_no_name (axis a ∷ r) h = tt
step_no_name (left ∷ r) h = tt
step_no_name (right ∷ r) h = tt
step_no_name (opening ∷ r) h = tt
step_no_name (closing ∷ r) h = tt
step_no_name (not_word ∷ r) h = h
step_no_name (and_word ∷ r) h = tt
step_no_name (or_word ∷ r) h = tt
step_no_name (nothing ∷ r) h = h

preds_no_name : (ps : Preds) (r : List Token) → EndsStep r → NoName (preds_onto ps r)
preds_no_name none r h = step_no_name r h
preds_no_name (pred o ps) r h = tt

step_no_axis : (s : Step) (r : List Token) → NoAxis (step_onto s r)
step_no_axis (step (label t) ps) r = tt
step_no_axis (step any ps) r = tt

apart_test : (t : Test) (r : List Token) → NoName r → AreApart r → AreApart (test_onto t r)
apart_test (label t) r h k = (h, k)
apart_test any r h k = (tt, k)

mutual
  apart_step : (s : Step) (r : List Token) → EndsStep r → AreApart r → AreApart (step_onto s r)
  apart_step (step t ps) r h k = apart_test t (preds_onto ps r) (preds_no_name ps r h) (apart_preds ps r k)

  apart_preds : (ps : Preds) (r : List Token) → AreApart r → AreApart (preds_onto ps r)
  apart_preds none r k = k
  apart_preds (pred o ps) r k = (tt, apart_or o (right ∷ preds_onto ps r) tt (tt, apart_preds ps r k))

  apart_or : (o : Or) (r : List Token) → EndsOr r → AreApart r → AreApart (or_onto o r)
  apart_or (one a) r h k = apart_and a r (ends_or_and r h) k
  apart_or (or a o) r h k = apart_and a (or_word ∷ or_onto o r) tt (tt, apart_or o r h k)

  apart_and : (a : And) (r : List Token) → EndsAnd r → AreApart r → AreApart (and_onto a r)
  apart_and (lone c) r h k = apart_cond c r (ends_and_chain r h) k
  apart_and (and c a) r h k = apart_cond c (and_word ∷ and_onto a r) tt (tt, apart_and a r h k)

  apart_cond : (c : Cond) (r : List Token) → EndsChain r → AreApart r → AreApart (cond_onto c r)
  apart_cond (fails o) r h k = (tt, (tt, apart_or o (closing ∷ r) tt (tt, k)))
  apart_cond (group o) r h k = (tt, apart_or o (closing ∷ r) tt (tt, k))
  apart_cond (rel a s ch) r h k = (step_no_axis s (chain_onto ch r), apart_step s (chain_onto ch r) (chain_ends ch r h) (apart_chain ch r h k))
  apart_cond always r h k = (tt, k)

  apart_chain : (ch : Chain) (r : List Token) → EndsChain r → AreApart r → AreApart (chain_onto ch r)
  apart_chain no_step r h k = k
  apart_chain (go a s ch) r h k = (step_no_axis s (chain_onto ch r), apart_step s (chain_onto ch r) (chain_ends ch r h) (apart_chain ch r h k))

apart : (q : Branch) → AreApart (tokens q)
apart (first_step s ch) = apart_step s (chain_onto ch []) (chain_ends ch [] tt) (apart_chain ch [] tt tt)

name_ends : (r : List Token) → NoName r → EndsName (flat_map token_text r)
name_ends [] h = tt
name_ends (lab t ∷ r) h = absurd h
name_ends (underscore ∷ r) h = absurd h
name_ends (axis child ∷ r) h = refl
name_ends (axis below ∷ r) h = refl
name_ends (axis parent ∷ r) h = refl
name_ends (axis above ∷ r) h = refl
name_ends (left ∷ r) h = refl
name_ends (right ∷ r) h = refl
name_ends (opening ∷ r) h = refl
name_ends (closing ∷ r) h = refl
name_ends (not_word ∷ r) h = absurd h
name_ends (and_word ∷ r) h = refl
name_ends (or_word ∷ r) h = refl
name_ends (nothing ∷ r) h = absurd h

-- no label begins with '/' or '\'
pub record BeginWithNoAxis (S : List ℕ → List ℕ → Type 0) : Type 0 where
  pub slash : (t rest : List ℕ) → S t t → EndsSlash (t ++ rest)
  pub backslash : (t rest : List ℕ) → S t t → EndsBackslash (t ++ rest)

module _ (S : List ℕ → List ℕ → Type 0) (no_axis : BeginWithNoAxis S) where
  slash_ends : (r : List Token) → NoAxis r → SpellThemselves S r → EndsSlash (flat_map token_text r)
  slash_ends [] h k = tt
  slash_ends (lab t ∷ r) h k = no_axis.slash t (flat_map token_text r) k.0
  slash_ends (underscore ∷ r) h k = refl
  slash_ends (axis a ∷ r) h k = absurd h
  slash_ends (left ∷ r) h k = refl
  slash_ends (right ∷ r) h k = refl
  slash_ends (opening ∷ r) h k = refl
  slash_ends (closing ∷ r) h k = refl
  slash_ends (not_word ∷ r) h k = refl
  slash_ends (and_word ∷ r) h k = refl
  slash_ends (or_word ∷ r) h k = refl
  slash_ends (nothing ∷ r) h k = absurd h

  backslash_ends : (r : List Token) → NoAxis r → SpellThemselves S r → EndsBackslash (flat_map token_text r)
  backslash_ends [] h k = tt
  backslash_ends (lab t ∷ r) h k = no_axis.backslash t (flat_map token_text r) k.0
  backslash_ends (underscore ∷ r) h k = refl
  backslash_ends (axis a ∷ r) h k = absurd h
  backslash_ends (left ∷ r) h k = refl
  backslash_ends (right ∷ r) h k = refl
  backslash_ends (opening ∷ r) h k = refl
  backslash_ends (closing ∷ r) h k = refl
  backslash_ends (not_word ∷ r) h k = refl
  backslash_ends (and_word ∷ r) h k = refl
  backslash_ends (or_word ∷ r) h k = refl
  backslash_ends (nothing ∷ r) h k = absurd h

  axis_ends : (a : Axis) (r : List Token) → NoAxis r → SpellThemselves S r → EndsToken (axis a) (flat_map token_text r)
  axis_ends child r h k = slash_ends r h k
  axis_ends below r h k = tt
  axis_ends parent r h k = backslash_ends r h k
  axis_ends above r h k = tt

  -- a blank may stand in front
  blank_more : (ts : List Token) (text : List ℕ) → SpellsTokens S text ts → SpellsTokens S (32 ∷ text) ts
  blank_more [] text h = h
  blank_more (t ∷ ts) text (b, w, q, blanks, spelled, ends, more, e) = (32 ∷ b, w, q, blanks, spelled, ends, more, ap (λ x. 32 ∷ x) e)

  spelled : (ts : List Token) → AreApart ts → SpellThemselves S ts → SpellsTokens S (flat_map token_text ts) ts
  spelled [] h k = refl
  spelled (lab t ∷ r) h k = ([], t, flat_map token_text r, refl, k.0, (λ name. name_ends r h.0), spelled r h.1 k.1, refl)
  spelled (underscore ∷ r) h k = ([], token_text underscore, flat_map token_text r, refl, refl, tt, spelled r h.1 k, refl)
  spelled (axis a ∷ r) h k = ([], axis_text a, flat_map token_text r, refl, refl, axis_ends a r h.0 k, spelled r h.1 k, refl)
  spelled (left ∷ r) h k = ([], token_text left, flat_map token_text r, refl, refl, tt, spelled r h.1 k, refl)
  spelled (right ∷ r) h k = ([], token_text right, flat_map token_text r, refl, refl, tt, spelled r h.1 k, refl)
  spelled (opening ∷ r) h k = ([], token_text opening, flat_map token_text r, refl, refl, tt, spelled r h.1 k, refl)
  spelled (closing ∷ r) h k = ([], token_text closing, flat_map token_text r, refl, refl, tt, spelled r h.1 k, refl)
  spelled (not_word ∷ r) h k = ([], codes "not", flat_map token_text r, refl, refl, name_ends r h.0, spelled r h.1 k, refl)
  spelled (and_word ∷ r) h k = (codes " ", codes "and", 32 ∷ flat_map token_text r, refl, refl, refl, blank_more r (flat_map token_text r) (spelled r h.1 k), refl)
  spelled (or_word ∷ r) h k = (codes " ", codes "or", 32 ∷ flat_map token_text r, refl, refl, refl, blank_more r (flat_map token_text r) (spelled r h.1 k), refl)
  spelled (nothing ∷ r) h k = absurd k

  -- what is written spells the tree
  pub canonical_spells : (q : Branch) → SpellThemselves S (tokens q) → Spells S (canonical q) q
  canonical_spells q k = spelled (tokens q) (apart q) k
