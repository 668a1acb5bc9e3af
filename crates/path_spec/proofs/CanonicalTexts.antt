-- The canonical text spells the tree.
use Rattle.std.proofs.Common.{ℕ, List, [], ◌∷◌, ◌++◌, refl}
use Rattle.std.specs.List.{flat_map}
use Rattle.path_spec.specs.Trees.{star, plus, opt, Sep, child, below, Expr, only, or, Seq, last, then, Item, once, signed, Atom, label, any, group}
use Rattle.path_spec.specs.Tokens.{Token, lab, underscore, slash, slashes, bar, opening, closing, sign, sep_token, onto, seq_onto, item_onto, atom_onto, tokens, EndsExpr, EndsSeq, EndsItem}
use Rattle.path_spec.specs.Spelling.{EndsName, EndsSlash, sign_byte, token_text, canonical, SpellsTokens, Spells}
use Rattle.path_spec.proofs.OneTree.{ends_expr_seq, ends_seq_item, sep_ends}

-- no token is taken for a part of a longer one where another follows it at once
abbrev pub Apart : Token → List Token → Type 0
Apart (lab t) (lab u ∷ r) = ⊥
Apart (lab t) (underscore ∷ r) = ⊥
Apart slash (slash ∷ r) = ⊥
Apart slash (slashes ∷ r) = ⊥
Apart t r = Unit {0}

abbrev pub AreApart : List Token → Type 0
AreApart [] = Unit {0}
AreApart (t ∷ r) = Apart t r × AreApart r

-- each label spells itself
abbrev pub SpellThemselves : (List ℕ → List ℕ → Type 0) → List Token → Type 0
SpellThemselves S [] = Unit {0}
SpellThemselves S (lab t ∷ r) = S t t × SpellThemselves S r
SpellThemselves S (underscore ∷ r) = SpellThemselves S r
SpellThemselves S (slash ∷ r) = SpellThemselves S r
SpellThemselves S (slashes ∷ r) = SpellThemselves S r
SpellThemselves S (bar ∷ r) = SpellThemselves S r
SpellThemselves S (opening ∷ r) = SpellThemselves S r
SpellThemselves S (closing ∷ r) = SpellThemselves S r
SpellThemselves S (sign g ∷ r) = SpellThemselves S r

-- what may follow an atom
abbrev EndsAtom : List Token → Type 0
EndsAtom [] = Unit {0}
EndsAtom (lab t ∷ r) = ⊥
EndsAtom (underscore ∷ r) = ⊥
EndsAtom (opening ∷ r) = ⊥
EndsAtom (t ∷ r) = Unit {0}

ends_item_atom : (r : List Token) → EndsItem r → EndsAtom r
ends_item_atom [] h = tt
ends_item_atom (lab t ∷ r) h = h
ends_item_atom (underscore ∷ r) h = h
ends_item_atom (slash ∷ r) h = tt
ends_item_atom (slashes ∷ r) h = tt
ends_item_atom (bar ∷ r) h = tt
ends_item_atom (opening ∷ r) h = h
ends_item_atom (closing ∷ r) h = tt
ends_item_atom (sign g ∷ r) h = tt

label_apart : (t : List ℕ) (r : List Token) → EndsAtom r → Apart (lab t) r
label_apart t [] h = tt
label_apart t (lab u ∷ r) h = h
label_apart t (underscore ∷ r) h = h
label_apart t (slash ∷ r) h = tt
label_apart t (slashes ∷ r) h = tt
label_apart t (bar ∷ r) h = tt
label_apart t (opening ∷ r) h = tt
label_apart t (closing ∷ r) h = tt
label_apart t (sign g ∷ r) h = tt

-- an atom begins with no '/'
slash_apart : (a : Atom) (r : List Token) → Apart slash (atom_onto a r)
slash_apart (label t) r = tt
slash_apart any r = tt
slash_apart (group e) r = tt

slash_item : (i : Item) (r : List Token) → Apart slash (item_onto i r)
slash_item (once a) r = slash_apart a r
slash_item (signed a g) r = slash_apart a (sign g ∷ r)

slash_seq : (s : Seq) (r : List Token) → Apart slash (seq_onto s r)
slash_seq (last i) r = slash_item i r
slash_seq (then i p s) r = slash_item i (sep_token p ∷ seq_onto s r)

sep_apart : (p : Sep) (s : Seq) (r : List Token) → Apart (sep_token p) (seq_onto s r)
sep_apart child s r = slash_seq s r
sep_apart below s r = tt

mutual
  apart_expr : (e : Expr) (r : List Token) → EndsExpr r → AreApart r → AreApart (onto e r)
  apart_expr (only s) r h k = apart_seq s r (ends_expr_seq r h) k
  apart_expr (or s e) r h k = apart_seq s (bar ∷ onto e r) tt (tt, apart_expr e r h k)

  apart_seq : (s : Seq) (r : List Token) → EndsSeq r → AreApart r → AreApart (seq_onto s r)
  apart_seq (last i) r h k = apart_item i r (ends_seq_item r h) k
  apart_seq (then i p s) r h k =
      apart_item i (sep_token p ∷ seq_onto s r) (sep_ends p (seq_onto s r)) (sep_apart p s r, apart_seq s r h k)

  apart_item : (i : Item) (r : List Token) → EndsItem r → AreApart r → AreApart (item_onto i r)
  apart_item (once a) r h k = apart_atom a r (ends_item_atom r h) k
  apart_item (signed a g) r h k = apart_atom a (sign g ∷ r) tt (tt, k)

  apart_atom : (a : Atom) (r : List Token) → EndsAtom r → AreApart r → AreApart (atom_onto a r)
  apart_atom (label t) r h k = (label_apart t r h, k)
  apart_atom any r h k = (tt, k)
  apart_atom (group e) r h k = (tt, apart_expr e (closing ∷ r) tt (tt, k))

label_ends : (t : List ℕ) (r : List Token) → Apart (lab t) r → EndsName (flat_map token_text r)
label_ends t [] h = tt
label_ends t (lab u ∷ r) h = absurd h
label_ends t (underscore ∷ r) h = absurd h
label_ends t (slash ∷ r) h = refl
label_ends t (slashes ∷ r) h = refl
label_ends t (bar ∷ r) h = refl
label_ends t (opening ∷ r) h = refl
label_ends t (closing ∷ r) h = refl
label_ends t (sign star ∷ r) h = refl
label_ends t (sign plus ∷ r) h = refl
label_ends t (sign opt ∷ r) h = refl

-- no label begins with '/'
abbrev pub NoSlash : (List ℕ → List ℕ → Type 0) → Type 0
NoSlash S = (t rest : List ℕ) → S t t → EndsSlash (t ++ rest)

module _ (S : List ℕ → List ℕ → Type 0) (no_slash : NoSlash S) where
  slash_ends : (r : List Token) → Apart slash r → SpellThemselves S r → EndsSlash (flat_map token_text r)
  slash_ends [] h k = tt
  slash_ends (lab u ∷ r) h k = no_slash u (flat_map token_text r) k.0
  slash_ends (underscore ∷ r) h k = refl
  slash_ends (slash ∷ r) h k = absurd h
  slash_ends (slashes ∷ r) h k = absurd h
  slash_ends (bar ∷ r) h k = refl
  slash_ends (opening ∷ r) h k = refl
  slash_ends (closing ∷ r) h k = refl
  slash_ends (sign star ∷ r) h k = refl
  slash_ends (sign plus ∷ r) h k = refl
  slash_ends (sign opt ∷ r) h k = refl

  spelled : (ts : List Token) → AreApart ts → SpellThemselves S ts → SpellsTokens S (flat_map token_text ts) ts
  spelled [] h k = refl
  spelled (lab t ∷ r) h k = ([], t, flat_map token_text r, refl, k.0, label_ends t r h.0, spelled r h.1 k.1, refl)
  spelled (underscore ∷ r) h k = ([], 95 ∷ [], flat_map token_text r, refl, refl, tt, spelled r h.1 k, refl)
  spelled (slash ∷ r) h k = ([], 47 ∷ [], flat_map token_text r, refl, refl, slash_ends r h.0 k, spelled r h.1 k, refl)
  spelled (slashes ∷ r) h k = ([], 47 ∷ 47 ∷ [], flat_map token_text r, refl, refl, tt, spelled r h.1 k, refl)
  spelled (bar ∷ r) h k = ([], 124 ∷ [], flat_map token_text r, refl, refl, tt, spelled r h.1 k, refl)
  spelled (opening ∷ r) h k = ([], 40 ∷ [], flat_map token_text r, refl, refl, tt, spelled r h.1 k, refl)
  spelled (closing ∷ r) h k = ([], 41 ∷ [], flat_map token_text r, refl, refl, tt, spelled r h.1 k, refl)
  spelled (sign g ∷ r) h k = ([], sign_byte g ∷ [], flat_map token_text r, refl, refl, tt, spelled r h.1 k, refl)

  -- what is written spells the tree
  pub canonical_spells : (e : Expr) → SpellThemselves S (tokens e) → Spells S (canonical e) e
  canonical_spells e k = spelled (tokens e) (apart_expr e [] tt tt) k
