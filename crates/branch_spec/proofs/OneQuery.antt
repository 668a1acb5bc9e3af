-- A list of tokens has at most one reading.
use Rattle.std.proofs.Common.{◌≡◌, List, [], ◌∷◌, refl, sym, ap, subst}
use Rattle.branch_spec.specs.Trees.{Test, label, any, Step, step, Preds, none, pred, Or, one, or, And, lone, and, Cond, fails, group, rel, always, Chain, no_step, go, Branch, first_step}
use Rattle.branch_spec.specs.Tokens.{Token, lab, underscore, axis, left, right, opening, closing, not_word, and_word, or_word, nothing, test_onto, step_onto, preds_onto, or_onto, and_onto, cond_onto, chain_onto, tokens, EndsOr, EndsAnd, EndsChain, EndsStep}

pub ends_or_and : (r : List Token) → EndsOr r → EndsAnd r
ends_or_and [] h = tt
ends_or_and (lab t ∷ r) h = h
ends_or_and (underscore ∷ r) h = h
ends_or_and (axis a ∷ r) h = h
ends_or_and (left ∷ r) h = h
ends_or_and (right ∷ r) h = tt
ends_or_and (opening ∷ r) h = h
ends_or_and (closing ∷ r) h = tt
ends_or_and (not_word ∷ r) h = h
ends_or_and (and_word ∷ r) h = h
ends_or_and (or_word ∷ r) h = absurd h
ends_or_and (nothing ∷ r) h = h

pub ends_and_chain : (r : List Token) → EndsAnd r → EndsChain r
ends_and_chain [] h = tt
ends_and_chain (lab t ∷ r) h = h
ends_and_chain (underscore ∷ r) h = h
ends_and_chain (axis a ∷ r) h = h
ends_and_chain (left ∷ r) h = h
ends_and_chain (right ∷ r) h = tt
ends_and_chain (opening ∷ r) h = h
ends_and_chain (closing ∷ r) h = tt
ends_and_chain (not_word ∷ r) h = h
ends_and_chain (and_word ∷ r) h = absurd h
ends_and_chain (or_word ∷ r) h = tt
ends_and_chain (nothing ∷ r) h = h

pub ends_chain_step : (r : List Token) → EndsChain r → EndsStep r
ends_chain_step [] h = tt
ends_chain_step (lab t ∷ r) h = h
ends_chain_step (underscore ∷ r) h = h
ends_chain_step (axis a ∷ r) h = absurd h
ends_chain_step (left ∷ r) h = h
ends_chain_step (right ∷ r) h = tt
ends_chain_step (opening ∷ r) h = h
ends_chain_step (closing ∷ r) h = tt
ends_chain_step (not_word ∷ r) h = h
ends_chain_step (and_word ∷ r) h = tt
ends_chain_step (or_word ∷ r) h = tt
ends_chain_step (nothing ∷ r) h = h

-- a step may end where a chain begins
pub chain_ends : (ch : Chain) (r : List Token) → EndsChain r → EndsStep (chain_onto ch r)
chain_ends no_step r h = ends_chain_step r h
chain_ends (go a st ch) r h = tt

pub one_test : (t u : Test) (r q : List Token) → test_onto t r ≡ test_onto u q → (t ≡ u) × (r ≡ q)
one_test (label t) (label u) r q k = let same : t ≡ u = cc (k) in (ap label same, cc (k))
one_test (label t) any r q k = cc
one_test any (label u) r q k = cc
one_test any any r q k = (refl, cc (k))

mutual
  pub one_step : (s t : Step) (r q : List Token) → step_onto s r ≡ step_onto t q → EndsStep r → EndsStep q → (s ≡ t) × (r ≡ q)
  one_step (step t ps) (step u qs) r q k h j =
      let a = one_test t u (preds_onto ps r) (preds_onto qs q) k in
      let b = one_preds ps qs r q a.1 h j in
      ((λ i. step (a.0 i) (b.0 i)), b.1)

  one_preds : (ps qs : Preds) (r q : List Token) → preds_onto ps r ≡ preds_onto qs q → EndsStep r → EndsStep q → (ps ≡ qs) × (r ≡ q)
  one_preds none none r q k h j = (refl, k)
  one_preds none (pred p qs) r q k h j = absurd (subst EndsStep k h)
  one_preds (pred o ps) none r q k h j = absurd (subst EndsStep (sym k) j)
  one_preds (pred o ps) (pred p qs) r q k h j =
      let inner : or_onto o (right ∷ preds_onto ps r) ≡ or_onto p (right ∷ preds_onto qs q) = cc (k) in
      let a = one_or o p (right ∷ preds_onto ps r) (right ∷ preds_onto qs q) inner tt tt in
      let tails : preds_onto ps r ≡ preds_onto qs q = cc (a.1) in
      let b = one_preds ps qs r q tails h j in
      ((λ i. pred (a.0 i) (b.0 i)), b.1)

  pub one_or : (o p : Or) (r q : List Token) → or_onto o r ≡ or_onto p q → EndsOr r → EndsOr q → (o ≡ p) × (r ≡ q)
  one_or (one a) (one b) r q k h j = let c = one_and a b r q k (ends_or_and r h) (ends_or_and q j) in (ap one c.0, c.1)
  one_or (one a) (or b p) r q k h j =
      let c = one_and a b r (or_word ∷ or_onto p q) k (ends_or_and r h) tt in absurd (subst EndsOr c.1 h)
  one_or (or a o) (one b) r q k h j =
      let c = one_and a b (or_word ∷ or_onto o r) q k tt (ends_or_and q j) in absurd (subst EndsOr (sym c.1) j)
  one_or (or a o) (or b p) r q k h j =
      let c = one_and a b (or_word ∷ or_onto o r) (or_word ∷ or_onto p q) k tt tt in
      let tails : or_onto o r ≡ or_onto p q = cc (c.1) in
      let d = one_or o p r q tails h j in
      ((λ i. or (c.0 i) (d.0 i)), d.1)

  pub one_and : (a b : And) (r q : List Token) → and_onto a r ≡ and_onto b q → EndsAnd r → EndsAnd q → (a ≡ b) × (r ≡ q)
  one_and (lone c) (lone d) r q k h j = let e = one_cond c d r q k (ends_and_chain r h) (ends_and_chain q j) in (ap lone e.0, e.1)
  one_and (lone c) (and d b) r q k h j =
      let e = one_cond c d r (and_word ∷ and_onto b q) k (ends_and_chain r h) tt in absurd (subst EndsAnd e.1 h)
  one_and (and c a) (lone d) r q k h j =
      let e = one_cond c d (and_word ∷ and_onto a r) q k tt (ends_and_chain q j) in absurd (subst EndsAnd (sym e.1) j)
  one_and (and c a) (and d b) r q k h j =
      let e = one_cond c d (and_word ∷ and_onto a r) (and_word ∷ and_onto b q) k tt tt in
      let tails : and_onto a r ≡ and_onto b q = cc (e.1) in
      let f = one_and a b r q tails h j in
      ((λ i. and (e.0 i) (f.0 i)), f.1)

  pub one_cond : (c d : Cond) (r q : List Token) → cond_onto c r ≡ cond_onto d q → EndsChain r → EndsChain q → (c ≡ d) × (r ≡ q)
  one_cond (fails o) (fails p) r q k h j =
      let inner : or_onto o (closing ∷ r) ≡ or_onto p (closing ∷ q) = cc (k) in
      let a = one_or o p (closing ∷ r) (closing ∷ q) inner tt tt in
      (ap fails a.0, cc (a.1))
  one_cond (fails o) (group p) r q k h j = cc
  one_cond (fails o) (rel b t ci) r q k h j = cc
  one_cond (fails o) always r q k h j = cc
  one_cond (group o) (fails p) r q k h j = cc
  one_cond (group o) (group p) r q k h j =
      let inner : or_onto o (closing ∷ r) ≡ or_onto p (closing ∷ q) = cc (k) in
      let a = one_or o p (closing ∷ r) (closing ∷ q) inner tt tt in
      (ap group a.0, cc (a.1))
  one_cond (group o) (rel b t ci) r q k h j = cc
  one_cond (group o) always r q k h j = cc
  one_cond (rel a s ch) (fails p) r q k h j = cc
  one_cond (rel a s ch) (group p) r q k h j = cc
  one_cond (rel a s ch) (rel b t ci) r q k h j =
      let same : a ≡ b = cc (k) in
      let tails : step_onto s (chain_onto ch r) ≡ step_onto t (chain_onto ci q) = cc (k) in
      let d = one_step s t (chain_onto ch r) (chain_onto ci q) tails (chain_ends ch r h) (chain_ends ci q j) in
      let e = one_chain ch ci r q d.1 h j in
      ((λ i. rel (same i) (d.0 i) (e.0 i)), e.1)
  one_cond (rel a s ch) always r q k h j = cc
  one_cond always (fails p) r q k h j = cc
  one_cond always (group p) r q k h j = cc
  one_cond always (rel b t ci) r q k h j = cc
  one_cond always always r q k h j = (refl, cc (k))

  pub one_chain : (ch ci : Chain) (r q : List Token) → chain_onto ch r ≡ chain_onto ci q → EndsChain r → EndsChain q → (ch ≡ ci) × (r ≡ q)
  one_chain no_step no_step r q k h j = (refl, k)
  one_chain no_step (go b t ci) r q k h j = absurd (subst EndsChain k h)
  one_chain (go a s ch) no_step r q k h j = absurd (subst EndsChain (sym k) j)
  one_chain (go a s ch) (go b t ci) r q k h j =
      let same : a ≡ b = cc (k) in
      let tails : step_onto s (chain_onto ch r) ≡ step_onto t (chain_onto ci q) = cc (k) in
      let d = one_step s t (chain_onto ch r) (chain_onto ci q) tails (chain_ends ch r h) (chain_ends ci q j) in
      let e = one_chain ch ci r q d.1 h j in
      ((λ i. go (same i) (d.0 i) (e.0 i)), e.1)

-- the law
pub one_reading : (p q : Branch) → tokens p ≡ tokens q → p ≡ q
one_reading (first_step s ch) (first_step t ci) k =
    let a = one_step s t (chain_onto ch []) (chain_onto ci []) k (chain_ends ch [] tt) (chain_ends ci [] tt) in
    let b = one_chain ch ci [] [] a.1 tt tt in
    λ i. first_step (a.0 i) (b.0 i)
