-- A query has a token or more for each edge of its depth, and no fewer than its relaxed form.
use Rattle.std.proofs.Common.{◌≡◌, ℕ, ◌+◌, ◌≤◌, List, [], ◌∷◌, length, Option, None, Some, arith}
use Rattle.path_spec.specs.Longest.{greater}
use Rattle.branch_spec.specs.Trees.{Axis, child, below, parent, above, Test, label, any, Step, step, Preds, none, pred, Or, one, or, And, lone, and, Cond, fails, group, rel, always, Chain, no_step, go, Branch, first_step}
use Rattle.branch_spec.specs.Relaxed.{relax_step, relax_preds, relax_or, relax_and, relax_cond, relax_chain, relax}
use Rattle.branch_spec.specs.Tokens.{Token, axis, right, opening, closing, not_word, and_word, or_word, nothing, test_onto, step_onto, preds_onto, or_onto, and_onto, cond_onto, chain_onto, tokens}
use Rattle.branch_spec.specs.Depths.{further, step_depth, preds_depth, or_depth, and_depth, cond_depth, chain_depth, depth_from, depth, IsUpTo}

-- the tokens in front of the others are at least as many as the edges of the depth
abbrev Adds : Option ℕ → List Token → List Token → Type 0
Adds None others all = length others ≤ length all
Adds (Some d) others all = d + length others ≤ length all

adds_none : (d : Option ℕ) (others all : List Token) → Adds d others all → length others ≤ length all
adds_none None others all h = h
adds_none (Some n) others all h = omega (arith, h)

-- fewer follow, or more are in front
still_adds : (d : Option ℕ) (others next more all : List Token) → length others ≤ length next → length more ≤ length all → Adds d next more → Adds d others all
still_adds None others next more all h k a = omega (arith, h, k, a)
still_adds (Some n) others next more all h k a = omega (arith, h, k, a)

greater_adds : (c d : Option ℕ) (others more all : List Token) → Adds c more all → Adds d others more → Adds (greater c d) others all
greater_adds None d others more all h k = let l = adds_none d others more k in omega (arith, h, l)
greater_adds (Some m) None others more all h k = omega (arith, h, k)
greater_adds (Some m) (Some n) others more all h k = omega (arith, h, k)

further_adds : (a : Axis) (d : Option ℕ) (others more : List Token) → Adds d others more → Adds (further a d) others (axis a ∷ more)
further_adds child None others more h = omega (arith, h)
further_adds child (Some n) others more h = omega (arith, h)
further_adds below d others more h = let l = adds_none d others more h in omega (arith, l)
further_adds parent None others more h = omega (arith, h)
further_adds parent (Some n) others more h = omega (arith, h)
further_adds above d others more h = let l = adds_none d others more h in omega (arith, l)

further_past : (a : Axis) (d : Option ℕ) (others all : List Token) → Adds d (axis a ∷ others) all → Adds (further a d) others all
further_past child None others all h = omega (arith, h)
further_past child (Some n) others all h = omega (arith, h)
further_past below d others all h = let l = adds_none d (axis below ∷ others) all h in omega (arith, l)
further_past parent None others all h = omega (arith, h)
further_past parent (Some n) others all h = omega (arith, h)
further_past above d others all h = let l = adds_none d (axis above ∷ others) all h in omega (arith, l)

test_adds : (t : Test) (r : List Token) → length r ≤ length (test_onto t r)
test_adds (label t) r = omega arith
test_adds any r = omega arith

mutual
  step_adds : (s : Step) (r : List Token) → Adds (step_depth s) r (step_onto s r)
  step_adds (step t ps) r =
      still_adds (preds_depth ps) r r (preds_onto ps r) (test_onto t (preds_onto ps r)) (omega arith) (test_adds t (preds_onto ps r)) (preds_adds ps r)

  preds_adds : (ps : Preds) (r : List Token) → Adds (preds_depth ps) r (preds_onto ps r)
  preds_adds none r = omega arith
  preds_adds (pred o ps) r =
      let more = preds_onto ps r in
      let inside = or_onto o (right ∷ more) in
      greater_adds (or_depth o) (preds_depth ps) r more (preds_onto (pred o ps) r)
      (still_adds (or_depth o) more (right ∷ more) inside (preds_onto (pred o ps) r) (omega arith) (omega arith) (or_adds o (right ∷ more)))
      (preds_adds ps r)

  or_adds : (o : Or) (r : List Token) → Adds (or_depth o) r (or_onto o r)
  or_adds (one a) r = and_adds a r
  or_adds (or a o) r =
      let more = or_onto o r in
      let all = and_onto a (or_word ∷ more) in
      greater_adds (and_depth a) (or_depth o) r more all
      (still_adds (and_depth a) more (or_word ∷ more) all all (omega arith) (omega arith) (and_adds a (or_word ∷ more)))
      (or_adds o r)

  and_adds : (a : And) (r : List Token) → Adds (and_depth a) r (and_onto a r)
  and_adds (lone c) r = cond_adds c r
  and_adds (and c a) r =
      let more = and_onto a r in
      let all = cond_onto c (and_word ∷ more) in
      greater_adds (cond_depth c) (and_depth a) r more all
      (still_adds (cond_depth c) more (and_word ∷ more) all all (omega arith) (omega arith) (cond_adds c (and_word ∷ more)))
      (and_adds a r)

  cond_adds : (c : Cond) (r : List Token) → Adds (cond_depth c) r (cond_onto c r)
  cond_adds (fails o) r =
      still_adds (or_depth o) r (closing ∷ r) (or_onto o (closing ∷ r)) (cond_onto (fails o) r) (omega arith) (omega arith) (or_adds o (closing ∷ r))
  cond_adds (group o) r =
      still_adds (or_depth o) r (closing ∷ r) (or_onto o (closing ∷ r)) (cond_onto (group o) r) (omega arith) (omega arith) (or_adds o (closing ∷ r))
  cond_adds (rel a s ch) r =
      let more = chain_onto ch r in
      further_adds a (greater (step_depth s) (chain_depth ch)) r (step_onto s more)
      (greater_adds (step_depth s) (chain_depth ch) r more (step_onto s more) (step_adds s more) (chain_adds ch r))
  cond_adds always r = omega arith

  chain_adds : (ch : Chain) (r : List Token) → Adds (chain_depth ch) r (chain_onto ch r)
  chain_adds no_step r = omega arith
  chain_adds (go a s ch) r =
      let more = chain_onto ch r in
      further_adds a (greater (step_depth s) (chain_depth ch)) r (step_onto s more)
      (greater_adds (step_depth s) (chain_depth ch) r more (step_onto s more) (step_adds s more) (chain_adds ch r))

from_adds : (ch : Chain) (d : Option ℕ) (r all : List Token) → Adds d (chain_onto ch r) all → Adds (depth_from d ch) r all
from_adds no_step d r all h = h
from_adds (go a s ch) d r all h =
    let more = chain_onto ch r in
    from_adds ch (greater (further a d) (step_depth s)) r all
    (greater_adds (further a d) (step_depth s) more (step_onto s more) all (further_past a d (step_onto s more) all h) (step_adds s more))

up_to : (d : Option ℕ) (all : List Token) (k : ℕ) → Adds d [] all → d ≡ Some k → k ≤ length all
up_to None all k h e = cc
up_to (Some n) all k h e = let same : n ≡ k = cc (e) in omega (arith, h, same)

-- the depth of a query is at most the number of its tokens
pub few_edges : (q : Branch) (d : ℕ) → depth q ≡ Some d → d ≤ length (tokens q)
few_edges (first_step s ch) d e =
    up_to (depth_from (step_depth s) ch) (step_onto s (chain_onto ch [])) d
    (from_adds ch (step_depth s) [] (step_onto s (chain_onto ch [])) (step_adds s (chain_onto ch []))) e

-- parts of a relaxed query have no more tokens, whatever follows them
relaxed_test : (t : Test) (r q : List Token) → length q ≤ length r → length (test_onto t q) ≤ length (test_onto t r)
relaxed_test (label t) r q h = omega (arith, h)
relaxed_test any r q h = omega (arith, h)

mutual
  relaxed_step : (s : Step) (r q : List Token) → length q ≤ length r → length (step_onto (relax_step s) q) ≤ length (step_onto s r)
  relaxed_step (step t ps) r q h = relaxed_test t (preds_onto ps r) (preds_onto (relax_preds ps) q) (relaxed_preds ps r q h)

  relaxed_preds : (ps : Preds) (r q : List Token) → length q ≤ length r → length (preds_onto (relax_preds ps) q) ≤ length (preds_onto ps r)
  relaxed_preds none r q h = h
  relaxed_preds (pred o ps) r q h =
      let more = relaxed_preds ps r q h in
      let inside = relaxed_or o (right ∷ preds_onto ps r) (right ∷ preds_onto (relax_preds ps) q) (omega (arith, more)) in
      omega (arith, inside)

  relaxed_or : (o : Or) (r q : List Token) → length q ≤ length r → length (or_onto (relax_or o) q) ≤ length (or_onto o r)
  relaxed_or (one a) r q h = relaxed_and a r q h
  relaxed_or (or a o) r q h =
      let more = relaxed_or o r q h in
      relaxed_and a (or_word ∷ or_onto o r) (or_word ∷ or_onto (relax_or o) q) (omega (arith, more))

  relaxed_and : (a : And) (r q : List Token) → length q ≤ length r → length (and_onto (relax_and a) q) ≤ length (and_onto a r)
  relaxed_and (lone c) r q h = relaxed_cond c r q h
  relaxed_and (and c a) r q h =
      let more = relaxed_and a r q h in
      relaxed_cond c (and_word ∷ and_onto a r) (and_word ∷ and_onto (relax_and a) q) (omega (arith, more))

  relaxed_cond : (c : Cond) (r q : List Token) → length q ≤ length r → length (cond_onto (relax_cond c) q) ≤ length (cond_onto c r)
  relaxed_cond (fails o) r q h =
      let past = adds_none (or_depth o) (closing ∷ r) (or_onto o (closing ∷ r)) (or_adds o (closing ∷ r)) in
      omega (arith, past, h)
  relaxed_cond (group o) r q h = let inside = relaxed_or o (closing ∷ r) (closing ∷ q) (omega (arith, h)) in omega (arith, inside)
  relaxed_cond (rel a s ch) r q h =
      let more = relaxed_step s (chain_onto ch r) (chain_onto (relax_chain ch) q) (relaxed_chain ch r q h) in
      omega (arith, more)
  relaxed_cond always r q h = omega (arith, h)

  relaxed_chain : (ch : Chain) (r q : List Token) → length q ≤ length r → length (chain_onto (relax_chain ch) q) ≤ length (chain_onto ch r)
  relaxed_chain no_step r q h = h
  relaxed_chain (go a s ch) r q h =
      let more = relaxed_step s (chain_onto ch r) (chain_onto (relax_chain ch) q) (relaxed_chain ch r q h) in
      omega (arith, more)

-- a relaxed query has no more tokens
pub relaxed_few : (q : Branch) → length (tokens (relax q)) ≤ length (tokens q)
relaxed_few (first_step s ch) = relaxed_step s (chain_onto ch []) (chain_onto (relax_chain ch) []) (relaxed_chain ch [] [] (omega arith))
