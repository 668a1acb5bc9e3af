-- What the readers of tokens keep.
use Rattle.std.proofs.Common.{◌≡◌, List, [], ◌∷◌, ◌++◌, length, refl, sym, ap, ◌∙◌, subst, rules}
use Rattle.branch_spec.specs.Trees as tree
use Rattle.branch_spec.specs.Tokens.{Token, lab, underscore, axis, left, right, opening, closing, not_word, and_word, or_word, nothing, test_onto, step_onto, preds_onto, or_onto, and_onto, cond_onto, chain_onto, tokens, EndsOr, EndsAnd, EndsChain, EndsStep}
use Rattle.branch_spec.proofs.OneQuery.{ends_or_and, ends_and_chain, chain_ends, one_test, one_step, one_or, one_and, one_cond, one_chain}
use Rattle.branch_expr.specs.Axes.{axis_of}
use Rattle.branch_expr.specs.declared.tree.Cond.{Cond}
use Rattle.branch_expr.specs.declared.tree.And.{And}
use Rattle.branch_expr.specs.declared.tree.Hop.{Hop}
use Rattle.branch_expr.specs.QueryTrees.{preds_of, step_of, chain_of, cond_of, and_from, and_of, or_from}
use Rattle.branch_text.specs.declared.token.Token as token
use Rattle.branch_text.specs.BranchTokens.{seen}

-- one part more
pub preds_more : (ps : List tree.Or) (o : tree.Or) (q : List Token) → preds_onto (preds_of (ps ++ o ∷ [])) q ≡ preds_onto (preds_of ps) (left ∷ or_onto o (right ∷ q))
preds_more [] o q = refl
preds_more (p ∷ ps) o q = ap (λ x. left ∷ or_onto p (right ∷ x)) (preds_more ps o q)

pub chain_more : (hs : List Hop) (h : Hop) (q : List Token) → chain_onto (chain_of (hs ++ h ∷ [])) q ≡ chain_onto (chain_of hs) (axis (axis_of h.axis) ∷ step_onto (step_of h.step) q)
chain_more [] h q = refl
chain_more (g ∷ hs) h q = ap (λ x. axis (axis_of g.axis) ∷ step_onto (step_of g.step) x) (chain_more hs h q)

pub and_more : (c : tree.Cond) (ds : List Cond) (d : Cond) (q : List Token) → and_onto (and_from c (ds ++ d ∷ [])) q ≡ and_onto (and_from c ds) (and_word ∷ cond_onto (cond_of d) q)
and_more c [] d q = refl
and_more c (e ∷ ds) d q = ap (λ x. cond_onto c (and_word ∷ x)) (and_more (cond_of e) ds d q)

pub or_more : (a : tree.And) (bs : List And) (b : And) (q : List Token) → or_onto (or_from a (bs ++ b ∷ [])) q ≡ or_onto (or_from a bs) (or_word ∷ and_onto (and_of b) q)
or_more a [] b q = refl
or_more a (e ∷ bs) b q = ap (λ x. and_onto a (or_word ∷ x)) (or_more (and_of e) bs b q)

-- what stands behind a '[' is a predicate, and more
pub preds_peel : (ps : List tree.Or) (x : List Token) (qs : tree.Preds) (r : List Token) → EndsStep r → preds_onto (preds_of ps) (left ∷ x) ≡ preds_onto qs r
    → (o : tree.Or) × (us : tree.Preds) × (x ≡ or_onto o (right ∷ preds_onto us r))
preds_peel [] x tree.none r h k = absurd (subst EndsStep (sym k) h)
preds_peel [] x (tree.pred o us) r h k = (o, us, cc (k))
preds_peel (p ∷ ps) x tree.none r h k = absurd (subst EndsStep (sym k) h)
preds_peel (p ∷ ps) x (tree.pred o us) r h k =
    let inner : or_onto p (right ∷ preds_onto (preds_of ps) (left ∷ x)) ≡ or_onto o (right ∷ preds_onto us r) = cc (k) in
    let a = one_or p o (right ∷ preds_onto (preds_of ps) (left ∷ x)) (right ∷ preds_onto us r) inner tt tt in
    preds_peel ps x us r h (cc (a.1))

-- where no '[' follows, all predicates were read
pub preds_done : (ps : List tree.Or) (x : List Token) (qs : tree.Preds) (r : List Token) → ((q : List Token) → x ≡ left ∷ q → ⊥) → EndsStep r
    → preds_onto (preds_of ps) x ≡ preds_onto qs r → x ≡ r
preds_done [] x tree.none r absent h k = k
preds_done [] x (tree.pred o us) r absent h k = absurd (absent (or_onto o (right ∷ preds_onto us r)) k)
preds_done (p ∷ ps) x tree.none r absent h k = absurd (subst EndsStep (sym k) h)
preds_done (p ∷ ps) x (tree.pred o us) r absent h k =
    let inner : or_onto p (right ∷ preds_onto (preds_of ps) x) ≡ or_onto o (right ∷ preds_onto us r) = cc (k) in
    let a = one_or p o (right ∷ preds_onto (preds_of ps) x) (right ∷ preds_onto us r) inner tt tt in
    preds_done ps x us r absent h (cc (a.1))

pub step_peel : (t : tree.Test) (ps : List tree.Or) (x : List Token) (s : tree.Step) (r : List Token) → EndsStep r → test_onto t (preds_onto (preds_of ps) (left ∷ x)) ≡ step_onto s r
    → (o : tree.Or) × (us : tree.Preds) × (x ≡ or_onto o (right ∷ preds_onto us r))
step_peel t ps x (tree.step u qs) r h k = let a = one_test t u (preds_onto (preds_of ps) (left ∷ x)) (preds_onto qs r) k in preds_peel ps x qs r h a.1

pub step_done : (t : tree.Test) (ps : List tree.Or) (x : List Token) (s : tree.Step) (r : List Token) → ((q : List Token) → x ≡ left ∷ q → ⊥) → EndsStep r
    → test_onto t (preds_onto (preds_of ps) x) ≡ step_onto s r → x ≡ r
step_done t ps x (tree.step u qs) r absent h k = let a = one_test t u (preds_onto (preds_of ps) x) (preds_onto qs r) k in preds_done ps x qs r absent h a.1

pub step_begins : (s : tree.Step) (r : List Token) → (t : tree.Test) × (q : List Token) × (step_onto s r ≡ test_onto t q)
step_begins (tree.step t ps) r = (t, preds_onto ps r, refl)

-- what stands behind an axis is a step, and more
pub chain_peel : (hs : List Hop) (a : tree.Axis) (x : List Token) (ch : tree.Chain) (r : List Token) → EndsChain r → chain_onto (chain_of hs) (axis a ∷ x) ≡ chain_onto ch r
    → (s : tree.Step) × (ci : tree.Chain) × (x ≡ step_onto s (chain_onto ci r))
chain_peel [] a x tree.no_step r h k = absurd (subst EndsChain (sym k) h)
chain_peel [] a x (tree.go b s ci) r h k = (s, ci, cc (k))
chain_peel (g ∷ hs) a x tree.no_step r h k = absurd (subst EndsChain (sym k) h)
chain_peel (g ∷ hs) a x (tree.go b s ci) r h k =
    let tails : step_onto (step_of g.step) (chain_onto (chain_of hs) (axis a ∷ x)) ≡ step_onto s (chain_onto ci r) = cc (k) in
    let d = one_step (step_of g.step) s (chain_onto (chain_of hs) (axis a ∷ x)) (chain_onto ci r) tails (hops_end hs a x) (chain_ends ci r h) in
    chain_peel hs a x ci r h d.1
  where
    hops_end : (hs : List Hop) (a : tree.Axis) (x : List Token) → EndsStep (chain_onto (chain_of hs) (axis a ∷ x))
    hops_end [] a x = tt
    hops_end (g ∷ hs) a x = tt

-- what ends a step, and is no axis, ends a chain
pub chain_ends_here : (r : List Token) → EndsStep r → ((a : tree.Axis) (q : List Token) → r ≡ axis a ∷ q → ⊥) → EndsChain r
chain_ends_here [] h absent = tt
chain_ends_here (lab t ∷ r) h absent = h
chain_ends_here (underscore ∷ r) h absent = h
chain_ends_here (axis a ∷ r) h absent = absurd (absent a r refl)
chain_ends_here (left ∷ r) h absent = h
chain_ends_here (right ∷ r) h absent = tt
chain_ends_here (opening ∷ r) h absent = h
chain_ends_here (closing ∷ r) h absent = tt
chain_ends_here (not_word ∷ r) h absent = h
chain_ends_here (and_word ∷ r) h absent = tt
chain_ends_here (or_word ∷ r) h absent = tt
chain_ends_here (nothing ∷ r) h absent = h

-- what stands behind an 'and' are conditions again
pub and_peel : (c : tree.Cond) (ds : List Cond) (x : List Token) (a : tree.And) (r : List Token) → EndsAnd r → and_onto (and_from c ds) (and_word ∷ x) ≡ and_onto a r → (b : tree.And) × (x ≡ and_onto b r)
and_peel c [] x (tree.lone d) r h k = let e = one_cond c d (and_word ∷ x) r k tt (ends_and_chain r h) in absurd (subst EndsAnd (sym e.1) h)
and_peel c [] x (tree.and d b) r h k = let e = one_cond c d (and_word ∷ x) (and_word ∷ and_onto b r) k tt tt in (b, cc (e.1))
and_peel c (y ∷ ds) x (tree.lone d) r h k =
    let e = one_cond c d (and_word ∷ and_onto (and_from (cond_of y) ds) (and_word ∷ x)) r k tt (ends_and_chain r h) in absurd (subst EndsAnd (sym e.1) h)
and_peel c (y ∷ ds) x (tree.and d b) r h k =
    let e = one_cond c d (and_word ∷ and_onto (and_from (cond_of y) ds) (and_word ∷ x)) (and_word ∷ and_onto b r) k tt tt in
    and_peel (cond_of y) ds x b r h (cc (e.1))

pub and_begins : (a : tree.And) (r : List Token) → EndsAnd r → (c : tree.Cond) × (q : List Token) × EndsChain q × (and_onto a r ≡ cond_onto c q)
and_begins (tree.lone c) r h = (c, r, ends_and_chain r h, refl)
and_begins (tree.and c a) r h = (c, and_word ∷ and_onto a r, tt, refl)

pub and_ends : (r : List Token) → EndsChain r → ((q : List Token) → r ≡ and_word ∷ q → ⊥) → EndsAnd r
and_ends [] h absent = tt
and_ends (lab t ∷ r) h absent = h
and_ends (underscore ∷ r) h absent = h
and_ends (axis a ∷ r) h absent = h
and_ends (left ∷ r) h absent = h
and_ends (right ∷ r) h absent = tt
and_ends (opening ∷ r) h absent = h
and_ends (closing ∷ r) h absent = tt
and_ends (not_word ∷ r) h absent = h
and_ends (and_word ∷ r) h absent = absurd (absent r refl)
and_ends (or_word ∷ r) h absent = tt
and_ends (nothing ∷ r) h absent = h

-- what stands behind an 'or' are alternatives again
pub or_peel : (a : tree.And) (bs : List And) (x : List Token) (o : tree.Or) (r : List Token) → EndsOr r → or_onto (or_from a bs) (or_word ∷ x) ≡ or_onto o r → (p : tree.Or) × (x ≡ or_onto p r)
or_peel a [] x (tree.one b) r h k = let e = one_and a b (or_word ∷ x) r k tt (ends_or_and r h) in absurd (subst EndsOr (sym e.1) h)
or_peel a [] x (tree.or b p) r h k = let e = one_and a b (or_word ∷ x) (or_word ∷ or_onto p r) k tt tt in (p, cc (e.1))
or_peel a (y ∷ bs) x (tree.one b) r h k =
    let e = one_and a b (or_word ∷ or_onto (or_from (and_of y) bs) (or_word ∷ x)) r k tt (ends_or_and r h) in absurd (subst EndsOr (sym e.1) h)
or_peel a (y ∷ bs) x (tree.or b p) r h k =
    let e = one_and a b (or_word ∷ or_onto (or_from (and_of y) bs) (or_word ∷ x)) (or_word ∷ or_onto p r) k tt tt in
    or_peel (and_of y) bs x p r h (cc (e.1))

pub or_begins : (o : tree.Or) (r : List Token) → EndsOr r → (a : tree.And) × (q : List Token) × EndsAnd q × (or_onto o r ≡ and_onto a q)
or_begins (tree.one a) r h = (a, r, ends_or_and r h, refl)
or_begins (tree.or a o) r h = (a, or_word ∷ or_onto o r, tt, refl)

pub or_ends : (r : List Token) → EndsAnd r → ((q : List Token) → r ≡ or_word ∷ q → ⊥) → EndsOr r
or_ends [] h absent = tt
or_ends (lab t ∷ r) h absent = h
or_ends (underscore ∷ r) h absent = h
or_ends (axis a ∷ r) h absent = h
or_ends (left ∷ r) h absent = h
or_ends (right ∷ r) h absent = tt
or_ends (opening ∷ r) h absent = h
or_ends (closing ∷ r) h absent = tt
or_ends (not_word ∷ r) h absent = h
or_ends (and_word ∷ r) h absent = h
or_ends (or_word ∷ r) h absent = absurd (absent r refl)
or_ends (nothing ∷ r) h absent = h

-- the bracket isn't closed
pub unclosed : (y : List Token) (o p : tree.Or) (z r : List Token) (t : Token) → EndsOr (t ∷ r) → y ≡ or_onto o z → EndsOr z → ((q : List Token) → z ≡ t ∷ q → ⊥) → y ≡ or_onto p (t ∷ r) → ⊥
unclosed y o p z r t last h ends absent k = absent r (one_or o p z (t ∷ r) (sym h ∙ k) ends last).1

-- what follows in parentheses is one
pub group_only : (o p : tree.Or) (x r : List Token) → or_onto o (closing ∷ x) ≡ or_onto p (closing ∷ r) → r ≡ x
group_only o p x r k = let a = one_or o p (closing ∷ x) (closing ∷ r) k tt tt in cc (a.1)

-- with what a condition begins
pub not_inside : (x : List Token) (c : tree.Cond) (r : List Token) → not_word ∷ x ≡ cond_onto c r → (o : tree.Or) × (x ≡ opening ∷ or_onto o (closing ∷ r))
not_inside x (tree.fails o) r k = (o, cc (k))
not_inside x (tree.group o) r k = cc
not_inside x (tree.rel a s ch) r k = cc
not_inside x tree.always r k = cc

pub group_inside : (x : List Token) (c : tree.Cond) (r : List Token) → opening ∷ x ≡ cond_onto c r → (o : tree.Or) × (x ≡ or_onto o (closing ∷ r))
group_inside x (tree.fails o) r k = cc
group_inside x (tree.group o) r k = (o, cc (k))
group_inside x (tree.rel a s ch) r k = cc
group_inside x tree.always r k = cc

pub rel_inside : (b : tree.Axis) (x : List Token) (c : tree.Cond) (r : List Token) → axis b ∷ x ≡ cond_onto c r → (a : tree.Axis) × (s : tree.Step) × (ch : tree.Chain) × (axis b ∷ x ≡ chain_onto (tree.go a s ch) r)
rel_inside b x (tree.fails o) r k = cc
rel_inside b x (tree.group o) r k = cc
rel_inside b x (tree.rel a s ch) r k = (a, s, ch, k)
rel_inside b x tree.always r k = cc

-- no token is seen as what holds everywhere
none_always : (ts : List token.Token) (r : List Token) → seen ts ≡ nothing ∷ r → ⊥
none_always [] r k = cc
none_always (t ∷ ts) r k = search rules

pub no_cond : (ts : List token.Token) (c : tree.Cond) (r : List Token) → ((q : List Token) → seen ts ≡ not_word ∷ q → ⊥) → ((q : List Token) → seen ts ≡ opening ∷ q → ⊥)
    → ((a : tree.Axis) (q : List Token) → seen ts ≡ axis a ∷ q → ⊥) → seen ts ≡ cond_onto c r → ⊥
no_cond ts (tree.fails o) r n p a k = n (opening ∷ or_onto o (closing ∷ r)) k
no_cond ts (tree.group o) r n p a k = p (or_onto o (closing ∷ r)) k
no_cond ts (tree.rel b s ch) r n p a k = a b (step_onto s (chain_onto ch r)) k
no_cond ts tree.always r n p a k = none_always ts r k

seen_nil : (ts : List token.Token) → seen ts ≡ [] → length ts ≡ 0
seen_nil [] e = refl
seen_nil (t ∷ ts) e = cc

-- what was read as a whole query leaves nothing
pub all_read : (x : List Token) (s : tree.Step) (ch : tree.Chain) (ts : List token.Token) (q : tree.Branch) → x ≡ step_onto s (chain_onto ch (seen ts)) → EndsChain (seen ts) → x ≡ tokens q → length ts ≡ 0
all_read x s ch ts (tree.first_step u ci) h ends k =
    let a = one_step s u (chain_onto ch (seen ts)) (chain_onto ci []) (sym h ∙ k) (chain_ends ch (seen ts) ends) (chain_ends ci [] tt) in
    seen_nil ts (one_chain ch ci (seen ts) [] a.1 ends tt).1

pub query_begins : (q : tree.Branch) → (s : tree.Step) × (r : List Token) × EndsStep r × (tokens q ≡ step_onto s r)
query_begins (tree.first_step s ch) = (s, chain_onto ch [], chain_ends ch [] tt, refl)

-- behind the first step stand the others
pub query_rest : (x y : List Token) (s : tree.Step) (q : tree.Branch) → x ≡ step_onto s y → EndsStep y → x ≡ tokens q → (ch : tree.Chain) × (y ≡ chain_onto ch [])
query_rest x y s (tree.first_step u ci) h ends k = (ci, (one_step s u y (chain_onto ci []) (sym h ∙ k) ends (chain_ends ci [] tt)).1)

pub rel_rest : (x y z : List Token) (b a : tree.Axis) (t s : tree.Step) (ch : tree.Chain) (r : List Token) → x ≡ axis b ∷ y → y ≡ step_onto t z → EndsStep z → EndsChain r → x ≡ chain_onto (tree.go a s ch) r
    → z ≡ chain_onto ch r
rel_rest x y z b a t s ch r e h ends last k =
    let tails : step_onto t z ≡ step_onto s (chain_onto ch r) = sym h ∙ second (sym e ∙ k) in
    (one_step t s z (chain_onto ch r) tails ends (chain_ends ch r last)).1
  where
    second : axis b ∷ y ≡ axis a ∷ step_onto s (chain_onto ch r) → y ≡ step_onto s (chain_onto ch r)
    second k = cc (k)

pub rel_step : (x y : List Token) (b a : tree.Axis) (s : tree.Step) (ch : tree.Chain) (r : List Token) → x ≡ axis b ∷ y → x ≡ chain_onto (tree.go a s ch) r → y ≡ step_onto s (chain_onto ch r)
rel_step x y b a s ch r e k = second (sym e ∙ k)
  where
    second : axis b ∷ y ≡ axis a ∷ step_onto s (chain_onto ch r) → y ≡ step_onto s (chain_onto ch r)
    second k = cc (k)

pub tail_one : (x : List Token) (t : Token) (y z : List Token) → x ≡ t ∷ y → x ≡ t ∷ z → y ≡ z
tail_one x t y z h k = second (sym h ∙ k)
  where
    second : t ∷ y ≡ t ∷ z → y ≡ z
    second e = cc (e)
