-- The canonical text is that of the tokens.
use Rattle.std.proofs.Common.{◌≡◌, ℕ, ◌+◌, ◌<◌, length, take, get_or, List, [], ◌∷◌, ◌++◌, refl, sym, ap, ◌∙◌, append-nil, append_assoc}
use Rattle.std.specs.Prelude.{codes}
use Rattle.std.specs.List.{flat_map}
use Rattle.std.proofs.lemmas.List.{take_more}
use Rattle.branch_spec.specs.Trees as tree
use Rattle.branch_spec.specs.Tokens.{Token, right, closing, and_word, or_word, test_onto, step_onto, preds_onto, or_onto, and_onto, cond_onto, chain_onto}
use Rattle.branch_spec.specs.Spelling.{axis_text, token_text, canonical}
use Rattle.branch_expr.specs.Axes.{axis_of}
use Rattle.branch_expr.specs.declared.tree.Cond.{Cond}
use Rattle.branch_expr.specs.declared.tree.And.{And}
use Rattle.branch_expr.specs.declared.tree.Hop.{Hop}
use Rattle.branch_expr.specs.QueryTrees.{preds_of, step_of, chain_of, cond_of, and_from, and_of, or_from}
use Rattle.branch_text.specs.BranchTexts.{branch_text, test_text, step_text, preds_text, or_text, and_text, cond_text, chain_text}

abbrev text : List Token → List ℕ
text ts = flat_map token_text ts

test_is : (t : tree.Test) (r : List Token) → text (test_onto t r) ≡ test_text t ++ text r
test_is (tree.label t) r = refl
test_is tree.any r = refl

-- a first part, and behind it another one
then_is : (a b c x y : List ℕ) → x ≡ a ++ y → y ≡ b ++ c → x ≡ (a ++ b) ++ c
then_is a b c x y h k = h ∙ ap (λ z. a ++ z) k ∙ sym (append_assoc a b c)

mutual
  step_is : (s : tree.Step) (r : List Token) → text (step_onto s r) ≡ step_text s ++ text r
  step_is (tree.step t ps) r = then_is (test_text t) (preds_text ps) (text r) _ _ (test_is t (preds_onto ps r)) (preds_is ps r)

  preds_is : (ps : tree.Preds) (r : List Token) → text (preds_onto ps r) ≡ preds_text ps ++ text r
  preds_is tree.none r = refl
  preds_is (tree.pred o ps) r =
      ap (λ x. 91 ∷ x) (or_is o (right ∷ preds_onto ps r) ∙ ap (λ x. or_text o ++ 93 ∷ x) (preds_is ps r) ∙ sym (append_assoc (or_text o) (93 ∷ preds_text ps) (text r)))

  or_is : (o : tree.Or) (r : List Token) → text (or_onto o r) ≡ or_text o ++ text r
  or_is (tree.one a) r = and_is a r
  or_is (tree.or a o) r =
      then_is (and_text a) (codes " or " ++ or_text o) (text r) _ _ (and_is a (or_word ∷ or_onto o r)) (ap (λ x. codes " or " ++ x) (or_is o r))

  and_is : (a : tree.And) (r : List Token) → text (and_onto a r) ≡ and_text a ++ text r
  and_is (tree.lone c) r = cond_is c r
  and_is (tree.and c a) r =
      then_is (cond_text c) (codes " and " ++ and_text a) (text r) _ _ (cond_is c (and_word ∷ and_onto a r)) (ap (λ x. codes " and " ++ x) (and_is a r))

  cond_is : (c : tree.Cond) (r : List Token) → text (cond_onto c r) ≡ cond_text c ++ text r
  cond_is (tree.fails o) r = ap (λ x. codes "not" ++ (40 ∷ x)) (or_is o (closing ∷ r) ∙ sym (append_assoc (or_text o) (41 ∷ []) (text r)))
  cond_is (tree.group o) r = ap (λ x. 40 ∷ x) (or_is o (closing ∷ r) ∙ sym (append_assoc (or_text o) (41 ∷ []) (text r)))
  cond_is (tree.rel a s ch) r =
      ap (λ x. axis_text a ++ x) (then_is (step_text s) (chain_text ch) (text r) _ _ (step_is s (chain_onto ch r)) (chain_is ch r))
      ∙ sym (append_assoc (axis_text a) (step_text s ++ chain_text ch) (text r))
  cond_is tree.always r = refl

  chain_is : (ch : tree.Chain) (r : List Token) → text (chain_onto ch r) ≡ chain_text ch ++ text r
  chain_is tree.no_step r = refl
  chain_is (tree.go a s ch) r =
      ap (λ x. axis_text a ++ x) (then_is (step_text s) (chain_text ch) (text r) _ _ (step_is s (chain_onto ch r)) (chain_is ch r))
      ∙ sym (append_assoc (axis_text a) (step_text s ++ chain_text ch) (text r))

pub canonical_is : (q : tree.Branch) → branch_text q ≡ canonical q
canonical_is (tree.first_step s ch) =
    sym (then_is (step_text s) (chain_text ch) [] _ _ (step_is s (chain_onto ch [])) (chain_is ch []) ∙ append-nil (step_text s ++ chain_text ch))

-- one part more
pub preds_text_more : (ps : List tree.Or) (o : tree.Or) → preds_text (preds_of (ps ++ o ∷ [])) ≡ preds_text (preds_of ps) ++ (91 ∷ (or_text o ++ 93 ∷ []))
preds_text_more [] o = refl
preds_text_more (p ∷ ps) o =
    ap (λ x. 91 ∷ x) (ap (λ x. or_text p ++ 93 ∷ x) (preds_text_more ps o) ∙ sym (append_assoc (or_text p) (93 ∷ preds_text (preds_of ps)) (91 ∷ (or_text o ++ 93 ∷ []))))

pub chain_text_more : (hs : List Hop) (h : Hop) → chain_text (chain_of (hs ++ h ∷ [])) ≡ chain_text (chain_of hs) ++ (axis_text (axis_of h.axis) ++ step_text (step_of h.step))
chain_text_more [] h = ap (λ x. axis_text (axis_of h.axis) ++ x) (append-nil (step_text (step_of h.step)))
chain_text_more (g ∷ hs) h =
    let more : List ℕ = axis_text (axis_of h.axis) ++ step_text (step_of h.step) in
    let prefix : List ℕ = step_text (step_of g.step) in
    ap (λ x. axis_text (axis_of g.axis) ++ (prefix ++ x)) (chain_text_more hs h)
    ∙ ap (λ x. axis_text (axis_of g.axis) ++ x) (sym (append_assoc prefix (chain_text (chain_of hs)) more))
    ∙ sym (append_assoc (axis_text (axis_of g.axis)) (prefix ++ chain_text (chain_of hs)) more)

pub and_text_more : (c : tree.Cond) (ds : List Cond) (d : Cond) → and_text (and_from c (ds ++ d ∷ [])) ≡ and_text (and_from c ds) ++ (codes " and " ++ cond_text (cond_of d))
and_text_more c [] d = refl
and_text_more c (e ∷ ds) d =
    ap (λ x. cond_text c ++ (codes " and " ++ x)) (and_text_more (cond_of e) ds d)
    ∙ sym (append_assoc (cond_text c) (codes " and " ++ and_text (and_from (cond_of e) ds)) (codes " and " ++ cond_text (cond_of d)))

pub or_text_more : (a : tree.And) (bs : List And) (b : And) → or_text (or_from a (bs ++ b ∷ [])) ≡ or_text (or_from a bs) ++ (codes " or " ++ and_text (and_of b))
or_text_more a [] b = refl
or_text_more a (e ∷ bs) b =
    ap (λ x. and_text a ++ (codes " or " ++ x)) (or_text_more (and_of e) bs b)
    ∙ sym (append_assoc (and_text a) (codes " or " ++ or_text (or_from (and_of e) bs)) (codes " or " ++ and_text (and_of b)))

-- a step of the loops: what was written, and what is written now
pub written : {X : Type 0} (f : List X → List ℕ) (g : X → List ℕ) → ((xs : List X) (x : X) → f (xs ++ x ∷ []) ≡ f xs ++ g x) → (old prefix out out2 : List ℕ) (xs : List X) (j : ℕ) (x : X)
    → j < length xs → x ≡ get_or xs j x → out ≡ old ++ (prefix ++ f (take j xs)) → out2 ≡ out ++ g x → out2 ≡ old ++ (prefix ++ f (take (j + 1) xs))
written f g more old prefix out out2 xs j x within e h k =
    k ∙ ap (λ y. y ++ g x) h ∙ append_assoc old (prefix ++ f (take j xs)) (g x) ∙ ap (λ y. old ++ y) (append_assoc prefix (f (take j xs)) (g x))
    ∙ ap (λ y. old ++ (prefix ++ y)) (sym (more (take j xs) x) ∙ ap f (ap (λ y. take j xs ++ y ∷ []) e ∙ sym (take_more xs j x within)))
