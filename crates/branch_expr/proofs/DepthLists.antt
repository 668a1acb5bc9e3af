-- How the depths of parts make that of the whole, over the lists that the code keeps.
use Rattle.std.proofs.Common.{◌≡◌, ℕ, ◌+◌, ◌<◌, ◌≤◌, length, take, drop, get_or, List, [], ◌∷◌, ◌++◌, refl, sym, ap, ◌∙◌, arith, max, Option, None, Some}
use Rattle.std.proofs.lemmas.List.{take_more}
use Rattle.path_spec.specs.Longest.{greater}
use Rattle.path_spec.proofs.Longest.{greater_assoc}
use Rattle.branch_spec.specs.Trees as tree
use Rattle.branch_expr.specs.Axes.{axis_of}
use Rattle.branch_expr.specs.declared.tree.Hop.{Hop}
use Rattle.branch_expr.specs.declared.tree.Cond.{Cond}
use Rattle.branch_expr.specs.declared.tree.And.{And}
use Rattle.branch_expr.specs.QueryTrees.{preds_of, step_of, chain_of, cond_of, and_from, and_of, or_from}
use Rattle.branch_spec.specs.Depths.{further, step_depth, preds_depth, or_depth, and_depth, cond_depth, depth_from}

zero_left : (a : Option ℕ) → greater (Some 0) a ≡ a
zero_left None = refl
zero_left (Some m) = let e : max 0 m ≡ m = omega arith in ap Some e

zero_right : (a : Option ℕ) → greater a (Some 0) ≡ a
zero_right None = refl
zero_right (Some m) = let e : max m 0 ≡ m = omega arith in ap Some e

taken : {X : Type 0} (xs : List X) (j : ℕ) (x : X) → j < length xs → x ≡ get_or xs j x → take j xs ++ x ∷ [] ≡ take (j + 1) xs
taken xs j x within e = ap (λ y. take j xs ++ y ∷ []) e ∙ sym (take_more xs j x within)

preds_more : (ps : List tree.Or) (o : tree.Or) → preds_depth (preds_of (ps ++ o ∷ [])) ≡ greater (preds_depth (preds_of ps)) (or_depth o)
preds_more [] o = zero_right (or_depth o) ∙ sym (zero_left (or_depth o))
preds_more (p ∷ ps) o = ap (greater (or_depth p)) (preds_more ps o) ∙ greater_assoc (or_depth p) (preds_depth (preds_of ps)) (or_depth o)

and_more : (c : tree.Cond) (ds : List Cond) (d : Cond) → and_depth (and_from c (ds ++ d ∷ [])) ≡ greater (and_depth (and_from c ds)) (cond_depth (cond_of d))
and_more c [] d = refl
and_more c (e ∷ ds) d = ap (greater (cond_depth c)) (and_more (cond_of e) ds d) ∙ greater_assoc (cond_depth c) (and_depth (and_from (cond_of e) ds)) (cond_depth (cond_of d))

or_more : (a : tree.And) (bs : List And) (b : And) → or_depth (or_from a (bs ++ b ∷ [])) ≡ greater (or_depth (or_from a bs)) (and_depth (and_of b))
or_more a [] b = refl
or_more a (e ∷ bs) b = ap (greater (and_depth a)) (or_more (and_of e) bs b) ∙ greater_assoc (and_depth a) (or_depth (or_from (and_of e) bs)) (and_depth (and_of b))

led_more : (d : Option ℕ) (hs : List Hop) (h : Hop) → depth_from d (chain_of (hs ++ h ∷ [])) ≡ greater (further (axis_of h.axis) (depth_from d (chain_of hs))) (step_depth (step_of h.step))
led_more d [] h = refl
led_more d (g ∷ hs) h = led_more (greater (further (axis_of g.axis) d) (step_depth (step_of g.step))) hs h

pub preds_step : (ps : List tree.Or) (j : ℕ) (o : tree.Or) → j < length ps → o ≡ get_or ps j o
    → greater (preds_depth (preds_of (take j ps))) (or_depth o) ≡ preds_depth (preds_of (take (j + 1) ps))
preds_step ps j o within e = sym (preds_more (take j ps) o) ∙ ap (λ y. preds_depth (preds_of y)) (taken ps j o within e)

pub and_step : (c : tree.Cond) (ds : List Cond) (j : ℕ) (d : Cond) → j < length ds → d ≡ get_or ds j d
    → greater (and_depth (and_from c (take j ds))) (cond_depth (cond_of d)) ≡ and_depth (and_from c (take (j + 1) ds))
and_step c ds j d within e = sym (and_more c (take j ds) d) ∙ ap (λ y. and_depth (and_from c y)) (taken ds j d within e)

pub or_step : (a : tree.And) (bs : List And) (j : ℕ) (b : And) → j < length bs → b ≡ get_or bs j b
    → greater (or_depth (or_from a (take j bs))) (and_depth (and_of b)) ≡ or_depth (or_from a (take (j + 1) bs))
or_step a bs j b within e = sym (or_more a (take j bs) b) ∙ ap (λ y. or_depth (or_from a y)) (taken bs j b within e)

pub led_step : (d : Option ℕ) (hs : List Hop) (j : ℕ) (h : Hop) → j < length hs → h ≡ get_or hs j h
    → greater (further (axis_of h.axis) (depth_from d (chain_of (take j hs)))) (step_depth (step_of h.step)) ≡ depth_from d (chain_of (take (j + 1) hs))
led_step d hs j h within e = sym (led_more d (take j hs) h) ∙ ap (λ y. depth_from d (chain_of y)) (taken hs j h within e)
