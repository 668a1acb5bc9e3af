-- Trees are told apart by their codes.
use Rattle.std.specs.Prelude.{◌≡◌, ◌≢◌, ℕ, List, refl}
use Rattle.std.proofs.Common.{ap, arith}
use base.Stored.{Gv, gnil, gnum, gcons, Coded, coded_ℕ, coded_list}
use Rattle.branch_spec.specs.Trees.{Axis, child, below, parent, above, Test, label, any, Step, step, Preds, none, pred, Or, one, or, And, lone, and, Cond, fails, group, rel, always, Chain, no_step, go, Branch, first_step}

abbrev head : Gv → Gv
head gnil = gnil
head (gnum n) = gnil
head (gcons a b) = a

abbrev tail : Gv → Gv
tail gnil = gnil
tail (gnum n) = gnil
tail (gcons a b) = b

apart : (m n : ℕ) {a b : Gv} → gcons (gnum m) a ≡ gcons (gnum n) b → m ≢ n → ⊥
apart m n p other = other (cc)

abbrev coded_text : Coded (List ℕ)
coded_text = coded_list coded_ℕ

abbrev axis_code : Axis → Gv
axis_code child = gnum 0
axis_code below = gnum 1
axis_code parent = gnum 2
axis_code above = gnum 3

axis_inj : (x y : Axis) → axis_code x ≡ axis_code y → x ≡ y
axis_inj child child p = refl
axis_inj child below p = cc
axis_inj child parent p = cc
axis_inj child above p = cc
axis_inj below child p = cc
axis_inj below below p = refl
axis_inj below parent p = cc
axis_inj below above p = cc
axis_inj parent child p = cc
axis_inj parent below p = cc
axis_inj parent parent p = refl
axis_inj parent above p = cc
axis_inj above child p = cc
axis_inj above below p = cc
axis_inj above parent p = cc
axis_inj above above p = refl

abbrev test_code : Test → Gv
test_code (label x0) = gcons (gnum 0) (coded_text.code x0)
test_code any = gcons (gnum 1) gnil

-- tests of one code are the same
pub test_inj : (x y : Test) → test_code x ≡ test_code y → x ≡ y
test_inj (label x0) (label y0) p = λ i. label (coded_text.inj x0 y0 (ap (λ g. tail g) p) i)
test_inj (label x0) any p = absurd (apart 0 1 p (omega arith))
test_inj any (label y0) p = absurd (apart 1 0 p (omega arith))
test_inj any any p = refl

abbrev mutual
  -- the code of a part of a tree: the number of its constructor, and the codes of its arguments
  pub step_code : Step → Gv
  step_code (step x0 x1) = gcons (gnum 0) (gcons (test_code x0) (preds_code x1))

  pub preds_code : Preds → Gv
  preds_code none = gcons (gnum 0) gnil
  preds_code (pred x0 x1) = gcons (gnum 1) (gcons (or_code x0) (preds_code x1))

  pub or_code : Or → Gv
  or_code (one x0) = gcons (gnum 0) (and_code x0)
  or_code (or x0 x1) = gcons (gnum 1) (gcons (and_code x0) (or_code x1))

  pub and_code : And → Gv
  and_code (lone x0) = gcons (gnum 0) (cond_code x0)
  and_code (and x0 x1) = gcons (gnum 1) (gcons (cond_code x0) (and_code x1))

  pub cond_code : Cond → Gv
  cond_code (fails x0) = gcons (gnum 0) (or_code x0)
  cond_code (group x0) = gcons (gnum 1) (or_code x0)
  cond_code (rel x0 x1 x2) = gcons (gnum 2) (gcons (axis_code x0) (gcons (step_code x1) (chain_code x2)))
  cond_code always = gcons (gnum 3) gnil

  pub chain_code : Chain → Gv
  chain_code no_step = gcons (gnum 0) gnil
  chain_code (go x0 x1 x2) = gcons (gnum 1) (gcons (axis_code x0) (gcons (step_code x1) (chain_code x2)))

mutual
  -- parts of one code are the same
  pub step_inj : (x y : Step) → step_code x ≡ step_code y → x ≡ y
  step_inj (step x0 x1) (step y0 y1) p = λ i. step (test_inj x0 y0 (ap (λ g. head (tail g)) p) i) (preds_inj x1 y1 (ap (λ g. tail (tail g)) p) i)

  pub preds_inj : (x y : Preds) → preds_code x ≡ preds_code y → x ≡ y
  preds_inj none none p = refl
  preds_inj none (pred y0 y1) p = absurd (apart 0 1 p (omega arith))
  preds_inj (pred x0 x1) none p = absurd (apart 1 0 p (omega arith))
  preds_inj (pred x0 x1) (pred y0 y1) p = λ i. pred (or_inj x0 y0 (ap (λ g. head (tail g)) p) i) (preds_inj x1 y1 (ap (λ g. tail (tail g)) p) i)

  pub or_inj : (x y : Or) → or_code x ≡ or_code y → x ≡ y
  or_inj (one x0) (one y0) p = λ i. one (and_inj x0 y0 (ap (λ g. tail g) p) i)
  or_inj (one x0) (or y0 y1) p = absurd (apart 0 1 p (omega arith))
  or_inj (or x0 x1) (one y0) p = absurd (apart 1 0 p (omega arith))
  or_inj (or x0 x1) (or y0 y1) p = λ i. or (and_inj x0 y0 (ap (λ g. head (tail g)) p) i) (or_inj x1 y1 (ap (λ g. tail (tail g)) p) i)

  pub and_inj : (x y : And) → and_code x ≡ and_code y → x ≡ y
  and_inj (lone x0) (lone y0) p = λ i. lone (cond_inj x0 y0 (ap (λ g. tail g) p) i)
  and_inj (lone x0) (and y0 y1) p = absurd (apart 0 1 p (omega arith))
  and_inj (and x0 x1) (lone y0) p = absurd (apart 1 0 p (omega arith))
  and_inj (and x0 x1) (and y0 y1) p = λ i. and (cond_inj x0 y0 (ap (λ g. head (tail g)) p) i) (and_inj x1 y1 (ap (λ g. tail (tail g)) p) i)

  pub cond_inj : (x y : Cond) → cond_code x ≡ cond_code y → x ≡ y
  cond_inj (fails x0) (fails y0) p = λ i. fails (or_inj x0 y0 (ap (λ g. tail g) p) i)
  cond_inj (fails x0) (group y0) p = absurd (apart 0 1 p (omega arith))
  cond_inj (fails x0) (rel y0 y1 y2) p = absurd (apart 0 2 p (omega arith))
  cond_inj (fails x0) always p = absurd (apart 0 3 p (omega arith))
  cond_inj (group x0) (fails y0) p = absurd (apart 1 0 p (omega arith))
  cond_inj (group x0) (group y0) p = λ i. group (or_inj x0 y0 (ap (λ g. tail g) p) i)
  cond_inj (group x0) (rel y0 y1 y2) p = absurd (apart 1 2 p (omega arith))
  cond_inj (group x0) always p = absurd (apart 1 3 p (omega arith))
  cond_inj (rel x0 x1 x2) (fails y0) p = absurd (apart 2 0 p (omega arith))
  cond_inj (rel x0 x1 x2) (group y0) p = absurd (apart 2 1 p (omega arith))
  cond_inj (rel x0 x1 x2) (rel y0 y1 y2) p =
      λ i. rel (axis_inj x0 y0 (ap (λ g. head (tail g)) p) i) (step_inj x1 y1 (ap (λ g. head (tail (tail g))) p) i)
      (chain_inj x2 y2 (ap (λ g. tail (tail (tail g))) p) i)
  cond_inj (rel x0 x1 x2) always p = absurd (apart 2 3 p (omega arith))
  cond_inj always (fails y0) p = absurd (apart 3 0 p (omega arith))
  cond_inj always (group y0) p = absurd (apart 3 1 p (omega arith))
  cond_inj always (rel y0 y1 y2) p = absurd (apart 3 2 p (omega arith))
  cond_inj always always p = refl

  pub chain_inj : (x y : Chain) → chain_code x ≡ chain_code y → x ≡ y
  chain_inj no_step no_step p = refl
  chain_inj no_step (go y0 y1 y2) p = absurd (apart 0 1 p (omega arith))
  chain_inj (go x0 x1 x2) no_step p = absurd (apart 1 0 p (omega arith))
  chain_inj (go x0 x1 x2) (go y0 y1 y2) p =
      λ i. go (axis_inj x0 y0 (ap (λ g. head (tail g)) p) i) (step_inj x1 y1 (ap (λ g. head (tail (tail g))) p) i)
      (chain_inj x2 y2 (ap (λ g. tail (tail (tail g))) p) i)

abbrev branch_code : Branch → Gv
branch_code (first_step x0 x1) = gcons (step_code x0) (chain_code x1)

-- queries of one code are the same
pub branch_inj : (x y : Branch) → branch_code x ≡ branch_code y → x ≡ y
branch_inj (first_step x0 x1) (first_step y0 y1) p = λ i. first_step (step_inj x0 y0 (ap (λ g. head g) p) i) (chain_inj x1 y1 (ap (λ g. tail g) p) i)

-- alternatives have codes
abbrev pub coded_or : Coded Or
coded_or = record { code = or_code; inj = or_inj }

-- branching queries have codes
abbrev pub coded_branch : Coded Branch
coded_branch = record { code = branch_code; inj = branch_inj }
