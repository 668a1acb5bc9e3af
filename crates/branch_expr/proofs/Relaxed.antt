-- Relaxed forms part by part, over the lists that the code keeps.
use Rattle.std.proofs.Common.{◌≡◌, List, [], ◌∷◌, map, refl, ap}
use Rattle.branch_spec.specs.Trees as tree
use Rattle.branch_spec.specs.Relaxed.{relax_step, relax_preds, relax_or, relax_and, relax_cond, relax_chain}
use Rattle.branch_expr.specs.Axes.{axis_of}
use Rattle.branch_expr.specs.declared.tree.Cond.{Cond}
use Rattle.branch_expr.specs.declared.tree.And.{And}
use Rattle.branch_expr.specs.declared.tree.Hop.{Hop}
use Rattle.branch_expr.specs.QueryTrees.{preds_of, step_of, chain_of, cond_of, and_from, and_of, or_from}

pub preds_relaxed : (os ps : List tree.Or) → map (λ o. o) os ≡ map relax_or (map (λ o. o) ps) → preds_of os ≡ relax_preds (preds_of ps)
preds_relaxed [] [] e = refl
preds_relaxed [] (p ∷ ps) e = cc
preds_relaxed (o ∷ os) [] e = cc
preds_relaxed (o ∷ os) (p ∷ ps) e =
    let first : o ≡ relax_or p = cc (e) in
    let more : map (λ o. o) os ≡ map relax_or (map (λ o. o) ps) = cc (e) in
    λ i. tree.pred (first i) (preds_relaxed os ps more i)

pub and_relaxed : (c d : tree.Cond) (cs ds : List Cond) → c ≡ relax_cond d → map cond_of cs ≡ map relax_cond (map cond_of ds) → and_from c cs ≡ relax_and (and_from d ds)
and_relaxed c d [] [] one e = ap tree.lone one
and_relaxed c d [] (y ∷ ds) one e = cc
and_relaxed c d (x ∷ cs) [] one e = cc
and_relaxed c d (x ∷ cs) (y ∷ ds) one e =
    let first : cond_of x ≡ relax_cond (cond_of y) = cc (e) in
    let more : map cond_of cs ≡ map relax_cond (map cond_of ds) = cc (e) in
    λ i. tree.and (one i) (and_relaxed (cond_of x) (cond_of y) cs ds first more i)

pub or_relaxed : (a b : tree.And) (ks bs : List And) → a ≡ relax_and b → map and_of ks ≡ map relax_and (map and_of bs) → or_from a ks ≡ relax_or (or_from b bs)
or_relaxed a b [] [] one e = ap tree.one one
or_relaxed a b [] (y ∷ bs) one e = cc
or_relaxed a b (x ∷ ks) [] one e = cc
or_relaxed a b (x ∷ ks) (y ∷ bs) one e =
    let first : and_of x ≡ relax_and (and_of y) = cc (e) in
    let more : map and_of ks ≡ map relax_and (map and_of bs) = cc (e) in
    λ i. tree.or (one i) (or_relaxed (and_of x) (and_of y) ks bs first more i)

-- a step after its axis, as a pair
abbrev pub hop_of : Hop → tree.Axis × tree.Step
hop_of h = (axis_of h.axis, step_of h.step)

abbrev pub relax_hop : tree.Axis × tree.Step → tree.Axis × tree.Step
relax_hop p = (p.0, relax_step p.1)

pub chain_relaxed : (hs gs : List Hop) → map hop_of hs ≡ map relax_hop (map hop_of gs) → chain_of hs ≡ relax_chain (chain_of gs)
chain_relaxed [] [] e = refl
chain_relaxed [] (g ∷ gs) e = cc
chain_relaxed (h ∷ hs) [] e = cc
chain_relaxed (h ∷ hs) (g ∷ gs) e =
    let first : hop_of h ≡ relax_hop (hop_of g) = cc (e) in
    let more : map hop_of hs ≡ map relax_hop (map hop_of gs) = cc (e) in
    λ i. tree.go ((first i).0) ((first i).1) (chain_relaxed hs gs more i)
