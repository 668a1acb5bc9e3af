-- Each part inside a tree has fewer parts than the tree.
use Rattle.std.specs.Prelude.{◌+◌, ◌≤◌, max, List, [], ◌∷◌}
use Rattle.std.proofs.Common.{arith}
use denote.Param.Weighed.{most}
use Rattle.branch_spec.specs.Trees as tree
use Rattle.branch_expr.specs.declared.tree.Step.{Step}
use Rattle.branch_expr.specs.declared.tree.Hop.{Hop}
use Rattle.branch_expr.specs.declared.tree.Cond.{Cond}
use Rattle.branch_expr.specs.declared.tree.Cond.TheVariants.{Not, Group, Rel, True}
use Rattle.branch_expr.specs.declared.tree.Rel as rels
use Rattle.branch_expr.specs.declared.tree.And.{And}
use Rattle.branch_expr.specs.declared.tree.Or.TheDeep.{deep-Step, deep-Hop, deep-Rel, deep-Cond, deep-And}
use Rattle.branch_expr.specs.QuerySizes.{nodes, and_nodes, cond_nodes, step_nodes, preds_nodes, chain_nodes}
use Rattle.branch_expr.specs.QueryTrees.{preds_of, step_of, chain_of, cond_of, and_from, and_of, or_from}

deep_preds : (os : List tree.Or) → most (λ o. nodes o + 1) os ≤ preds_nodes (preds_of os)
deep_preds [] = omega arith
deep_preds (o ∷ os) = let a = deep_preds os in omega (arith, a)

deep_step : (s : Step) → deep-Step s ≤ step_nodes (step_of s)
deep_step s = let a = deep_preds s.preds.items in omega (arith, a)

deep_hop : (h : Hop) → deep-Hop h ≤ step_nodes (step_of h.step)
deep_hop h = let a = deep_step h.step in omega (arith, a)

deep_hops : (hs : List Hop) → most (λ h. deep-Hop h) hs ≤ chain_nodes (chain_of hs)
deep_hops [] = omega arith
deep_hops (h ∷ hs) = let a = deep_hop h in let b = deep_hops hs in omega (arith, a, b)

deep_rel : (r : rels.Rel) → deep-Rel r ≤ step_nodes (step_of r.first.step) + chain_nodes (chain_of r.rest.items)
deep_rel r = let a = deep_hop r.first in let b = deep_hops r.rest.items in omega (arith, a, b)

deep_cond : (c : Cond) → deep-Cond c ≤ cond_nodes (cond_of c)
deep_cond (Not o) = omega arith
deep_cond (Group o) = omega arith
deep_cond (Rel r) = let a = deep_rel r in omega (arith, a)
deep_cond True = omega arith

first_cond : (c : tree.Cond) (ds : List Cond) → cond_nodes c + 1 ≤ and_nodes (and_from c ds)
first_cond c [] = omega arith
first_cond c (d ∷ ds) = omega arith

deep_conds : (c : tree.Cond) (ds : List Cond) → most (λ x. deep-Cond x) ds ≤ and_nodes (and_from c ds)
deep_conds c [] = omega arith
deep_conds c (d ∷ ds) =
    let a = deep_cond d in
    let b = deep_conds (cond_of d) ds in
    let e = first_cond (cond_of d) ds in
    omega (arith, a, b, e)

deep_and : (a : And) → deep-And a ≤ and_nodes (and_of a)
deep_and a =
    let x = deep_cond a.first in
    let b = deep_conds (cond_of a.first) a.more.items in
    let c = first_cond (cond_of a.first) a.more.items in
    omega (arith, x, b, c)

first_and : (a : tree.And) (bs : List And) → and_nodes a + 1 ≤ nodes (or_from a bs)
first_and a [] = omega arith
first_and a (b ∷ bs) = omega arith

deep_ands : (a : tree.And) (bs : List And) → most (λ x. deep-And x) bs ≤ nodes (or_from a bs)
deep_ands a [] = omega arith
deep_ands a (b ∷ bs) =
    let x = deep_and b in
    let y = deep_ands (and_of b) bs in
    let z = first_and (and_of b) bs in
    omega (arith, x, y, z)

-- alternatives nest no deeper than their tree has parts
pub deep_or : (a : And) (bs : List And) → max (deep-And a) (max (most (λ x. deep-And x) bs) 0) ≤ nodes (or_from (and_of a) bs)
deep_or a bs =
    let x = deep_and a in
    let y = deep_ands (and_of a) bs in
    let z = first_and (and_of a) bs in
    omega (arith, x, y, z)
