-- What moving the targets costs.
use Rattle.std.proofs.Common.{◌≡◌, ℕ, ◌+◌, ◌*◌, ◌≤◌, List, [], ◌∷◌, arith, subst, sym, true, Bool}
use Rattle.std.proofs.lemmas.List.Sums.{sum_by-cons}
use Rattle.std.proofs.Math.Nat.{mul-le-mul_left}
use Rattle.graph_spec.specs.Shapes.{IsNode, shape_of}
use Rattle.bisim_spec.proofs.SingleLists.{one_once, only_one}
use Rattle.change_spec.specs.Costs.{cost}
use Rattle.graph_update.specs.PendingChanges.{Pending, graph_after}
use Rattle.one_split.specs.SplitCosts.{HasCost, going, move_cost}
use Rattle.one_split.proofs.Bounds.{IsSound, moves_most}

-- one target
pub target_most : (a : Pending) (inside : ℕ → Bool) (n : ℕ) → IsSound a → IsNode (shape_of (graph_after a)) n → inside n ≡ true
    → move_cost a n ≤ 3 * cost a.change a.before inside
target_most a inside n sound node h =
    let most = moves_most a inside (n ∷ []) sound (record {
      once = one_once n;
      live = λ m on. subst (IsNode (shape_of (graph_after a))) (sym (only_one n m on)) node;
      within = λ m on. subst (λ k. inside k ≡ true) (sym (only_one n m on)) h;
    }) in
    let one = sum_by-cons (move_cost a) n [] in
    omega (arith, most, one)

pub light_within : (r w spent : ℕ) → spent ≤ 3 * w → spent ≤ 4 * ((r + 1) * w)
light_within r w spent h =
    let one : 1 ≤ r + 1 = omega arith in
    let k = mul-le-mul_left w one in
    omega (arith, h, k)

pub cost_charged : (w new_blocks spent : ℕ) (next : List ℕ) → spent ≤ new_blocks * (3 * w) → HasCost w new_blocks spent next
cost_charged w new_blocks spent next h = going h
