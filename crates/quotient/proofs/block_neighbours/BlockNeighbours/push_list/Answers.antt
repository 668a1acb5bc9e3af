use Rattle.std.proofs.Common.{◌≡◌, List, ℕ, [], ◌∷◌, ◌++◌, ◌∙◌, ◌+◌, ◌-◌, ◌≤◌, replicate, take, length, vec_len, arith, take_all, ap, refl, map}
use Rattle.cell_lists.specs.Segments.{items_in, Begins}
use Rattle.quotient.specs.QuotientTables.{KeptLists}
use Rattle.quotient.proofs.Pairs.{none_list}
use Rattle.quotient.proofs.NeighbourCells.{lists-behind, lists-longer}
use Rattle.quotient.proofs.block_neighbours.BlockNeighbours.push_list.Goals as goal

pub returns : goal.returns
returns c =
    let cells = c.self.inside.cells.items in
    let ss = c.self.inside.segments.items in
    let new = c.resize.new.self.items in
    let put : new ≡ take (c.in-Ok.first + c.args.count) cells ++ replicate (c.in-Ok.first + c.args.count - vec_len c.self.inside.cells) 0 = c.in_ok-resize.ensures.items in
    let size : length cells ≤ c.in-Ok.first + c.args.count = omega (arith, c.in-Ok.ensures, c.len.ensures) in
    let zeros : List ℕ = replicate (c.in-Ok.first + c.args.count - vec_len c.self.inside.cells) 0 in
    let more : Begins cells new = (zeros, put ∙ ap (λ (xs : List ℕ). xs ++ zeros) (take_all (c.in-Ok.first + c.args.count) cells size)) in
    let was : map (items_in cells) ss ≡ c.args.self.now.lists = ap (λ (k : KeptLists). k.lists) c.self.view_is in
    ap (map (items_in new)) c.in_ok-push.ensures.items ∙ lists-behind new ss _ refl ∙ ap (λ l. l ++ none_list ∷ []) (lists-longer cells new ss more c.self.invariant ∙ was)
