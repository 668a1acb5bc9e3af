use Rattle.std.proofs.Common.{◌≡◌, ◌+◌, ◌-◌, ℕ, [], length, sym, ◌∙◌, subst, arith, List}
use Rattle.std.specs.Prelude.{slice_get}
use Rattle.std.proofs.lemmas.List.{get_or_read}
use Rattle.walk_proof.specs.declared.marks.Pair.{Pair}
use Rattle.walk_proof.specs.Marking.{IsMarked, Notes}
use Rattle.walk_proof.specs.Layering.{layer_at, IntoBy, IsLayeredBy}
use Rattle.walk_proof.proofs.LayerLaws.{is_layer, layered_next}
use Rattle.walk_proof.proofs.States.{takes_some, forked_some, led_from}
use Rattle.walk_proof.proofs.layering.next_layer.Goals as goal

pub returns-clause-layered : goal.returns-clause-layered
returns-clause-layered g c =
    let at = λ (k : ℕ). slice_get c.args.program.now k in
    let size = g.G.Digraph.span c.args.g.now in
    let label_at = g.G.Digraph.label_at c.args.g.now in
    let edge = g.G.Digraph.edge c.args.g.now in
    let v = c.args.end in
    let layers = c.args.layers.now.items in
    let was = c.requires.layered in
    let some = was.some in
    let len = c.len-last.ensures in
    let n = c.len-last.result - 1 in
    let last : n + 1 ≡ length layers = omega (arith, some, len) in
    let rows = c.args.rows.now.items in
    let rows1 = c.spread.new.rows.items in
    let found = c.spread.new.layer in
    let read = c.pairs.ensures ∙ get_or_read layers n _ (omega (arith, last)) c.index.ensures [] in
    let P : List Pair → ℕ → ℕ → Type 0 = λ l. IntoBy at size label_at edge l in
    let a = subst (λ l. Notes (P (layer_at layers n)) rows rows1 l found) c.new-layer.ensures (subst (λ l. Notes (P l) rows rows1 c.new-layer.result found) read c.in_ok-spread.ensures.notes) in
    let onto = subst (λ l. (s x : ℕ) → P l s x → IsMarked rows1 s x) read c.in_ok-spread.ensures.marked in
    let l = is_layer at size label_at edge v (P (layer_at layers n)) rows rows1 c.close.new.rows.items found c.close.new.layer a onto c.in_ok-close.ensures.notes c.in_ok-close.ensures.closed in
    subst (λ ls. IsLayeredBy at size label_at edge v ls c.close.new.rows.items) (sym c.in_ok-push.ensures.items)
    (layered_next at size label_at edge v layers n rows c.close.new.rows.items c.close.new.layer was last l (led_from size label_at edge (g.met.G.Digraph.ends c.args.g.now))
    (forked_some at) (λ s k x t. takes_some label_at (at s) x k t))
