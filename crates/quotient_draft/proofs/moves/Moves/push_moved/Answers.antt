use Rattle.std.proofs.Common.{◌≡◌, ◌||◌, ◌&&◌, ◌+◌, ◌-◌, ◌∙◌, suc, Bool, arith, sym, subst, ap, cond, take, length}
use Rattle.std.specs.Prelude.{nat_eq}
use Rattle.graph_spec.specs.Members.{has}
use Rattle.quotient_draft.specs.MoveTables.{KeptMoves}
use Rattle.quotient_draft.specs.PutLogs.{has_put, last_put, is_moved_to}
use Rattle.quotient_draft.proofs.Linked.{last_below, last_fixed, last_goes, list_start, list_next}
use Rattle.quotient_draft.proofs.moves.Moves.push_moved.Goals as goal

pub loop-i-init : goal.loop-i-init
loop-i-init c =
    let puts = c.self.inside.puts in
    let moves = c.self.inside.moves.entries in
    let b = c.args.b in
    let below = last_below puts b (length puts) in
    let is = c.last-i.ensures in
    record {
      within = omega (arith, below, is);
      ends = ap (last_put puts b) is ∙ last_fixed puts b (length puts) ∙ sym is;
      members = λ n.
          ap (λ k. has c.args.list.now.items n || (is_moved_to moves b n && has_put (take k puts) n b)) is
          ∙ list_start moves puts c.args.list.now.items b c.self.invariant.put n;
    }

pub loop-i-smaller : goal.loop-i-smaller
loop-i-smaller c =
    let puts = c.self.inside.puts in
    let b = c.args.b in
    let i = c.loop-i.i in
    let some = c.loop-i-test.true in
    let next : suc (i - 1) ≡ i = omega (arith, some) in
    let goes = last_goes puts b (i - 1) (subst (λ k. last_put puts b k ≡ k) (sym next) c.loop-i.invariant.ends) in
    let is = c.before-i.ensures b goes in
    let below = last_below puts b (i - 1) in
    omega (arith, is, below, some)

pub loop-i-preserved : goal.loop-i-preserved
loop-i-preserved c =
    let puts = c.self.inside.puts in
    let moves = c.self.inside.moves.entries in
    let b = c.args.b in
    let i = c.loop-i.i in
    let some = c.loop-i-test.true in
    let next : suc (i - 1) ≡ i = omega (arith, some) in
    let more : i ≡ i - 1 + 1 = omega (arith, some) in
    let goes = last_goes puts b (i - 1) (subst (λ k. last_put puts b k ≡ k) (sym next) c.loop-i.invariant.ends) in
    let is = c.before-i.ensures b goes in
    let below = last_below puts b (i - 1) in
    let within = c.loop-i.invariant.within in
    let test = c.goes_to.ensures ∙ sym (ap (λ (k : KeptMoves). is_moved_to k.moves b c.node-n.result) c.self.view_is) in
    record {
      within = omega (arith, is, below, within, some);
      ends = ap (last_put puts b) is ∙ last_fixed puts b (i - 1) ∙ sym is;
      members = list_next moves puts c.loop-i.list.items c.push_if.new.list.items b (i - 1) c.node-n.result c.before-i.result (λ n. has c.args.list.now.items n || is_moved_to moves b n)
          (c.node-n.ensures b goes) is
          (λ n. c.in_ok-push_if.ensures n ∙ ap (λ (t : Bool). cond t (has c.loop-i.list.items n || nat_eq n c.node-n.result) (has c.loop-i.list.items n)) test)
          (λ n. ap (λ k. has c.loop-i.list.items n || (is_moved_to moves b n && has_put (take k puts) n b)) (sym more) ∙ c.loop-i.invariant.members n);
    }
