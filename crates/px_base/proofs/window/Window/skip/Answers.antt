use Rattle.std.proofs.Common.{arith, ◌≤◌, ◌+◌, ◌-◌, length, take, drop, length-take, length-drop}
use Rattle.px_base.proofs.Windows.{skip_range}
use Rattle.px_base.proofs.window.Window.skip.Goals as goal

pub returns : goal.returns
returns c =
    let w = c.self.inside in
    let h : c.args.count ≤ length (take (w.to - w.from) (drop w.from w.block.items)) = rw c.self.view_is c.requires in
    let h' = simp (length-take, length-drop) at h in
    let l : w.from + c.args.count ≤ w.to = omega (arith, h', c.self.invariant.0) in
    rw (← c.self.view_is) (skip_range w.block.items w.from w.to c.args.count l)
