use Rattle.std.proofs.Common.{◌∙◌, ◌≡◌, [], sym, rules}
use Rattle.std.proofs.lemmas.Result.{err_from_is_err_and}
use Rattle.px_base.proofs.GatheredParts.{gathers-part, gathers-kept, keeps-filled, too-long}
use Rattle.px_base.proofs.Windows.{end-part, ends-nowhere}
use Rattle.px_base.proofs.lines.gather.Goals as goal

pub returns-in_err-take_ahead-clause-limit : goal.returns-in_err-take_ahead-clause-limit
returns-in_err-take_ahead-clause-limit g c p =
    let q = err_from_is_err_and c.from_residual.result c.from_residual.ensures.1 in
    too-long (g.H.Shelf.left c.loop-window.shelf) c.loop-window.invariant.gathers (c.in_err-take_ahead.ensures.limit (cc (p, q.1, q.2)))

pub returns-then-not-is_empty-clause-ok : goal.returns-then-not-is_empty-clause-ok
returns-then-not-is_empty-clause-ok g c =
    gathers-part (g.H.Shelf.left c.loop-window.shelf) c.loop-window.invariant.gathers c.in_ok-take_ahead.ensures.part

pub returns-then-not-is_empty-clause-ahead : goal.returns-then-not-is_empty-clause-ahead
returns-then-not-is_empty-clause-ahead g c h = sym (end-part c.in_ok-take_ahead.ensures.part) ∙ c.loop-window.invariant.ahead h

pub returns-in_err-fill-clause-unread : goal.returns-in_err-fill-clause-unread
returns-in_err-fill-clause-unread g c h =
    let none : c.take_ahead.new.window ≡ [] = search rules in
    absurd (ends-nowhere _ none (sym (end-part c.in_ok-take_ahead.ensures.part) ∙ c.loop-window.invariant.ahead h))

pub returns-then-not-branch-clause-ok : goal.returns-then-not-branch-clause-ok
returns-then-not-branch-clause-ok g c =
    let none : c.take_ahead.new.window ≡ [] = search rules in
    let part = gathers-part (g.H.Shelf.left c.loop-window.shelf) c.loop-window.invariant.gathers c.in_ok-take_ahead.ensures.part in
    gathers-kept part _ (keeps-filled _ (g.H.Shelf.left c.fill.new.shelf) _ _ none c.in_ok-fill.ensures.bytes)

pub returns-then-not-branch-clause-unread : goal.returns-then-not-branch-clause-unread
returns-then-not-branch-clause-unread g c h =
    let none : c.take_ahead.new.window ≡ [] = search rules in
    absurd (ends-nowhere _ none (sym (end-part c.in_ok-take_ahead.ensures.part) ∙ c.loop-window.invariant.ahead h))

pub returns-then-not-branch-clause-ahead : goal.returns-then-not-branch-clause-ahead
returns-then-not-branch-clause-ahead g c h =
    let none : c.take_ahead.new.window ≡ [] = search rules in
    absurd (ends-nowhere _ none (sym (end-part c.in_ok-take_ahead.ensures.part) ∙ c.loop-window.invariant.ahead h))

pub loop-window-preserved : goal.loop-window-preserved
loop-window-preserved g c =
    let none : c.take_ahead.new.window ≡ [] = search rules in
    let part = gathers-part (g.H.Shelf.left c.loop-window.shelf) c.loop-window.invariant.gathers c.in_ok-take_ahead.ensures.part in
    record {
      gathers = gathers-kept part _ (keeps-filled _ (g.H.Shelf.left c.fill.new.shelf) _ _ none c.in_ok-fill.ensures.bytes);
      ahead = λ h. absurd (ends-nowhere _ none (sym (end-part c.in_ok-take_ahead.ensures.part) ∙ c.loop-window.invariant.ahead h));
      unread = λ h. absurd (ends-nowhere _ none (sym (end-part c.in_ok-take_ahead.ensures.part) ∙ c.loop-window.invariant.ahead h));
      files = c.fill.ensures.files ∙ c.loop-window.invariant.files;
      faults = c.in_ok-fill.ensures.cause.kept ∙ c.loop-window.invariant.faults;
      still_open = c.in_ok-fill.ensures.open;
    }
