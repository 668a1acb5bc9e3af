use Rattle.std.proofs.Common.{◌≡◌, ◌&&◌, true, false, length, ◌∙◌, ap, sym}
use Rattle.index_file.specs.Readings.{is_done, is_end, last_via}
use Rattle.index_file.proofs.draft.Draft.is_complete.Goals as goal

pub returns-then-is_done : goal.returns-then-is_done
returns-then-is_done c =
    let s = c.self.inside in
    let done : is_done s.due (length s.views) ≡ true = ap (is_done s.due) (sym c.len.ensures) ∙ sym c.is_done.ensures ∙ c.if-is_done.true in
    rw (← c.self.view_is) (c.is_end.ensures ∙ ap (is_end s.k) c.last_via.ensures ∙ ap (λ b. b && is_end s.k (last_via s.views)) (sym done))

pub returns-else-is_done : goal.returns-else-is_done
returns-else-is_done c =
    let s = c.self.inside in
    let more : is_done s.due (length s.views) ≡ false = ap (is_done s.due) (sym c.len.ensures) ∙ sym c.is_done.ensures ∙ c.if-is_done.false in
    rw (← c.self.view_is) (c.if-is_done.false ∙ ap (λ b. b && is_end s.k (last_via s.views)) (sym more))
