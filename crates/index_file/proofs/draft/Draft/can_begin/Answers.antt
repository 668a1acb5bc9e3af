use Rattle.std.proofs.Common.{◌≡◌, ◌&&◌, true, false, length, ◌∙◌, ap, sym}
use Rattle.std.specs.Prelude.{nat_lt}
use Rattle.index_file.specs.Readings.{follows, last_via}
use Rattle.index_file.proofs.draft.Draft.can_begin.Goals as goal

pub returns-then-are_fewer : goal.returns-then-are_fewer
returns-then-are_fewer c =
    let s = c.self.inside in
    let few : nat_lt (length s.views) c.args.count ≡ true = ap (λ n. nat_lt n c.args.count) (sym c.len.ensures) ∙ sym c.are_fewer.ensures ∙ c.if-are_fewer.true in
    rw (← c.self.view_is)
    (c.follows.ensures ∙ ap (λ l. follows s.k l c.args.via) c.last_via.ensures ∙ ap (λ b. b && follows s.k (last_via s.views) c.args.via) (sym few))

pub returns-else-are_fewer : goal.returns-else-are_fewer
returns-else-are_fewer c =
    let s = c.self.inside in
    let many : nat_lt (length s.views) c.args.count ≡ false = ap (λ n. nat_lt n c.args.count) (sym c.len.ensures) ∙ sym c.are_fewer.ensures ∙ c.if-are_fewer.false in
    rw (← c.self.view_is) (c.if-are_fewer.false ∙ ap (λ b. b && follows s.k (last_via s.views) c.args.via) (sym many))
