use Rattle.std.proofs.Common.{sym, subst}
use Rattle.std.specs.Prelude.{IsSome, IfSome, nat_eq, unwrap_or}
use Rattle.std.specs.Map.{lookup}
use Rattle.std.proofs.Common.{refl}
use Rattle.graph_spec.specs.Members.{at}
use Rattle.quotient_draft.specs.Drafts.{Drafted, with_added}
use Rattle.quotient_draft.specs.Basis.{IsOver}
use Rattle.quotient_draft.proofs.Over.{over_moved}
use Rattle.quotient_draft.proofs.draft.Draft.put.Goals as goal

pub returns-clause-over : goal.returns-clause-over
returns-clause-over c =
    let labels = c.args.base.now.blocks.labels in
    let block = c.args.base.now.blocks.block_of in
    let d : Drafted = record { added = c.self.inside.added; moves = c.self.inside.moves.moves; left = c.self.inside.moves.left; taken = c.self.inside.moves.taken; supports = c.self.inside.changed } in
    let o = subst (IsOver block labels) (sym c.self.view_is) c.requires.over in
    over_moved block labels d c.put.new.self.moves c.put.new.self.left c.put.new.self.taken c.args.n c.args.b (unwrap_or (lookup (nat_eq c.args.n) d.moves) (at block c.args.n))
    o c.requires.small
    (subst (λ (e : Drafted). IfSome c.args.b (λ b. IsSome (at (with_added labels e.added) b))) (sym c.self.view_is) c.requires.block)
    refl c.in_ok-put.ensures.own (c.in_ok-put.ensures.taken o.taken) c.in_ok-put.ensures.looked
