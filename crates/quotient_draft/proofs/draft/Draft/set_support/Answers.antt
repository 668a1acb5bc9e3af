use Rattle.std.proofs.Common.{sym, subst}
use Rattle.std.specs.Prelude.{IsSome}
use Rattle.graph_spec.specs.Members.{at}
use Rattle.quotient_draft.specs.Drafts.{Drafted, with_added}
use Rattle.quotient_draft.specs.Basis.{IsOver}
use Rattle.quotient_draft.proofs.Over.{over_written}
use Rattle.quotient_draft.proofs.draft.Draft.set_support.Goals as goal

pub returns-clause-over : goal.returns-clause-over
returns-clause-over c =
    let labels = c.args.base.now.blocks.labels in
    let block = c.args.base.now.blocks.block_of in
    let d : Drafted = record { added = c.self.inside.added; moves = c.self.inside.moves.moves; left = c.self.inside.moves.left; taken = c.self.inside.moves.taken; supports = c.self.inside.changed } in
    over_written block labels d c.set.new.self c.args.a c.args.b c.args.n (subst (IsOver block labels) (sym c.self.view_is) c.requires.over)
    (subst (λ (e : Drafted). IsSome (at (with_added labels e.added) c.args.a)) (sym c.self.view_is) c.requires.from)
    (subst (λ (e : Drafted). IsSome (at (with_added labels e.added) c.args.b)) (sym c.self.view_is) c.requires.onto)
    c.in_ok-set.ensures.looked
