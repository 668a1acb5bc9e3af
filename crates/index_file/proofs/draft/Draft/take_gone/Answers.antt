use Rattle.std.proofs.Common.{None, [], ◌∷◌, ◌++◌, ◌∙◌, ap, sym, true≢false, rules}
use Rattle.index_file.specs.declared.due.Due.TheVariants.{Nodes}
use Rattle.index_file.specs.Readings.{Reading}
use Rattle.index_file.proofs.DraftLaws.{gone_taken, gone_wrong, draft_node, same_nodes}
use Rattle.index_file.proofs.draft.Draft.take_gone.Goals as goal

pub returns-then-not-is_word-clause-wrong : goal.returns-then-not-is_word-clause-wrong
returns-then-not-is_word-clause-wrong c = λ _.
    gone_wrong c.args.limits.now c.args.line.now c.args.self.now c.args.left c.requires.due c.requires.dead
    (λ e. true≢false (sym (c.is_word.ensures.1 e) ∙ c.if-not-is_word.true))

pub returns-in-Ok-clause-taken : goal.returns-in-Ok-clause-taken
returns-in-Ok-clause-taken c =
    let s = c.self.inside in
    gone_taken c.args.limits.now c.args.line.now c.args.self.now _ c.args.left c.requires.due (c.is_word.ensures.0 (search rules))
    (ap (λ a. record { due = Nodes c.args.left; k = s.k; allocated = a; pairs = s.pairs.items; views = s.views }) c.in-Ok.ensures.ok
    ∙ ap (λ (r : Reading). record r { due = Nodes c.args.left; allocated = r.allocated ++ None ∷ [] }) c.self.view_is)

pub invariant_of-self : goal.invariant_of-self
invariant_of-self c = draft_node _ c.self.invariant c.args.left _ None (ap (λ (r : Reading). r.due) c.self.view_is ∙ c.requires.due) c.in-Ok.ensures.ok

pub invariant_of-self-in-Err : goal.invariant_of-self-in-Err
invariant_of-self-in-Err c = same_nodes _ c.self.invariant _ c.in-Err.ensures.err
