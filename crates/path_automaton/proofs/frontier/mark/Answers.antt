use Rattle.std.proofs.Common.{◌≡◌, ◌∙◌, get_or, false, sym}
use Rattle.std.proofs.lemmas.Bool.{not-true}
use Rattle.path_automaton.proofs.RowMarks.{gathers_new}
use Rattle.path_automaton.proofs.frontier.mark.Goals as goal

pub returns-in_ok-push-clause-gathers : goal.returns-in_ok-push-clause-gathers
returns-in_ok-push-clause-gathers c =
    let flags = c.args.row.now in
    let new : get_or flags c.args.place false ≡ false = not-true _ (sym c.in_ok-insert.ensures.new ∙ c.if-branch.true) in
    rw (c.in_ok-push.ensures.items, c.in_ok-insert.ensures.after) (gathers_new flags c.args.found.now.items c.args.place c.requires new)
