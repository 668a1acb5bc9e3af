use Rattle.std.proofs.Common.{◌∙◌, ap, sym, subst, refl, arith, Some, None}
use Rattle.term_table.specs.TermParts.{parts_value}
use Rattle.term_table.specs.Entries.{LackParts, parts_in}
use Rattle.term_table.proofs.FoundLemmas.{found_as, absent_as}
use Rattle.term_table.proofs.Spelled.{IsTermSearch, search_on, search_end}
use Rattle.term_table.proofs.table.search.Goals as goal

pub returns-then-has_parts : goal.returns-then-has_parts
returns-then-has_parts c x is =
    let arena = c.args.arena.now in
    let index = c.args.index.now in
    let walk : IsTermSearch arena index (parts_value c.args.parts.now) (Some c.in-Some.n) = rw c.in-Some.is at c.walk.invariant in
    let below = walk.below in
    let parts = ap (parts_in arena) (sym c.read_entry-e.ensures) ∙ c.if-has_parts.ensures.same refl ∙ is in
    rw c.read_entry-e.ensures (found_as arena index c.requires.table x c.in-Some.n (omega (arith, below)) parts)

pub walk-preserved : goal.walk-preserved
walk-preserved c =
    let arena = c.args.arena.now in
    let index = c.args.index.now in
    let walk : IsTermSearch arena index (parts_value c.args.parts.now) (Some c.in-Some.n) = rw c.in-Some.is at c.walk.invariant in
    search_on arena index (parts_value c.args.parts.now) c.in-Some.n c.older-at.result c.requires.table walk
    (λ e. c.if-has_parts.ensures.other refl (ap (parts_in arena) c.read_entry-e.ensures ∙ e)) c.older-at.ensures

pub returns : goal.returns
returns c x is =
    let arena = c.args.arena.now in
    let index = c.args.index.now in
    let walk : IsTermSearch arena index (parts_value c.args.parts.now) None = rw c.in_default.is at c.walk.invariant in
    absent_as arena index c.requires.table x (subst (LackParts arena index.items) is (search_end arena index (parts_value c.args.parts.now) walk))
