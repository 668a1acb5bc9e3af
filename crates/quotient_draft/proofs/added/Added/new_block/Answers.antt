use Rattle.std.proofs.Common.{◌≤◌, ◌∙◌, ◌++◌, ◌∷◌, [], ℕ, List, arith, sym, subst, ap}
use Rattle.std.specs.Prelude.{nat_eq}
use Rattle.std.specs.Map.{lookup}
use Rattle.quotient_draft.proofs.Scanned.{from_few, next_least, least_new}
use Rattle.indexmap.proofs.CallerLemmas.{insert_entry-new}
use Rattle.quotient_draft.proofs.added.Added.new_block.Goals as goal

pub from-requires : goal.from-requires
from-requires c =
    let some = from_few c.args.base.now.blocks.labels c.args.self.now c.requires.least in
    let few = c.requires.few in
    omega (arith, some, few)

pub returns-clause-least : goal.returns-clause-least
returns-clause-least c =
    let is = c.from.ensures in
    next_least c.args.base.now.blocks.labels c.args.self.now c.next_free-b.result c.requires.least c.next_free-b.ensures.free (subst (λ n. n ≤ c.next_free-b.result) is c.next_free-b.ensures.from)
    (λ d l h. c.next_free-b.ensures.passed d (subst (λ n. n ≤ d) (sym is) l) h)

pub returns-clause-ok : goal.returns-clause-ok
returns-clause-ok c =
    let is = c.from.ensures in
    let least =
    next_least c.args.base.now.blocks.labels c.args.self.now c.next_free-b.result c.requires.least c.next_free-b.ensures.free (subst (λ n. n ≤ c.next_free-b.result) is c.next_free-b.ensures.from)
    (λ d l h. c.next_free-b.ensures.passed d (subst (λ n. n ≤ d) (sym is) l) h) in
    let new = least_new c.args.base.now.blocks.labels c.args.self.now c.next_free-b.result c.requires.least least.free in
    c.in_ok-insert.ensures.entries
    ∙ insert_entry-new nat_eq c.self.inside.blocks c.next_free-b.result c.args.label (ap (lookup (nat_eq c.next_free-b.result)) c.self.view_is ∙ new)
    ∙ ap (λ (es : List (ℕ × ℕ)). es ++ (c.next_free-b.result, c.args.label) ∷ []) c.self.view_is
