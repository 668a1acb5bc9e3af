use Rattle.std.proofs.Common.{◌∙◌, ap, sym}
use Rattle.index_file.specs.Readings.{Reading}
use Rattle.index_file.proofs.DraftLaws.{edge_told, no_start, no_end}
use Rattle.index_file.proofs.draft.Draft.edge_between.Goals as goal

pub returns-in_err-u-clause-none : goal.returns-in_err-u-clause-none
returns-in_err-u-clause-none c = rw c.from_residual.ensures (no_start c.args.self.now c.args.from c.args.onto c.in_err-u.ensures.none)

pub returns-in_err-v-clause-none : goal.returns-in_err-v-clause-none
returns-in_err-v-clause-none c = rw c.from_residual-in_err-v.ensures (no_end c.args.self.now c.args.from c.args.onto c.in_err-v.ensures.none)

pub returns-then-is_behind-clause-found : goal.returns-then-is_behind-clause-found
returns-then-is_behind-clause-found c =
    let a = c.in_ok-u.ensures.found in
    let b = c.in_ok-v.ensures.found in
    let told = edge_told c.args.self.now c.deref.result.now c.in_ok-u.u c.in_ok-v.v c.args.from c.args.onto c.is_behind.result
    (c.deref.ensures.value ∙ ap (λ (r : Reading). r.pairs) c.self.view_is) a.0 b.0 a.1 b.1 c.is_behind.ensures in
    (ap (λ n. (n, c.in_ok-v.v)) a.0 ∙ ap (λ n. (c.args.from, n)) b.0, sym told ∙ c.if-is_behind.true)

pub returns-else-is_behind-clause-none : goal.returns-else-is_behind-clause-none
returns-else-is_behind-clause-none c =
    let a = c.in_ok-u.ensures.found in
    let b = c.in_ok-v.ensures.found in
    let told = edge_told c.args.self.now c.deref.result.now c.in_ok-u.u c.in_ok-v.v c.args.from c.args.onto c.is_behind.result
    (c.deref.ensures.value ∙ ap (λ (r : Reading). r.pairs) c.self.view_is) a.0 b.0 a.1 b.1 c.is_behind.ensures in
    sym told ∙ c.if-is_behind.false
