use Rattle.std.proofs.Common.{◌≡◌, ap, sym, ◌∙◌, subst, Err}
use Rattle.std.proofs.lemmas.Result.{err_from_is_err_and}
use Rattle.script_read.specs.ReadLines.{command_of}
use Rattle.script_read.specs.declared.commands.ScriptError.TheVariants.{Limit}
use Rattle.std.specs.Prelude.{codes}
use Rattle.triples_read.specs.Lines.{SpellsTriple}
use Rattle.script_read.proofs.CommandLemmas.{failed_node, failed_relabel, failed_triple, insert_bad, delete_bad, opens_insert, opens_delete, failed_nodes, failed_path, failed_branch, failed_why, failed_check, node_free, relabel_free, triple_free, free}
use Rattle.script_read.proofs.CommandLaws.{relabel_once, triple_once, path_once, branch_once, why_once, check_once, whole_once}
use Rattle.script_read.proofs.commands.read.Goals as goal

pub returns-in_err-parse_label-in-Node-clause-reads : goal.returns-in_err-parse_label-in-Node-clause-reads
returns-in_err-parse_label-in-Node-clause-reads c =
    let p = err_from_is_err_and c.from_residual.result c.from_residual.ensures.1 in
    rw p.1 (failed_node c.args.limits.now c.args.line.now c.in-Node.word.now p.0 c.in-Node.ensures (λ i. c.in_err-parse_label-in-Node.ensures.no_limit (ap Err (sym p.2 ∙ i)))
    (λ i. c.in_err-parse_label-in-Node.ensures.bad (ap Err (sym p.2 ∙ i))))

pub returns-in_ok-parse_label-in-Node-clause-reads : goal.returns-in_ok-parse_label-in-Node-clause-reads
returns-in_ok-parse_label-in-Node-clause-reads c = (
  (c.in-Node.word.now, c.in-Node.ensures, c.in_ok-parse_label-in-Node.ensures.ok),
  node_free c.args.limits.now c.args.line.now c.in-Node.word.now c.in-Node.ensures,
)

pub returns-in_err-parse_label-in-Relabel-clause-reads : goal.returns-in_err-parse_label-in-Relabel-clause-reads
returns-in_err-parse_label-in-Relabel-clause-reads c =
    let p = err_from_is_err_and c.from_residual-in_err-parse_label-in-Relabel.result c.from_residual-in_err-parse_label-in-Relabel.ensures.1 in
    rw p.1 (failed_relabel c.args.limits.now c.args.line.now c.in-Relabel.node c.in-Relabel.word.now p.0 c.in-Relabel.ensures
    (λ i. c.in_err-parse_label-in-Relabel.ensures.no_limit (ap Err (sym p.2 ∙ i))) (λ i. c.in_err-parse_label-in-Relabel.ensures.bad (ap Err (sym p.2 ∙ i))))

pub returns-in_ok-parse_label-in-Relabel-clause-reads : goal.returns-in_ok-parse_label-in-Relabel-clause-reads
returns-in_ok-parse_label-in-Relabel-clause-reads c = (
  (c.in-Relabel.word.now, c.in-Relabel.ensures.0, c.in-Relabel.ensures.1, c.in_ok-parse_label-in-Relabel.ensures.ok),
  relabel_free c.args.limits.now c.args.line.now c.in-Relabel.node c.in-Relabel.word.now c.in-Relabel.ensures,
)

pub returns-in_err-parse_label-in-Relabel-clause-once : goal.returns-in_err-parse_label-in-Relabel-clause-once
returns-in_err-parse_label-in-Relabel-clause-once c = relabel_once c.args.line.now c.in-Relabel.node c.in-Relabel.word.now c.in-Relabel.ensures c.in_err-parse_label-in-Relabel.ensures.once

pub returns-in_ok-parse_label-in-Relabel-clause-once : goal.returns-in_ok-parse_label-in-Relabel-clause-once
returns-in_ok-parse_label-in-Relabel-clause-once c = relabel_once c.args.line.now c.in-Relabel.node c.in-Relabel.word.now c.in-Relabel.ensures c.in_ok-parse_label-in-Relabel.ensures.once

pub returns-in_err-parse_triple-in-Insert-clause-reads : goal.returns-in_err-parse_triple-in-Insert-clause-reads
returns-in_err-parse_triple-in-Insert-clause-reads c =
    let p = err_from_is_err_and c.from_residual-in_err-parse_triple-in-Insert.result c.from_residual-in_err-parse_triple-in-Insert.ensures.1 in
    rw p.1 (failed_triple c.args.limits.now c.args.line.now (codes "insert") c.in-Insert.text.now p.0 c.in-Insert.ensures opens_insert
    (λ i. c.in_err-parse_triple-in-Insert.ensures.no_limit (ap Err (sym p.2 ∙ i)))
    (λ i. insert_bad c.args.line.now c.in-Insert.text.now c.in-Insert.ensures (c.in_err-parse_triple-in-Insert.ensures.bad (ap Err (sym p.2 ∙ i)))))

pub returns-in_ok-parse_triple-in-Insert-clause-reads : goal.returns-in_ok-parse_triple-in-Insert-clause-reads
returns-in_ok-parse_triple-in-Insert-clause-reads c =
    ((c.in-Insert.ensures.0, subst (λ x. SpellsTriple x c.in_ok-parse_triple-in-Insert.field-0) c.in-Insert.ensures.1 c.in_ok-parse_triple-in-Insert.ensures.ok), triple_free c.args.limits.now c.args.line.now (codes "insert") c.in-Insert.text.now c.in-Insert.ensures opens_insert)

pub returns-in_err-parse_triple-in-Insert-clause-once : goal.returns-in_err-parse_triple-in-Insert-clause-once
returns-in_err-parse_triple-in-Insert-clause-once c = triple_once c.args.line.now (codes "insert") c.in-Insert.text.now c.in-Insert.ensures opens_insert

pub returns-in_ok-parse_triple-in-Insert-clause-once : goal.returns-in_ok-parse_triple-in-Insert-clause-once
returns-in_ok-parse_triple-in-Insert-clause-once c = triple_once c.args.line.now (codes "insert") c.in-Insert.text.now c.in-Insert.ensures opens_insert

pub returns-in_err-parse_triple-in-Delete-clause-reads : goal.returns-in_err-parse_triple-in-Delete-clause-reads
returns-in_err-parse_triple-in-Delete-clause-reads c =
    let p = err_from_is_err_and c.from_residual-in_err-parse_triple-in-Delete.result c.from_residual-in_err-parse_triple-in-Delete.ensures.1 in
    rw p.1 (failed_triple c.args.limits.now c.args.line.now (codes "delete") c.in-Delete.text.now p.0 c.in-Delete.ensures opens_delete
    (λ i. c.in_err-parse_triple-in-Delete.ensures.no_limit (ap Err (sym p.2 ∙ i)))
    (λ i. delete_bad c.args.line.now c.in-Delete.text.now c.in-Delete.ensures (c.in_err-parse_triple-in-Delete.ensures.bad (ap Err (sym p.2 ∙ i)))))

pub returns-in_ok-parse_triple-in-Delete-clause-reads : goal.returns-in_ok-parse_triple-in-Delete-clause-reads
returns-in_ok-parse_triple-in-Delete-clause-reads c =
    ((c.in-Delete.ensures.0, subst (λ x. SpellsTriple x c.in_ok-parse_triple-in-Delete.field-0) c.in-Delete.ensures.1 c.in_ok-parse_triple-in-Delete.ensures.ok), triple_free c.args.limits.now c.args.line.now (codes "delete") c.in-Delete.text.now c.in-Delete.ensures opens_delete)

pub returns-in_err-parse_triple-in-Delete-clause-once : goal.returns-in_err-parse_triple-in-Delete-clause-once
returns-in_err-parse_triple-in-Delete-clause-once c = triple_once c.args.line.now (codes "delete") c.in-Delete.text.now c.in-Delete.ensures opens_delete

pub returns-in_ok-parse_triple-in-Delete-clause-once : goal.returns-in_ok-parse_triple-in-Delete-clause-once
returns-in_ok-parse_triple-in-Delete-clause-once c = triple_once c.args.line.now (codes "delete") c.in-Delete.text.now c.in-Delete.ensures opens_delete

pub returns-in-Whole-clause-reads : goal.returns-in-Whole-clause-reads
returns-in-Whole-clause-reads c = (c.in-Whole.ensures.0, free c.args.limits.now c.args.line.now (command_of c.in-Whole.command) c.in-Whole.ensures.0 c.in-Whole.ensures.1)

pub returns-in-Whole-clause-once : goal.returns-in-Whole-clause-once
returns-in-Whole-clause-once c = whole_once c.args.line.now (command_of c.in-Whole.command) c.in-Whole.ensures.0 c.in-Whole.ensures.1

pub returns-in_err-parse_path-in-Path-clause-reads : goal.returns-in_err-parse_path-in-Path-clause-reads
returns-in_err-parse_path-in-Path-clause-reads c =
    let p = err_from_is_err_and c.from_residual-in_err-parse_path-in-Path.result c.from_residual-in_err-parse_path-in-Path.ensures.1 in
    let l = c.in_err-parse_path-in-Path.ensures.limit in
    rw p.1 (failed_path c.args.limits.now c.args.line.now c.in-Path.via c.in-Path.text.now p.0 c.in-Path.ensures ((λ i. l.0 (ap Err (sym p.2 ∙ i))), λ i. (let same : Err c.in_err-parse_path-in-Path.field-0.0 ≡ Err Limit = l.1 i in cc))
    (λ i. c.in_err-parse_path-in-Path.ensures.bad (ap Err (sym p.2 ∙ i))))

pub returns-in_err-parse_path-in-Path-clause-once : goal.returns-in_err-parse_path-in-Path-clause-once
returns-in_err-parse_path-in-Path-clause-once c = path_once c.args.line.now c.in-Path.via c.in-Path.text.now c.in-Path.ensures c.in_err-parse_path-in-Path.ensures.once

pub returns-in_ok-parse_path-in-Path-clause-once : goal.returns-in_ok-parse_path-in-Path-clause-once
returns-in_ok-parse_path-in-Path-clause-once c = path_once c.args.line.now c.in-Path.via c.in-Path.text.now c.in-Path.ensures c.in_ok-parse_path-in-Path.ensures.once

pub returns-in_err-parse_branch-in-Branch-clause-reads : goal.returns-in_err-parse_branch-in-Branch-clause-reads
returns-in_err-parse_branch-in-Branch-clause-reads c =
    let p = err_from_is_err_and c.from_residual-in_err-parse_branch-in-Branch.result c.from_residual-in_err-parse_branch-in-Branch.ensures.1 in
    let l = c.in_err-parse_branch-in-Branch.ensures.limit in
    rw p.1 (failed_branch c.args.limits.now c.args.line.now c.in-Branch.via c.in-Branch.text.now p.0 c.in-Branch.ensures ((λ i. l.0 (ap Err (sym p.2 ∙ i))), λ i. (let same : Err c.in_err-parse_branch-in-Branch.field-0.0 ≡ Err Limit = l.1 i in cc))
    (λ i. c.in_err-parse_branch-in-Branch.ensures.bad (ap Err (sym p.2 ∙ i))))

pub returns-in_err-parse_branch-in-Branch-clause-once : goal.returns-in_err-parse_branch-in-Branch-clause-once
returns-in_err-parse_branch-in-Branch-clause-once c = branch_once c.args.line.now c.in-Branch.via c.in-Branch.text.now c.in-Branch.ensures c.in_err-parse_branch-in-Branch.ensures.once

pub returns-in_ok-parse_branch-in-Branch-clause-once : goal.returns-in_ok-parse_branch-in-Branch-clause-once
returns-in_ok-parse_branch-in-Branch-clause-once c = branch_once c.args.line.now c.in-Branch.via c.in-Branch.text.now c.in-Branch.ensures c.in_ok-parse_branch-in-Branch.ensures.once

pub returns-in_err-parse_path-in-Why-clause-reads : goal.returns-in_err-parse_path-in-Why-clause-reads
returns-in_err-parse_path-in-Why-clause-reads c =
    let p = err_from_is_err_and c.from_residual-in_err-parse_path-in-Why.result c.from_residual-in_err-parse_path-in-Why.ensures.1 in
    let l = c.in_err-parse_path-in-Why.ensures.limit in
    rw p.1 (failed_why c.args.limits.now c.args.line.now c.in-Why.node c.in-Why.text.now p.0 c.in-Why.ensures ((λ i. l.0 (ap Err (sym p.2 ∙ i))), λ i. (let same : Err c.in_err-parse_path-in-Why.field-0.0 ≡ Err Limit = l.1 i in cc))
    (λ i. c.in_err-parse_path-in-Why.ensures.bad (ap Err (sym p.2 ∙ i))))

pub returns-in_err-parse_path-in-Why-clause-once : goal.returns-in_err-parse_path-in-Why-clause-once
returns-in_err-parse_path-in-Why-clause-once c = why_once c.args.line.now c.in-Why.node c.in-Why.text.now c.in-Why.ensures c.in_err-parse_path-in-Why.ensures.once

pub returns-in_ok-parse_path-in-Why-clause-once : goal.returns-in_ok-parse_path-in-Why-clause-once
returns-in_ok-parse_path-in-Why-clause-once c = why_once c.args.line.now c.in-Why.node c.in-Why.text.now c.in-Why.ensures c.in_ok-parse_path-in-Why.ensures.once

pub returns-in_err-walk-in-Check-clause-reads : goal.returns-in_err-walk-in-Check-clause-reads
returns-in_err-walk-in-Check-clause-reads c =
    let p = err_from_is_err_and c.from_residual-in_err-walk-in-Check.result c.from_residual-in_err-walk-in-Check.ensures.1 in
    rw p.1 (failed_nodes c.args.limits.now c.args.line.now c.in-Check.word.now c.in-Check.text.now p.0 c.in-Check.ensures
    (λ i. c.in_err-walk-in-Check.ensures.no_limit (ap Err (sym p.2 ∙ i))) (λ i. c.in_err-walk-in-Check.ensures.bad (ap Err (sym p.2 ∙ i))))

pub returns-in_err-walk-in-Check-clause-once : goal.returns-in_err-walk-in-Check-clause-once
returns-in_err-walk-in-Check-clause-once c = check_once c.args.line.now c.in-Check.word.now c.in-Check.text.now c.in-Check.ensures c.parse_path-parsed.ensures.once

pub returns-in_err-expr-in-Check-clause-reads : goal.returns-in_err-expr-in-Check-clause-reads
returns-in_err-expr-in-Check-clause-reads c =
    let p = err_from_is_err_and c.from_residual-in_err-expr-in-Check.result c.from_residual-in_err-expr-in-Check.ensures.1 in
    let l = c.in_err-expr-in-Check.ensures.limit in
    rw p.1 (failed_check c.args.limits.now c.args.line.now c.in-Check.word.now c.in-Check.text.now _ p.0 c.in-Check.ensures c.in_ok-walk-in-Check.ensures.ok ((λ i. l.0 (ap Err (sym p.2 ∙ i))), λ i. (let same : Err c.in_err-expr-in-Check.field-0.0 ≡ Err Limit = l.1 i in cc))
    (λ i. c.in_err-expr-in-Check.ensures.bad (ap Err (sym p.2 ∙ i))))

pub returns-in_err-expr-in-Check-clause-once : goal.returns-in_err-expr-in-Check-clause-once
returns-in_err-expr-in-Check-clause-once c = check_once c.args.line.now c.in-Check.word.now c.in-Check.text.now c.in-Check.ensures c.parse_path-parsed.ensures.once

pub returns-in_ok-expr-in-Check-clause-once : goal.returns-in_ok-expr-in-Check-clause-once
returns-in_ok-expr-in-Check-clause-once c = check_once c.args.line.now c.in-Check.word.now c.in-Check.text.now c.in-Check.ensures c.parse_path-parsed.ensures.once
