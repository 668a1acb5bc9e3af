use Rattle.std.proofs.Common.{◌++◌, ◌∷◌, [], ◌∙◌, ap, sym, subst, arith, length}
use Rattle.std.specs.Prelude.{bytes_eq}
use Rattle.std.specs.Map.{keys_of}
use Rattle.std.proofs.lemmas.List.{length-append, length-map}
use Rattle.std.proofs.lemmas.Result.{err_from_is_err_and}
use Rattle.indexmap.proofs.CallerLemmas.{insert_entry-new}
use Rattle.triple_names.specs.TableIndexes.{AddLabels}
use Rattle.triple_names.proofs.PlaceLaws.{added_labels, keys_push, lookup_none}
use Rattle.triple_names.proofs.predicates.Predicates.add.Goals as goal

pub invariant_of-self-2 : goal.invariant_of-self-2
invariant_of-self-2 c =
    let old = c.self.inside.table.entries in
    let added = c.in_ok-insert.ensures.entries ∙ insert_entry-new bytes_eq c.self.inside.table c.args.iri c.in_ok-node.node (lookup_none (bytes_eq c.args.iri) old (rw c.self.view_is c.requires.absent)) in
    let longer = ap length added ∙ length-append old ((c.args.iri, c.in_ok-node.node) ∷ []) in
    let keys = length-map old (λ e. e.0) in
    let seen = ap length c.self.view_is in
    let few = c.requires.few in
    (omega (arith, longer, keys, seen, few), subst AddLabels (sym added) (added_labels old c.args.iri c.in_ok-node.node c.self.invariant.1 c.in_ok-node.ensures))

pub returns-clause-added : goal.returns-clause-added
returns-clause-added c =
    let old = c.self.inside.table.entries in
    let added = c.in_ok-insert.ensures.entries ∙ insert_entry-new bytes_eq c.self.inside.table c.args.iri c.in_ok-node.node (lookup_none (bytes_eq c.args.iri) old (rw c.self.view_is c.requires.absent)) in
    ap keys_of added ∙ keys_push old c.args.iri c.in_ok-node.node ∙ ap (λ xs. xs ++ c.args.iri ∷ []) c.self.view_is

pub returns-in_err-insert-clause-err : goal.returns-in_err-insert-clause-err
returns-in_err-insert-clause-err c =
    let p = err_from_is_err_and c.from_residual-in_err-insert.result c.from_residual-in_err-insert.ensures.1 in
    rw p.1 (ap keys_of c.in_err-insert.ensures.err ∙ c.self.view_is)
