use Rattle.std.proofs.Common.{rules, sym, subst}
use Rattle.std.proofs.lemmas.Result.{IfOk-weaker}
use Rattle.graph_spec.specs.Members.{Lists, at}
use Rattle.graph_spec.specs.Graphs.{has_edge}
use Rattle.key_table.specs.NumberedKeys.{Interns}
use Rattle.bisim_spec.specs.NodeKeys.{IsKey}
use Rattle.bisim_spec.proofs.WrittenKeys.{key_of}
use Rattle.graph_update.specs.PendingChanges.{graph_after}
use Rattle.quotient_draft.specs.Drafts.{shown_blocks}
use Rattle.one_split.proofs.keys.number_of.Goals as goal

pub returns-clause-ok : goal.returns-clause-ok
returns-clause-ok g c =
    let p = shown_blocks c.args.base.now c.args.draft.now in
    let edge = has_edge (graph_after c.args.after.now) in
    let n = c.args.n in
    let written = c.in_ok-write_key.ensures (at p) (λ m o within given. search rules) in
    let parents = subst (Lists (λ m. edge m n)) (sym c.deref.ensures.value) c.in_ok-read_parents.ensures.parents in
    let key = key_of (at p) p edge n c.own_block-own.result c.deref.result.now c.write_key.new.key.items parents c.own_block-own.ensures written in
    IfOk-weaker c.intern.result (λ k. Interns c.args.keys.now c.intern.new.self c.deref-2.result.now k) _
    (λ k interned. (c.deref-2.result.now, subst (IsKey (at p) p edge n) (sym c.deref-2.ensures.value) key, interned)) c.intern.ensures.ok
