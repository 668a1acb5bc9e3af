use Rattle.std.proofs.Common.{length, subst, arith, drop}
use Rattle.std.specs.Prelude.{slice_get}
use Rattle.path_expr.specs.ExprAutomata.{StandsSeq, StandsItem}
use Rattle.path_expr.specs.ExprTrees.{atom_of, signed_by, item_of}
use Rattle.path_expr.specs.Compiled.{Grows}
use Rattle.path_expr.proofs.PartLists.{separators_len}
use Rattle.path_expr.proofs.AutomatonParts.{whole_seq, opt_ok}
use Rattle.path_expr.proofs.TrimmedPrefixes.{trimmed_left}
use Rattle.path_expr.proofs.trimming.compile_first.Goals as goal

pub compile_rest-requires-clause-from : goal.compile_rest-requires-clause-from
compile_rest-requires-clause-from c =
    let n = separators_len (item_of c.args.seq.now.first) c.args.seq.now.rest.items in
    let within = c.lead_len-lead.ensures.inside in
    omega (arith, n, within)

pub returns-clause-stands : goal.returns-clause-stands
returns-clause-stands c =
    let n = separators_len (item_of c.args.seq.now.first) c.args.seq.now.rest.items in
    let within = c.lead_len-lead.ensures.inside in
    let g0 = c.in_ok-after.ensures.grows in
    let l0 = g0.longer in
    let lead = c.lead_len-lead.result in
    let steps = c.args.seq.now.rest.items in
    let atom = atom_of c.item_at-item.result.now.atom in
    let first = signed_by atom c.trimmed_sign.result in
    let left =
    trimmed_left (item_of c.args.seq.now.first) steps lead c.item_at-item.result.now first (omega (arith, n, within)) c.item_at-item.ensures (c.trimmed_sign.ensures atom) c.lead_len-lead.ensures.trimmed
    in
    opt_ok c.compile_item.result (λ i. StandsItem c.args.labels.now.texts (λ k. slice_get c.compile_item.new.program k) first (length c.compile_rest.new.program) i c.in_ok-after.after)
    (Grows c.compile_rest.new.program c.compile_item.new.program) _ (λ i h g1.
    subst (λ s. StandsSeq c.args.labels.now.texts (λ k. slice_get c.compile_item.new.program k) s (length c.args.program.now) i c.args.next) left
    (whole_seq c.args.labels.now.texts first (drop lead steps) c.compile_rest.new.program c.compile_item.new.program (length c.args.program.now) i c.in_ok-after.after c.args.next l0 g1 h
    c.in_ok-after.ensures.stands)) c.compile_item.ensures.stands c.compile_item.ensures.grows
