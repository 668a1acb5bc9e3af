use Rattle.std.proofs.Common.{◌∙◌, ◌-◌, ap, subst, arith, length, drop}
use Rattle.std.specs.Prelude.{slice_get}
use Rattle.path_spec.specs.Trimmed.{trimmed_seq, trimmed}
use Rattle.path_expr.specs.ExprAutomata.{Stands}
use Rattle.path_expr.specs.ExprTrees.{seq_of}
use Rattle.path_expr.specs.Compiled.{Grows, HasFork, StandMore}
use Rattle.path_expr.proofs.AutomatonParts.{grows_then, alternatives, more_then, expr_trimmed, drop_back, drop_none, opt_ok}
use Rattle.path_expr.proofs.trimming.compile_trimmed.Goals as goal

pub loop-j-preserved : goal.loop-j-preserved
loop-j-preserved c =
    let xs = c.expr.inside.more.items in
    let here = drop_back xs c.loop-j.j c.index.result.now c.loop-j-test.true (omega arith) c.index.ensures in
    let g0 = c.loop-j.invariant.grows in
    let l0 = g0.longer in
    let g1 = c.in_ok-first.ensures.grows in
    let g2 = c.in_ok-join.ensures.grows in
    record {
      grows = grows_then _ _ _ g0 (grows_then _ _ _ g1 g2);
      stands = more_then c.args.labels.now.texts trimmed_seq (drop (c.loop-j.j - 1) xs) c.index.result.now (drop c.loop-j.j xs) c.loop-j.program c.compile_first.new.program c.join.new.program
          (length c.args.program.now) c.in_ok-first.first c.args.next c.loop-j.behind c.in_ok-join.field-0 here l0 g1 g2 c.in_ok-join.ensures.fork c.in_ok-join.ensures.number
          c.in_ok-first.ensures.stands c.loop-j.invariant.stands;
    }

pub returns-clause-stands : goal.returns-clause-stands
returns-clause-stands c =
    let g0 = c.loop-j.invariant.grows in
    let l0 = g0.longer in
    let first = seq_of c.expr.inside.first in
    let xs = c.expr.inside.more.items in
    let more = subst (λ ss. StandMore c.args.labels.now.texts c.loop-j.program (length c.args.program.now) trimmed_seq ss c.args.next c.loop-j.behind) (drop_none xs c.loop-j.j (omega arith)) c.loop-j.invariant.stands in
    opt_ok c.join-2.result (λ i. HasFork c.compile_first-2.new.program c.join-2.new.program c.in_ok-first-2.first c.loop-j.behind i) (Grows c.compile_first-2.new.program c.join-2.new.program) _ (λ i has g2.
    subst (λ e. Stands c.args.labels.now.texts (λ k. slice_get c.join-2.new.program k) e (length c.args.program.now) i c.args.next) (expr_trimmed first xs ∙ ap trimmed c.expr.view_is)
    (alternatives c.args.labels.now.texts trimmed_seq first xs c.loop-j.program c.compile_first-2.new.program c.join-2.new.program (length c.args.program.now)
    c.in_ok-first-2.first c.args.next c.loop-j.behind i l0 c.in_ok-first-2.ensures.grows g2 has c.in_ok-first-2.ensures.stands more)) c.join-2.ensures.fork c.join-2.ensures.grows
