use Rattle.std.proofs.Common.{◌≡◌, ◌∙◌, ℕ, ◌-◌, sym, ap, subst, arith, length, drop, Some}
use Rattle.std.specs.Prelude.{slice_get}
use Rattle.std.proofs.lemmas.Result.{IfOk-weaker, on_ok_weaker}
use Rattle.path_expr.specs.ExprAutomata.{Stands, StandsItem, StandsAtom}
use Rattle.path_automaton.specs.declared.state.State.TheVariants.{Fork}
use Rattle.path_expr.specs.ExprTrees.{atom_of, signed_by, seq_of}
use Rattle.path_expr.specs.Compiled.{Grows, HasFork, StandMore, StandRest}
use Rattle.path_expr.proofs.AutomatonParts.{grows_then, grows_push, loop_grows, star_stands, plus_stands, opt_stands, alternatives, more_then, rest_then, expr_same, whole_seq, drop_back, drop_none, opt_ok}
use Rattle.path_expr.proofs.compile.+compile.Goals as goal

pub compile_atom-returns-in-Group-clause-stands : goal.compile_atom-returns-in-Group-clause-stands
compile_atom-returns-in-Group-clause-stands t c =
    let at = λ (k : ℕ). slice_get c.compile_expr.new.program k in
    IfOk-weaker c.compile_expr.result (λ i. Stands c.args.labels.now.texts at c.deref.result.now (length c.args.program.now) i c.args.next) _
    (λ i h. subst (λ a. StandsAtom c.args.labels.now.texts at (atom_of a) (length c.args.program.now) i c.args.next) (sym c.in-Group.is)
    (subst (λ e. Stands c.args.labels.now.texts at e (length c.args.program.now) i c.args.next) c.deref.ensures h)) c.compile_expr.ensures.stands

pub compile_expr-loop-j-preserved : goal.compile_expr-loop-j-preserved
compile_expr-loop-j-preserved t c =
    let xs = c.expr.inside.more.items in
    let here = drop_back xs c.loop-j.j c.index.result.now c.loop-j-test.true (omega arith) c.index.ensures in
    let g0 = c.loop-j.invariant.grows in
    let l0 = g0.longer in
    let g1 = c.in_ok-first.ensures.grows in
    let g2 = c.in_ok-join.ensures.grows in
    record {
      grows = grows_then _ _ _ g0 (grows_then _ _ _ g1 g2);
      stands = more_then c.args.labels.now.texts (λ s. s) (drop (c.loop-j.j - 1) xs) c.index.result.now (drop c.loop-j.j xs) c.loop-j.program c.compile_seq.new.program c.join.new.program
          (length c.args.program.now) c.in_ok-first.first c.args.next c.loop-j.behind c.in_ok-join.field-0 here l0 g1 g2 c.in_ok-join.ensures.fork c.in_ok-join.ensures.number
          c.in_ok-first.ensures.stands c.loop-j.invariant.stands;
    }

pub compile_expr-returns-clause-stands : goal.compile_expr-returns-clause-stands
compile_expr-returns-clause-stands t c =
    let g0 = c.loop-j.invariant.grows in
    let l0 = g0.longer in
    let more = subst (λ ss. StandMore c.args.labels.now.texts c.loop-j.program (length c.args.program.now) (λ s. s) ss c.args.next c.loop-j.behind) (drop_none c.expr.inside.more.items c.loop-j.j (omega arith)) c.loop-j.invariant.stands in
    opt_ok c.join-2.result (λ i. HasFork c.compile_seq-2.new.program c.join-2.new.program c.in_ok-first-2.first c.loop-j.behind i) (Grows c.compile_seq-2.new.program c.join-2.new.program) _ (λ i has g2.
    subst (λ e. Stands c.args.labels.now.texts (λ k. slice_get c.join-2.new.program k) e (length c.args.program.now) i c.args.next) (expr_same (seq_of c.expr.inside.first) c.expr.inside.more.items ∙ c.expr.view_is)
    (alternatives c.args.labels.now.texts (λ s. s) (seq_of c.expr.inside.first) c.expr.inside.more.items c.loop-j.program c.compile_seq-2.new.program c.join-2.new.program (length c.args.program.now)
    c.in_ok-first-2.first c.args.next c.loop-j.behind i l0 c.in_ok-first-2.ensures.grows g2 has c.in_ok-first-2.ensures.stands more)) c.join-2.ensures.fork c.join-2.ensures.grows

pub compile_item-returns-in_ok-first-in-Some-Star-clause-stands : goal.compile_item-returns-in_ok-first-in-Some-Star-clause-stands
compile_item-returns-in_ok-first-in-Some-Star-clause-stands t c =
    let sign = c.in-Some-Star.is ∙ ap Some (rw c.in-Some-Star.is at c.in-Some-Star.field-0-is) in
    subst (λ s. StandsItem c.args.labels.now.texts (λ k. slice_get c.set.new.self k) (signed_by (atom_of c.args.atom.now) s) (length c.args.program.now) c.in_ok-fork-in-Some-Star.fork c.args.next) (sym sign)
    (star_stands c.args.labels.now.texts (atom_of c.args.atom.now) c.args.program.now c.push.new.self c.compile_atom-in-Some-Star.new.program c.set.new.self
    c.in_ok-fork-in-Some-Star.fork c.in_ok-first-in-Some-Star.first c.args.next c.in_ok-fork-in-Some-Star.ensures.number c.in_ok-fork-in-Some-Star.ensures.ok
    c.in_ok-first-in-Some-Star.ensures.grows c.set.ensures c.in_ok-first-in-Some-Star.ensures.stands)

pub compile_item-returns-in_ok-first-in-Some-Plus-clause-grows : goal.compile_item-returns-in_ok-first-in-Some-Plus-clause-grows
compile_item-returns-in_ok-first-in-Some-Plus-clause-grows t c =
    loop_grows c.args.labels.now.texts (atom_of c.args.atom.now) c.args.program.now c.push-in-Some-Plus.new.self c.compile_atom-in-Some-Plus.new.program c.set-in-Some-Plus.new.self
    c.in_ok-fork-in-Some-Plus.fork c.in_ok-first-in-Some-Plus.first c.args.next c.in_ok-fork-in-Some-Plus.ensures.number c.in_ok-fork-in-Some-Plus.ensures.ok
    c.in_ok-first-in-Some-Plus.ensures.grows c.set-in-Some-Plus.ensures

pub compile_item-returns-in_ok-first-in-Some-Plus-clause-stands : goal.compile_item-returns-in_ok-first-in-Some-Plus-clause-stands
compile_item-returns-in_ok-first-in-Some-Plus-clause-stands t c =
    let sign = c.in-Some-Plus.is ∙ ap Some (rw c.in-Some-Plus.is at c.in-Some-Plus.field-0-is) in
    subst (λ s. StandsItem c.args.labels.now.texts (λ k. slice_get c.set-in-Some-Plus.new.self k) (signed_by (atom_of c.args.atom.now) s) (length c.args.program.now) c.in_ok-first-in-Some-Plus.first c.args.next) (sym sign)
    (plus_stands c.args.labels.now.texts (atom_of c.args.atom.now) c.args.program.now c.push-in-Some-Plus.new.self c.compile_atom-in-Some-Plus.new.program c.set-in-Some-Plus.new.self
    c.in_ok-fork-in-Some-Plus.fork c.in_ok-first-in-Some-Plus.first c.args.next c.in_ok-fork-in-Some-Plus.ensures.number c.in_ok-fork-in-Some-Plus.ensures.ok
    c.in_ok-first-in-Some-Plus.ensures.grows c.set-in-Some-Plus.ensures c.in_ok-first-in-Some-Plus.ensures.stands)

pub compile_item-returns-in_ok-first-in-Some-Opt-clause-grows : goal.compile_item-returns-in_ok-first-in-Some-Opt-clause-grows
compile_item-returns-in_ok-first-in-Some-Opt-clause-grows t c =
    on_ok_weaker c.push-in-Some-Opt.result (λ e. grows_then _ _ _ c.in_ok-first-in-Some-Opt.ensures.grows (grows_push _ _ (Fork c.args.next c.in_ok-first-in-Some-Opt.first) e)) c.push-in-Some-Opt.ensures.ok

pub compile_item-returns-in_ok-first-in-Some-Opt-clause-stands : goal.compile_item-returns-in_ok-first-in-Some-Opt-clause-stands
compile_item-returns-in_ok-first-in-Some-Opt-clause-stands t c =
    let sign = c.in-Some-Opt.is ∙ ap Some (rw c.in-Some-Opt.is at c.in-Some-Opt.field-0-is) in
    opt_ok c.push-in-Some-Opt.result _ _ _ (λ i number pushed.
    subst (λ s. StandsItem c.args.labels.now.texts (λ k. slice_get c.push-in-Some-Opt.new.self k) (signed_by (atom_of c.args.atom.now) s) (length c.args.program.now) i c.args.next) (sym sign)
    (opt_stands c.args.labels.now.texts (atom_of c.args.atom.now) c.args.program.now c.compile_atom-in-Some-Opt.new.program c.push-in-Some-Opt.new.self c.in_ok-first-in-Some-Opt.first c.args.next i
    c.in_ok-first-in-Some-Opt.ensures.grows c.in_ok-first-in-Some-Opt.ensures.stands pushed number)) c.push-in-Some-Opt.ensures.number c.push-in-Some-Opt.ensures.ok

pub compile_rest-loop-j-preserved : goal.compile_rest-loop-j-preserved
compile_rest-loop-j-preserved t c =
    let xs = c.args.seq.now.rest.items in
    let test = c.loop-j-test.true in
    let here = drop_back xs c.loop-j.j c.index-step.result.now (omega (arith, test)) (omega arith) c.index-step.ensures in
    let g0 = c.loop-j.invariant.grows in
    let l0 = g0.longer in
    let g1 = c.in_ok-first.ensures.grows in
    let g2 = c.in_ok-after.ensures.grows in
    record {
      past = omega (arith, test);
      grows = grows_then _ _ _ g0 (grows_then _ _ _ g1 g2);
      inside = c.in_ok-after.ensures.number;
      stands = rest_then c.args.labels.now.texts (drop (c.loop-j.j - 1) xs) c.index-step.result.now (drop c.loop-j.j xs) c.loop-j.program c.compile_item.new.program c.compile_sep.new.program
          (length c.args.program.now) c.in_ok-first.first c.loop-j.after c.args.next c.in_ok-after.after here l0 g1 g2 c.in_ok-after.ensures.gap
          c.in_ok-first.ensures.stands c.loop-j.invariant.stands;
    }

pub compile_rest-returns-clause-stands : goal.compile_rest-returns-clause-stands
compile_rest-returns-clause-stands t c =
    let test = c.loop-j-test.false in
    let past = c.loop-j.invariant.past in
    let same : c.loop-j.j ≡ c.args.from = omega (arith, test, past) in
    subst (λ k. StandRest c.args.labels.now.texts c.loop-j.program (length c.args.program.now) (drop k c.args.seq.now.rest.items) c.args.next c.loop-j.after) same c.loop-j.invariant.stands

pub compile_seq-returns-clause-grows : goal.compile_seq-returns-clause-grows
compile_seq-returns-clause-grows t c = on_ok_weaker c.compile_item.result (λ g. grows_then _ _ _ c.in_ok-after.ensures.grows g) c.compile_item.ensures.grows

pub compile_seq-returns-clause-stands : goal.compile_seq-returns-clause-stands
compile_seq-returns-clause-stands t c =
    let g0 = c.in_ok-after.ensures.grows in
    let l0 = g0.longer in
    let first = signed_by (atom_of c.args.seq.now.first.atom) c.args.seq.now.first.sign in
    opt_ok c.compile_item.result (λ i. StandsItem c.args.labels.now.texts (λ k. slice_get c.compile_item.new.program k) first (length c.compile_rest.new.program) i c.in_ok-after.after)
    (Grows c.compile_rest.new.program c.compile_item.new.program) _ (λ i h g1.
    whole_seq c.args.labels.now.texts first c.args.seq.now.rest.items c.compile_rest.new.program c.compile_item.new.program (length c.args.program.now) i c.in_ok-after.after c.args.next l0 g1 h c.in_ok-after.ensures.stands)
    c.compile_item.ensures.stands c.compile_item.ensures.grows
