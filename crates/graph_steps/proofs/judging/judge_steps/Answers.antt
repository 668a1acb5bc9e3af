use Rattle.std.proofs.Common.{◌≡◌, ◌∙◌, ap, sym, arith, refl, subst, take, Ok}
use Rattle.graph_steps.specs.Counted.{StepComes, AreCounts}
use Rattle.graph_steps.specs.StepLists.{step_of, steps_of}
use Rattle.change_spec.specs.Steps.{after, apply_all, is_new}
use Rattle.graph_steps.proofs.PrefixSteps.{some_at, can_next, after_at, all_taken}
use Rattle.graph_steps.proofs.Verdicts.{applied_next, refused_at, new_next, few_apply, judged}
use Rattle.graph_steps.proofs.judging.judge_steps.Goals as goal

pub loop-i-init : goal.loop-i-init
loop-i-init c = record {
  can = tt;
  applied = refl;
  new = refl;
  counts = c.counts_of-counts.ensures.counts c.exact_for-exact.result;
  edges = λ off. (let e = c.exact_for-exact.ensures.edges off in omega (arith, e));
  labels = λ off. (let e = c.exact_for-exact.ensures.labels off in omega (arith, e));
}

pub loop-i-preserved : goal.loop-i-preserved
loop-i-preserved c =
    let ss = c.args.steps.now in
    let i = c.loop-i.i in
    let g = c.args.graph.now.graph in
    let limits = c.args.limits.now in
    let within = c.loop-i-test.true in
    let inv = c.loop-i.invariant in
    let s = some_at ss i within in
    let comes = subst (StepComes c.exact_for-exact.result c.loop-i.counts (step_of s.0) (after (steps_of (take i ss)) g) limits) c.in-Ok.is (c.judge_at.ensures s.0 s.1) in
    let more_edges = comes.edges_more in
    let more_labels = comes.labels_more in
    record {
      can = can_next ss i s.0 g within s.2 inv.can comes.can;
      applied = applied_next ss i s.0 g limits within s.2 inv.applied comes.accepted;
      new = c.either-new.ensures ∙ new_next ss i s.0 g c.loop-i.new c.in-Ok.taken.alters within s.2 inv.new comes.alters;
      counts = subst (AreCounts c.exact_for-exact.result c.in-Ok.taken.counts) (sym (after_at ss i s.0 g within s.2)) comes.counts;
      edges = λ off. (let e = inv.edges off in omega (arith, e, more_edges));
      labels = λ off. (let e = inv.labels off in omega (arith, e, more_labels));
    }

pub returns-in-Err : goal.returns-in-Err
returns-in-Err c =
    let ss = c.args.steps.now in
    let i = c.loop-i.i in
    let g = c.args.graph.now.graph in
    let limits = c.args.limits.now in
    let within = c.loop-i-test.true in
    let s = some_at ss i within in
    let comes = subst (StepComes c.exact_for-exact.result c.loop-i.counts (step_of s.0) (after (steps_of (take i ss)) g) limits) c.in-Err.is (c.judge_at.ensures s.0 s.1) in
    record { judges = few_apply ss g limits c.if-steps-gt-MOST_STEPS.false ∙ refused_at ss i s.0 g limits c.in-Err.refusal within s.2 c.loop-i.invariant.applied comes }

pub returns : goal.returns
returns c =
    let ss = c.args.steps.now in
    let g = c.args.graph.now.graph in
    let limits = c.args.limits.now in
    let inv = c.loop-i.invariant in
    let all = all_taken ss c.loop-i.i c.loop-i-test.false in
    record {
      judges = rw c.verdict_of.ensures (judged ss g limits c.loop-i.new c.counts_of-counts.ensures.graph c.if-steps-gt-MOST_STEPS.false
          (subst (λ xs. apply_all (steps_of xs) g limits ≡ Ok (after (steps_of xs) g)) all inv.applied)
          (inv.new ∙ ap (λ xs. is_new (steps_of xs) g) all));
    }
