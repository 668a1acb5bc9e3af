use Rattle.std.proofs.Common.{◌≡◌, ◌∙◌, ap, sym, subst, arith, drop, None, true, ◌+◌, ◌-◌}
use Rattle.std.specs.Prelude.{option_map, is_some}
use Rattle.std.specs.Option.{option_or}
use Rattle.graph_steps.specs.StepLists.{step_of}
use Rattle.graph_steps.specs.StepLabels.{relabel_by, relabelled}
use Rattle.graph_steps.proofs.StepLabels.{newer, relabelled_begun, relabelled_more, relabelled_done, none_behind, none_mapped, none_more, some_mapped, last_label}
use Rattle.graph_steps.proofs.labels.relabelled.Goals as goal

pub loop-i-init : goal.loop-i-init
loop-i-init c =
    let f = c.args.prefix.now in
    let from = c.requires in
    let len = c.len-past.ensures in
    record {
      low = c.next_naming-i.ensures.ordered;
      within = c.next_naming-i.ensures.within;
      after = omega (arith, from, len);
      past = omega (arith, len);
      given = sym (relabelled_begun f c.args.n c.args.from c.next_naming-i.result c.next_naming-i.ensures);
      none = subst (λ k. relabelled (drop k f) c.args.n ≡ None) (sym len) (none_behind f c.args.n);
    }

pub loop-i-preserved : goal.loop-i-preserved
loop-i-preserved c =
    let f = c.args.prefix.now in
    let n = c.args.n in
    let from = c.args.from in
    let i = c.loop-i.i in
    let s = step_of c.step-in-loop-i.result.now in
    let below = c.loop-i-test.true in
    let low = c.loop-i.invariant.low in
    let high = c.loop-i.invariant.past in
    let next = c.next_naming-i-in-loop-i.ensures in
    let beyond = next.ordered in
    let back : c.loop-i.past ≡ c.loop-i.past - 1 + 1 = omega (arith, below) in
    record {
      low = omega (arith, low, beyond);
      within = next.within;
      after = omega (arith, low, below);
      past = omega (arith, high);
      given =
          ap (option_map (λ t. t.now)) c.or-given.ensures ∙ newer (λ t. t.now) c.relabel_by.result c.loop-i.given
          ∙ ap (λ o. option_or o (option_map (λ t. t.now) c.loop-i.given)) c.relabel_by.ensures ∙ ap (option_or (relabel_by s n)) c.loop-i.invariant.given
          ∙ relabelled_more f s n from i c.next_naming-i-in-loop-i.result low c.step-in-loop-i.ensures next;
      none = none_more f (step_of c.step.result.now) n (c.loop-i.past - 1) c.step.ensures (subst (λ k. relabelled (drop k f) n ≡ None) back c.loop-i.invariant.none)
          (sym c.relabel_by-last.ensures ∙ none_mapped (λ t. t.now) c.relabel_by-last.result (sym c.is_some.ensures ∙ c.if-is_some.false));
    }

pub returns-then-is_some : goal.returns-then-is_some
returns-then-is_some c =
    let f = c.args.prefix.now in
    let n = c.args.n in
    let s = step_of c.step.result.now in
    let below = c.loop-i-test.true in
    let low = c.loop-i.invariant.low in
    let back : c.loop-i.past ≡ c.loop-i.past - 1 + 1 = omega (arith, below) in
    c.relabel_by-last.ensures
    ∙ last_label f s n c.args.from (c.loop-i.past - 1) (omega (arith, low, below)) c.step.ensures (subst (λ k. relabelled (drop k f) n ≡ None) back c.loop-i.invariant.none)
    (subst (λ o. is_some o ≡ true) c.relabel_by-last.ensures (some_mapped (λ t. t.now) c.relabel_by-last.result (sym c.is_some.ensures ∙ c.if-is_some.true)))

pub returns : goal.returns
returns c =
    let inv = c.loop-i.invariant in
    inv.given ∙ relabelled_done c.args.prefix.now c.args.n c.args.from c.loop-i.i c.loop-i.past inv.low c.loop-i-test.false inv.none
