use Rattle.std.proofs.Common.{◌∙◌}
use Rattle.std.proofs.lemmas.List.{with_items_is}
use Rattle.round_refinement.proofs.ActiveLaws.{round_handed}
use Rattle.round_refinement.proofs.active.move_nodes.Goals as goal

pub returns : goal.returns
returns c = λ s shape way closed grouped.
    round_handed s c.args.parts.now.before.items _ c.catch_up.new.before _ c.args.parts.now.block.items _ _ _ c.rename.new.block _ c.args.parts.now.moved.items _ c.args.active.now
    c.args.groups.now c.in_ok-names.names.items _ _ _ shape way closed grouped c.deref-2.ensures.value c.deref-3.ensures.value c.in_ok-moved.ensures c.deref_mut-2.ensures.value
    c.deref-6.ensures.value c.rename.ensures c.deref_mut.ensures.value c.deref-4.ensures.value c.deref-5.ensures.value c.catch_up.ensures
    (with_items_is c.args.parts.now.before c.catch_up.new.before (c.catch_up.auto.before ∙ c.deref_mut.ensures.len))
    (with_items_is c.args.parts.now.block c.rename.new.block (c.rename.auto.block ∙ c.deref_mut-2.ensures.len))
