use Rattle.std.proofs.Common.{rules, ap, ◌∙◌, ◌≡◌, nat_eq}
use Rattle.std.specs.List.{dedup}
use Rattle.graph_spec.specs.Members.{has}
use Rattle.key_table.proofs.RisingSets.{deduped_once, deduped_same}
use Rattle.smallvec.proofs.SmallVecLemmas.{items-with_items}
use Rattle.one_update.proofs.unsteady.keep_once.Goals as goal

pub returns-clause-once : goal.returns-clause-once
returns-clause-once c =
    deduped_once c.sort_unstable.new.self c.dedup.new.self.items c.sort_unstable.ensures.sorted
    (c.dedup.ensures.items ∙ ap (dedup nat_eq) (items-with_items c.args.nodes.now c.sort_unstable.new.self (search rules)))

pub returns-clause-same : goal.returns-clause-same
returns-clause-same c = λ n.
    deduped_same c.deref_mut.result.now c.sort_unstable.new.self c.dedup.new.self.items c.sort_unstable.ensures.permutation
    (c.dedup.ensures.items ∙ ap (dedup nat_eq) (items-with_items c.args.nodes.now c.sort_unstable.new.self (search rules))) n
    ∙ ap (λ xs. has xs n) c.deref_mut.ensures.value
