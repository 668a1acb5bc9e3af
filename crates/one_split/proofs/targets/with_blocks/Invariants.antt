use Rattle.std.proofs.Common.{◌≡◌, ℕ, Some, IsSome, IsTrue, is_some, take}
use Rattle.std.specs.List.{filter}
use Rattle.graph_spec.specs.Members.{at, has}
use Rattle.quotient_draft.specs.Drafts.{shown_blocks, shown_labels}
use Rattle.one_split.proofs.targets.with_blocks.Given as goal

abbrev pub invariant-loop-t : goal.invariant-loop-t
invariant-loop-t l = record {
  kept : l.list.items ≡ filter (λ n. is_some (at (shown_blocks l.base l.draft) n)) (take l.t-index l.targets);
  live : (n b : ℕ) → IsTrue (has (take l.t-index l.targets) n) → at (shown_blocks l.base l.draft) n ≡ Some b → IsSome (at (shown_labels l.base l.draft) b);
}
