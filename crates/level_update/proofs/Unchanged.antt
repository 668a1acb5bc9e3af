-- A level at which nothing is drafted shows its base.
use Rattle.std.proofs.Common.{◌≡◌, ℕ, ap}
use Rattle.keyed_quotient.specs.KeyedQuotients.{KeyedQuotient, key_at}
use Rattle.keyed_quotient.specs.Changes.{KeyedChanges, no_keyed_changes, blocks_as_shown, labels_as_shown, support_as_shown, shown_key}
use Rattle.bisim_spec.specs.IndexGraphs.{support_at}

pub none_blocks : (q : KeyedQuotient) (d : KeyedChanges) → d ≡ no_keyed_changes → blocks_as_shown q d ≡ q.quotient.blocks.block_of
none_blocks q d e = ap (blocks_as_shown q) e

pub none_labels : (q : KeyedQuotient) (d : KeyedChanges) → d ≡ no_keyed_changes → labels_as_shown q d ≡ q.quotient.blocks.labels
none_labels q d e = ap (labels_as_shown q) e

pub none_support : (q : KeyedQuotient) (d : KeyedChanges) → d ≡ no_keyed_changes → (x y : ℕ) → support_as_shown q d x y ≡ support_at q.quotient.supports x y
none_support q d e x y = ap (λ (c : KeyedChanges). support_as_shown q c x y) e

pub none_key : (q : KeyedQuotient) (d : KeyedChanges) → d ≡ no_keyed_changes → (b : ℕ) → shown_key q d b ≡ key_at q.keys b
none_key q d e b = ap (λ (c : KeyedChanges). shown_key q c b) e
