-- What is drafted over a family, level by level.
use Rattle.std.specs.Prelude.{ℕ, ◌≡◌, ◌≢◌, ◌⊎◌, ◌+◌, ◌<◌, List, length, Option, Some, IsSome, slice_index_or}
use Rattle.graph_spec.specs.Members.{at}
use Rattle.quotient.specs.Quotients.{view_of}
use Rattle.keyed_quotient.specs.KeyedQuotients.{KeyedQuotient}
use Rattle.keyed_quotient.specs.Changes.{KeyedChanges, no_keyed_changes, blocks_as_shown, labels_as_shown, support_as_shown, shown_key, IsKeyedOver, HasReservedKeys, IsSettled, AreUnsupported}
use Rattle.level_spec.specs.Keyed.{KeysStay, AreLabelled}
use Rattle.bisim_spec.specs.declared.sides.Sides.{Sides}
use Rattle.ak_family.specs.Families.{level_at, AreKeyedBySupports}

-- what is drafted at a level, and nothing past the last one
abbrev pub changes_at : List KeyedChanges → ℕ → KeyedChanges
changes_at drafts i = slice_index_or drafts i no_keyed_changes

-- the blocks of the nodes at a level as shown
abbrev pub blocks_shown : List KeyedQuotient → List KeyedChanges → ℕ → List (Option ℕ)
blocks_shown f d i = blocks_as_shown (level_at f i) (changes_at d i)

-- the label of each block of a level as shown
abbrev pub labels_shown : List KeyedQuotient → List KeyedChanges → ℕ → List (Option ℕ)
labels_shown f d i = labels_as_shown (level_at f i) (changes_at d i)

-- the support of two blocks of a level as shown
abbrev pub support_shown : List KeyedQuotient → List KeyedChanges → ℕ → ℕ → ℕ → ℕ
support_shown f d i a b = support_as_shown (level_at f i) (changes_at d i) a b

-- the key of a block of a level as shown, and none where the number is no block there
abbrev pub key_shown : List KeyedQuotient → List KeyedChanges → ℕ → ℕ → Option (List ℕ)
key_shown f d i b = shown_key (level_at f i) (changes_at d i) b

-- The draft was begun over this family, and has its levels. This holds for as long as blocks, labels and keys of the
-- family stay.
pub record AreOver (f : List KeyedQuotient) (d : List KeyedChanges) : Type 0 where
  -- one draft for each level
  pub count : length d ≡ length f
  -- each is over the level with its number
  pub each : (i : ℕ) → i < length f → IsKeyedOver (level_at f i) (changes_at d i)

-- no other level of the draft has changed
abbrev pub AreSameBut : ℕ → List KeyedChanges → List KeyedChanges → Type 0
AreSameBut i old new = (j : ℕ) → j ≢ i → changes_at new j ≡ changes_at old j

-- a and b are blocks of a level, as the draft over this family shows it
pub record AreBlocksThere (f : List KeyedQuotient) (d : List KeyedChanges) (i a b : ℕ) : Type 0 where
  -- the draft is over the family
  pub over : AreOver f d
  -- there is such a level
  pub level : i < length f
  -- a is a block there
  pub from : IsSome (at (labels_shown f d i) a)
  -- b is a block there
  pub onto : IsSome (at (labels_shown f d i) b)

-- Nothing but supports of level i has changed: its nodes have the same blocks, with the same labels and keys, and the
-- other levels are the same. The draft is still over this family.
pub record KeepsAllButSupports (f : List KeyedQuotient) (i : ℕ) (old new : List KeyedChanges) : Type 0 where
  -- nodes keep their blocks
  pub blocks : blocks_shown f new i ≡ blocks_shown f old i
  -- blocks keep their labels
  pub labels : labels_shown f new i ≡ labels_shown f old i
  -- blocks keep their keys
  pub keys : (b : ℕ) → key_shown f new i b ≡ key_shown f old i b
  -- other levels are the same
  pub others : AreSameBut i old new
  -- the draft is still over the family
  pub over : AreOver f new

-- nothing is drafted at any level
abbrev pub AreEmpty : List KeyedChanges → Type 0
AreEmpty d = (i : ℕ) → changes_at d i ≡ no_keyed_changes

-- Block b has the key. Where it didn't have it before, it was made with this label. The others are as they were, and so
-- is b if it was a block.
pub record HasBlock (label : ℕ) (key : List ℕ) (b : ℕ) (labels labels2 : List (Option ℕ)) (keys keys2 : ℕ → Option (List ℕ)) : Type 0 where
  -- b is a block
  pub live : IsSome (at labels2 b)
  -- it has this key
  pub key_is : keys2 b ≡ Some key
  -- it had this key before, or it has this label
  pub found : (keys b ≡ Some key) ⊎ (at labels2 b ≡ Some label)
  -- each other block has the label that it had
  pub other_labels : (c : ℕ) → c ≢ b → at labels2 c ≡ at labels c
  -- and the key
  pub other_keys : (c : ℕ) → c ≢ b → keys2 c ≡ keys c
  -- what had a label keeps it
  pub labels_stay : (c l : ℕ) → at labels c ≡ Some l → at labels2 c ≡ Some l
  -- what had a key keeps it
  pub keys_stay : KeysStay keys keys2

-- block b of a level has the key now, and was made with this label where no block had the key before
abbrev pub ShowsBlock : List KeyedQuotient → ℕ → List KeyedChanges → List KeyedChanges → ℕ → List ℕ → ℕ → Type 0
ShowsBlock f i old new label key b = HasBlock label key b (labels_shown f old i) (labels_shown f new i) (key_shown f old i) (key_shown f new i)

-- No label and no key of a block of a level has changed, and no other level has.
pub record KeepsLabelsAndKeys (f : List KeyedQuotient) (i : ℕ) (old new : List KeyedChanges) : Type 0 where
  -- each block of the level has its label
  pub labels : labels_shown f new i ≡ labels_shown f old i
  -- and its key
  pub keys : (b : ℕ) → key_shown f new i b ≡ key_shown f old i b
  -- what is drafted at the other levels is the same
  pub others : AreSameBut i old new

-- each level has capacity reserved for what the draft shows
abbrev pub HaveReserved : List KeyedQuotient → List KeyedChanges → Type 0
HaveReserved f d = (i : ℕ) → i < length f → HasReservedKeys (level_at f i) (changes_at d i)

-- What the draft shows is a family. No pair with a block without members has support.
pub record ShowsFamily (f : List KeyedQuotient) (d : List KeyedChanges) : Type 0 where
  -- the draft is over the family
  pub over : AreOver f d
  -- at the lowest level the key is the label
  pub lowest : AreLabelled (labels_shown f d 0) (key_shown f d 0)
  -- a block without members has no support
  pub empty : (i : ℕ) → i < length f → AreUnsupported (blocks_shown f d i) (support_shown f d i)

-- its keys are as the levels below and the supports say
pub record ShowsKeys (sides : Sides) (f : List KeyedQuotient) (d : List KeyedChanges) : Type 0 where
  -- the key of a block has its block one level below, and those of the blocks that it has support with
  pub above : (i : ℕ) → i + 1 < length f
      → AreKeyedBySupports sides (blocks_shown f d i) (blocks_shown f d (i + 1)) (key_shown f d (i + 1)) (support_shown f d (i + 1))

-- each level has become what the draft showed there, without blocks that have no members
pub record AreSettled (f : List KeyedQuotient) (d : List KeyedChanges) (new : List KeyedQuotient) : Type 0 where
  -- there are as many levels as before
  pub count : length new ≡ length f
  -- each level is what the draft showed of it
  pub each : (i : ℕ) → i < length f → IsSettled (level_at f i) (changes_at d i) (level_at new i)

-- the families are the same but for reserved capacity
pub record AreSeenAs (old new : List KeyedQuotient) : Type 0 where
  -- there are as many levels
  pub count : length new ≡ length old
  -- each level has the same blocks, labels and supports
  pub views : (i : ℕ) → view_of (level_at new i).quotient ≡ view_of (level_at old i).quotient
  -- each level has the same keys
  pub keys : (i : ℕ) → (level_at new i).keys ≡ (level_at old i).keys
