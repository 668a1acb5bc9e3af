-- What is drafted over a quotient whose blocks have keys.
use Rattle.std.specs.Prelude.{ℕ, ◌≡◌, ◌<◌, false, List, [], Option, None, Some, IsSome, IsTrue, cond, nat_eq, slice_get, refl, if◌then◌else◌}
use Rattle.std.specs.Coded.{Coded, code_by, coded×, coded_ℕ, coded_list}
use Rattle.std.specs.List.{IsDistinct}
use Rattle.std.specs.Option.{option_or}
use Rattle.std.specs.Map.{lookup, keys_of}
use Rattle.graph_spec.specs.Members.{at}
use Rattle.quotient.specs.Quotients.{view_of}
use Rattle.quotient_draft.specs.Drafts.{Drafted, drafted_code, no_changes, has_member, shown_blocks, shown_labels, shown_support, settled_view}
use Rattle.quotient_draft.specs.Basis.{IsOver}
use Rattle.quotient_draft.specs.ReservedCapacity.{HasReservedFor}
use Rattle.keyed_quotient.specs.KeyedQuotients.{KeyedQuotient, key_at, AreKeyed}

-- what is drafted over a quotient with keys
pub record KeyedChanges : Type 0 where
  -- what is drafted over the quotient
  pub drafted : Drafted
  -- the number and the key of each further block, in the order in which they were made
  pub keys : List (ℕ × List ℕ)

-- they are stored as their parts
abbrev pub changes_code : Coded KeyedChanges
changes_code =
    code_by (Drafted × List (ℕ × List ℕ)) (coded× drafted_code (coded_list (coded× coded_ℕ (coded_list coded_ℕ)))) (λ d. (d.drafted, d.keys))
    (λ p. record { drafted = p.0; keys = p.1 }) (λ _. refl)

-- nothing is drafted
abbrev pub no_keyed_changes : KeyedChanges
no_keyed_changes = record { drafted = no_changes; keys = [] }

-- the block of each node as shown
abbrev pub blocks_as_shown : KeyedQuotient → KeyedChanges → List (Option ℕ)
blocks_as_shown q d = shown_blocks q.quotient d.drafted

-- the label of each block as shown
abbrev pub labels_as_shown : KeyedQuotient → KeyedChanges → List (Option ℕ)
labels_as_shown q d = shown_labels q.quotient d.drafted

-- the support of two blocks as shown
abbrev pub support_as_shown : KeyedQuotient → KeyedChanges → ℕ → ℕ → ℕ
support_as_shown q d a b = shown_support q.quotient d.drafted a b

-- the key of a block as shown, and none where the number is no block as shown
abbrev pub shown_key : KeyedQuotient → KeyedChanges → ℕ → Option (List ℕ)
shown_key q d b = option_or (lookup (nat_eq b) d.keys) (key_at q.keys b)

-- The draft was begun over this base, as `IsOver` says. Its further blocks are no blocks of the base, and as shown exactly the
-- blocks have keys, no two of them the same. This holds over a base for as long as its blocks and its keys stay.
pub record IsKeyedOver (q : KeyedQuotient) (d : KeyedChanges) : Type 0 where
  -- the draft without its keys is over the base
  pub over : IsOver q.quotient.blocks.block_of q.quotient.blocks.labels d.drafted
  -- no block gets a key twice
  pub once : IsDistinct nat_eq (keys_of d.keys)
  -- only blocks that had no key get one
  pub further : (b : ℕ) (key : List ℕ) → lookup (nat_eq b) d.keys ≡ Some key → key_at q.keys b ≡ None
  -- as shown, exactly the blocks have keys, each its own
  pub keyed : AreKeyed (labels_as_shown q d) (shown_key q d)

-- the key is in the table
abbrev pub IsKnown : List (List ℕ) → List ℕ → Type 0
IsKnown known key = (k : ℕ) × (slice_get known k ≡ Some key)

-- the base has capacity reserved for what the draft shows
pub record HasReservedKeys (q : KeyedQuotient) (d : KeyedChanges) : Type 0 where
  -- capacity for the blocks, the supports and the moves
  pub quotient : HasReservedFor q.quotient d.drafted
  -- each new key is known to the base
  pub known : (i b : ℕ) (key : List ℕ) → slice_get d.keys i ≡ Some (b, key) → IsKnown q.reserved.known key
  -- each new block is below the span
  pub span : (i b : ℕ) (key : List ℕ) → slice_get d.keys i ≡ Some (b, key) → b < q.reserved.span

-- the key of a block once the draft is settled: as it is shown, and none where the block has no members
abbrev pub settled_key : KeyedQuotient → KeyedChanges → ℕ → Option (List ℕ)
settled_key q d b = cond (has_member (blocks_as_shown q d) b) (shown_key q d b) None

-- the base has become what the draft showed, without blocks that have no members
pub record IsSettled (q : KeyedQuotient) (d : KeyedChanges) (new : KeyedQuotient) : Type 0 where
  -- blocks, labels and supports are as shown
  pub view : view_of new.quotient ≡ settled_view q.quotient d.drafted
  -- keys are as shown
  pub keys : (b : ℕ) → key_at new.keys b ≡ settled_key q d b

-- each block has a member
abbrev pub AreInhabited : List (Option ℕ) → List (Option ℕ) → Type 0
AreInhabited labels block = (b : ℕ) → IsSome (at labels b) → IsTrue (has_member block b)

-- a block without members has no support in any pair
pub record AreUnsupported (block : List (Option ℕ)) (support : ℕ → ℕ → ℕ) : Type 0 where
  -- nothing leads from it
  pub from : (b c : ℕ) → has_member block b ≡ false → support b c ≡ 0
  -- nothing leads to it
  pub onto : (b c : ℕ) → has_member block b ≡ false → support c b ≡ 0

-- the number has this key, and all others have the keys that they had
abbrev pub SetsKey : ℕ → List ℕ → (ℕ → Option (List ℕ)) → (ℕ → Option (List ℕ)) → Type 0
SetsKey b key keys keys2 = (c : ℕ) → keys2 c ≡ (if nat_eq c b then Some key else keys c)
