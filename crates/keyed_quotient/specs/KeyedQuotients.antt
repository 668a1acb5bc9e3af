-- A quotient whose blocks have keys. A key is a list of numbers by which its block is found.
use Rattle.std.specs.Prelude.{ℕ, ◌≡◌, List, [], Option, None, Some, is_some, refl, slice_index_or}
use Rattle.std.specs.Coded.{Coded, code_by, coded×, coded_ℕ, coded_list, coded_option}
use Rattle.std.specs.FinMap as table
use Rattle.graph_spec.specs.Graphs.{edge_cmp}
use Rattle.graph_spec.specs.Members.{at}
use Rattle.block_partition.specs.LabelledPartitions.{no_blocks}
use Rattle.quotient.specs.Quotients.{Quotient, quotient_code, no_reserved_pairs}

-- what is reserved
pub record ReservedKeys : Type 0 where
  -- keys that have a place in the table, whether or not blocks have them
  pub known : List (List ℕ)
  -- blocks with numbers below this one
  pub span : ℕ

-- a quotient, with the keys of its blocks
pub record KeyedQuotient : Type 0 where
  -- the blocks and their supports
  pub quotient : Quotient
  -- for each number the key of that block, or none where the number is no block
  pub keys : List (Option (List ℕ))
  -- what is reserved
  pub reserved : ReservedKeys

-- it is stored as its parts
abbrev pub keyed_code : Coded KeyedQuotient
keyed_code =
    code_by (Quotient × (List (Option (List ℕ)) × (List (List ℕ) × ℕ)))
    (coded× quotient_code (coded× (coded_list (coded_option (coded_list coded_ℕ))) (coded× (coded_list (coded_list coded_ℕ)) coded_ℕ)))
    (λ k. (k.quotient, (k.keys, (k.reserved.known, k.reserved.span))))
    (λ p. record { quotient = p.0; keys = p.1.0; reserved = record { known = p.1.1.0; span = p.1.1.1 } })
    (λ _. refl)

-- without blocks
abbrev pub no_level : KeyedQuotient
no_level =
    record {
      quotient = record { blocks = no_blocks; supports = table.empty {R = edge_cmp}; reserved = no_reserved_pairs };
      keys = [];
      reserved = record { known = []; span = 0 };
    }

-- the key of a number, and none past the end of the list
abbrev pub key_at : List (Option (List ℕ)) → ℕ → Option (List ℕ)
key_at keys b = slice_index_or keys b None

-- the block has the key
abbrev pub HasKey : KeyedQuotient → ℕ → List ℕ → Type 0
HasKey level b key = key_at level.keys b ≡ Some key

-- exactly the blocks have keys, and no two blocks have one key
pub record AreKeyed (labels : List (Option ℕ)) (key : ℕ → Option (List ℕ)) : Type 0 where
  -- a number has a key exactly if it is a block
  pub exactly : (b : ℕ) → is_some (key b) ≡ is_some (at labels b)
  -- blocks with equal keys are one
  pub apart : (b c : ℕ) (numbers : List ℕ) → key b ≡ Some numbers → key c ≡ Some numbers → b ≡ c
