-- The parts of slots.
use Rattle.std.specs.Prelude.{ℕ, List, map}
use Rattle.hash_index.specs.declared.slots.Slot.{Slot}

-- the hash of each slot
abbrev pub hashes_of : {X : Type 0} → List (Slot X) → List ℕ
hashes_of slots = map (λ s. s.hash) slots

-- the link of each slot
abbrev pub links_of : {X : Type 0} → List (Slot X) → List ℕ
links_of slots = map (λ s. s.next) slots

-- the item of each slot
abbrev pub items_of : {X : Type 0} → List (Slot X) → List X
items_of slots = map (λ s. s.item) slots
