-- What a table of labels holds.
use Rattle.std.specs.Prelude.{◌<◌, ◌≤◌, ◌^◌, ⊤, ℕ, suc, List, [], ◌∷◌, ◌++◌, length, take, drop, nat_lt, nat_eq, bytes_eq, if◌then◌else◌}
use Rattle.std.specs.List.{IsDistinct, swap}
use Rattle.std.specs.Set.{remove_key}
use Rattle.graph_spec.specs.Graphs.{is_seen}

-- the labels, each once, and the texts ahead of them, for which capacity is reserved
pub record LabelTable : Type 0 where
  -- the labels that were seen, by their numbers
  pub texts : List (List ℕ)
  -- the texts for which capacity is reserved
  pub ahead : List (List ℕ)

-- the labels, and then the texts ahead
abbrev pub entries : LabelTable → List (List ℕ)
entries t = t.texts ++ t.ahead

-- What a table keeps: of its entries the first `effective` are labels, and none comes twice.
abbrev pub IsLabelTable : List (List ℕ) → ℕ → Type 0
IsLabelTable keys effective =
    record { within : effective ≤ length keys; few : effective ≤ 2 ^ 30; few_keys : length keys ≤ 2 ^ 31; once : IsDistinct bytes_eq keys }

-- capacity is reserved for the text: it is an entry
abbrev pub with_ahead : LabelTable → List ℕ → LabelTable
with_ahead t text = record { texts = t.texts; ahead = if is_seen (entries t) text then t.ahead else t.ahead ++ text ∷ [] }

-- the numbers are those of entries, of which there are so many
abbrev pub AreEntries : ℕ → List ℕ → Type 0
AreEntries count [] = ⊤
AreEntries count (l ∷ ls) = (l < count) × AreEntries count ls

-- a table of these entries, of which the first n are labels
abbrev pub table_of : List (List ℕ) → ℕ → LabelTable
table_of keys n = record { texts = take n keys; ahead = drop n keys }

-- the entry is a label: it was one, or it changes places with the first text ahead, and becomes one
abbrev pub with_shown : LabelTable → ℕ → LabelTable
with_shown t l = if nat_lt l (length t.texts) then t else table_of (swap (entries t) (length t.texts) l) (suc (length t.texts))

-- the number m, where a and b have changed places
abbrev pub exchanged : ℕ → ℕ → ℕ → ℕ
exchanged a b m = if nat_eq m a then b else (if nat_eq m b then a else m)

-- the number that the entry m has once the entry l is a label
abbrev pub renumbered : LabelTable → ℕ → ℕ → ℕ
renumbered t l m = if nat_lt l (length t.texts) then m else exchanged (length t.texts) l m

-- the numbers but the first that is l
abbrev pub without_number : List ℕ → ℕ → List ℕ
without_number numbers l = remove_key (nat_eq l) numbers
