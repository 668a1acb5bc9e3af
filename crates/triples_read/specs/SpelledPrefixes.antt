-- What stands at the front of bytes or of characters: what private readers say.
use Rattle.std.specs.Prelude.{ℕ, List, [], ◌∷◌, ◌++◌, ◌≡◌, ◌≢◌, false, true, Option, Result, IfOk, IfSome, IsSomeAnd, encode_utf8_all}
use Rattle.std.specs.Str.{all_scalars}
use Rattle.std.specs.List.{AllByRecursion}
use Rattle.triples_read.specs.Characters.{is_letter_or_digit}
use Rattle.triples_read.specs.Terminals.{IsLabel, LANGTAG}
use Rattle.triples_read.specs.ByteReaders.{past_label}

-- the bytes are the UTF-8 of the characters
abbrev pub IsText : List ℕ → List ℕ → Type 0
IsText bytes cs = (bytes ≡ encode_utf8_all cs) × (all_scalars cs ≡ true)

-- some characters with the property stand at the front, and the rest is the UTF-8 of what follows them
abbrev pub Prefix : (List ℕ → Type 0) → List ℕ → List ℕ → Type 0
Prefix P cs rest = (s : List ℕ) × (r : List ℕ) × (cs ≡ s ++ r) × IsText rest r × P s

-- if a part is read, P holds of it
abbrev pub IfRead : {T E : Type 0} → Result (Option T) E → (T → Type 0) → Type 0
IfRead result P = IfOk result (λ found. IfSome found P)

-- a part of which P holds is read, unless there is an error
abbrev pub IsRead : {T E : Type 0} → Result (Option T) E → (T → Type 0) → Type 0
IsRead result P = IfOk result (λ found. IsSomeAnd found P)

-- wherever the bytes are those of a part that spells a value, and of other characters behind it, P holds of the value
-- and of these
abbrev pub EachPrefix : {T : Type 0} → (List ℕ → T → Type 0) → List ℕ → (T → List ℕ → Type 0) → Type 0
EachPrefix Spells bytes P = (s r : List ℕ) (value : _) → IsText bytes (s ++ r) → Spells s value → P value r

-- a label and the tail
abbrev pub IsLabelPrefix : List ℕ → List ℕ → Type 0
IsLabelPrefix text tail = (v : List ℕ) × IsLabel v × (text ≡ encode_utf8_all v ++ tail)

-- no label goes on into the tail: it begins with no character of a label, nor with dots before one
abbrev pub EndsLabel : List ℕ → Type 0
EndsLabel tail = past_label tail tail ≡ tail

-- wherever the bytes are those of a label that ends there, and of other characters behind it, P holds of these
abbrev pub EachLabel : List ℕ → (List ℕ → Type 0) → Type 0
EachLabel bytes P = (v tail : List ℕ) → bytes ≡ encode_utf8_all (v ++ tail) → IsLabel v → EndsLabel tail → P tail

-- a language tag, given without its '@'
abbrev pub IsTag : List ℕ → List ℕ → Type 0
IsTag s tag = LANGTAG (64 ∷ s) tag

-- no language tag goes on into the bytes
abbrev pub EndsTag : List ℕ → Type 0
EndsTag [] = Unit {0}
EndsTag (b ∷ bs) = (is_letter_or_digit b ≡ false) × (b ≢ 45)

-- none of the bytes is this one
abbrev pub Lacks : ℕ → List ℕ → Type 0
Lacks c xs = AllByRecursion (λ x. x ≢ c) xs
