-- Numbers that are read from text: those past 10^18, which is past every count and limit, are read as 10^18.
use Rattle.std.specs.Prelude.{ℕ, ◌≡◌, List, if◌then◌else◌, nat_le, take, drop}
use Rattle.std.specs.List.{prefix_len}
use Rattle.std.specs.Char.{is_ascii_digit}

-- the number, or 10^18 where it is past that
abbrev pub saturated : ℕ → ℕ
saturated n = if nat_le n 1000000000000000000 then n else 1000000000000000000

-- the digits in front of a text
abbrev pub digits_ahead : List ℕ → List ℕ
digits_ahead text = take (prefix_len is_ascii_digit text) text

-- what stands behind the digits in front of a text
abbrev pub after_digits : List ℕ → List ℕ
after_digits text = drop (prefix_len is_ascii_digit text) text

-- r is read of the one number of which P holds
pub record IsFound (P : ℕ → Type 0) (r : ℕ) : Type 0 where
  -- the number of which P holds
  pub number : ℕ
  -- it holds of this one
  pub holds : P number
  -- and of no other
  pub only : (n : ℕ) → P n → n ≡ number
  -- r is this number, or 10^18 where it is past that
  pub is : r ≡ saturated number

-- the two are read of the one pair of numbers of which P holds
pub record AreFound (P : ℕ → ℕ → Type 0) (p : ℕ × ℕ) : Type 0 where
  -- the pair of which P holds
  pub first : ℕ
  pub second : ℕ
  -- it holds of this one
  pub hold : P first second
  -- and of no other
  pub only : (n m : ℕ) → P n m → (n ≡ first) × (m ≡ second)
  -- the two are these numbers, each or 10^18 where it is past that
  pub are : (p.0 ≡ saturated first) × (p.1 ≡ saturated second)
