-- Numbers that look as if they were drawn at random: a linear congruential generator with a state of 64 bits.
use Rattle.std.specs.Prelude.{ℕ, zero, suc, ◌+◌, ◌*◌, ◌/◌, ◌%◌, ◌^◌}

-- the state that follows x
unfoldable pub next_state : ℕ → ℕ
next_state x = (x * 6364136223846793005 + 1442695040888963407) % 2 ^ 64

-- the state after that many draws
abbrev pub state_after : ℕ → ℕ → ℕ
state_after zero x = x
state_after (suc n) x = state_after n (next_state x)

-- The number below m at the state x: the remainder of the state's upper 31 bits. Where m is 0 it is these bits.
unfoldable pub number_at : ℕ → ℕ → ℕ
number_at x m = (x / 2 ^ 33) % m

-- the number below m that the n-th draw from the state x on gives, counted from 1
abbrev pub drawn : ℕ → ℕ → ℕ → ℕ
drawn n m x = number_at (state_after n x) m
