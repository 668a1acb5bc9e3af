-- The hash of a key. That it is a function of the key's numbers is all that a table needs of it.
use Rattle.std.specs.Prelude.{ℕ, ◌*◌, ◌/◌, ◌%◌, ◌^◌, List, fold, bit_xor}

-- one step: 64 bits of the product
unfoldable pub mix_of : ℕ → ℕ → ℕ
mix_of h x = (bit_xor h x * 0x9E3779B97F4A7C15) % 2 ^ 64

-- the upper bits are mixed into the lower ones
unfoldable pub spread_of : ℕ → ℕ
spread_of h = bit_xor h (h / 2 ^ 15)

-- the upper half of the state after all the numbers
unfoldable pub hash_of : List ℕ → ℕ
hash_of key = spread_of (fold mix_of 0x243F6A8885A308D3 key / 2 ^ 32)
