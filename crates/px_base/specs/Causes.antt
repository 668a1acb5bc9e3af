-- When a call on a shelf or a sink may answer that it failed.
use Rattle.std.specs.Prelude.{◌≡◌, ℕ, ◌+◌, ◌-◌, ◌^◌, ◌<◌, ◌≤◌, ◌⊎◌, min, OnErr, OnOk, Result}

-- A count of faults never falls. It has risen, or stands at the last value of a u64.
abbrev pub MayHaveRisen : ℕ → ℕ → Type 0
MayHaveRisen before now = (before ≤ now) × ((before < now) ⊎ (before ≡ 2 ^ 64 - 1))

-- the count says why a call failed
pub record HasCause {T E : Type 0} (before now : ℕ) (result : Result T E) : Type 0 where
  -- where the call succeeded, the count is as before
  pub kept : OnOk result (now ≡ before)
  -- where it failed, the count may have risen
  pub failed : OnErr result (MayHaveRisen before now)

-- one more, up to the last value of a u64
abbrev pub one_more : ℕ → ℕ
one_more n = min (n + 1) (2 ^ 64 - 1)
