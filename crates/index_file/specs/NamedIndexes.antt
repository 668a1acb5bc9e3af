-- Indexes that are named in a file.
use Rattle.std.specs.Prelude.{◌≡◌, ◌<◌}
use Rattle.index_api.specs.declared.kinds.Via.{Via}
use Rattle.index_api.specs.declared.kinds.Via.TheVariants.{Data, A, One, Fb, B}

-- P holds of this index alone
pub record IsNamed (P : Via → Type 0) (via : Via) : Type 0 where
  -- P holds of this index
  pub holds : P via
  -- and of no other
  pub only : (v : Via) → P v → v ≡ via

-- a level that no file has
abbrev pub IsTooHigh : Via → Type 0
IsTooHigh Data = ⊥
IsTooHigh (A level) = 8 < level
IsTooHigh One = ⊥
IsTooHigh Fb = ⊥
IsTooHigh (B level) = 8 < level
