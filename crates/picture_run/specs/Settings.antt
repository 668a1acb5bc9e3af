-- What the words of the command line can ask for, and which texts say it.
use Rattle.std.specs.Prelude.{ℕ, ◌≡◌, ◌≤◌, ◌-◌, ◌&&◌, nat_eq, nat_le, Bool, if◌then◌else◌, List, [], ◌∷◌, length, Option, Some, None, codes, bytes_eq}
use Rattle.std.specs.List.{list_all}
use Rattle.std.specs.Char.{is_ascii_digit}
use Rattle.std.specs.Str.Parse.{digits_value}
use Rattle.bisim_spec.specs.declared.kind.Kind.{Kind}
use Rattle.index_api.specs.declared.kinds.Via.{Via}
use Rattle.index_api.specs.declared.kinds.Via.TheVariants.{Data, A, One, Fb, B}
use Rattle.index_api.specs.IndexOrder.{place_of}

-- what is drawn
pub record Settings : Type 0 where
  -- the name of the graph's file
  pub file : List ℕ
  -- the graph itself, or the index
  pub via : Via
  -- how many blocks at most
  pub blocks : ℕ
  -- how many nodes of each are named at most
  pub members : ℕ

-- The level of an index is at most 8, and the numbers are those that can be asked for.
pub record AreWithin (s : Settings) : Type 0 where
  -- the level, if the index has one, is at most 8
  pub level : (kind : Kind) (level : ℕ) → place_of s.via ≡ Some (kind, level) → level ≤ 8
  -- from 1 to 200 blocks are drawn
  pub some_blocks : 1 ≤ s.blocks
  pub most_blocks : s.blocks ≤ 200
  -- from 1 to 50 nodes of a block are named
  pub some_members : 1 ≤ s.members
  pub most_members : s.members ≤ 50

-- the text of each argument, if it is there
pub record Arguments : Type 0 where
  -- the name of the graph file
  pub graph : Option (List ℕ)
  -- what is drawn: the graph or an index
  pub graph_of : Option (List ℕ)
  -- how many blocks are drawn at most, and how many nodes of each are named
  pub blocks : Option (List ℕ)
  pub members : Option (List ℕ)

-- the bytes `0` (48) to `8` (56) name levels
abbrev pub level_named : ℕ → Option ℕ
level_named b = if nat_le 48 b && nat_le b 56 then Some (b - 48) else None

-- the index of a family, by its letter: `a` (97) or `b` (98)
abbrev pub index_named : ℕ → Option ℕ → Option Via
index_named letter None = None
index_named letter (Some level) = if nat_eq letter 97 then Some (A level) else if nat_eq letter 98 then Some (B level) else None

-- `a0` to `a8` and `b0` to `b8`
abbrev pub family_named : List ℕ → Option Via
family_named [] = None
family_named (a ∷ []) = None
family_named (a ∷ b ∷ []) = index_named a (level_named b)
family_named (a ∷ b ∷ c ∷ bs) = None

-- `data`, the graph itself, or an index
abbrev pub via_named : List ℕ → Option Via
via_named text =
    if bytes_eq text (codes "data") then Some Data
    else if bytes_eq text (codes "one") then Some One
    else if bytes_eq text (codes "fb") then Some Fb
    else family_named text

-- A(1), if nothing is said
abbrev pub via_or_default : Option (List ℕ) → Option Via
via_or_default None = Some (A 1)
via_or_default (Some text) = via_named text

-- 1 to 20 decimal digits, leading zeros allowed
abbrev pub is_numeral : List ℕ → Bool
is_numeral text = nat_le 1 (length text) && nat_le (length text) 20 && list_all is_ascii_digit text

-- the number, if it is one from 1 to `most`
abbrev pub number_within : ℕ → ℕ → Option ℕ
number_within most n = if nat_le 1 n && nat_le n most then Some n else None

-- the number that the text writes in decimal, from 1 to `most`
abbrev pub number_named : ℕ → List ℕ → Option ℕ
number_named most text = if is_numeral text then number_within most (digits_value 10 text) else None

-- that number, and `own` if nothing is said
abbrev pub number_or : ℕ → ℕ → Option (List ℕ) → Option ℕ
number_or most own None = Some own
number_or most own (Some text) = number_named most text

-- the settings, where each of them is there
abbrev pub settings_with : List ℕ → Option Via → Option ℕ → Option ℕ → Option Settings
settings_with file None blocks members = None
settings_with file (Some via) None members = None
settings_with file (Some via) (Some blocks) None = None
settings_with file (Some via) (Some blocks) (Some members) = Some (record { file = file; via = via; blocks = blocks; members = members })

-- at most 200 blocks, 20 if nothing is said, and at most 50 nodes of each, 3 if nothing is said
abbrev pub settings_beside : Option (List ℕ) → Arguments → Option Settings
settings_beside None g = None
settings_beside (Some file) g = settings_with file (via_or_default g.graph_of) (number_or 200 20 g.blocks) (number_or 50 3 g.members)

-- the settings that the arguments give; none if they aren't well-formed
abbrev pub arguments_settings : Arguments → Option Settings
arguments_settings g = settings_beside g.graph g
