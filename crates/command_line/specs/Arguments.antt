-- What stands on the command line, and which form that is.
use Rattle.std.specs.Prelude.{ℕ, ◌-◌, ◌^◌, ◌&&◌, ◌||◌, nat_le, nat_lt, Bool, if◌then◌else◌, List, [], ◌∷◌, length, Option, Some, None, is_some}
use Rattle.std.specs.List.{list_all}
use Rattle.std.specs.Char.{is_ascii_digit}
use Rattle.std.specs.Str.Parse.{digits_value}
use Rattle.command_line.specs.Forms.{Form, runs, makes, checks, neither}

-- the text of each argument, if it is there, and which flags are
pub record Arguments : Type 0 where
  -- the name of the script, and of the graph file
  pub script : Option (List ℕ)
  pub graph : Option (List ℕ)
  -- the highest level, the seed and the name of the index file, as they are spelled
  pub k : Option (List ℕ)
  pub make : Option (List ℕ)
  pub check : Option (List ℕ)
  -- whether each flag is there
  pub without_one : Bool
  pub without_fb : Bool
  pub with_bk : Bool

-- the words `0` (48) to `8` (56) name levels, and no others do
abbrev pub level_of : List ℕ → Option ℕ
level_of [] = None
level_of (b ∷ []) = if nat_le 48 b && nat_le b 56 then Some (b - 48) else None
level_of (b ∷ c ∷ bs) = None

-- the level where the option isn't there is 2
abbrev pub level_or_default : Option (List ℕ) → Option ℕ
level_or_default None = Some 2
level_or_default (Some text) = level_of text

-- a script is run where there is one, and a level
abbrev pub run_with : Option (List ℕ) → Option (List ℕ) → Option ℕ → Bool → Bool → Bool → Form
run_with None graph level without_one without_fb with_bk = neither
run_with (Some script) graph None without_one without_fb with_bk = neither
run_with (Some script) graph (Some level) without_one without_fb with_bk =
    runs (record { script = script; graph = graph; k = level; without_one = without_one; without_fb = without_fb; with_bk = with_bk })

-- 1 to 20 decimal digits, leading zeros allowed
abbrev pub is_numeral : List ℕ → Bool
is_numeral text = nat_le 1 (length text) && nat_le (length text) 20 && list_all is_ascii_digit text

-- the seed that the text names: the number that it writes in decimal, of 64 bits
abbrev pub seed_of : List ℕ → Option ℕ
seed_of text = if is_numeral text && nat_lt (digits_value 10 text) (2 ^ 64) then Some (digits_value 10 text) else None

-- something other than a seed and a file to check is given
abbrev pub has_others : Arguments → Bool
has_others g = is_some g.script || is_some g.graph || is_some g.k || g.without_one || g.without_fb || g.with_bk

-- a seed alone
abbrev pub make_with : Option ℕ → Form
make_with None = neither
make_with (Some seed) = makes seed

-- the texts that are made from a seed, or a script
abbrev pub form_with : Option (List ℕ) → Arguments → Form
form_with None g = run_with g.script g.graph (level_or_default g.k) g.without_one g.without_fb g.with_bk
form_with (Some text) g = if has_others g then neither else make_with (seed_of text)

-- a file to check alone, or else what the rest gives
abbrev pub form_beside : Option (List ℕ) → Arguments → Form
form_beside None g = form_with g.make g
form_beside (Some file) g = if is_some g.make || has_others g then neither else checks file

-- what the arguments ask for
abbrev pub arguments_form : Arguments → Form
arguments_form g = form_beside g.check g
