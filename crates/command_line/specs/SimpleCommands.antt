-- What clap makes of words for a simple command: `App` is what it is told of the command, `fault_of` why it refuses
-- words, and `matches_of` what it finds in them.
use Rattle.std.specs.Prelude.{◌≡◌, ℕ, Bool, true, false, List, [], ◌∷◌, Option, Some, None, if◌then◌else◌}
use Rattle.clap.specs.Kinds.{Kinds}
use Rattle.clap.specs.Words.{App, Row, Rule, fault_of, found_of, matches_of, new_rule, rows_of}
use Rattle.clap.specs.declared.parser.matches.ArgMatches.{ArgMatches}

-- an option with one text: its word is the name behind two hyphens
abbrev pub option_rule : List ℕ → Rule
option_rule name = record (new_rule name) { long = Some name }

-- whether no fault is listed
abbrev pub is_no_fault : Kinds → Bool
is_no_fault [] = true
is_no_fault (k ∷ ks) = false

-- clap takes the words, unless memory runs out
abbrev pub accepts : App → List (List ℕ) → Bool
accepts command words = is_no_fault (fault_of command words)

-- clap's matches of the words; none where it refuses them, and only there
abbrev pub Matches : App → List (List ℕ) → Option ArgMatches → Type 0
Matches command words None = accepts command words ≡ false
Matches command words (Some m) = (accepts command words ≡ true) × (rows_of (found_of m) ≡ matches_of command words)

-- what the function gives of the matches, if clap takes the words
abbrev pub read_by : {A : Type 0} → App → (List Row → A) → List (List ℕ) → Option A
read_by command arguments_in words = if accepts command words then Some (arguments_in (matches_of command words)) else None
