-- What clap's clauses say of words, where its definitions are for the command.
use Rattle.std.proofs.Common.{◌≡◌, ◌≢◌, ◌∙◌, ℕ, inl, inr, Bool, Option, Some, None, if◌then◌else◌, List, [], ◌∷◌, true, false, refl, ap, sym}
use Rattle.clap.specs.Kinds.{HasKind, Kinds}
use Rattle.clap.specs.Simple.{App, is_simple}
use Rattle.clap.specs.Values.{kind_of}
use Rattle.clap.specs.Words.{Row, fault_of, found_of, is_simple_and_free, matches_of, rows_of}
use Rattle.clap.specs.declared.error.Error.{Error}
use Rattle.clap.specs.declared.error.kind.ErrorKind.TheVariants.{OutOfMemory}
use Rattle.clap.specs.declared.parser.matches.ArgMatches.{ArgMatches}
use Rattle.command_line.specs.SimpleCommands.{Matches, accepts, is_no_fault, read_by}

some_fault : (kinds : Kinds) (e : Error) → HasKind kinds e → kind_of e ≢ OutOfMemory → is_no_fault kinds ≡ false
some_fault [] e (inl memory) other = absurd (other memory)
some_fault [] e (inr h) other = absurd h
some_fault (k ∷ ks) e h other = refl

module _ (command : App) (simple : is_simple command ≡ true) (simple_and_free : is_simple_and_free command ≡ true) where
  -- ---- an answer of clap, for a command that is told to be this one

  pub matched : (a : App) (words : List (List ℕ)) (m : ArgMatches) → a ≡ command
      → (is_simple_and_free a ≡ true → fault_of a words ≡ [])
      → (is_simple a ≡ true → rows_of (found_of m) ≡ matches_of a words)
      → Matches command words (Some m)
  matched a words m same none rows = (
    ap (λ c. accepts c words) (sym same) ∙ ap is_no_fault (none (ap is_simple_and_free same ∙ simple_and_free)),
    rows (ap is_simple same ∙ simple) ∙ ap (λ c. matches_of c words) same,
  )

  pub refused : (a : App) (words : List (List ℕ)) (e : Error) → a ≡ command
      → (is_simple_and_free a ≡ true → HasKind (fault_of a words) e) → kind_of e ≢ OutOfMemory
      → Matches command words None
  refused a words e same kind other =
      ap (λ c. accepts c words) (sym same)
      ∙ some_fault (fault_of a words) e (kind (ap is_simple_and_free same ∙ simple_and_free)) other

-- ---- what is gathered from the matches is what is read

module _ {A : Type 0} (command : App) (arguments_in : List Row → A) where
  read_if : (words : List (List ℕ)) (b : Bool) → accepts command words ≡ b
      → (if b then Some (arguments_in (matches_of command words)) else None) ≡ read_by command arguments_in words
  read_if words b is = ap (λ t. if t then Some (arguments_in (matches_of command words)) else None) (sym is)

  pub gathered : (words : List (List ℕ)) (o : Option ArgMatches) (m : ArgMatches) (g : A) → o ≡ Some m → Matches command words o
      → g ≡ arguments_in (rows_of (found_of m)) → Some g ≡ read_by command arguments_in words
  gathered words o m g is found arguments =
      let f : Matches command words (Some m) = rw is at found in
      ap Some (arguments ∙ ap arguments_in f.1) ∙ read_if words true f.0

  pub not_gathered : (words : List (List ℕ)) (o : Option ArgMatches) → o ≡ None → Matches command words o → None ≡ read_by command arguments_in words
  not_gathered words o is found =
      let f : Matches command words None = rw is at found in
      read_if words false f
