-- What a look-up of a term says.
use Rattle.std.specs.Prelude.{◌≡◌, ℕ, List, Option, Some, option_map}
use Rattle.triples_read.specs.declared.term.Term.{Term}
use Rattle.term_table.specs.declared.table.Found.{Found}
use Rattle.term_table.specs.Terms.{number_of, place_in}

-- the term stands there, with that number
pub record IsFound (terms : List (Term × ℕ)) (x : Term) (f : Found) : Type 0 where
  -- where the term stands
  pub place : place_in terms x ≡ Some f.place
  -- which number goes with it
  pub number : number_of terms x ≡ Some f.number

-- where it stands, if it does
pub record IsFoundAs (terms : List (Term × ℕ)) (x : Term) (found : Option Found) : Type 0 where
  -- where the term stands, if anywhere
  pub place : option_map (λ f. f.place) found ≡ place_in terms x
  -- which number goes with it, if any
  pub number : option_map (λ f. f.number) found ≡ number_of terms x
