-- What the forward and backward index means to those who use it.
use Rattle.std.specs.Prelude.{Bool, true, false, List, [], ◌∷◌, Option, Some, None, option_map}
use Rattle.bisim_spec.specs.declared.kind.Kind.TheVariants.{Fb}
use Rattle.bisim_spec.specs.IndexGraphs.{View}
use Rattle.quotient.specs.Quotients.{Quotient, view_of}
use Rattle.index_api.specs.Meanings.{Meaning}
use Rattle.fb_index.specs.declared.index.FbIndex.{FbIndex}

-- its one view, none if it isn't computed
abbrev pub views_of : Option Quotient → List (Option View)
views_of summary = option_map view_of summary ∷ []

-- what a change will leave, where one is prepared: a view that isn't computed
abbrev pub staged_of : Bool → Option (List (Option View))
staged_of false = None
staged_of true = Some (None ∷ [])

-- what the index means, by its quotient if it is computed, and whether a change is prepared
abbrev pub meaning_of : Option Quotient → Bool → Meaning
meaning_of summary is_staged = record { kind = Fb; views = views_of summary; staged = staged_of is_staged }

-- the same of the index itself
abbrev pub fb_meaning : FbIndex → Meaning
fb_meaning index = meaning_of index.summary index.is_staged
