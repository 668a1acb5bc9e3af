-- A family of levels that is kept, by the sides that count: the family in force, and a draft over it of what a change to
-- come will make of it.
use Rattle.std.specs.Prelude.{◌≡◌, ◌+◌, ◌≤◌, ℕ, false, List, [], ◌∷◌, Option, Some, None, map, option_map, length, refl}
use Rattle.std.specs.Coded.{Coded, code_by, coded×, coded_list, coded_option}
use Rattle.graph_spec.specs.Graphs.{Graph}
use Rattle.change_spec.specs.Steps.{Step}
use Rattle.bisim_spec.specs.declared.kind.Kind.TheVariants.{Fb}
use Rattle.bisim_spec.specs.declared.sides.Sides.{Sides}
use Rattle.bisim_spec.specs.declared.sides.Sides.TheVariants.{Parents, Both}
use Rattle.bisim_spec.specs.Fits.{kind_of}
use Rattle.bisim_spec.specs.IndexGraphs.{View}
use Rattle.quotient.specs.Quotients.{view_of}
use Rattle.quotient_draft.specs.Drafts.{settled_view}
use Rattle.keyed_quotient.specs.KeyedQuotients.{KeyedQuotient, keyed_code}
use Rattle.keyed_quotient.specs.Changes.{KeyedChanges, changes_code}
use Rattle.ak_family.specs.Families.{HaveSupportedKeys}
use Rattle.ak_family.specs.LevelDrafts.{changes_at, AreOver, AreEmpty, HaveReserved, ShowsFamily, ShowsKeys}
use Rattle.level_update.specs.FamilyDrafts.{most_steps}
use Rattle.index_api.specs.IndexKinds.{is_kind}
use Rattle.index_api.specs.Meanings.{Meaning}

-- a family that is kept, and what a change will make of it
pub record KeptFamily : Type 0 where
  -- the levels as they are
  pub base : List KeyedQuotient
  -- what a change will make of the family, where one is prepared
  pub staged : Option (List KeyedChanges)

-- what is kept is stored as its parts
abbrev pub kept_code : Coded KeptFamily
kept_code =
    code_by (List KeyedQuotient × Option (List KeyedChanges)) (coded× (coded_list keyed_code) (coded_option (coded_list changes_code)))
    (λ k. (k.base, k.staged))
    (λ p. record { base = p.0; staged = p.1 }) (λ _. refl)

-- what the draft needs to be settled in its base: reserved capacity, and that it shows a family whose keys are as its
-- supports say
pub record CanSettle (sides : Sides) (f : List KeyedQuotient) (d : List KeyedChanges) : Type 0 where
  -- each level has capacity reserved for what the draft shows
  pub reserved : HaveReserved f d
  -- the draft shows a family
  pub shows : ShowsFamily f d
  -- the key of a block is as the level below and the supports say
  pub keys : ShowsKeys sides f d

-- a draft that is staged can be settled
abbrev pub IsKeptDraft : Sides → List KeyedQuotient → Option (List KeyedChanges) → Type 0
IsKeptDraft sides f None = Unit {0}
IsKeptDraft sides f (Some d) = CanSettle sides f d

-- nothing is drafted over the family
pub record IsEmptyOver (f : List KeyedQuotient) (d : List KeyedChanges) : Type 0 where
  -- the draft is over the family
  pub over : AreOver f d
  -- nothing is drafted at any level
  pub empty : AreEmpty d

-- in a spare draft nothing is drafted
abbrev pub IsSpare : List KeyedQuotient → Option (List KeyedChanges) → Type 0
IsSpare f None = Unit {0}
IsSpare f (Some d) = IsEmptyOver f d

-- the keys of the family are as its supports say, a draft that is staged can be settled, and a spare one is empty
pub record IsKeptFamily (sides : Sides) (f : List KeyedQuotient) (staged emptied : Option (List KeyedChanges)) : Type 0 where
  -- the keys are as the supports say
  pub supported : HaveSupportedKeys sides f
  -- a staged draft can be settled
  pub draft : IsKeptDraft sides f staged
  -- a spare draft is empty
  pub spare : IsSpare f emptied

-- the views of a family, one for each level
abbrev pub views_of : List KeyedQuotient → List (Option View)
views_of levels = map (λ l. Some (view_of l.quotient)) levels

-- the views of these levels once the draft is settled, where the first of them is level i
abbrev pub settled_from : List KeyedQuotient → List KeyedChanges → ℕ → List (Option View)
settled_from [] d i = []
settled_from (l ∷ levels) d i = Some (settled_view l.quotient (changes_at d i).drafted) ∷ settled_from levels d (i + 1)

-- the views of a family once the draft is settled
abbrev pub settled_views : List KeyedQuotient → List KeyedChanges → List (Option View)
settled_views f d = settled_from f d 0

-- no views before the first build
abbrev pub kept_views : Option KeptFamily → List (Option View)
kept_views None = []
kept_views (Some k) = views_of k.base

-- the views that are staged, if any are
abbrev pub staged_views : Option KeptFamily → Option (List (Option View))
staged_views None = None
staged_views (Some k) = option_map (settled_views k.base) k.staged

-- what an index means that keeps this family
abbrev pub meaning_of : Sides → Option KeptFamily → Meaning
meaning_of sides kept = record { kind = kind_of sides; views = kept_views kept; staged = staged_views kept }

-- it is a kind whose views are always computed
pub always_computed : (sides : Sides) → is_kind (kind_of sides) Fb ≡ false
always_computed Parents = refl
always_computed Both = refl

-- how many steps a change may take over views of the levels up to k
abbrev pub TakesFewSteps : Sides → List (Option View) → List Step → Graph → ℕ → ℕ → Type 0
TakesFewSteps sides views c g steps steps2 = (k : ℕ) → length views ≡ k + 1 → steps2 ≤ steps + most_steps sides g c k
