-- A 1-index that is kept: the quotient in force, and a draft over it of what a change to come will make of it.
use Rattle.std.specs.Prelude.{◌≡◌, ◌+◌, ◌≤◌, ℕ, Bool, true, false, IsTrue, IsSome, List, [], ◌∷◌, Option, Some, None, refl}
use Rattle.std.specs.Coded.{Coded, code_by, coded×, coded_bool}
use Rattle.graph_spec.specs.Members.{at}
use Rattle.graph_spec.specs.Graphs.{Graph}
use Rattle.change_spec.specs.Steps.{Step, after, link}
use Rattle.bisim_spec.specs.declared.kind.Kind.TheVariants.{One}
use Rattle.bisim_spec.specs.IndexGraphs.{View}
use Rattle.change_spec.specs.NextOne.{OneStep}
use Rattle.bisim_spec.specs.Fits.{view_at}
use Rattle.quotient.specs.Quotients.{Quotient, quotient_code, view_of}
use Rattle.quotient_draft.specs.Drafts.{Drafted, drafted_code, no_changes, has_member, shown_blocks, shown_support, settled_view}
use Rattle.quotient_draft.specs.Basis.{IsOver}
use Rattle.quotient_draft.specs.ReservedCapacity.{HasReservedFor}
use Rattle.index_api.specs.Meanings.{Meaning}
use Rattle.one_merge.specs.ParentlessBlocks.{ParentlessLists, CoversBase, CoversShown}
use Rattle.one_update.specs.OneDrafts.{IsSupported, most_steps}

-- a 1-index that is kept, and a draft over it
pub record KeptQuotient : Type 0 where
  -- the 1-index as it is
  pub base : Quotient
  -- what is drafted over it
  pub draft : Drafted
  -- whether the draft is what a change will make of the quotient
  pub staged : Bool

-- what is kept is stored as its parts
abbrev pub kept_code : Coded KeptQuotient
kept_code =
    code_by (Quotient × (Drafted × Bool)) (coded× quotient_code (coded× drafted_code coded_bool)) (λ k. (k.base, (k.draft, k.staged)))
    (λ p. record { base = p.0; draft = p.1.0; staged = p.1.1 }) (λ _. refl)

-- what the draft needs to be settled in its base: reserved capacity, and members and supports that agree
pub record CanSettle (q : Quotient) (d : Drafted) : Type 0 where
  -- the draft is over this base
  pub over : IsOver q.blocks.block_of q.blocks.labels d
  -- the base has capacity reserved for what the draft shows
  pub reserved : HasReservedFor q d
  -- each block of the base has a member there
  pub inhabited : (b : ℕ) → IsSome (at q.blocks.labels b) → IsTrue (has_member q.blocks.block_of b)
  -- a block without members as shown has no support, to others or from them
  pub from : (b c : ℕ) → has_member (shown_blocks q d) b ≡ false → shown_support q d b c ≡ 0
  pub onto : (b c : ℕ) → has_member (shown_blocks q d) b ≡ false → shown_support q d c b ≡ 0

-- a draft that is staged can be settled, and else nothing is drafted
abbrev pub IsKeptDraft : Quotient → Drafted → Bool → Type 0
IsKeptDraft q d true = CanSettle q d
IsKeptDraft q d false = d ≡ no_changes

-- its one view
abbrev pub views_of : Quotient → List (Option View)
views_of q = Some (view_of q) ∷ []

-- the view that is staged, if one is: the draft once it is settled
abbrev pub staged_views : Quotient → Drafted → Bool → Option (List (Option View))
staged_views q d false = None
staged_views q d true = Some (Some (settled_view q d) ∷ [])

-- what an index means that keeps this quotient; no view before the first build
abbrev pub meaning_of : Option KeptQuotient → Meaning
meaning_of None = record { kind = One; views = []; staged = None }
meaning_of (Some k) = record { kind = One; views = views_of k.base; staged = staged_views k.base k.draft k.staged }

-- what is kept: a draft that can be settled, or none, and the blocks without other parents, those of the base and those
-- as shown
pub record IsSoundKept (base : Quotient) (draft : Drafted) (staged : Bool) (noted : ParentlessLists) : Type 0 where
  -- a staged draft can be settled, else nothing is drafted
  pub kept : IsKeptDraft base draft staged
  -- the base's parentless blocks are noted
  pub parentless : CoversBase base noted
  -- the parentless blocks as shown are noted
  pub shown : CoversShown base draft noted

-- the upkeep of a 1-index leads from the partition of the base to that of the view
abbrev pub MovesByOneStep : Graph → List Step → Quotient → View → Type 0
MovesByOneStep g c base v = OneStep g base.blocks.block_of c (after c g) v.block_of

-- how many steps a change may take
abbrev pub TakesFewSteps : List (Option View) → List Step → Graph → ℕ → ℕ → Type 0
TakesFewSteps views c g steps steps2 = steps2 ≤ steps + most_steps g c

-- where the change is a link between nodes whose blocks have support already, no step is taken
abbrev pub IsFreeLink : List Step → List (Option View) → ℕ → ℕ → Type 0
IsFreeLink c views steps steps2 = (u v : ℕ) (w : View) → c ≡ link u v ∷ [] → view_at views 0 ≡ Some w → IsSupported w u v → steps2 ≡ steps
