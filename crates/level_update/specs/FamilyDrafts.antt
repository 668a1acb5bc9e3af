-- What is drafted for a change of the graph of a family of levels.
use Rattle.std.specs.Prelude.{◌+◌, ◌*◌, ◌<◌, ℕ, List, length}
use Rattle.graph_spec.specs.Graphs.{Graph}
use Rattle.bisim_spec.specs.declared.sides.Sides.{Sides}
use Rattle.bisim_spec.specs.Fits.{FitsLevel}
use Rattle.change_spec.specs.Steps.{Step}
use Rattle.change_spec.specs.Ends.{ends_by}
use Rattle.quotient.specs.Quotients.{view_of}
use Rattle.quotient_draft.specs.Drafts.{settled_view}
use Rattle.keyed_quotient.specs.KeyedQuotients.{KeyedQuotient}
use Rattle.keyed_quotient.specs.Changes.{KeyedChanges}
use Rattle.ak_family.specs.Families.{level_at}
use Rattle.ak_family.specs.LevelDrafts.{changes_at}
use Rattle.level_update.specs.LevelCosts.{affected_cost}

-- each level is that of the graph
abbrev pub FamilyFits : Sides → Graph → List KeyedQuotient → Type 0
FamilyFits sides g f = (i : ℕ) → i < length f → FitsLevel sides g i (view_of (level_at f i).quotient)

-- once the draft is settled, each level is that of the graph
abbrev pub ShownFit : Sides → Graph → List KeyedQuotient → List KeyedChanges → Type 0
ShownFit sides g f d = (i : ℕ) → i < length f → FitsLevel sides g i (settled_view (level_at f i).quotient (changes_at d i).drafted)

-- how many steps a change may take, where levels up to k are kept: its effects are found, and nodes within k edges of
-- its ends move
abbrev pub most_steps : Sides → Graph → List Step → ℕ → ℕ
most_steps sides g c k = 8 * (k + 1) * affected_cost sides (record { before = g; change = c }) (ends_by sides c g) k
