-- What accepted inserts and deletes leave of a graph that represents triples by names.
use Rattle.std.specs.Prelude.{◌≡◌, List, Ok}
use Rattle.graph_spec.specs.declared.limits.Limits.{Limits}
use Rattle.graph_spec.specs.Graphs.{Graph}
use Rattle.change_spec.specs.Steps.{Step, apply}
use Rattle.triples_read.specs.Canonical.{IsSpelled}
use Rattle.triples_read.specs.declared.term.Triple.{Triple}
use Rattle.triple_names.specs.declared.inserting.Placed.{Placed}
use Rattle.triple_names.specs.Names.{Names}
use Rattle.triple_names.specs.TripleChanges.{noted}
use Rattle.triple_names.specs.Represented.{Represents, with_triple, without_triple}

-- Where the graph represents triples, and the change is accepted, the graph that it leaves represents them and this one, once these
-- numbers are noted.
abbrev pub InsertKeeps : Names → Graph → Triple → List Step → Placed → Type 0
InsertKeeps n g t c p = (limits : Limits) (h : Graph) (s : List Triple) → Represents g n s → IsSpelled t → apply c g limits ≡ Ok h
    → Represents h (noted t p n) (with_triple s t)

-- Where the graph represents triples, and the change is accepted, the graph that it leaves represents all but this one.
abbrev pub DeleteKeeps : Names → Graph → Triple → List Step → Type 0
DeleteKeeps n g t c = (limits : Limits) (h : Graph) (s : List Triple) → Represents g n s → apply c g limits ≡ Ok h → Represents h n (without_triple s t)
