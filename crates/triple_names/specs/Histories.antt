-- Lists of inserts and deletes that are all accepted, and the triples that are present after them.
use Rattle.std.specs.Prelude.{◌≡◌, List, [], ◌∷◌, Some, Ok}
use Rattle.graph_spec.specs.declared.limits.Limits.{Limits}
use Rattle.graph_spec.specs.Graphs.{Graph}
use Rattle.change_spec.specs.Steps.{Step, apply}
use Rattle.triples_read.specs.Canonical.{IsSpelled}
use Rattle.triples_read.specs.declared.term.Triple.{Triple}
use Rattle.triple_names.specs.Names.{Names, AreSameNames}
use Rattle.triple_names.specs.TripleChanges.{insert_steps, placed_in, noted, delete_change}
use Rattle.triple_names.specs.Represented.{with_triple, without_triple}

-- a triple is inserted or deleted
pub data Edit : Type 0 where
  insert : Triple → Edit
  delete : Triple → Edit

-- an insert is accepted and leaves this graph; its numbers are noted
abbrev pub Inserts : Limits → Triple → Graph → Names → Graph → Names → Type 0
Inserts limits t g n h k = IsSpelled t × (apply (insert_steps n g t) g limits ≡ Ok h) × AreSameNames k (noted t (placed_in n g t) n)

-- a triple that is there is deleted, which leaves this graph; the names stay
abbrev pub Deletes : Limits → Triple → Graph → Names → Graph → Names → Type 0
Deletes limits t g n h k = (c : List Step) × (delete_change n g t ≡ Some c) × (apply c g limits ≡ Ok h) × AreSameNames k n

-- the edit is accepted, and leads from the graph g with the names n to h with k
abbrev pub Edits : Limits → Edit → Graph → Names → Graph → Names → Type 0
Edits limits (insert t) g n h k = Inserts limits t g n h k
Edits limits (delete t) g n h k = Deletes limits t g n h k

-- one after the other
abbrev pub EditsAll : Limits → List Edit → Graph → Names → Graph → Names → Type 0
EditsAll limits [] g n h k = (g ≡ h) × AreSameNames k n
EditsAll limits (e ∷ es) g n h k = (g2 : Graph) × (n2 : Names) × Edits limits e g n g2 n2 × EditsAll limits es g2 n2 h k

-- the triples that are present after an edit, and after all of them
abbrev pub edited : Edit → List Triple → List Triple
edited (insert t) s = with_triple s t
edited (delete t) s = without_triple s t

-- the triples that are present after all edits, one after the other
abbrev pub edited_all : List Edit → List Triple → List Triple
edited_all [] s = s
edited_all (e ∷ es) s = edited_all es (edited e s)
