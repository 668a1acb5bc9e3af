-- The parts of a term, by which it is found, and their hash.
use Rattle.std.specs.Prelude.{ℕ, ◌/◌, ◌^◌, List, [], Option, None, Some, bytes_eq, if◌then◌else◌}
use Rattle.std.specs.Hash.FoldHasher.{initial, write, finish}
use Rattle.triples_read.specs.declared.term.Term.{Term}
use Rattle.triples_read.specs.declared.term.Term.TheVariants.{Iri, Blank, Literal}
use Rattle.triples_read.specs.Lines.{xsd_string}
use Rattle.term_table.specs.declared.parts.Sort.{Sort}
use Rattle.term_table.specs.declared.parts.Sort.TheVariants as sort
use Rattle.term_table.specs.declared.parts.Parts.{Parts as PartsSeen}

-- what kind of term it is, and its texts
pub record Parts : Type 0 where
  -- what kind of term it is
  pub sort : Sort
  -- its IRI, blank node label or string
  pub text : List ℕ
  -- of a literal its datatype, and its tag
  pub datatype : List ℕ
  pub tag : List ℕ

-- the parts that are seen, with their texts as they are now
abbrev pub parts_value : PartsSeen → Parts
parts_value p = record { sort = p.sort; text = p.text.now; datatype = p.datatype.now; tag = p.tag.now }

-- the parts of a literal; where it has no tag and its datatype is xsd:string, the datatype is left out
abbrev pub literal_parts : List ℕ → List ℕ → Option (List ℕ) → Parts
literal_parts text datatype None =
    if bytes_eq datatype xsd_string then record { sort = sort.Simple; text = text; datatype = []; tag = [] }
    else record { sort = sort.Plain; text = text; datatype = datatype; tag = [] }
literal_parts text datatype (Some tag) = record { sort = sort.Tagged; text = text; datatype = datatype; tag = tag }

-- the parts of a term; a text that it hasn't got is empty
abbrev pub parts_of : Term → Parts
parts_of (Iri text) = record { sort = sort.Iri; text = text; datatype = []; tag = [] }
parts_of (Blank text) = record { sort = sort.Blank; text = text; datatype = []; tag = [] }
parts_of (Literal text datatype tag) = literal_parts text datatype tag

-- the term with these parts
abbrev pub term_by : Sort → List ℕ → List ℕ → List ℕ → Term
term_by sort.Iri text datatype tag = Iri text
term_by sort.Blank text datatype tag = Blank text
term_by sort.Simple text datatype tag = Literal text xsd_string None
term_by sort.Plain text datatype tag = Literal text datatype None
term_by sort.Tagged text datatype tag = Literal text datatype (Some tag)

-- the term that the parts make
abbrev pub term_of : Parts → Term
term_of p = term_by p.sort p.text p.datatype p.tag

-- the upper half of the hasher's state after the three texts
unfoldable pub hash_of : Parts → ℕ
hash_of p = finish (write (write (write initial p.text) p.datatype) p.tag) / 2 ^ 32
