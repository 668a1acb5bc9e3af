-- Terms in an arena, and the entries that say where they lie.
use Rattle.std.specs.Prelude.{◌≡◌, ℕ, ◌^◌, ◌<◌, ◌≤◌, Bool, ◌&&◌, List, ◌++◌, map, length, slice_index_or, slice_range, bytes_eq}
use Rattle.triples_read.specs.declared.term.Term.{Term}
use Rattle.hash_index.specs.Items.{Items, hash_at}
use Rattle.term_table.specs.declared.entries.Entry.{Entry}
use Rattle.term_table.specs.declared.entries.TermRange.{TermRange}
use Rattle.term_table.specs.declared.parts.Sort.TheVariants.{Iri}
use Rattle.term_table.specs.TermParts.{Parts, parts_of, term_of, hash_of}

-- an empty IRI with the number 0
abbrev pub no_entry : Entry
no_entry = record { span = record { from = 0; text_end = 0; datatype_end = 0; to = 0 }; sort = Iri; number = 0 }

-- the entry at the place; `no_entry` past the end
abbrev pub entry_at : List Entry → ℕ → Entry
entry_at entries i = slice_index_or entries i no_entry

-- the texts lie in order, below the bound
pub record AreWithin (bound : ℕ) (s : TermRange) : Type 0 where
  -- the text, the datatype and the tag lie one behind another
  pub text : s.from ≤ s.text_end
  pub datatype : s.text_end ≤ s.datatype_end
  pub tag : s.datatype_end ≤ s.to
  -- and end within the bound
  pub end : s.to ≤ bound

-- the text that lies there: an IRI, a blank node label or a string
abbrev pub text_in : List ℕ → TermRange → List ℕ
text_in arena s = slice_range arena s.from s.text_end

-- the datatype that lies behind the text
abbrev pub datatype_in : List ℕ → TermRange → List ℕ
datatype_in arena s = slice_range arena s.text_end s.datatype_end

-- the tag that lies behind the datatype
abbrev pub tag_in : List ℕ → TermRange → List ℕ
tag_in arena s = slice_range arena s.datatype_end s.to

-- the texts that lie there are those of the parts
pub record HasTexts (arena : List ℕ) (s : TermRange) (p : Parts) : Type 0 where
  -- the text, the datatype and the tag are those of the parts
  pub text : text_in arena s ≡ p.text
  pub datatype : datatype_in arena s ≡ p.datatype
  pub tag : tag_in arena s ≡ p.tag

-- whether the texts that lie there are those of the parts
abbrev pub has_texts : List ℕ → TermRange → Parts → Bool
has_texts arena s p = bytes_eq (text_in arena s) p.text && (bytes_eq (datatype_in arena s) p.datatype && bytes_eq (tag_in arena s) p.tag)

-- the parts of the entry's term
abbrev pub parts_in : List ℕ → Entry → Parts
parts_in arena e = record { sort = e.sort; text = text_in arena e.span; datatype = datatype_in arena e.span; tag = tag_in arena e.span }

-- the term of each entry, with its number
abbrev pub terms_of : List ℕ → List Entry → List (Term × ℕ)
terms_of arena entries = map (λ e. (term_of (parts_in arena e), e.number)) entries

-- what every table keeps: distinct terms, with the hashes of their parts
pub record IsTermTable (arena : List ℕ) (index : Items Entry) : Type 0 where
  -- there is a hash for each term
  pub even : length index.hashes ≡ length index.items
  -- the texts have fewer than 2^32 bytes
  pub short : length arena < 2 ^ 32
  -- those of each term lie within them
  pub within : (i : ℕ) → i < length index.items → AreWithin (length arena) (entry_at index.items i).span
  -- its hash is that of its parts
  pub hashed : (i : ℕ) → i < length index.items → hash_at index.hashes i ≡ hash_of (parts_in arena (entry_at index.items i))
  -- its parts are those that the term of these parts has
  pub proper : (i : ℕ) → i < length index.items → parts_of (term_of (parts_in arena (entry_at index.items i))) ≡ parts_in arena (entry_at index.items i)
  -- no two terms have the same parts
  pub apart : (i j : ℕ) → i < length index.items → j < length index.items
      → parts_in arena (entry_at index.items i) ≡ parts_in arena (entry_at index.items j) → i ≡ j

-- no entry has these parts
abbrev pub LackParts : List ℕ → List Entry → Parts → Type 0
LackParts arena entries p = (i : ℕ) → i < length entries → parts_in arena (entry_at entries i) ≡ p → ⊥

-- the second list begins with the first
abbrev pub Begins : {X : Type 0} → List X → List X → Type 0
Begins {X} xs ys = (more : List X) × (ys ≡ xs ++ more)
