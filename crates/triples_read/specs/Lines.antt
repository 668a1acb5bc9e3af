-- Which line spells which triple, by the grammar of RDF 1.1 N-Triples (W3C Recommendation, 25 February 2014), section 7.
-- In brackets stand the numbers that its productions have there. A text of [1] ntriplesDoc is such lines with a [7] EOL
-- between each two; a line is given without its end.
use Rattle.std.specs.Prelude.{ℕ, List, [], ◌∷◌, ◌++◌, ◌≡◌, ◌⊎◌, ◌≤◌, length, take, encode_utf8_all, codes, Option, Some, None, true}
use Rattle.std.specs.Str.{all_scalars}
use Rattle.triples_read.specs.Terminals.{IRIREF, BLANK_NODE_LABEL, STRING_LITERAL_QUOTE, LANGTAG, Blanks, Comment}
use Rattle.triples_read.specs.declared.term.Term.{Term}
use Rattle.triples_read.specs.declared.term.Term.TheVariants.{Iri, Blank, Literal}
use Rattle.triples_read.specs.declared.term.Triple.{Triple}

-- xsd:string, the datatype of a literal that names none and has no tag
abbrev pub xsd_string : List ℕ
xsd_string = codes "http://www.w3.org/2001/XMLSchema#string"

-- rdf:langString, the datatype of a literal with a tag
abbrev pub lang_string : List ℕ
lang_string = codes "http://www.w3.org/1999/02/22-rdf-syntax-ns#langString"

-- [8] IRIREF for the IRI; [4] predicate is one
abbrev pub IsIri : List ℕ → List ℕ → Type 0
IsIri s iri = (v : List ℕ) × IRIREF s v × (iri ≡ encode_utf8_all v)

-- what follows the quoted string in [6] literal: nothing, a datatype, or a tag
abbrev pub Suffix : List ℕ → List ℕ → Option (List ℕ) → Type 0
Suffix s datatype None = ((s ≡ []) × (datatype ≡ xsd_string))
    ⊎ ((gap : List ℕ) × (after : List ℕ) × (name : List ℕ) × (s ≡ gap ++ (94 ∷ 94 ∷ (after ++ name))) × Blanks gap × Blanks after × IsIri name datatype)
Suffix s datatype (Some tag) = (gap : List ℕ) × (name : List ℕ) × (s ≡ gap ++ name) × Blanks gap × LANGTAG name tag × (datatype ≡ lang_string)

-- [6] literal: STRING_LITERAL_QUOTE (WS* '^^' WS* IRIREF | WS* LANGTAG)?
abbrev pub IsLiteral : List ℕ → List ℕ → List ℕ → Option (List ℕ) → Type 0
IsLiteral s text datatype tag = (quoted : List ℕ) × (rest : List ℕ) × (v : List ℕ) × (s ≡ quoted ++ rest) × STRING_LITERAL_QUOTE quoted v
    × (text ≡ encode_utf8_all v) × Suffix rest datatype tag

-- [141s] BLANK_NODE_LABEL for the label, which is given without its '_:'
abbrev pub IsBlankNode : List ℕ → List ℕ → Type 0
IsBlankNode s label = (v : List ℕ) × BLANK_NODE_LABEL s v × (label ≡ encode_utf8_all v)

-- [3] subject: IRIREF | BLANK_NODE_LABEL
abbrev pub IsSubject : List ℕ → Term → Type 0
IsSubject s (Iri iri) = IsIri s iri
IsSubject s (Blank label) = IsBlankNode s label
IsSubject s (Literal text datatype tag) = ⊥

-- [5] object: IRIREF | BLANK_NODE_LABEL | literal
abbrev pub IsObject : List ℕ → Term → Type 0
IsObject s (Iri iri) = IsIri s iri
IsObject s (Blank label) = IsBlankNode s label
IsObject s (Literal text datatype tag) = IsLiteral s text datatype tag

-- [2] triple: subject WS* predicate WS* object WS* '.'
pub record IsTriple (s : List ℕ) (t : Triple) : Type 0 where
  -- the parts of the text
  pub subject : List ℕ
  pub gap : List ℕ
  pub predicate : List ℕ
  pub gap2 : List ℕ
  pub object : List ℕ
  pub gap3 : List ℕ
  -- they stand in this order, with a dot (46) behind them
  pub whole : s ≡ subject ++ (gap ++ (predicate ++ (gap2 ++ (object ++ (gap3 ++ 46 ∷ [])))))
  -- only blanks stand between them
  pub gaps : Blanks gap × Blanks gap2 × Blanks gap3
  -- each spells its part of the triple
  pub is_subject : IsSubject subject t.subject
  pub is_predicate : IsIri predicate t.predicate
  pub is_object : IsObject object t.object

-- the characters that the bytes are the UTF-8 of
pub record TextOf (bytes : List ℕ) : Type 0 where
  -- the characters
  pub chars : List ℕ
  -- each is a Unicode scalar value
  pub scalars : all_scalars chars ≡ true
  -- the bytes are their UTF-8
  pub encoded : bytes ≡ encode_utf8_all chars

-- a line with a triple: WS* triple WS* comment?
abbrev pub SpellsTriple : List ℕ → Triple → Type 0
SpellsTriple line t = (cs : TextOf line) × (before : List ℕ) × (triple : List ℕ) × (after : List ℕ) × (comment : List ℕ)
    × (cs.chars ≡ before ++ (triple ++ (after ++ comment))) × Blanks before × IsTriple triple t × Blanks after × Comment comment

-- a line without one: WS* comment?
abbrev pub Empty : List ℕ → Type 0
Empty line = (cs : TextOf line) × (before : List ℕ) × (comment : List ℕ) × (cs.chars ≡ before ++ comment) × Blanks before × Comment comment

-- the first n bytes are an IRIREF for the IRI
abbrev pub IsIriPrefix : List ℕ → ℕ → List ℕ → Type 0
IsIriPrefix b n iri = (n ≤ length b) × (s : List ℕ) × (take n b ≡ encode_utf8_all s) × IsIri s iri
