-- Labels, as they are written: names, and IRIs in brackets.
use Rattle.std.specs.Prelude.{ℕ, ◌≡◌, ◌≢◌, ◌≤◌, ◌⊎◌, List, length, take, codes, Option, IsTrue, IsSomeAnd}
use Rattle.graph_spec.specs.Words.{is_name}
use Rattle.triples_read.specs.Lines.{IsIriPrefix}
use Rattle.triples_read.specs.Canonical.{iri_spelling}

-- a name, but none of the words of the query languages
abbrev pub IsPlainLabel : List ℕ → Type 0
IsPlainLabel w = IsTrue (is_name w) × (w ≢ codes "and") × (w ≢ codes "or") × (w ≢ codes "not")

-- The text is a name, which is the label; or it is an IRIREF (RDF 1.1 N-Triples, section 7), and the label is the one
-- spelling of its IRI, brackets included.
abbrev pub SpellsLabel : List ℕ → List ℕ → Type 0
SpellsLabel text t =
    (IsPlainLabel text × (t ≡ text)) ⊎ ((iri : List ℕ) × IsIriPrefix text (length text) iri × (t ≡ iri_spelling iri))

-- the first n bytes spell the label
abbrev pub IsNamePrefix : List ℕ → ℕ → List ℕ → Type 0
IsNamePrefix text n t = (n ≤ length text) × SpellsLabel (take n text) t

-- this label is read from so many bytes
abbrev pub IsRead : List ℕ → ℕ → Option (List ℕ × ℕ) → Type 0
IsRead t n found = IsSomeAnd found (λ f. (f.0 ≡ t) × (f.1 ≡ n))
