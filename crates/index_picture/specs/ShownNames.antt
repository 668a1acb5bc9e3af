-- How labels and terms are shown: short.
use Rattle.std.specs.Prelude.{ℕ, zero, suc, ◌-◌, ◌∷◌, ◌++◌, ◌&&◌, ◌||◌, Bool, List, [], if◌then◌else◌, length, take, drop, nat_eq, nat_le, nat_lt, codes}
use Rattle.std.specs.Prelude.{slice_index, slice_index_or, slice_range}
use Rattle.graph_spec.specs.Words.{node_word}
use Rattle.triples_read.specs.declared.term.Term.{Term}
use Rattle.triples_read.specs.declared.term.Term.TheVariants.{Iri, Blank, Literal}

-- `#` (35) and `/` (47)
abbrev pub ends_part : ℕ → Bool
ends_part b = nat_eq b 35 || nat_eq b 47

-- the place behind the last of them among the first n bytes; 0 where there is none
abbrev pub part_place : List ℕ → ℕ → ℕ
part_place t zero = 0
part_place t (suc n) = if ends_part (slice_index t n) then suc n else part_place t n

-- the part behind the last `#` or `/`, and the whole text where nothing is behind it
abbrev pub last_part : List ℕ → List ℕ
last_part t = if nat_lt (part_place t (length t)) (length t) then drop (part_place t (length t)) t else t

-- a byte that continues a character (UTF-8): 128 to 191
abbrev pub continues : ℕ → Bool
continues b = nat_le 128 b && nat_lt b 192

-- the greatest place up to n at which a character begins; 0 where there is none
abbrev pub cut_place : List ℕ → ℕ → ℕ
cut_place t zero = 0
cut_place t (suc n) = if continues (slice_index t (suc n)) then cut_place t n else suc n

-- the text; of one with more than 24 bytes the characters that end within the first 22, and two dots
abbrev pub shortened : List ℕ → List ℕ
shortened t = if nat_le (length t) 24 then t else take (cut_place t 22) t ++ codes ".."

-- the text stands between `<` (60) and `>` (62)
abbrev pub is_bracketed : List ℕ → Bool
is_bracketed t = nat_le 2 (length t) && (nat_eq (slice_index t 0) 60 && nat_eq (slice_index t (length t - 1)) 62)

-- the text without these brackets
abbrev pub bare : List ℕ → List ℕ
bare t = if is_bracketed t then slice_range t 1 (length t - 1) else t

-- how a label is shown: of an IRI the last part
abbrev pub short_label : List ℕ → List ℕ
short_label t = shortened (last_part (bare t))

-- how a term is shown: an IRI by its last part, a blank node by its label, a literal by its characters
abbrev pub term_name : Term → List ℕ
term_name (Iri iri) = shortened (last_part iri)
term_name (Blank label) = shortened label
term_name (Literal text datatype tag) = shortened text

-- the name, and the number of the node, as `n7`, where the name is empty
abbrev pub name_or_number : ℕ → List ℕ → List ℕ
name_or_number n [] = node_word n
name_or_number n (b ∷ bs) = b ∷ bs

-- how a node is shown
abbrev pub node_name : List (List ℕ) → ℕ → List ℕ
node_name names n = name_or_number n (slice_index_or names n [])
