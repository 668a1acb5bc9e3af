-- The definitions at worked values, and at near misses.
use Rattle.std.proofs.Common.{◌≡◌, ℕ, Bool, ◌&&◌, ◌||◌, true, false, List, [], ◌∷◌, ◌++◌, refl, Option, None, Some}
use Rattle.std.specs.Prelude.{codes, nat_eq}
use Rattle.std.specs.Fmt.{digits}
use Rattle.triples_read.specs.declared.term.Term.TheVariants.{Iri, Blank, Literal}
use Rattle.block_partition.specs.LabelledPartitions.{Partition}
use Rattle.index_picture.specs.declared.blocks.Block.{Block}
use Rattle.index_picture.specs.QuotedTexts.{quoted, outside, inside, read_text}
use Rattle.index_picture.specs.ShownNames.{last_part, shortened, short_label, term_name, node_name}
use Rattle.index_picture.specs.DrawnBlocks.{heaviest, firsts_below, covers, blocks_of, drawn_blocks, if_supported}
use Rattle.index_picture.specs.Pictures.{nodes_text, block_lines, pair_lines, note_line}

-- texts between quotes

plain_stays : quoted (codes "<a>#b") ≡ codes "<a>#b"
plain_stays = refl

quote_and_backslash : quoted (codes "a\"b\\c") ≡ codes "a\\\"b\\\\c"
quote_and_backslash = refl

line_end_is_space : quoted (codes "a\nb") ≡ codes "a b"
line_end_is_space = refl

named_character : quoted (codes "a&lt;b") ≡ codes "a&amp;lt;b"
named_character = refl

quote_is_read : read_text outside (codes "\"a\\\"b\"") ≡ outside
quote_is_read = refl

-- a bare quote begins another text, and a backslash at the end takes the last quote along
bare_quote_is_open : read_text outside (codes "\"a\"b\"") ≡ inside
bare_quote_is_open = refl

backslash_is_open : read_text outside (codes "\"a\\\"") ≡ inside
backslash_is_open = refl

-- short names

part_of_iri : last_part (codes "http://xmlns.com/foaf/0.1/name") ≡ codes "name"
part_of_iri = refl

part_behind_hash : last_part (codes "http://e/a#b") ≡ codes "b"
part_behind_hash = refl

no_part_behind : last_part (codes "http://e/") ≡ codes "http://e/"
no_part_behind = refl

no_part_end : last_part (codes "iri") ≡ codes "iri"
no_part_end = refl

label_without_brackets : short_label (codes "<http://e/knows>") ≡ codes "knows"
label_without_brackets = refl

bare_label_stays : short_label (codes "a>") ≡ codes "a>"
bare_label_stays = refl

short_stays : shortened (codes "abcdefghijklmnopqrstuvwx") ≡ codes "abcdefghijklmnopqrstuvwx"
short_stays = refl

long_is_cut : shortened (codes "abcdefghijklmnopqrstuvwxy") ≡ codes "abcdefghijklmnopqrstuv.."
long_is_cut = refl

-- the two bytes of `é` stay together
character_stays_whole : shortened (codes "abcdefghijklmnopqrstu" ++ 195 ∷ 169 ∷ codes "wxy") ≡ codes "abcdefghijklmnopqrstu.."
character_stays_whole = refl

iri_name : term_name (Iri (codes "http://e/ana")) ≡ codes "ana"
iri_name = refl

-- a literal isn't cut at `/`
literal_name : term_name (Literal (codes "1/2") (codes "http://e/t") None) ≡ codes "1/2"
literal_name = refl

named : node_name (codes "ana" ∷ [] ∷ []) 0 ≡ codes "ana"
named = refl

unnamed : node_name (codes "ana" ∷ [] ∷ []) 1 ≡ codes "n1"
unfolding digits
unnamed = refl

past_the_names : node_name (codes "ana" ∷ []) 7 ≡ codes "n7"
unfolding digits
past_the_names = refl

-- what is chosen

two_heaviest : heaviest 2 (λ (n : ℕ). n) 0 (3 ∷ 1 ∷ 4 ∷ 1 ∷ 5 ∷ []) ≡ 4 ∷ 5 ∷ []
two_heaviest = refl

few_stay : heaviest 3 (λ (n : ℕ). n) 0 (3 ∷ 1 ∷ []) ≡ 3 ∷ 1 ∷ []
few_stay = refl

first_of_equals : heaviest 1 (λ (p : ℕ × ℕ). p.0) (0, 0) ((2, 1) ∷ (2, 2) ∷ []) ≡ (2, 1) ∷ []
first_of_equals = refl

two_firsts : firsts_below 2 (λ n. nat_eq n 1) 5 ≡ 1 ∷ []
two_firsts = refl

cut_firsts : firsts_below 2 (λ n. true) 5 ≡ 0 ∷ 1 ∷ []
cut_firsts = refl

nodes_named : nodes_text (codes "ana" ∷ codes "bo" ∷ []) 4 (0 ∷ 1 ∷ 2 ∷ []) ≡ codes "\\nana, bo, n2 and 1 more"
unfolding digits
nodes_named = refl

-- n0 -> n1 -> n2: ana knows bo; the index has one block for both terms

abbrev edge : ℕ → ℕ → Bool
edge u v = (nat_eq u 0 && nat_eq v 1) || (nat_eq u 1 && nat_eq v 2)

abbrev labels : List (List ℕ)
labels = codes "iri" ∷ codes "<http://e/knows>" ∷ []

abbrev names : List (List ℕ)
names = codes "ana" ∷ [] ∷ codes "bo" ∷ []

abbrev by_label : Partition
by_label = record { block_of = Some 0 ∷ Some 1 ∷ Some 0 ∷ []; labels = Some 0 ∷ Some 1 ∷ []; reserved = record { nodes = 0; blocks = 0 } }

abbrev terms : Block
terms = record { number = 0; first = 0; count = 2; label = 0 }

abbrev knows : Block
knows = record { number = 1; first = 1; count = 1; label = 1 }

both_blocks : blocks_of by_label ≡ terms ∷ knows ∷ []
both_blocks = refl

larger_block : drawn_blocks 1 by_label ≡ terms ∷ []
larger_block = refl

-- each `knows` has a parent among the terms, but ana has none below `knows`
knows_covered : covers edge by_label.block_of 0 1 ≡ true
knows_covered = refl

terms_not_covered : covers edge by_label.block_of 1 0 ≡ false
terms_not_covered = refl

supported : if_supported terms knows 1 ≡ record { from = terms; onto = knows; support = 1 } ∷ []
supported = refl

not_supported : if_supported knows knows 0 ≡ []
not_supported = refl

lines_of_blocks : block_lines labels names 3 by_label (terms ∷ knows ∷ [])
    ≡ codes "  \"n0\" [label=\"iri\\n2 nodes\\nana, bo\" tooltip=\"iri\" fillcolor=\"#cfe2f3\"];\n  \"n1\" [label=\"knows\\nn1\" tooltip=\"<http://e/knows>\" fillcolor=\"#fce5cd\"];\n"
unfolding digits
lines_of_blocks = refl

-- ana alone is named
line_of_terms : block_lines labels names 1 by_label (terms ∷ [])
    ≡ codes "  \"n0\" [label=\"iri\\n2 nodes\\nana and 1 more\" tooltip=\"iri\" fillcolor=\"#cfe2f3\"];\n"
unfolding digits
line_of_terms = refl

lines_of_pairs : pair_lines edge by_label (record { from = terms; onto = knows; support = 3 } ∷ record { from = knows; onto = terms; support = 1 } ∷ [])
    ≡ codes "  \"n0\" -> \"n1\" [label=\"3\"];\n  \"n1\" -> \"n0\" [style=dashed];\n"
unfolding digits
lines_of_pairs = refl

one_left_out : note_line 1 2 ≡ codes "  \"note\" [shape=plaintext style=\"\" label=\"not drawn: 1 smaller blocks, 2 pairs of blocks\"];\n"
unfolding digits
one_left_out = refl

none_left_out : note_line 0 0 ≡ []
none_left_out = refl
