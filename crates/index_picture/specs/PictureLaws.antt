-- What holds of the text of each picture, whatever labels and names say.
use Rattle.std.specs.Prelude.{ℕ, ◌≡◌, ◌∷◌, ◌++◌, ◌-◌, false, List, [], length}
use Rattle.std.specs.List.{flat_map}
use Rattle.graph_spec.specs.Graphs.{Graph, has_edge}
use Rattle.graph_spec.specs.Members.{has}
use Rattle.quotient.specs.Quotients.{Quotient, pair_count}
use Rattle.index_picture.specs.declared.blocks.Block.{Block}
use Rattle.index_picture.specs.declared.pairs.Pair.{Pair}
use Rattle.index_picture.specs.QuotedTexts.{quoted, outside, inside, read_text}
use Rattle.index_picture.specs.DrawnBlocks.{blocks_of, drawn_blocks, drawn_pairs, labels_used}
use Rattle.index_picture.specs.Pictures.{block_line, pair_line, note_line, head_text, tail_text}

-- One line: its only LF (10) is its end, and each quoted text ends within it.
pub record IsLine (line : List ℕ) : Type 0 where
  -- the line without its end
  pub body : List ℕ
  -- the line is this and an LF
  pub line_is : line ≡ body ++ 10 ∷ []
  -- there is no other LF
  pub unbroken : has body 10 ≡ false
  -- who reads it from outside quotes is outside at its end
  pub closed : read_text outside line ≡ outside

-- The text has one line for each of these blocks, and one for each of these pairs, and each quoted text ends within it.
pub record HasLines (g : Graph) (q : Quotient) (names : List (List ℕ)) (most_members : ℕ) (bs : List Block) (rs : List Pair) (blocks pairs : ℕ)
    (text : List ℕ) : Type 0 where
  -- the text has a head, a line for each block and for each pair, a note and a tail
  pub text_is : text ≡ head_text ++ ((flat_map (block_line g.seen names most_members q.blocks (labels_used bs)) bs
      ++ flat_map (pair_line (has_edge g) q.blocks) rs) ++ (note_line blocks pairs ++ tail_text))
  -- what is written for a block is one line
  pub block : (b : Block) → IsLine (block_line g.seen names most_members q.blocks (labels_used bs) b)
  -- so is what is written for a pair
  pub pair : (r : Pair) → IsLine (pair_line (has_edge g) q.blocks r)
  -- who reads the text from outside quotes is outside at its end
  pub closed : read_text outside text ≡ outside

-- The text has one line for each block and each pair that is drawn.
abbrev pub HasDrawnLines : Graph → Quotient → List (List ℕ) → ℕ → ℕ → List ℕ → Type 0
HasDrawnLines g q names most_blocks most_members text =
    HasLines g q names most_members (drawn_blocks most_blocks q.blocks) (drawn_pairs most_blocks q)
    (length (blocks_of q.blocks) - length (drawn_blocks most_blocks q.blocks)) (pair_count q.supports - length (drawn_pairs most_blocks q)) text

-- whatever the text says: between quotes it is one text, which ends where it ends
pub record IsQuoted (t : List ℕ) : Type 0 where
  -- whoever reads it between quotes is still between quotes at its end
  pub stays : read_text inside (quoted t) ≡ inside
  -- it has no line end
  pub unbroken : has (quoted t) 10 ≡ false
