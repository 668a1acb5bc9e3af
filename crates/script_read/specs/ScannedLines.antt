-- What a line says, before any memory is taken.
use Rattle.std.specs.Prelude.{ℕ, ◌≡◌, ◌≢◌, ◌<◌, ◌^◌, List, [], ◌∷◌, codes}
use Rattle.graph_spec.specs.Words.{words, node_word}
use Rattle.change_spec.specs.Steps.{node, relabel}
use Rattle.index_api.specs.declared.kinds.Via.{Via}
use Rattle.script_read.specs.Commands.{Command, change, path, branch, why, check, AsksWith, AsksWhy, Asks, IsQuiet, IsSpelled, NoCommand}
use Rattle.script_read.specs.FirstWords.{first_word, behind_word, expression_text, OpensNothing}
use Rattle.script_read.specs.ReadLines.{command_of}
use Rattle.script_read.specs.declared.scan.ScannedLine.{ScannedLine}
use Rattle.script_read.specs.declared.scan.ScannedLine.TheVariants.{Quiet, Node, Relabel, Insert, Delete, Path, Branch, Why, Check, Whole, Bad}

-- the line adds a node with the label that this word spells
abbrev pub SaysNode : List ℕ → List ℕ → Type 0
SaysNode line word = words line ≡ codes "node" ∷ word ∷ []

-- the line gives this node the label that this word spells
abbrev pub SaysRelabel : List ℕ → ℕ → List ℕ → Type 0
SaysRelabel line u word = (words line ≡ codes "relabel" ∷ node_word u ∷ word ∷ []) × (u < 2 ^ 32)

-- the line begins with this word, and this text follows it
abbrev pub SaysTriple : List ℕ → List ℕ → List ℕ → Type 0
SaysTriple word line text = (first_word line ≡ word) × (text ≡ behind_word line)

-- the line begins with this word, and asks through this for the answers of what this text spells
abbrev pub SaysQuery : List ℕ → List ℕ → Via → List ℕ → Type 0
SaysQuery word line via text = AsksWith word line via × (text ≡ expression_text line)

-- the line asks why this node answers what this text spells
abbrev pub SaysWhy : List ℕ → ℕ → List ℕ → Type 0
SaysWhy line v text = AsksWhy line v × (text ≡ expression_text line)

-- the line asks about the nodes that this word spells, and about what this text spells
abbrev pub SaysCheck : List ℕ → List ℕ → List ℕ → Type 0
SaysCheck line word text = (first_word line ≡ codes "check") × (word ≡ first_word (behind_word line)) × (text ≡ expression_text line)

-- the command has neither a label nor an expression
abbrev pub IsWhole : Command → Type 0
IsWhole (change (node t)) = ⊥
IsWhole (change (relabel u t)) = ⊥
IsWhole (path via e) = ⊥
IsWhole (branch via q) = ⊥
IsWhole (why v e) = ⊥
IsWhole (check nodes e) = ⊥
IsWhole c = Unit {0}

-- a first word, but of no change
pub record OpensOther (word : List ℕ) : Type 0 where
  -- the word doesn't begin a blank line or a comment
  pub loud : ¬ OpensNothing word
  -- nor is it the first word of a change
  pub no_node : word ≢ codes "node"
  pub no_link : word ≢ codes "link"
  pub no_unlink : word ≢ codes "unlink"
  pub no_drop : word ≢ codes "drop"
  pub no_relabel : word ≢ codes "relabel"

-- nor is it the first word of a line that asks with an expression
pub record OpensReport (word : List ℕ) : Type 0 where
  -- it is no first word of a change
  pub other : OpensOther word
  -- nor one of these
  pub no_path : word ≢ codes "path"
  pub no_branch : word ≢ codes "branch"
  pub no_why : word ≢ codes "why"
  pub no_check : word ≢ codes "check"

-- nor is it the first word of a line that asks for lists, sizes or a file, or forgets an index
pub record OpensGroup (word : List ℕ) : Type 0 where
  -- it is no first word of those above
  pub report : OpensReport word
  -- nor one of these
  pub no_extents : word ≢ codes "extents"
  pub no_sizes : word ≢ codes "sizes"
  pub no_save : word ≢ codes "save"
  pub no_forget : word ≢ codes "forget"

-- nor that of a line that begins or ends a group
pub record OpensTriple (word : List ℕ) : Type 0 where
  -- it is no first word of those above
  pub group : OpensGroup word
  -- nor one of these
  pub no_begin : word ≢ codes "begin"
  pub no_end : word ≢ codes "end"

-- the line says this
abbrev pub IsScanned : List ℕ → ScannedLine → Type 0
IsScanned line Quiet = IsQuiet line
IsScanned line (Node word) = SaysNode line word.now
IsScanned line (Relabel u word) = SaysRelabel line u word.now
IsScanned line (Insert text) = SaysTriple (codes "insert") line text.now
IsScanned line (Delete text) = SaysTriple (codes "delete") line text.now
IsScanned line (Path via text) = SaysQuery (codes "path") line via text.now
IsScanned line (Branch via text) = SaysQuery (codes "branch") line via text.now
IsScanned line (Why v text) = SaysWhy line v text.now
IsScanned line (Check word text) = SaysCheck line word.now text.now
IsScanned line (Whole c) = IsSpelled line (command_of c) × IsWhole (command_of c)
IsScanned line Bad = NoCommand line × (¬ Asks line)
