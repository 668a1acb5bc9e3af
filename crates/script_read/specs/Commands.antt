-- What a line of a script spells.
use Rattle.std.specs.Prelude.{ℕ, ◌≡◌, ◌<◌, ◌^◌, ◌⊎◌, ◌==◌, List, [], ◌∷◌, map, codes, IsTrue}
use Rattle.std.specs.List.{slice_split, AllByRecursion}
use Rattle.graph_spec.specs.declared.limits.Limits.{Limits}
use Rattle.graph_spec.specs.Words.{words, node_word}
use Rattle.change_spec.specs.Steps.{Step, node, link, unlink, drop, relabel}
use Rattle.triples_read.specs.declared.term.Triple.{Triple}
use Rattle.triples_read.specs.Lines.{SpellsTriple}
use Rattle.path_spec.specs.Trees.{Expr}
use Rattle.path_query.specs.Labels.{SpellsLabel}
use Rattle.path_query.specs.Parsed.{SpellsPath, is_past}
use Rattle.branch_spec.specs.Trees.{Branch}
use Rattle.branch_text.specs.Parsed.{SpellsBranch}
use Rattle.bisim_spec.specs.declared.kind.Kind.{Kind}
use Rattle.index_api.specs.declared.kinds.Via.{Via}
use Rattle.index_api.specs.declared.kinds.Via.TheVariants.{Data, A, One, Fb, B}
use Rattle.index_api.specs.Spelling.{via_word, kind_word}
use Rattle.script_read.specs.FirstWords.{first_word, behind_word, expression_text}

-- what a line of a script asks for
pub data Command : Type 0 where
  -- a step of a change of the graph
  change : Step → Command
  -- the first and the last line of a group of steps
  begin : Command
  end : Command
  -- a triple comes into the graph, or goes out of it
  insert : Triple → Command
  delete : Triple → Command
  -- the answers of a path expression, asked through this
  path : Via → Expr → Command
  -- the answers of a branching query, asked through this
  branch : Via → Branch → Command
  -- why this node answers a path expression
  why : ℕ → Expr → Command
  -- whether these nodes show why the last of them answers it
  check : List ℕ → Expr → Command
  -- the blocks of this index, each with its nodes
  extents : Via → Command
  -- how many nodes and edges the graph and each index have
  sizes : Command
  -- the graph and the indexes that are kept, as an index file
  save : Command
  -- the indexes of this kind are kept no longer
  forget : Kind → Command

-- no words, or a first word that begins with # (35)
abbrev pub SaysNothing : List (List ℕ) → Type 0
SaysNothing [] = Unit {0}
SaysNothing ([] ∷ ws) = ⊥
SaysNothing ((b ∷ bs) ∷ ws) = b ≡ 35

-- a blank line or a comment
abbrev pub IsQuiet : List ℕ → Type 0
IsQuiet line = SaysNothing (words line)

-- the word, and then two nodes
abbrev pub SpellsPair : List ℕ → List ℕ → ℕ → ℕ → Type 0
SpellsPair line word u v = (words line ≡ word ∷ node_word u ∷ node_word v ∷ []) × (u < 2 ^ 32) × (v < 2 ^ 32)

-- the line is this change
abbrev pub SpellsChange : List ℕ → Step → Type 0
SpellsChange line (node t) = (word : List ℕ) × (words line ≡ codes "node" ∷ word ∷ []) × SpellsLabel word t
SpellsChange line (link u v) = SpellsPair line (codes "link") u v
SpellsChange line (unlink u v) = SpellsPair line (codes "unlink") u v
SpellsChange line (drop u) = (words line ≡ codes "drop" ∷ node_word u ∷ []) × (u < 2 ^ 32)
SpellsChange line (relabel u t) = (word : List ℕ) × (words line ≡ codes "relabel" ∷ node_word u ∷ word ∷ []) × (u < 2 ^ 32) × SpellsLabel word t

-- the line is the word, and what follows it spells the triple as a line of N-Triples does
abbrev pub NamesTriple : List ℕ → List ℕ → Triple → Type 0
NamesTriple line word t = (first_word line ≡ word) × SpellsTriple (behind_word line) t

-- an index, whose level has 32 bits; the graph itself is none
abbrev pub IsIndex : Via → Type 0
IsIndex Data = ⊥
IsIndex (A level) = level < 2 ^ 32
IsIndex One = Unit {0}
IsIndex Fb = Unit {0}
IsIndex (B level) = level < 2 ^ 32

-- the graph itself, or an index
abbrev pub IsVia : Via → Type 0
IsVia Data = Unit {0}
IsVia (A level) = IsIndex (A level)
IsVia One = IsIndex One
IsVia Fb = IsIndex Fb
IsVia (B level) = IsIndex (B level)

-- the first words are this one and through what a query is asked
abbrev pub AsksWith : List ℕ → List ℕ → Via → Type 0
AsksWith word line via = (first_word line ≡ word) × (first_word (behind_word line) ≡ via_word via) × IsVia via

-- the first words are `path` and through what it is asked
abbrev pub AsksPath : List ℕ → Via → Type 0
AsksPath line via = AsksWith (codes "path") line via

-- the first words are `branch` and through what it is asked
abbrev pub AsksBranch : List ℕ → Via → Type 0
AsksBranch line via = AsksWith (codes "branch") line via

-- the first words are `why` and a node
abbrev pub AsksWhy : List ℕ → ℕ → Type 0
AsksWhy line v = (first_word line ≡ codes "why") × (first_word (behind_word line) ≡ node_word v) × (v < 2 ^ 32)

-- the parts of the word between its commas (44); one if it has none
abbrev pub parts : List ℕ → List (List ℕ)
parts word = slice_split (λ b. b == 44) word

-- the parts of the word are these nodes, one or more
abbrev pub SpellsNodes : List ℕ → List ℕ → Type 0
SpellsNodes word nodes = (parts word ≡ map node_word nodes) × AllByRecursion (λ n. n < 2 ^ 32) nodes

-- the first words are `check` and nodes
abbrev pub AsksCheck : List ℕ → List ℕ → Type 0
AsksCheck line nodes = (first_word line ≡ codes "check") × SpellsNodes (first_word (behind_word line)) nodes

-- it asks with `path`, and what follows, without the blanks at both ends, spells the expression
abbrev pub SpellsPathLine : List ℕ → Via → Expr → Type 0
SpellsPathLine line via e = AsksPath line via × SpellsPath (expression_text line) e

-- it asks with `branch`, and what follows, without the blanks at both ends, spells the query
abbrev pub SpellsBranchLine : List ℕ → Via → Branch → Type 0
SpellsBranchLine line via q = AsksBranch line via × SpellsBranch (expression_text line) q

-- it asks with `why`, and what follows, without the blanks at both ends, spells the expression
abbrev pub SpellsWhy : List ℕ → ℕ → Expr → Type 0
SpellsWhy line v e = AsksWhy line v × SpellsPath (expression_text line) e

-- it asks with `check`, and what follows, without the blanks at both ends, spells the expression
abbrev pub SpellsCheck : List ℕ → List ℕ → Expr → Type 0
SpellsCheck line nodes e = AsksCheck line nodes × SpellsPath (expression_text line) e

-- the line asks with an expression: for answers, through the graph or some index, or about why a node is one
pub data Asks (line : List ℕ) : Type 0 where
  by_path : (via : Via) → AsksPath line via → Asks line
  by_branch : (via : Via) → AsksBranch line via → Asks line
  by_why : (v : ℕ) → AsksWhy line v → Asks line
  by_check : (nodes : List ℕ) → AsksCheck line nodes → Asks line

-- the same, and the text of the expression has more bytes than it may, or nests deeper
abbrev pub PassesLimit : Limits → List ℕ → Type 0
PassesLimit limits line = Asks line × IsTrue (is_past limits (expression_text line))

-- the words are `extents` and an index
abbrev pub SpellsExtents : List ℕ → Via → Type 0
SpellsExtents line via = (words line ≡ codes "extents" ∷ via_word via ∷ []) × IsIndex via

-- the words are `forget` and a kind of index
abbrev pub SpellsForget : List ℕ → Kind → Type 0
SpellsForget line kind = words line ≡ codes "forget" ∷ kind_word kind ∷ []

-- the line is this command
abbrev pub IsSpelled : List ℕ → Command → Type 0
IsSpelled line (change s) = SpellsChange line s
IsSpelled line begin = words line ≡ codes "begin" ∷ []
IsSpelled line end = words line ≡ codes "end" ∷ []
IsSpelled line (insert t) = NamesTriple line (codes "insert") t
IsSpelled line (delete t) = NamesTriple line (codes "delete") t
IsSpelled line (path via e) = SpellsPathLine line via e
IsSpelled line (branch via q) = SpellsBranchLine line via q
IsSpelled line (why v e) = SpellsWhy line v e
IsSpelled line (check nodes e) = SpellsCheck line nodes e
IsSpelled line (extents via) = SpellsExtents line via
IsSpelled line sizes = words line ≡ codes "sizes" ∷ []
IsSpelled line save = words line ≡ codes "save" ∷ []
IsSpelled line (forget kind) = SpellsForget line kind

-- the line is neither quiet nor a command
abbrev pub NoCommand : List ℕ → Type 0
NoCommand line = (¬ IsQuiet line) × ((c : Command) → IsSpelled line c → ⊥)

-- nor does it ask with an expression that passes a limit
abbrev pub SpellsNothing : Limits → List ℕ → Type 0
SpellsNothing limits line = NoCommand line × (¬ PassesLimit limits line)

-- the line is quiet, or a command, or asks with an expression that passes a limit
abbrev pub SpellsSomething : Limits → List ℕ → Type 0
SpellsSomething limits line = IsQuiet line ⊎ (((c : Command) × IsSpelled line c) ⊎ PassesLimit limits line)

-- the word spells at most one label
abbrev pub LabelsOnce : List ℕ → Type 0
LabelsOnce word = (t u : List ℕ) → SpellsLabel word t → SpellsLabel word u → t ≡ u

-- the text spells at most one path expression
abbrev pub PathsOnce : List ℕ → Type 0
PathsOnce text = (e f : Expr) → SpellsPath text e → SpellsPath text f → e ≡ f

-- and at most one branching query
abbrev pub BranchesOnce : List ℕ → Type 0
BranchesOnce text = (p q : Branch) → SpellsBranch text p → SpellsBranch text q → p ≡ q

-- the line spells at most one command
abbrev pub SpellsOnce : List ℕ → Type 0
SpellsOnce line = (c d : Command) → IsSpelled line c → IsSpelled line d → c ≡ d
