-- The words of the usage line, and the same in another order.
use Rattle.std.specs.Prelude.{ℕ, ◌≢◌, Bool, true, false, List, [], ◌∷◌, ◌++◌, Option, Some, None, IfSome, codes}
use Rattle.command_line.specs.Arguments.{Arguments}

-- SCRIPT [--graph FILE] [--k N] [--without-one] [--without-fb] [--with-bk]
pub record ScriptUsage : Type 0 where
  -- the file with the script
  pub script : List ℕ
  -- the file with the graph, if it is named
  pub graph : Option (List ℕ)
  -- the highest level, if it is named
  pub k : Option (List ℕ)
  -- without the 1-index
  pub without_one : Bool
  -- without the forward and backward index
  pub without_fb : Bool
  -- with the bounded forward and backward indexes
  pub with_bk : Bool

-- one alternative of the usage line: a script, --make SEED, or --check FILE
pub data Usage : Type 0 where
  of_script : ScriptUsage → Usage
  of_seed : List ℕ → Usage
  of_check : List ℕ → Usage

-- an option and its text
abbrev pub option_words : List ℕ → Option (List ℕ) → List (List ℕ)
option_words name None = []
option_words name (Some text) = name ∷ text ∷ []

-- a flag, where it is there
abbrev pub flag_words : List ℕ → Bool → List (List ℕ)
flag_words name false = []
flag_words name true = name ∷ []

-- the name of the script
abbrev pub script_words : ScriptUsage → List (List ℕ)
script_words u = u.script ∷ []

-- `--graph` and the name of the graph file, if it is there
abbrev pub graph_words : ScriptUsage → List (List ℕ)
graph_words u = option_words (codes "--graph") u.graph

-- `--k` and the highest level, if it is there
abbrev pub level_words : ScriptUsage → List (List ℕ)
level_words u = option_words (codes "--k") u.k

-- `--without-one`, where it is there
abbrev pub one_words : ScriptUsage → List (List ℕ)
one_words u = flag_words (codes "--without-one") u.without_one

-- `--without-fb`, where it is there
abbrev pub fb_words : ScriptUsage → List (List ℕ)
fb_words u = flag_words (codes "--without-fb") u.without_fb

-- `--with-bk`, where it is there
abbrev pub bk_words : ScriptUsage → List (List ℕ)
bk_words u = flag_words (codes "--with-bk") u.with_bk

-- in the order of the usage line
abbrev pub words_of : Usage → List (List ℕ)
words_of (of_script u) = script_words u ++ (graph_words u ++ (level_words u ++ (one_words u ++ (fb_words u ++ bk_words u))))
words_of (of_seed seed) = codes "--make" ∷ seed ∷ []
words_of (of_check file) = codes "--check" ∷ file ∷ []

-- the other orders of a script's words without flags
pub data Order : Type 0 where
  script_level_graph : Order
  graph_script_level : Order
  graph_level_script : Order
  level_script_graph : Order
  level_graph_script : Order

-- the words of a script in this order, without its flags
abbrev pub words_in : Order → ScriptUsage → List (List ℕ)
words_in script_level_graph u = script_words u ++ (level_words u ++ graph_words u)
words_in graph_script_level u = graph_words u ++ (script_words u ++ level_words u)
words_in graph_level_script u = graph_words u ++ (level_words u ++ script_words u)
words_in level_script_graph u = level_words u ++ (script_words u ++ graph_words u)
words_in level_graph_script u = level_words u ++ (graph_words u ++ script_words u)

-- just these texts and flags
abbrev pub arguments_with : ScriptUsage → Arguments
arguments_with u = record {
  script = Some u.script;
  graph = u.graph;
  k = u.k;
  make = None;
  check = None;
  without_one = u.without_one;
  without_fb = u.without_fb;
  with_bk = u.with_bk;
}

-- nothing
abbrev pub no_arguments : Arguments
no_arguments = record {
  script = None;
  graph = None;
  k = None;
  make = None;
  check = None;
  without_one = false;
  without_fb = false;
  with_bk = false;
}

-- just this seed
abbrev pub arguments_of_seed : List ℕ → Arguments
arguments_of_seed seed = record no_arguments { make = Some seed }

-- just this file to check
abbrev pub arguments_of_check : List ℕ → Arguments
arguments_of_check file = record no_arguments { check = Some file }

-- what an alternative gives
abbrev pub arguments_by : Usage → Arguments
arguments_by (of_script u) = arguments_with u
arguments_by (of_seed seed) = arguments_of_seed seed
arguments_by (of_check file) = arguments_of_check file

-- the texts without the flags
abbrev pub flagless : ScriptUsage → ScriptUsage
flagless u = record u { without_one = false; without_fb = false; with_bk = false }

-- just these texts, and no flag
abbrev pub only_texts : ScriptUsage → Arguments
only_texts u = arguments_with (flagless u)

-- not empty, and no hyphen (45) first
abbrev pub IsPlainText : List ℕ → Type 0
IsPlainText [] = ⊥
IsPlainText (b ∷ bs) = b ≢ 45

-- the name of the script is plain, and so are that of the graph file and the level, if they are there
abbrev pub HasPlain : ScriptUsage → Type 0
HasPlain u = IsPlainText u.script × IfSome u.graph IsPlainText × IfSome u.k IsPlainText

-- the texts of the alternative are plain
abbrev pub HasPlainTexts : Usage → Type 0
HasPlainTexts (of_script u) = HasPlain u
HasPlainTexts (of_seed seed) = IsPlainText seed
HasPlainTexts (of_check file) = IsPlainText file
