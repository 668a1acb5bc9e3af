-- A graph file and a script of any seed, line by line. Each line is a function of the generator's state, and tells the
-- state with which the next one begins.
use Rattle.std.specs.Prelude.{ℕ, zero, suc, ◌+◌, ◌*◌, Bool, if◌then◌else◌, nat_lt, List, [], ◌∷◌, ◌++◌, codes, decimal}
use Rattle.graph_spec.specs.Words.{node_word}
use Rattle.workload.specs.Generator.{drawn, state_after}

-- the lines, each ended by LF (10)
abbrev pub lines_text : List (List ℕ) → List ℕ
lines_text [] = []
lines_text (line ∷ lines) = line ++ 10 ∷ lines_text lines

-- ---- the graph file

-- the term of a node: `<http://e/s7>`
abbrev pub node_term : ℕ → List ℕ
node_term n = codes "<http://e/s" ++ decimal n ++ codes ">"

-- a predicate: `<http://e/p7>`
abbrev pub predicate_term : ℕ → List ℕ
predicate_term n = codes "<http://e/p" ++ decimal n ++ codes ">"

-- a value: `"v7"`
abbrev pub value_term : ℕ → List ℕ
value_term n = codes "\"v" ++ decimal n ++ codes "\""

-- a triple, by its three terms
abbrev pub triple_line : List ℕ → List ℕ → List ℕ → List ℕ
triple_line subject predicate object = subject ++ codes " " ++ predicate ++ codes " " ++ object ++ codes " ."

-- the subject that a line draws, from the state x on
abbrev pub subject_at : ℕ → ℕ
subject_at x = drawn 1 4000 x

-- the predicate that it draws
abbrev pub predicate_at : ℕ → ℕ
predicate_at x = drawn 2 8 x

-- the object, whose number is above the subject's, so no walk comes back to its beginning
abbrev pub object_at : ℕ → ℕ
object_at x = 8 * subject_at x + 1 + drawn 3 16 x

-- the value that it draws, where the object is no node
abbrev pub value_at : ℕ → ℕ
value_at x = drawn 4 500 x

-- past the nodes the object is a value
abbrev pub is_node_at : ℕ → Bool
is_node_at x = nat_lt (object_at x) 4000

-- the term of the object
abbrev pub object_term : ℕ → List ℕ
object_term x = if is_node_at x then node_term (object_at x) else value_term (value_at x)

-- the line that is drawn from the state x on
abbrev pub graph_line : ℕ → List ℕ
graph_line x = triple_line (node_term (subject_at x)) (predicate_term (predicate_at x)) (object_term x)

-- the state after a line that begins at x
abbrev pub after_line : ℕ → ℕ
after_line x = if is_node_at x then state_after 3 x else state_after 4 x

-- n lines from the state x on
abbrev pub graph_lines : ℕ → ℕ → List (List ℕ)
graph_lines zero x = []
graph_lines (suc n) x = graph_line x ∷ graph_lines n (after_line x)

-- the state after n lines that begin at x
abbrev pub after_lines : ℕ → ℕ → ℕ
after_lines zero x = x
after_lines (suc n) x = after_lines n (after_line x)

-- the graph file of a seed has 20,000 lines
unfoldable pub made_graph_text : ℕ → List ℕ
made_graph_text seed = lines_text (graph_lines 20000 seed)

-- ---- the script

-- a new node, with one of four labels
abbrev pub label_line : ℕ → List ℕ
label_line x = codes "node g" ++ decimal (drawn 1 4 x)

-- a command, and the two ends of an edge
abbrev pub edge_line : List ℕ → ℕ → ℕ → List ℕ
edge_line command from to = command ++ codes " " ++ node_word from ++ codes " " ++ node_word to

-- a new node and two edges from it, of which one is taken away, and then other lines; `nodes` nodes are drawn from
abbrev pub step_lines : ℕ → ℕ → ℕ → List (List ℕ) → List (List ℕ)
step_lines nodes new x lines =
    label_line x
    ∷ edge_line (codes "link") new (drawn 2 nodes x)
    ∷ edge_line (codes "link") new (drawn 3 nodes x)
    ∷ edge_line (codes "unlink") new (drawn 2 nodes x)
    ∷ lines

-- n steps from the state x on, with new nodes from `new` on, and then other lines
abbrev pub steps_onto : ℕ → ℕ → ℕ → ℕ → List (List ℕ) → List (List ℕ)
steps_onto nodes zero new x lines = lines
steps_onto nodes (suc n) new x lines = step_lines nodes new x (steps_onto nodes n (new + 1) (state_after 3 x) lines)

-- a query, with the command and through what it is asked
abbrev pub asked : List ℕ → List ℕ → List ℕ → List ℕ
asked command via query = command ++ via ++ query

-- a query through the graph itself, A(2), the 1-index, and the forward and backward index, and then other lines
abbrev pub asked_onto : List ℕ → List ℕ → List (List ℕ) → List (List ℕ)
asked_onto command query lines =
    asked command (codes " data ") query
    ∷ asked command (codes " a2 ") query
    ∷ asked command (codes " one ") query
    ∷ asked command (codes " fb ") query
    ∷ lines

-- the sizes, two paths and a branching query
abbrev pub last_lines : List (List ℕ)
last_lines =
    codes "sizes"
    ∷ asked_onto (codes "path") (codes "<http://e/p0>/iri/<http://e/p1>")
    (asked_onto (codes "path") (codes "g0//literal")
    (asked_onto (codes "branch") (codes "iri[/<http://e/p0> and not(/<http://e/p1>)]") []))

-- so many steps from the state x on, for a graph of that many nodes, and then the last lines
abbrev pub steps_text : ℕ → ℕ → ℕ → List ℕ
steps_text nodes count x = lines_text (steps_onto nodes count nodes x last_lines)

-- The script of a seed, for a graph with that many allocated numbers: 500 steps, whose draws go on where those
-- of the graph file ended, and then the last lines.
unfoldable pub made_script_text : ℕ → ℕ → List ℕ
made_script_text seed nodes = lines_text (steps_onto nodes 500 nodes (after_lines 20000 seed) last_lines)
