-- What the code's values say, in the words of the definitions.
use Rattle.std.specs.Prelude.{ℕ, ◌+◌, ◌*◌, List, nat_lt, if◌then◌else◌}
use Rattle.workload.specs.Generator.{drawn, state_after}
use Rattle.workload.specs.MadeTexts.{node_term, predicate_term, triple_line, value_term}
use Rattle.workload.specs.declared.triples.Object.{Object}
use Rattle.workload.specs.declared.triples.Object.TheVariants.{Node, Value}
use Rattle.workload.specs.declared.triples.Triple.{Triple}

-- the term of an object
abbrev pub object_value : Object → List ℕ
object_value (Node n) = node_term n
object_value (Value n) = value_term n

-- the line of a triple
abbrev pub line_value : Triple → List ℕ
line_value t = triple_line (node_term t.subject) (predicate_term t.predicate) (object_value t.object)

-- the number of an object above this subject, drawn from the state x on
abbrev pub number_above : ℕ → ℕ → ℕ
number_above subject x = 8 * subject + 1 + drawn 1 16 x

-- that object, which is a value where the number is past the nodes
abbrev pub object_above : ℕ → ℕ → List ℕ
object_above subject x = if nat_lt (number_above subject x) 4000 then node_term (number_above subject x) else value_term (drawn 2 500 x)

-- the state after it is drawn
abbrev pub after_object : ℕ → ℕ → ℕ
after_object subject x = if nat_lt (number_above subject x) 4000 then state_after 1 x else state_after 2 x
