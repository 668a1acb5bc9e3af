-- The words for refusals.
use Rattle.std.specs.Prelude.{ℕ, List, codes}
use Rattle.graph_spec.specs.declared.refusal.Refusal.{Refusal}
use Rattle.graph_spec.specs.declared.refusal.Refusal.TheVariants.{NoNode, NoEdge, Limit, NoIndex}

-- how a refusal is written
abbrev pub word_of : Refusal → List ℕ
word_of NoNode = codes "no-node"
word_of NoEdge = codes "no-edge"
word_of Limit = codes "limit"
word_of NoIndex = codes "no-index"
