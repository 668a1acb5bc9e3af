-- What stands at the front of some tokens.
use Rattle.std.specs.Prelude.{◌≡◌, List, ◌∷◌}
use Rattle.branch_spec.specs.Trees as tree
use Rattle.branch_spec.specs.Tokens.{Token, right, opening, closing, test_onto, or_onto, step_onto, chain_onto, and_onto, cond_onto, EndsStep, EndsChain, EndsAnd, EndsOr}

-- no test stands at the front; those that follow say so of other parts, named above each
abbrev pub HasNoTest : List Token → Type 0
HasNoTest ts = (t : tree.Test) (r : List Token) → ts ≡ test_onto t r → ⊥

-- alternatives, and then ']'
abbrev pub HasNoPred : List Token → Type 0
HasNoPred ts = (o : tree.Or) (r : List Token) → ts ≡ or_onto o (right ∷ r) → ⊥

-- alternatives in parentheses
abbrev pub HasNoGroup : List Token → Type 0
HasNoGroup ts = (o : tree.Or) (r : List Token) → ts ≡ opening ∷ or_onto o (closing ∷ r) → ⊥

-- a step, before what may follow one
abbrev pub HasNoStep : List Token → Type 0
HasNoStep ts = (s : tree.Step) (r : List Token) → EndsStep r → ts ≡ step_onto s r → ⊥

-- steps, none or more
abbrev pub HasNoChain : List Token → Type 0
HasNoChain ts = (ch : tree.Chain) (r : List Token) → EndsChain r → ts ≡ chain_onto ch r → ⊥

-- one or more steps
abbrev pub HasNoRel : List Token → Type 0
HasNoRel ts = (a : tree.Axis) (s : tree.Step) (ch : tree.Chain) (r : List Token) → EndsChain r → ts ≡ chain_onto (tree.go a s ch) r → ⊥

-- a condition, whatever follows
abbrev pub HasNoUnit : List Token → Type 0
HasNoUnit ts = (c : tree.Cond) (r : List Token) → ts ≡ cond_onto c r → ⊥

-- a condition, before what may follow a chain
abbrev pub HasNoCond : List Token → Type 0
HasNoCond ts = (c : tree.Cond) (r : List Token) → EndsChain r → ts ≡ cond_onto c r → ⊥

-- a conjunction, before what may follow one
abbrev pub HasNoAnd : List Token → Type 0
HasNoAnd ts = (a : tree.And) (r : List Token) → EndsAnd r → ts ≡ and_onto a r → ⊥

-- alternatives, before what may follow them
abbrev pub HasNoOr : List Token → Type 0
HasNoOr ts = (o : tree.Or) (r : List Token) → EndsOr r → ts ≡ or_onto o r → ⊥

-- a condition ends before the rest alone, whatever follows
abbrev pub EndsUnitBefore : List Token → List Token → Type 0
EndsUnitBefore ts rest = (c : tree.Cond) (r : List Token) → ts ≡ cond_onto c r → r ≡ rest

-- the same, before what may follow a chain
abbrev pub EndsCondBefore : List Token → List Token → Type 0
EndsCondBefore ts rest = (c : tree.Cond) (r : List Token) → EndsChain r → ts ≡ cond_onto c r → r ≡ rest
