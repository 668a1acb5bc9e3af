-- Automata that read words, and where the parts of an expression stand in one.
use Rattle.std.specs.Prelude.{ℕ, zero, suc, ◌≡◌, ◌≤◌, ◌⊎◌, List, [], ◌∷◌, Option, None, Some, slice_get}
use Rattle.path_automaton.specs.declared.state.State.{State}
use Rattle.path_automaton.specs.declared.state.State.TheVariants.{End, Stuck, Any, Label, Fork}
use Rattle.path_spec.specs.Trees.{star, plus, opt, child, below, Expr, only, or, Seq, last, then, Item, once, signed, Atom, label, any, group}
use Rattle.path_spec.specs.Matches.{Word}

-- what is read from a state on, where `Rest` says what is read from the states that follow
abbrev pub ReadsFrom : List (List ℕ) → Option State → (ℕ → Word → Type 0) → Word → Type 0
ReadsFrom texts None Rest w = ⊥
ReadsFrom texts (Some End) Rest w = w ≡ []
ReadsFrom texts (Some Stuck) Rest w = ⊥
ReadsFrom texts (Some (Any next)) Rest w = (t : List ℕ) × (rest : Word) × (w ≡ t ∷ rest) × Rest next rest
ReadsFrom texts (Some (Label l next)) Rest w = (t : List ℕ) × (rest : Word) × (w ≡ t ∷ rest) × (slice_get texts l ≡ Some t) × Rest next rest
ReadsFrom texts (Some (Fork a b)) Rest w = Rest a w ⊎ Rest b w

-- from the state on the word is read to its end, within so many steps
abbrev pub Run : List (List ℕ) → (ℕ → Option State) → ℕ → ℕ → Word → Type 0
Run texts at zero s w = ⊥
Run texts at (suc n) s w = ReadsFrom texts (at s) (λ r v. Run texts at n r v) w

-- the text is a label of the table
abbrev pub Known : List (List ℕ) → List ℕ → Type 0
Known texts t = (l : ℕ) × (slice_get texts l ≡ Some t)

-- the state reads the label, if it is known, and goes on to the next one
abbrev pub ReadsLabel : List (List ℕ) → Option State → List ℕ → ℕ → Type 0
ReadsLabel texts s t next =
    ((l : ℕ) × (s ≡ Some (Label l next)) × (slice_get texts l ≡ Some t)) ⊎ ((s ≡ Some Stuck) × (Known texts t → ⊥))

module _ (texts : List (List ℕ)) (at : ℕ → Option State) where
  -- The part is read from the state `from` on, and then comes the state `next`. Its states have numbers from `low` on.
  abbrev mutual
    -- a lone sequence stands as it is; where there are more, a fork leads to the first and to the others
    pub Stands : Expr → (low from next : ℕ) → Type 0
    Stands (only s) low from next = StandsSeq s low from next
    Stands (or s e) low from next =
        (x : ℕ) × (y : ℕ) × (at from ≡ Some (Fork x y)) × (low ≤ from) × StandsSeq s low x next × Stands e low y next

    -- the items stand one after another; at '//' a fork leads on, or to a state that reads any label and comes back
    pub StandsSeq : Seq → (low from next : ℕ) → Type 0
    StandsSeq (last i) low from next = StandsItem i low from next
    StandsSeq (then i child s) low from next = (k : ℕ) × StandsItem i low from k × StandsSeq s low k next
    StandsSeq (then i below s) low from next =
        (k : ℕ) × (h : ℕ) × (y : ℕ) × (at k ≡ Some (Fork h y)) × (at h ≡ Some (Any k)) × (low ≤ k) × (low ≤ h)
        × StandsItem i low from k × StandsSeq s low y next

    -- the atom stands there; by its sign a fork leads past it, back to it, or both
    pub StandsItem : Item → (low from next : ℕ) → Type 0
    StandsItem (once a) low from next = StandsAtom a low from next
    StandsItem (signed a star) low from next = (x : ℕ) × (at from ≡ Some (Fork x next)) × (low ≤ from) × StandsAtom a low x from
    StandsItem (signed a plus) low from next = (k : ℕ) × (at k ≡ Some (Fork from next)) × (low ≤ k) × StandsAtom a low from k
    StandsItem (signed a opt) low from next = (x : ℕ) × (at from ≡ Some (Fork next x)) × (low ≤ from) × StandsAtom a low x next

    -- the state reads the label, or any label; or the expression in parentheses stands there
    pub StandsAtom : Atom → (low from next : ℕ) → Type 0
    StandsAtom (label t) low from next = (low ≤ from) × ReadsLabel texts (at from) t next
    StandsAtom any low from next = (low ≤ from) × (at from ≡ Some (Any next))
    StandsAtom (group e) low from next = Stands e low from next
