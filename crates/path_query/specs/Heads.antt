-- What stands at the front of some tokens.
use Rattle.std.specs.Prelude.{◌≡◌, List}
use Rattle.path_spec.specs.Trees.{Expr, Seq, Item, Atom}
use Rattle.path_spec.specs.Tokens.{Token, onto, seq_onto, item_onto, atom_onto, EndsExpr, EndsSeq, EndsItem}

-- no atom stands at the front
abbrev pub HasNoAtom : List Token → Type 0
HasNoAtom ts = (a : Atom) (r : List Token) → ts ≡ atom_onto a r → ⊥

-- no item stands at the front, before what may follow one
abbrev pub HasNoItem : List Token → Type 0
HasNoItem ts = (i : Item) (r : List Token) → EndsItem r → ts ≡ item_onto i r → ⊥

-- no sequence stands at the front, before what may follow one
abbrev pub HasNoSeq : List Token → Type 0
HasNoSeq ts = (s : Seq) (r : List Token) → EndsSeq r → ts ≡ seq_onto s r → ⊥

-- no expression stands at the front, before what may follow one
abbrev pub HasNoExpr : List Token → Type 0
HasNoExpr ts = (e : Expr) (r : List Token) → EndsExpr r → ts ≡ onto e r → ⊥

-- behind an atom, an item ends before the rest alone
abbrev pub EndsItemBefore : List Token → List Token → Type 0
EndsItemBefore ts rest = (a : Atom) (i : Item) (r : List Token) → EndsItem r → atom_onto a ts ≡ item_onto i r → r ≡ rest
