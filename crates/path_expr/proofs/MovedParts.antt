-- A part stands where it stood, while states are added and others are written.
use Rattle.std.proofs.Common.{◌≡◌, ℕ, ◌≤◌, inl, inr, List, arith, Option, Some}
use Rattle.path_automaton.specs.declared.state.State.{State}
use Rattle.path_automaton.specs.declared.state.State.TheVariants.{Stuck, Any, Label, Fork}
use Rattle.path_spec.specs.Trees.{star, plus, opt, child, below, Expr, only, or, Seq, last, then, Item, once, signed, Atom, label, any, group}
use Rattle.path_expr.specs.ExprAutomata.{ReadsLabel, Stands, StandsSeq, StandsItem, StandsAtom}

module _ (texts : List (List ℕ)) (at at2 : ℕ → Option State) where
  -- the states from `low` on are kept
  abbrev pub Keeps : ℕ → Type 0
  Keeps low = (k : ℕ) (s : State) → low ≤ k → at k ≡ Some s → at2 k ≡ Some s

  moved_label : (t : List ℕ) (low i next : ℕ) → low ≤ i → Keeps low → ReadsLabel texts (at i) t next → ReadsLabel texts (at2 i) t next
  moved_label t low i next l kept (inl (n, s, text)) = inl (n, kept i (Label n next) l s, text)
  moved_label t low i next l kept (inr (s, unknown)) = inr (kept i Stuck l s, unknown)

  mutual
    pub moved : (e : Expr) (low low2 i next : ℕ) → low2 ≤ low → Keeps low → Stands texts at e low i next → Stands texts at2 e low2 i next
    moved (only s) low low2 i next le kept h = moved_seq s low low2 i next le kept h
    moved (or s e) low low2 i next le kept (x, y, fork, l, hs, he) =
        (x, y, kept i (Fork x y) l fork, omega arith, moved_seq s low low2 x next le kept hs, moved e low low2 y next le kept he)

    pub moved_seq : (s : Seq) (low low2 i next : ℕ) → low2 ≤ low → Keeps low → StandsSeq texts at s low i next → StandsSeq texts at2 s low2 i next
    moved_seq (last a) low low2 i next le kept h = moved_item a low low2 i next le kept h
    moved_seq (then a child s) low low2 i next le kept (k, ha, hs) = (k, moved_item a low low2 i k le kept ha, moved_seq s low low2 k next le kept hs)
    moved_seq (then a below s) low low2 i next le kept (k, h, y, fork, more, lk, lh, ha, hs) = (
      k,
      h,
      y,
      kept k (Fork h y) lk fork,
      kept h (Any k) lh more,
      omega arith,
      omega arith,
      moved_item a low low2 i k le kept ha,
      moved_seq s low low2 y next le kept hs,
    )

    pub moved_item : (a : Item) (low low2 i next : ℕ) → low2 ≤ low → Keeps low → StandsItem texts at a low i next → StandsItem texts at2 a low2 i next
    moved_item (once a) low low2 i next le kept h = moved_atom a low low2 i next le kept h
    moved_item (signed a star) low low2 i next le kept (x, fork, l, h) = (x, kept i (Fork x next) l fork, omega arith, moved_atom a low low2 x i le kept h)
    moved_item (signed a plus) low low2 i next le kept (k, fork, l, h) = (k, kept k (Fork i next) l fork, omega arith, moved_atom a low low2 i k le kept h)
    moved_item (signed a opt) low low2 i next le kept (x, fork, l, h) = (x, kept i (Fork next x) l fork, omega arith, moved_atom a low low2 x next le kept h)

    pub moved_atom : (a : Atom) (low low2 i next : ℕ) → low2 ≤ low → Keeps low → StandsAtom texts at a low i next → StandsAtom texts at2 a low2 i next
    moved_atom (label t) low low2 i next le kept (l, h) = (omega arith, moved_label t low i next l kept h)
    moved_atom any low low2 i next le kept (l, h) = (omega arith, kept i (Any next) l h)
    moved_atom (group e) low low2 i next le kept h = moved e low low2 i next le kept h
