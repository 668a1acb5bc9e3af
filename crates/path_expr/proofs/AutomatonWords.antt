-- From the first state of an expression just the words that match are read.
use Rattle.std.proofs.Common.{◌≡◌, ℕ, zero, suc, ◌≤◌, ◌⊎◌, inl, inr, List, [], ◌∷◌, ◌++◌, refl, sym, ap, ◌∙◌, subst, append-nil, append_assoc, arith, Option, Some}
use Rattle.std.specs.List.{AllByRecursion}
use Rattle.std.proofs.lemmas.Option.{same_Some}
use Rattle.path_automaton.specs.declared.state.State.{State}
use Rattle.path_automaton.specs.declared.state.State.TheVariants.{End, Stuck, Any, Label, Fork}
use Rattle.path_spec.specs.Trees.{star, plus, opt, child, below, Expr, only, or, Seq, last, then, Item, once, signed, Atom, label, any, group}
use Rattle.path_spec.specs.Matches.{Word, joined, AnyWord, Then, Pieces, Matches, MatchesSeq, MatchesItem, MatchesAtom}
use Rattle.path_expr.specs.ExprAutomata.{ReadsFrom, Run, Known, ReadsLabel, Stands, StandsSeq, StandsItem, StandsAtom}

module _ (texts : List (List ℕ)) where
  known_front : (a b : Word) → AllByRecursion (Known texts) (a ++ b) → AllByRecursion (Known texts) a
  known_front [] b h = tt
  known_front (t ∷ a) b h = (h.0, known_front a b h.1)

  known_back : (a b : Word) → AllByRecursion (Known texts) (a ++ b) → AllByRecursion (Known texts) b
  known_back [] b h = h
  known_back (t ∷ a) b h = known_back a b h.1

module _ (texts : List (List ℕ)) (at : ℕ → Option State) where
  -- by what the state is
  pub reads_by : (s : ℕ) (o : Option State) (n : ℕ) (w : Word) → at s ≡ o → ReadsFrom texts o (λ r v. Run texts at n r v) w → Run texts at (suc n) s w
  reads_by s o n w e h = subst (λ x. ReadsFrom texts x (λ r v. Run texts at n r v) w) (sym e) h

  pub read_by : (s : ℕ) (o : Option State) (n : ℕ) (w : Word) → at s ≡ o → Run texts at (suc n) s w → ReadsFrom texts o (λ r v. Run texts at n r v) w
  read_by s o n w e h = subst (λ x. ReadsFrom texts x (λ r v. Run texts at n r v) w) e h

  -- a word of the kind, in front of what is read from `next` on, is read from `from` on
  abbrev pub Forwards : (Word → Type 0) → (from next : ℕ) → Type 0
  Forwards P from next =
      (w : Word) → P w → AllByRecursion (Known texts) w → (m : ℕ) (v : Word) → Run texts at m next v → (n : ℕ) × Run texts at n from (w ++ v)

  forwards_then : (P Q : Word → Type 0) (i k next : ℕ) → Forwards P i k → Forwards Q k next → Forwards (Then P Q) i next
  forwards_then P Q i k next f g w (a, b, p, q, e) known m v r =
      let k2 = subst (λ x. AllByRecursion (Known texts) x) e known in
      let s = g b q (known_back texts a b k2) m v r in
      let t = f a p (known_front texts a b k2) s.0 (b ++ v) s.1 in
      (t.0, subst (λ x. Run texts at t.0 i x) (sym (append_assoc a b v) ∙ ap (λ x. x ++ v) (sym e)) t.1)

  forwards_either : (P Q : Word → Type 0) (i x y next : ℕ) → at i ≡ Some (Fork x y) → Forwards P x next → Forwards Q y next → Forwards (λ w. P w ⊎ Q w) i next
  forwards_either P Q i x y next e f g w (inl p) known m v r =
      let s = f w p known m v r in (suc s.0, reads_by i (Some (Fork x y)) s.0 (w ++ v) e (inl s.1))
  forwards_either P Q i x y next e f g w (inr p) known m v r =
      let s = g w p known m v r in (suc s.0, reads_by i (Some (Fork x y)) s.0 (w ++ v) e (inr s.1))

  forwards_nothing : (next : ℕ) → Forwards (λ w. w ≡ []) next next
  forwards_nothing next w e known m v r = (m, subst (λ x. Run texts at m next (x ++ v)) (sym e) r)

  forwards_pieces : (P : Word → Type 0) (i x next : ℕ) → at i ≡ Some (Fork x next) → Forwards P x i → Forwards (Pieces P) i next
  forwards_pieces P i x next e f w (ps, all, parts) known m v r =
      let s = go ps all (subst (λ u. AllByRecursion (Known texts) u) parts known) in
      (s.0, subst (λ u. Run texts at s.0 i (u ++ v)) (sym parts) s.1)
    where
      go : (ps : List Word) → AllByRecursion P ps → AllByRecursion (Known texts) (joined ps) → (n : ℕ) × Run texts at n i (joined ps ++ v)
      go [] all k = (suc m, reads_by i (Some (Fork x next)) m v e (inr r))
      go (p ∷ ps) all k =
          let s = go ps all.1 (known_back texts p (joined ps) k) in
          let t = f p all.0 (known_front texts p (joined ps) k) s.0 (joined ps ++ v) s.1 in
          (suc t.0, reads_by i (Some (Fork x next)) t.0 ((p ++ joined ps) ++ v) e (inl (subst (λ u. Run texts at t.0 x u) (sym (append_assoc p (joined ps) v)) t.1)))

  forwards_label : (t : List ℕ) (i next : ℕ) → ReadsLabel texts (at i) t next → Forwards (λ w. w ≡ t ∷ []) i next
  forwards_label t i next (inl (l, s, text)) w e known m v r =
      (suc m, reads_by i (Some (Label l next)) m (w ++ v) s (t, v, ap (λ x. x ++ v) e, text, r))
  forwards_label t i next (inr (s, unknown)) w e known m v r =
      let k = subst (λ x. AllByRecursion (Known texts) x) e known in absurd (unknown k.0)

  forwards_any : (i next : ℕ) → at i ≡ Some (Any next) → Forwards (λ w. (t : List ℕ) × (w ≡ t ∷ [])) i next
  forwards_any i next s w (t, e) known m v r = (suc m, reads_by i (Some (Any next)) m (w ++ v) s (t, v, ap (λ x. x ++ v) e, r))

  forwards_gap : (k h y : ℕ) → at k ≡ Some (Fork h y) → at h ≡ Some (Any k) → Forwards AnyWord k y
  forwards_gap k h y e a [] p known m v r = (suc m, reads_by k (Some (Fork h y)) m v e (inr r))
  forwards_gap k h y e a (t ∷ w) p known m v r =
      let s = forwards_gap k h y e a w tt known.1 m v r in
      (suc (suc s.0), reads_by k (Some (Fork h y)) (suc s.0) (t ∷ (w ++ v)) e (inl (reads_by h (Some (Any k)) s.0 (t ∷ (w ++ v)) a (t, w ++ v, refl, s.1))))

  mutual
    pub forwards : (e : Expr) (low i next : ℕ) → Stands texts at e low i next → Forwards (Matches e) i next
    forwards (only s) low i next h = forwards_seq s low i next h
    forwards (or s e) low i next (x, y, fork, l, hs, he) =
        forwards_either (MatchesSeq s) (Matches e) i x y next fork (forwards_seq s low x next hs) (forwards e low y next he)

    forwards_seq : (s : Seq) (low i next : ℕ) → StandsSeq texts at s low i next → Forwards (MatchesSeq s) i next
    forwards_seq (last a) low i next h = forwards_item a low i next h
    forwards_seq (then a child s) low i next (k, ha, hs) =
        forwards_then (MatchesItem a) (MatchesSeq s) i k next (forwards_item a low i k ha) (forwards_seq s low k next hs)
    forwards_seq (then a below s) low i next (k, h, y, fork, more, lk, lh, ha, hs) =
        forwards_then (MatchesItem a) (Then AnyWord (MatchesSeq s)) i k next (forwards_item a low i k ha)
        (forwards_then AnyWord (MatchesSeq s) k y next (forwards_gap k h y fork more) (forwards_seq s low y next hs))

    forwards_item : (a : Item) (low i next : ℕ) → StandsItem texts at a low i next → Forwards (MatchesItem a) i next
    forwards_item (once a) low i next h = forwards_atom a low i next h
    forwards_item (signed a star) low i next (x, fork, l, h) = forwards_pieces (MatchesAtom a) i x next fork (forwards_atom a low x i h)
    forwards_item (signed a plus) low i next (k, fork, l, h) =
        forwards_then (MatchesAtom a) (Pieces (MatchesAtom a)) i k next (forwards_atom a low i k h)
        (forwards_pieces (MatchesAtom a) k i next fork (forwards_atom a low i k h))
    forwards_item (signed a opt) low i next (x, fork, l, h) =
        forwards_either (λ w. w ≡ []) (MatchesAtom a) i next x next fork (forwards_nothing next) (forwards_atom a low x next h)

    forwards_atom : (a : Atom) (low i next : ℕ) → StandsAtom texts at a low i next → Forwards (MatchesAtom a) i next
    forwards_atom (label t) low i next (l, h) = forwards_label t i next h
    forwards_atom any low i next (l, h) = forwards_any i next h
    forwards_atom (group e) low i next h = forwards e low i next h

  -- what is read is a word of the kind, and then what is read from `next` on
  pub record Split (P : Word → Type 0) (next n : ℕ) (w : Word) : Type 0 where
    pub front : Word
    pub back : Word
    pub left : ℕ
    pub matches : P front
    pub fewer : left ≤ n
    pub run : Run texts at left next back
    pub parts : w ≡ front ++ back

  abbrev pub Backwards : (Word → Type 0) → (from next : ℕ) → Type 0
  Backwards P from next = (n : ℕ) (w : Word) → Run texts at n from w → Split P next n w

  backwards_as : (P Q : Word → Type 0) (i next : ℕ) → ((w : Word) → P w → Q w) → Backwards P i next → Backwards Q i next
  backwards_as P Q i next to f n w r =
      let s = f n w r in
      record { front = s.front; back = s.back; left = s.left; matches = to s.front s.matches; fewer = s.fewer; run = s.run; parts = s.parts }

  backwards_then : (P Q : Word → Type 0) (i k next : ℕ) → Backwards P i k → Backwards Q k next → Backwards (Then P Q) i next
  backwards_then P Q i k next f g n w r =
      let s = f n w r in
      let t = g s.left s.back s.run in
      let fewer1 = s.fewer in
      let fewer2 = t.fewer in
      record {
        front = s.front ++ t.front;
        back = t.back;
        left = t.left;
        matches = (s.front, t.front, s.matches, t.matches, refl);
        fewer = omega arith;
        run = t.run;
        parts = s.parts ∙ ap (λ x. s.front ++ x) t.parts ∙ sym (append_assoc s.front t.front t.back);
      }

  backwards_either : (P Q : Word → Type 0) (i x y next : ℕ) → at i ≡ Some (Fork x y) → Backwards P x next → Backwards Q y next → Backwards (λ w. P w ⊎ Q w) i next
  backwards_either P Q i x y next e f g zero w r = absurd r
  backwards_either P Q i x y next e f g (suc n) w r = elim (read_by i (Some (Fork x y)) n w e r) [
    | inl h ↦ (
        let s = f n w h in
        let fewer1 = s.fewer in
        record { front = s.front; back = s.back; left = s.left; matches = inl s.matches; fewer = omega arith; run = s.run; parts = s.parts })
    | inr h ↦ (
        let s = g n w h in
        let fewer1 = s.fewer in
        record { front = s.front; back = s.back; left = s.left; matches = inr s.matches; fewer = omega arith; run = s.run; parts = s.parts })
  ]

  backwards_nothing : (next : ℕ) → Backwards (λ w. w ≡ []) next next
  backwards_nothing next n w r = record { front = []; back = w; left = n; matches = refl; fewer = omega arith; run = r; parts = refl }

  backwards_pieces : (P : Word → Type 0) (i x next : ℕ) → at i ≡ Some (Fork x next) → Backwards P x i → Backwards (Pieces P) i next
  backwards_pieces P i x next e f n w r = go n n w (omega arith) r
    where
      go : (most n : ℕ) (w : Word) → n ≤ most → Run texts at n i w → Split (Pieces P) next n w
      go most zero w l r = absurd r
      go zero (suc n) w l r = absurd (omega arith)
      go (suc most) (suc n) w l r = elim (read_by i (Some (Fork x next)) n w e r) [
        | inl h ↦ (
            let s = f n w h in
            let fewer1 = s.fewer in
            let t = go most s.left s.back (omega arith) s.run in
            let fewer2 = t.fewer in
            record {
              front = s.front ++ t.front;
              back = t.back;
              left = t.left;
              matches = (s.front ∷ t.matches.0, (s.matches, t.matches.1), ap (λ u. s.front ++ u) t.matches.2);
              fewer = omega arith;
              run = t.run;
              parts = s.parts ∙ ap (λ u. s.front ++ u) t.parts ∙ sym (append_assoc s.front t.front t.back);
            })
        | inr h ↦ record { front = []; back = w; left = n; matches = ([], tt, refl); fewer = omega arith; run = h; parts = refl }
      ]

  backwards_label : (t : List ℕ) (i next : ℕ) → ReadsLabel texts (at i) t next → Backwards (λ w. w ≡ t ∷ []) i next
  backwards_label t i next h zero w r = absurd r
  backwards_label t i next (inl (l, s, text)) (suc n) w r =
      let h = read_by i (Some (Label l next)) n w s r in
      let same : h.0 ≡ t = same_Some h.0 t (sym h.3 ∙ text) in
      record { front = t ∷ []; back = h.1; left = n; matches = refl; fewer = omega arith; run = h.4; parts = h.2 ∙ ap (λ x. x ∷ h.1) same }
  backwards_label t i next (inr (s, unknown)) (suc n) w r = absurd (read_by i (Some Stuck) n w s r)

  backwards_any : (i next : ℕ) → at i ≡ Some (Any next) → Backwards (λ w. (t : List ℕ) × (w ≡ t ∷ [])) i next
  backwards_any i next s zero w r = absurd r
  backwards_any i next s (suc n) w r =
      let h = read_by i (Some (Any next)) n w s r in
      record { front = h.0 ∷ []; back = h.1; left = n; matches = (h.0, refl); fewer = omega arith; run = h.3; parts = h.2 }

  backwards_gap : (k h y : ℕ) → at k ≡ Some (Fork h y) → at h ≡ Some (Any k) → Backwards AnyWord k y
  backwards_gap k h y e a =
      backwards_as (Pieces (λ w. (t : List ℕ) × (w ≡ t ∷ []))) AnyWord k y (λ w p. tt)
      (backwards_pieces (λ w. (t : List ℕ) × (w ≡ t ∷ [])) k h y e (backwards_any h k a))

  mutual
    pub backwards : (e : Expr) (low i next : ℕ) → Stands texts at e low i next → Backwards (Matches e) i next
    backwards (only s) low i next h = backwards_seq s low i next h
    backwards (or s e) low i next (x, y, fork, l, hs, he) =
        backwards_either (MatchesSeq s) (Matches e) i x y next fork (backwards_seq s low x next hs) (backwards e low y next he)

    backwards_seq : (s : Seq) (low i next : ℕ) → StandsSeq texts at s low i next → Backwards (MatchesSeq s) i next
    backwards_seq (last a) low i next h = backwards_item a low i next h
    backwards_seq (then a child s) low i next (k, ha, hs) =
        backwards_then (MatchesItem a) (MatchesSeq s) i k next (backwards_item a low i k ha) (backwards_seq s low k next hs)
    backwards_seq (then a below s) low i next (k, h, y, fork, more, lk, lh, ha, hs) =
        backwards_then (MatchesItem a) (Then AnyWord (MatchesSeq s)) i k next (backwards_item a low i k ha)
        (backwards_then AnyWord (MatchesSeq s) k y next (backwards_gap k h y fork more) (backwards_seq s low y next hs))

    backwards_item : (a : Item) (low i next : ℕ) → StandsItem texts at a low i next → Backwards (MatchesItem a) i next
    backwards_item (once a) low i next h = backwards_atom a low i next h
    backwards_item (signed a star) low i next (x, fork, l, h) = backwards_pieces (MatchesAtom a) i x next fork (backwards_atom a low x i h)
    backwards_item (signed a plus) low i next (k, fork, l, h) =
        backwards_then (MatchesAtom a) (Pieces (MatchesAtom a)) i k next (backwards_atom a low i k h)
        (backwards_pieces (MatchesAtom a) k i next fork (backwards_atom a low i k h))
    backwards_item (signed a opt) low i next (x, fork, l, h) =
        backwards_either (λ w. w ≡ []) (MatchesAtom a) i next x next fork (backwards_nothing next) (backwards_atom a low x next h)

    backwards_atom : (a : Atom) (low i next : ℕ) → StandsAtom texts at a low i next → Backwards (MatchesAtom a) i next
    backwards_atom (label t) low i next (l, h) = backwards_label t i next h
    backwards_atom any low i next (l, h) = backwards_any i next h
    backwards_atom (group e) low i next h = backwards e low i next h

  ended : (n : ℕ) (w : Word) → at 0 ≡ Some End → Run texts at n 0 w → w ≡ []
  ended zero w e r = absurd r
  ended (suc n) w e r = read_by 0 (Some End) n w e r

  -- what is read matches
  pub read_matches : (e : Expr) (low start : ℕ) → Stands texts at e low start 0 → at 0 ≡ Some End → (n : ℕ) (w : Word) → Run texts at n start w → Matches e w
  read_matches e low start h end n w r =
      let s = backwards e low start 0 h n w r in
      let nothing = ended s.left s.back end s.run in
      subst (λ x. Matches e x) (sym (s.parts ∙ ap (λ x. s.front ++ x) nothing ∙ append-nil s.front)) s.matches

  -- what matches is read
  pub matches_read : (e : Expr) (low start : ℕ) → Stands texts at e low start 0 → at 0 ≡ Some End → (w : Word) → Matches e w → AllByRecursion (Known texts) w
      → (n : ℕ) × Run texts at n start w
  matches_read e low start h end w m known =
      let s = forwards e low start 0 h w m known 1 [] (reads_by 0 (Some End) 0 [] end refl) in
      (s.0, subst (λ x. Run texts at s.0 start x) (append-nil w) s.1)
