-- How the parts of an automaton are put together.
use Rattle.std.proofs.Common.{◌≡◌, ℕ, ◌+◌, ◌-◌, ◌<◌, ◌≤◌, get_or, drop, List, [], ◌∷◌, ◌++◌, length, refl, sym, ap, ◌∙◌, subst, arith, Option, Some, set, length-set}
use Rattle.std.specs.Prelude.{slice_get, Result, Ok, Err, IfOk, OnOk}
use Rattle.std.proofs.lemmas.Option.{slice_get_within}
use Rattle.std.proofs.lemmas.List.{length_push, drop_more}
use Rattle.path_automaton.specs.declared.state.State.{State}
use Rattle.path_automaton.specs.declared.state.State.TheVariants.{Fork, Any}
use Rattle.path_spec.specs.Trees as tree
use Rattle.path_expr.specs.ExprAutomata.{Stands, StandsSeq, StandsItem, StandsAtom}
use Rattle.path_expr.proofs.MovedParts.{moved, moved_seq, moved_item, moved_atom}
use Rattle.path_automaton.proofs.Inside.{get_push, get_last, get_set, get_set_other}
use Rattle.path_expr.specs.declared.tree.Sep.{Sep}
use Rattle.path_expr.specs.declared.tree.Sep.TheVariants.{Child, Below}
use Rattle.path_expr.specs.declared.tree.Following.{Following}
use Rattle.path_expr.specs.declared.tree.Seq.{Seq}
use Rattle.path_expr.specs.ExprTrees.{sep_of, item_of, seq_of, seq_from, expr_from}
use Rattle.path_spec.specs.Trimmed.{trimmed_seq, trimmed}
use Rattle.path_expr.specs.Compiled.{Grows, HasFork, HasSep, expr_by, StandMore, StandSep, StandRest}

pub grows_same : (a : List State) → Grows a a
grows_same a = record { longer = omega arith; kept = λ k s e. e }

pub grows_then : (a b c : List State) → Grows a b → Grows b c → Grows a c
grows_then a b c h k =
    let l1 = h.longer in
    let l2 = k.longer in
    record { longer = omega arith; kept = λ i s e. k.kept i s (h.kept i s e) }

pub grows_push : (a b : List State) (s : State) → b ≡ a ++ s ∷ [] → Grows a b
grows_push a b s e = subst (Grows a) (sym e) (record { longer = omega (arith, length_push a s); kept = λ i x h. get_push a s i x h })

-- a state behind the first ones is written
pub grows_set : (a b c : List State) (i : ℕ) (s : State) → length a ≤ i → Grows a b → c ≡ set b i s → Grows a c
grows_set a b c i s past h e =
    let l = h.longer in
    subst (Grows a) (sym e) (record {
      longer = omega (arith, length-set b i s);
      kept = λ k x f.
          let within = slice_get_within a k x f in
          get_set_other b i s k (λ same. absurd (omega (arith, same))) ∙ h.kept k x f;
    })

module _ (texts : List (List ℕ)) where
  pub atom_on : (a : tree.Atom) (p q : List State) (low i next : ℕ) → Grows p q → StandsAtom texts (λ k. slice_get p k) a low i next → StandsAtom texts (λ k. slice_get q k) a low i next
  atom_on a p q low i next g h = moved_atom texts (λ k. slice_get p k) (λ k. slice_get q k) a low low i next (omega arith) (λ k s l e. g.kept k s e) h

  pub seq_on : (a : tree.Seq) (p q : List State) (low low2 i next : ℕ) → low2 ≤ low → Grows p q → StandsSeq texts (λ k. slice_get p k) a low i next → StandsSeq texts (λ k. slice_get q k) a low2 i next
  seq_on a p q low low2 i next le g h = moved_seq texts (λ k. slice_get p k) (λ k. slice_get q k) a low low2 i next le (λ k s l e. g.kept k s e) h

  pub expr_on : (a : tree.Expr) (p q : List State) (low low2 i next : ℕ) → low2 ≤ low → Grows p q → Stands texts (λ k. slice_get p k) a low i next → Stands texts (λ k. slice_get q k) a low2 i next
  expr_on a p q low low2 i next le g h = moved texts (λ k. slice_get p k) (λ k. slice_get q k) a low low2 i next le (λ k s l e. g.kept k s e) h

  pub item_on : (a : tree.Item) (p q : List State) (low low2 i next : ℕ) → low2 ≤ low → Grows p q → StandsItem texts (λ k. slice_get p k) a low i next → StandsItem texts (λ k. slice_get q k) a low2 i next
  item_on a p q low low2 i next le g h = moved_item texts (λ k. slice_get p k) (λ k. slice_get q k) a low low2 i next le (λ k s l e. g.kept k s e) h

  pub rest_on : (ss : List Following) (p q : List State) (low next after : ℕ) → Grows p q → StandRest texts p low ss next after → StandRest texts q low ss next after
  rest_on [] p q low next after g h = h
  rest_on (s ∷ ss) p q low next after g h = by s.sep h
    where
      by : (o : Sep) → StandSep texts p low o (seq_from (item_of s.item) ss) next after → StandSep texts q low o (seq_from (item_of s.item) ss) next after
      by Child h = seq_on (seq_from (item_of s.item) ss) p q low low after next (omega arith) g h
      by Below (x, y, fork, more, la, lx, hs) = (x, y, g.kept after (Fork x y) fork, g.kept x (Any after) more, la, lx, seq_on (seq_from (item_of s.item) ss) p q low low y next (omega arith) g hs)

  pub more_on : (f : tree.Seq → tree.Seq) (ss : List Seq) (p q : List State) (low next : ℕ) (behind : Option ℕ) → Grows p q → StandMore texts p low f ss next behind → StandMore texts q low f ss next behind
  more_on f [] p q low next behind g h = h
  more_on f (s ∷ ss) p q low next behind g (i, e, l, h) =
      let longer = g.longer in
      (i, e, omega arith, expr_on (expr_by f (seq_of s) ss) p q low low i next (omega arith) g h)

  -- an item in front of steps
  pub item_then : (a : tree.Item) (ss : List Following) (p : List State) (low first next after : ℕ) → StandsItem texts (λ k. slice_get p k) a low first after → StandRest texts p low ss next after
      → StandsSeq texts (λ k. slice_get p k) (seq_from a ss) low first next
  item_then a [] p low first next after h e = subst (λ x. StandsItem texts (λ k. slice_get p k) a low first x) e h
  item_then a (s ∷ ss) p low first next after h k = by s.sep k
    where
      by : (o : Sep) → StandSep texts p low o (seq_from (item_of s.item) ss) next after → StandsSeq texts (λ k. slice_get p k) (tree.then a (sep_of o) (seq_from (item_of s.item) ss)) low first next
      by Child k = (after, h, k)
      by Below (x, y, fork, more, la, lx, hs) = (after, x, y, fork, more, la, lx, h, hs)

  -- a separator in front of what stands
  pub sep_then : (s : Following) (ss : List Following) (p q : List State) (low first next after : ℕ) → low ≤ length p → Grows p q → HasSep s.sep p q first after
      → StandsSeq texts (λ k. slice_get p k) (seq_from (item_of s.item) ss) low first next → StandRest texts q low (s ∷ ss) next after
  sep_then s ss p q low first next after le g has h = by s.sep has
    where
      by : (o : Sep) → HasSep o p q first after → StandSep texts q low o (seq_from (item_of s.item) ss) next after
      by Child e = subst (λ x. StandsSeq texts (λ k. slice_get q k) (seq_from (item_of s.item) ss) low x next) (sym e) (seq_on (seq_from (item_of s.item) ss) p q low low first next (omega arith) g h)
      by Below (x, fork, more, la, lx) = (x, first, fork, more, omega arith, omega arith, seq_on (seq_from (item_of s.item) ss) p q low low first next (omega arith) g h)

  -- alternatives in front of others
  pub fork_then : (f : tree.Seq → tree.Seq) (s : tree.Seq) (ss : List Seq) (p q : List State) (low first next : ℕ) (behind : Option ℕ) (i : ℕ) → low ≤ length p → Grows p q → HasFork p q first behind i
      → StandsSeq texts (λ k. slice_get p k) (f s) low first next → StandMore texts p low f ss next behind → Stands texts (λ k. slice_get q k) (expr_by f s ss) low i next
  fork_then f s [] p q low first next behind i le g has h none =
      let e : i ≡ first = subst (λ b. HasFork p q first b i) none has in
      subst (λ x. StandsSeq texts (λ k. slice_get q k) (f s) low x next) (sym e) (seq_on (f s) p q low low first next (omega arith) g h)
  fork_then f s (r ∷ rs) p q low first next behind i le g has h (j, some, l, k) =
      let fork : (slice_get q i ≡ Some (Fork first j)) × (length p ≤ i) = subst (λ b. HasFork p q first b i) some has in
      let past : length p ≤ i = fork.1 in
      (first, j, fork.0, omega arith, seq_on (f s) p q low low first next (omega arith) g h, expr_on (expr_by f (seq_of r) rs) p q low low j next (omega arith) g k)

  module _ (a : tree.Atom) (p0 p1 p2 p3 : List State) (fork first next : ℕ) (number : fork ≡ length p0) (pushed : p1 ≡ p0 ++ Fork next next ∷ [])
      (grows : Grows p1 p2) (written : p3 ≡ set p2 fork (Fork first next)) where
    longer1 : length p1 ≡ length p0 + 1
    longer1 = ap length pushed ∙ length_push p0 (Fork next next)

    within : fork < length p2
    within = let l1 = longer1 in let l2 = grows.longer in omega arith

    pub loop_grows : Grows p0 p3
    loop_grows = grows_set p0 p2 p3 fork (Fork first next) (omega arith) (grows_then p0 p1 p2 (grows_push p0 p1 (Fork next next) pushed) grows) written

    fork_is : slice_get p3 fork ≡ Some (Fork first next)
    fork_is = ap (λ x. slice_get x fork) written ∙ get_set p2 fork (Fork first next) within

    atom_stays : StandsAtom texts (λ k. slice_get p2 k) a (length p1) first fork → StandsAtom texts (λ k. slice_get p3 k) a (length p0) first fork
    atom_stays h =
        let l1 = longer1 in
        moved_atom texts (λ k. slice_get p2 k) (λ k. slice_get p3 k) a (length p1) (length p0) first fork (omega arith)
        (λ k s l e. ap (λ x. slice_get x k) written ∙ get_set_other p2 fork (Fork first next) k (λ same. absurd (omega (arith, same, l))) ∙ e) h

    pub star_stands : StandsAtom texts (λ k. slice_get p2 k) a (length p1) first fork → StandsItem texts (λ k. slice_get p3 k) (tree.signed a tree.star) (length p0) fork next
    star_stands h = (first, fork_is, omega arith, atom_stays h)

    pub plus_stands : StandsAtom texts (λ k. slice_get p2 k) a (length p1) first fork → StandsItem texts (λ k. slice_get p3 k) (tree.signed a tree.plus) (length p0) first next
    plus_stands h = (fork, fork_is, omega arith, atom_stays h)

  pub opt_stands : (a : tree.Atom) (p0 p1 p2 : List State) (first next i : ℕ) → Grows p0 p1 → StandsAtom texts (λ k. slice_get p1 k) a (length p0) first next
      → p2 ≡ p1 ++ Fork next first ∷ [] → i ≡ length p1 → StandsItem texts (λ k. slice_get p2 k) (tree.signed a tree.opt) (length p0) i next
  opt_stands a p0 p1 p2 first next i grows h pushed number =
      let l = grows.longer in (
        first,
        ap (λ x. slice_get x i) pushed ∙ ap (slice_get (p1 ++ Fork next first ∷ [])) number ∙ get_last p1 (Fork next first),
        omega arith,
        atom_on a p1 p2 (length p0) first next (grows_push p1 p2 (Fork next first) pushed) h,
      )

  pub alternatives : (f : tree.Seq → tree.Seq) (s : tree.Seq) (ss : List Seq) (p0 p q : List State) (low first next : ℕ) (behind : Option ℕ) (i : ℕ) → low ≤ length p0 → Grows p0 p → Grows p q
      → HasFork p q first behind i → StandsSeq texts (λ k. slice_get p k) (f s) (length p0) first next → StandMore texts p0 low f ss next behind
      → Stands texts (λ k. slice_get q k) (expr_by f s ss) low i next
  alternatives f s ss p0 p q low first next behind i le g g2 has h k =
      let l = g.longer in
      fork_then f s ss p q low first next behind i (omega arith) g2 has (seq_on (f s) p p (length p0) low first next le (grows_same p) h) (more_on f ss p0 p low next behind g k)

  pub more_then : (f : tree.Seq → tree.Seq) (xs : List Seq) (s : Seq) (ss : List Seq) (p0 p q : List State) (low first next : ℕ) (behind : Option ℕ) (i : ℕ) → xs ≡ s ∷ ss → low ≤ length p0 → Grows p0 p → Grows p q
      → HasFork p q first behind i → i < length q → StandsSeq texts (λ k. slice_get p k) (f (seq_of s)) (length p0) first next → StandMore texts p0 low f ss next behind
      → StandMore texts q low f xs next (Some i)
  more_then f xs s ss p0 p q low first next behind i e le g g2 has l h k =
      subst (λ x. StandMore texts q low f x next (Some i)) (sym e) (i, refl, l, alternatives f (seq_of s) ss p0 p q low first next behind i le g g2 has h k)

  pub rest_then : (xs : List Following) (s : Following) (ss : List Following) (p0 p q : List State) (low first after next after2 : ℕ) → xs ≡ s ∷ ss → low ≤ length p0 → Grows p0 p → Grows p q
      → HasSep s.sep p q first after2 → StandsItem texts (λ k. slice_get p k) (item_of s.item) (length p0) first after → StandRest texts p0 low ss next after
      → StandRest texts q low xs next after2
  rest_then xs s ss p0 p q low first after next after2 e le g g2 has h k =
      let l = g.longer in
      subst (λ x. StandRest texts q low x next after2) (sym e)
      (sep_then s ss p q low first next after2 (omega arith) g2 has
      (item_then (item_of s.item) ss p low first next after (item_on (item_of s.item) p p (length p0) low first after le (grows_same p) h) (rest_on ss p0 p low next after g k)))

  pub whole_seq : (a : tree.Item) (ss : List Following) (p0 p : List State) (low first after next : ℕ) → low ≤ length p0 → Grows p0 p
      → StandsItem texts (λ k. slice_get p k) a (length p0) first after → StandRest texts p0 low ss next after → StandsSeq texts (λ k. slice_get p k) (seq_from a ss) low first next
  whole_seq a ss p0 p low first after next le g h k =
      item_then a ss p low first next after (item_on a p p (length p0) low first after le (grows_same p) h) (rest_on ss p0 p low next after g k)

-- as they are, the alternatives are the expression's
pub expr_same : (s : tree.Seq) (ss : List Seq) → expr_by (λ r. r) s ss ≡ expr_from s ss
expr_same s [] = refl
expr_same s (r ∷ rs) = ap (tree.or s) (expr_same (seq_of r) rs)

pub expr_trimmed : (s : tree.Seq) (ss : List Seq) → expr_by trimmed_seq s ss ≡ trimmed (expr_from s ss)
expr_trimmed s [] = refl
expr_trimmed s (r ∷ rs) = ap (tree.or (trimmed_seq s)) (expr_trimmed (seq_of r) rs)

-- one step back in a list
pub drop_back : {X : Type 0} (xs : List X) (j : ℕ) (x : X) → 0 < j → j ≤ length xs → x ≡ get_or xs (j - 1) x → drop (j - 1) xs ≡ x ∷ drop j xs
drop_back xs j x some le e =
    let back : j - 1 + 1 ≡ j = omega arith in
    drop_more xs (j - 1) x (omega arith) ∙ ap (λ y. y ∷ drop (j - 1 + 1) xs) (sym e) ∙ ap (λ n. x ∷ drop n xs) back

pub drop_none : {X : Type 0} (xs : List X) (j : ℕ) → j ≤ 0 → drop j xs ≡ xs
drop_none xs j h = let none : j ≡ 0 = omega arith in ap (λ n. drop n xs) none

-- two facts of one result
pub opt_ok : {X E : Type 0} (r : Result X E) (P : X → Type 0) (Q : Type 0) (S : X → Type 0) → ((x : X) → P x → Q → S x) → IfOk r P → OnOk r Q → IfOk r S
opt_ok (Ok x) P Q S to h k = to x h k
opt_ok (Err e) P Q S to h k = tt
