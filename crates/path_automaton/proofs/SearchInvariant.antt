-- What the search keeps.
use Rattle.std.proofs.Common.{◌≡◌, ℕ, ◌<◌, ◌⊎◌, inl, inr, List, [], ◌++◌, length, get_or, Bool, true, false, refl, sym, subst, arith, Option, None, Some, IsTrue, IsSome, true≢false, eq-eqb, ne_eqb, rules}
use Rattle.std.specs.Prelude.{◌&&◌, is_some, if◌then◌else◌}
use Rattle.std.proofs.lemmas.Bool.{cases_eq}
use Rattle.std.specs.List.Sorted.{IsStrictlyIncreasing}
use Rattle.graph_spec.specs.Members.{has}
use Rattle.path_automaton.specs.declared.state.State.{State}
use Rattle.path_automaton.specs.declared.state.State.TheVariants.{End, Stuck, Any, Label, Fork}
use Rattle.path_automaton.specs.ProductSteps.{leads, label_in, edge_in, Succeeds, Reached, begin, onward, AreEnds}
use Rattle.path_automaton.specs.Programs.{state_at, AreInside}
use Rattle.path_automaton.specs.MarkRows.{IsMarked}
use Rattle.path_automaton.specs.ListedPairs.{all_at, Among}
use Rattle.path_automaton.specs.NewMarks.{SpreadsOver, SucceedsOne, Enters, EndsHere, IsNoFork, IsEntered, MarksOne, IsPlace}
use Rattle.path_automaton.proofs.RowMarks.{has_there}
use Rattle.path_automaton.proofs.PairMarks.{among_more, among_back, among_cases, among_at, at_among}

module _ (at : ℕ → Option State) (size : ℕ) (label_at : ℕ → Option ℕ) (edge : ℕ → ℕ → Bool) (First : ℕ → Type 0) (start states : ℕ) where
  -- the state is an end, and was noted with no mark
  abbrev pub IsNoted : List ℕ → ℕ → ℕ → Type 0
  IsNoted answers s v = (at s ≡ Some End) × (v < size → IsTrue (has answers v))

  -- the state is no end, and what succeeds it is marked
  abbrev pub IsPassed : List (List Bool) → ℕ → ℕ → Type 0
  IsPassed marks s v = (at s ≡ Some End → ⊥) × ((s2 v2 : ℕ) → Succeeds size label_at edge (at s) v s2 v2 → IsMarked marks s2 v2)

  -- the pair was visited
  pub record IsDone (marks : List (List Bool)) (answers : List ℕ) (s v : ℕ) : Type 0 where
    pub onto : (s2 v2 : ℕ) → Succeeds size label_at edge (at s) v s2 v2 → IsMarked marks s2 v2 ⊎ (IsNoted answers s2 v2 ⊎ IsPassed marks s2 v2)
    pub ends : at s ≡ Some End → v < size → IsTrue (has answers v)

  pub record IsSearching (marks : List (List Bool)) (worklist : List (ℕ × ℕ)) (answers : List ℕ) : Type 0 where
    pub reached : (s v : ℕ) → IsMarked marks s v → Reached at size label_at edge First start s v
    pub visited : (s v : ℕ) → IsMarked marks s v → Among worklist s v ⊎ IsDone marks answers s v
    pub listed : (s v : ℕ) → Among worklist s v → IsMarked marks s v × (s < states) × IsPlace size label_at v
    pub begun : (v : ℕ) → First v → IsMarked marks start v
    pub found : (v : ℕ) → IsTrue (has answers v) → (s : ℕ) × (at s ≡ Some End) × (v < size) × Reached at size label_at edge First start s v
    pub rising : IsStrictlyIncreasing answers

  pub searching_begins : (m m2 : List (List Bool)) (k2 : List (ℕ × ℕ)) → start < states → ((s v : ℕ) → IsMarked m s v → ⊥) → IsStrictlyIncreasing []
      → SpreadsOver (λ s v. (s ≡ start) × First v) m m2 [] k2 → ((v : ℕ) → First v → IsMarked m2 start v) → ((v : ℕ) → First v → IsPlace size label_at v) → IsSearching m2 k2 []
  searching_begins m m2 k2 below empty rising a begun places =
      record {
        reached = λ s v h. elim (a.fresh s v h) [
          | inl old ↦ absurd (empty s v old)
          | inr p ↦ subst (λ x. Reached at size label_at edge First start x v) (sym p.0.0) (begin v p.0.1)
        ];
        visited = λ s v h. elim (a.fresh s v h) [ inl old ↦ absurd (empty s v old) | inr p ↦ inl p.1 ];
        listed = λ s v h. elim (a.source s v h) [
          | inl old ↦ absurd old
          | inr e ↦ (
            e.1,
            subst (λ x. x < states) (sym e.0.0) below,
            places v e.0.1,
          )
        ];
        begun = begun;
        found = λ v h. absurd (true≢false (sym h));
        rising = rising;
      }

  -- what is taken was listed
  pub place_listed : (m : List (List Bool)) (ks k : List (ℕ × ℕ)) (s0 : ℕ) (places : List ℕ) (a : List ℕ) → IsSearching m ks a → ks ≡ k ++ all_at s0 places
      → (v : ℕ) → IsTrue (has places v) → IsMarked m s0 v × (s0 < states) × IsPlace size label_at v
  place_listed m ks k s0 places a h was v p = h.listed s0 v (subst (λ y. Among y s0 v) (sym was) (among_back k (all_at s0 places) s0 v (among_at s0 v places p)))

  pub state_listed : (m : List (List Bool)) (ks k : List (ℕ × ℕ)) (s0 : ℕ) (places : List ℕ) (a : List ℕ) → IsSearching m ks a → ks ≡ k ++ all_at s0 places
      → 0 < length places → s0 < states
  state_listed m ks k s0 places a h was some = (place_listed m ks k s0 places a h was (get_or places 0 0) (has_there places 0 some)).1

  -- a state with places enters another there
  entered_at : (o : Option State) (v k : ℕ) → Enters o k → Succeeds size label_at edge o v k v
  entered_at None v k h = absurd h
  entered_at (Some End) v k h = absurd h
  entered_at (Some Stuck) v k h = absurd h
  entered_at (Some (Any next)) v k h = absurd h
  entered_at (Some (Label l next)) v k h = absurd h
  entered_at (Some (Fork a b)) v k h = (h, refl)

  -- a state enters another, or none
  fork_or_none : (o : Option State) (v s c : ℕ) → Succeeds size label_at edge o v s c → IsNoFork o ⊎ (Enters o s × (c ≡ v))
  fork_or_none None v s c t = absurd t
  fork_or_none (Some End) v s c t = absurd t
  fork_or_none (Some Stuck) v s c t = absurd t
  fork_or_none (Some (Any next)) v s c t = inl (λ a b e. cc)
  fork_or_none (Some (Label l next)) v s c t = inl (λ a b e. cc)
  fork_or_none (Some (Fork a b)) v s c t = inr t

  -- nothing succeeds an end
  past_end : (s v s2 v2 : ℕ) → at s ≡ Some End → Succeeds size label_at edge (at s) v s2 v2 → ⊥
  past_end s v s2 v2 e k = subst (λ o. Succeeds size label_at edge o v s2 v2) e k

  -- an end that is entered is reached where its fork is
  reached_here : (s v : ℕ) → EndsHere at s → Reached at size label_at edge First start s v → (k : ℕ) × (at k ≡ Some End) × Reached at size label_at edge First start k v
  reached_here s v (inl e) r = (s, e, r)
  reached_here s v (inr (k, enters, e)) r = (k, e, onward s v k v r (entered_at (at s) v k enters))

  -- what is entered is marked, or noted, or passed
  pub entered_is : (s0 : ℕ) (places : List ℕ) (m2 : List (List Bool)) (a2 : List ℕ) (k v : ℕ) → Enters (at s0) k → IsTrue (has places v) → IsEntered at size label_at edge k places m2
      → (EndsHere at s0 → v < size → IsTrue (has a2 v)) → IsMarked m2 k v ⊎ (IsNoted a2 k v ⊎ IsPassed m2 k v)
  entered_is s0 places m2 a2 k v enters p (inl end) noted = inr (inl (end, λ b. noted (inr (k, enters, end)) b))
  entered_is s0 places m2 a2 k v enters p (inr (inl marks)) noted = inl (marks v p)
  entered_is s0 places m2 a2 k v enters p (inr (inr passed)) noted = inr (inr (passed.0, λ s2 v2 t. passed.1 s2 v2 (v, p, t)))

  marks_reached : (s0 : ℕ) (places : List ℕ) (s c : ℕ) → ((v : ℕ) → IsTrue (has places v) → Reached at size label_at edge First start s0 v)
      → MarksOne at size label_at edge s0 places s c → Reached at size label_at edge First start s c
  marks_reached s0 places s c from (inl (v, p, t)) = onward s0 v s c (from v p) t
  marks_reached s0 places s c from (inr (k, enters, (v, p, t))) = onward k v s c (onward s0 v k v (from v p) (entered_at (at s0) v k enters)) t

  pub searching_next : (m m2 : List (List Bool)) (ks k k2 : List (ℕ × ℕ)) (s0 : ℕ) (places : List ℕ) (a a2 : List ℕ)
      → IsSearching m ks a
      → ks ≡ k ++ all_at s0 places
      → SpreadsOver (MarksOne at size label_at edge s0 places) m m2 k k2
      → (IsNoFork (at s0) → (s c : ℕ) → SucceedsOne size label_at edge (at s0) places s c → IsMarked m2 s c)
      → ((k : ℕ) → Enters (at s0) k → IsEntered at size label_at edge k places m2)
      → ((s c : ℕ) → MarksOne at size label_at edge s0 places s c → (s < states) × IsPlace size label_at c)
      → ((v : ℕ) → IsTrue (has a v) → IsTrue (has a2 v))
      → (EndsHere at s0 → (v : ℕ) → IsTrue (has places v) → v < size → IsTrue (has a2 v))
      → ((v : ℕ) → IsTrue (has a2 v) → IsTrue (has a v) ⊎ (EndsHere at s0 × (v < size) × IsTrue (has places v)))
      → IsStrictlyIncreasing a2
      → IsSearching m2 k2 a2
  searching_next m m2 ks k k2 s0 places a a2 h was spreads marked entered inside kept noted source rising =
      let on : (s v : ℕ) → IsMarked m s v → IsMarked m2 s v = λ s v x. spreads.grows s v x in
      let still : (s v : ℕ) → IsDone m a s v → IsDone m2 a2 s v = λ s v d. record {
        onto = λ s2 v2 t. elim (d.onto s2 v2 t) [
          | inl x ↦ inl (on s2 v2 x)
          | inr (inl n) ↦ inr (inl (n.0, λ b. kept v2 (n.1 b)))
          | inr (inr p) ↦ inr (inr (p.0, λ s3 v3 k3. on s3 v3 (p.1 s3 v3 k3)))
        ];
        ends = λ e b. kept v (d.ends e b);
      } in
      let done : (v : ℕ) → IsTrue (has places v) → IsDone m2 a2 s0 v = λ v p. record {
        onto = λ s2 v2 t. elim (fork_or_none (at s0) v s2 v2 t) [
          | inl none ↦ inl (marked none s2 v2 (v, p, t))
          | inr e ↦
              let q : IsTrue (has places v2) = subst (λ x. IsTrue (has places x)) (sym e.1) p in
              entered_is s0 places m2 a2 s2 v2 e.0 q (entered s2 e.0) (λ here b. noted here v2 q b)
        ];
        ends = λ e b. noted (inl e) v p b;
      } in
      let from : (v : ℕ) → IsTrue (has places v) → Reached at size label_at edge First start s0 v = λ v p. h.reached s0 v (place_listed m ks k s0 places a h was v p).0 in
      record {
        reached = λ s v x. elim (spreads.fresh s v x) [
          | inl old ↦ h.reached s v old
          | inr r ↦ marks_reached s0 places s v from r.0
        ];
        visited = λ s v x. elim (spreads.fresh s v x) [
          | inl old ↦ elim (h.visited s v old) [
            | inl w ↦ elim (among_cases k (all_at s0 places) s v (subst (λ y. Among y s v) was w)) [
              | inl b ↦ inl (spreads.kept s v b)
              | inr e ↦ (let p = at_among s0 s v places e in inr (subst (λ y. IsDone m2 a2 y v) (sym p.0) (done v p.1)))
            ]
            | inr d ↦ inr (still s v d)
          ]
          | inr r ↦ inl r.1
        ];
        listed = λ s v x. elim (spreads.source s v x) [
          | inl b ↦ (let w = h.listed s v (subst (λ y. Among y s v) (sym was) (among_more k (all_at s0 places) s v b)) in (on s v w.0, w.1, w.2))
          | inr r ↦ (let i = inside s v r.0 in (r.1, i.0, i.1))
        ];
        begun = λ v f. on start v (h.begun v f);
        found = λ v x. elim (source v x) [
          | inl old ↦ h.found v old
          | inr e ↦ (let r = reached_here s0 v e.0 (from v e.2) in (r.0, r.1, e.1, r.2))
        ];
        rising = rising;
      }

  module _ (m : List (List Bool)) (a : List ℕ) (h : IsSearching m [] a) where
    done_of : (s v : ℕ) → IsMarked m s v → IsDone m a s v
    done_of s v x = elim (h.visited s v x) [ inl w ↦ absurd w | inr d ↦ d ]

    marked_of : (s v : ℕ) → Reached at size label_at edge First start s v → IsMarked m s v ⊎ (IsNoted a s v ⊎ IsPassed m s v)
    marked_of s v (begin v0 f) = inl (h.begun v f)
    marked_of s v (onward s0 v0 s1 v1 r k) = elim (marked_of s0 v0 r) [
      | inl x ↦ (done_of s0 v0 x).onto s1 v1 k
      | inr (inl n) ↦ absurd (past_end s0 v0 s1 v1 n.0 k)
      | inr (inr p) ↦ inl (p.1 s1 v1 k)
    ]

    pub searching_ends : AreEnds at size label_at edge First start a
    searching_ends = record {
      rising = h.rising;
      sound = λ v x. h.found v x;
      complete = λ s v e b r. elim (marked_of s v r) [ inl x ↦ (done_of s v x).ends e b | inr (inl n) ↦ n.1 b | inr (inr p) ↦ absurd (p.0 e) ];
    }

-- an edge between nodes that a test keeps ends at one
pub ends_in : (keeps : ℕ → Bool) (label_at : ℕ → Option ℕ) (edge : ℕ → ℕ → Bool) → ((u v : ℕ) → IsTrue (edge u v) → IsSome (label_at u) × IsSome (label_at v))
    → (u v : ℕ) → IsTrue (edge_in keeps edge u v) → IsSome (label_in keeps label_at v)
ends_in keeps label_at edge ends u v h =
    let onto = (both_of (keeps v) (edge u v) (both_of (keeps u) (keeps v && edge u v) h).1) in
    subst (λ b. IsSome (if b then label_at v else None)) (sym onto.0) (ends u v onto.1).1
  where
    both_of : (x y : Bool) → IsTrue (x && y) → IsTrue x × IsTrue y
    both_of true y h = (refl, h)
    both_of false y h = absurd (true≢false (sym h))

-- what is marked is a state of the automaton at a place
module _ (states : List State) (size : ℕ) (label_at : ℕ → Option ℕ) (edge : ℕ → ℕ → Bool) (ends : (u v : ℕ) → IsTrue (edge u v) → IsSome (label_at v)) (all : AreInside states) where
  some_there : (o : Option ℕ) → IsTrue (is_some o) → IsSome o
  some_there None h = absurd (true≢false (sym h))
  some_there (Some x) h = search rules

  next_place : (v c : ℕ) → IsTrue (leads size label_at edge v c) → IsSome (label_at c)
  next_place v c h = elim (cases_eq v size) [
    | inl before ↦ some_there (label_at c) (subst (λ b. IsTrue (if b then is_some (label_at c) else edge v c)) (eq-eqb v size before) h)
    | inr node ↦ ends v c (subst (λ b. IsTrue (if b then is_some (label_at c) else edge v c)) (ne_eqb v size node) h)
  ]

  succeeds_inside : (k v s c : ℕ) (o : Option State) → state_at states k ≡ o → IsPlace size label_at v → Succeeds size label_at edge o v s c → (s < length states) × IsPlace size label_at c
  succeeds_inside k v s c None e p t = absurd t
  succeeds_inside k v s c (Some End) e p t = absurd t
  succeeds_inside k v s c (Some Stuck) e p t = absurd t
  succeeds_inside k v s c (Some (Any next)) e p t = (subst (λ x. x < length states) (sym t.0) (all k (Any next) e), inr (next_place v c t.1))
  succeeds_inside k v s c (Some (Label l next)) e p t = (subst (λ x. x < length states) (sym t.0) (all k (Label l next) e), inr (next_place v c t.1))
  succeeds_inside k v s c (Some (Fork a b)) e p t = (
    elim t.0 [ inl x ↦ subst (λ y. y < length states) (sym x) (all k (Fork a b) e).0 | inr x ↦ subst (λ y. y < length states) (sym x) (all k (Fork a b) e).1 ],
    subst (λ x. IsPlace size label_at x) (sym t.1) p,
  )

  pub marks_inside : (s0 : ℕ) (places : List ℕ) → ((v : ℕ) → IsTrue (has places v) → IsPlace size label_at v) → (s c : ℕ)
      → MarksOne (state_at states) size label_at edge s0 places s c → (s < length states) × IsPlace size label_at c
  marks_inside s0 places there s c (inl (v, p, t)) = succeeds_inside s0 v s c (state_at states s0) refl (there v p) t
  marks_inside s0 places there s c (inr (k, enters, (v, p, t))) = succeeds_inside k v s c (state_at states k) refl (there v p) t

pub none_rises : IsStrictlyIncreasing []
none_rises k h = absurd (omega arith)
