-- How the least walk is traced along layers.
use Rattle.std.proofs.Common.{◌≡◌, ℕ, ◌+◌, ◌<◌, ◌≤◌, ◌⊎◌, inl, inr, Bool, List, [], ◌∷◌, ◌++◌, length, refl, sym, ap, ◌∙◌, subst, arith, Option, Some, IsTrue, append-nil, append_assoc}
use Rattle.std.specs.Prelude.{◌↔◌}
use Rattle.std.proofs.lemmas.Bool.{cases_eq}
use Rattle.std.proofs.lemmas.List.{length-append, length_push}
use Rattle.graph_spec.specs.Members.{has}
use Rattle.px_base.specs.BitSets.{BitSet}
use Rattle.path_automaton.specs.declared.state.State.{State}
use Rattle.path_automaton.specs.ProductSteps.{leads}
use Rattle.path_automaton.specs.NewMarks.{Enters}
use Rattle.walk_spec.specs.LeastWalks.{IsLess}
use Rattle.walk_spec.specs.Ways.{Takes, Way, done, enter, take}
use Rattle.state_sets.specs.StateSets.{AreClosed, Behind}
use Rattle.walk_proof.specs.declared.marks.Pair.{Pair}
use Rattle.walk_proof.specs.Marking.{IsMarked, Among, IsCleared}
use Rattle.walk_proof.specs.Layering.{layer_at, IsLayeredBy, IsLeastWayBy, IsCandidateBy}
use Rattle.walk_proof.proofs.States.{takes_by, takes_as}
use Rattle.walk_proof.proofs.LayerLaws.{forked_way, listed, no_fewer}

-- the first places where two lists differ
less_more : (xs ys more : List ℕ) → IsLess xs ys → IsLess (xs ++ more) ys
less_more [] ys more h = absurd h
less_more (x ∷ xs) [] more h = absurd h
less_more (x ∷ xs) (y ∷ ys) more (inl h) = inl h
less_more (x ∷ xs) (y ∷ ys) more (inr h) = inr (h.0, less_more xs ys more h.1)

less_there : (xs : List ℕ) (x y : ℕ) (ys : List ℕ) → x < y → IsLess (xs ++ x ∷ []) (xs ++ y ∷ ys)
less_there [] x y ys h = inl h
less_there (z ∷ xs) x y ys h = inr (refl, less_there xs x y ys h)

one_further : (xs : List ℕ) (x : ℕ) (ys : List ℕ) → xs ++ x ∷ ys ≡ (xs ++ x ∷ []) ++ ys
one_further xs x ys = sym (append_assoc xs (x ∷ []) ys)

nothing_left : (nodes : List ℕ) → length nodes ≡ 0 → nodes ≡ []
nothing_left [] h = refl
nothing_left (x ∷ nodes) h = absurd (omega (arith, h))

module _ (at : ℕ → Option State) (size : ℕ) (label_at : ℕ → Option ℕ) (edge : ℕ → ℕ → Bool) (v : ℕ) where
  abbrev Reads : ℕ → ℕ → List ℕ → Type 0
  Reads s c nodes = Way at size label_at edge v s c nodes

  -- the marked pairs are those of the first layers
  pub record AreBelow (n : ℕ) (layers : List (List Pair)) (rows : List BitSet) : Type 0 where
    pub marked : (s c : ℕ) → IsMarked rows s c → (i : ℕ) × (i < n) × Among (layer_at layers i) s c
    pub marks : (i s c : ℕ) → i < n → Among (layer_at layers i) s c → IsMarked rows s c

  pub all_below : (n : ℕ) (layers : List (List Pair)) (rows : List BitSet) → IsLayeredBy at size label_at edge v layers rows → n ≡ length layers → AreBelow n layers rows
  all_below n layers rows is long = record {
    marked = λ s c h. let f = is.marked s c h in (f.0, subst (λ m. f.0 < m) (sym long) f.1, f.2);
    marks = λ i s c h a. is.marks i s c (subst (λ m. i < m) long h) a;
  }

  pub below_less : (n m : ℕ) (layers : List (List Pair)) (rows0 rows rows2 : List BitSet) → IsLayeredBy at size label_at edge v layers rows0 → m + 1 ≡ n → n ≤ length layers
      → AreBelow n layers rows → IsCleared (Among (layer_at layers m)) rows rows2 → AreBelow m layers rows2
  below_less n m layers rows0 rows rows2 is one long b k = record {
    marked = λ s c h.
        let o = k.source s c h in
        let f = b.marked s c o.0 in
        let d = f.1 in
        elim (cases_eq f.0 m) [
          | inl same ↦ absurd (o.1 (subst (λ i. Among (layer_at layers i) s c) same f.2))
          | inr other ↦ (f.0, omega (arith, d, one, other), f.2)
        ];
    marks = λ i s c h a.
        k.kept s c (b.marks i s c (omega (arith, h, one)) a)
        (λ e. let same = is.once i m s c (omega (arith, h, one, long)) (omega (arith, one, long)) a e in absurd (omega (arith, h, same)));
  }

  -- The states in which the automaton can be behind what was traced, where so many labels are left to read.
  pub record AreBehind (start : ℕ) (traced : List ℕ) (n place : ℕ) (states : List ℕ) : Type 0 where
    pub closed : (s k : ℕ) → IsTrue (has states s) → Enters (at s) k → IsTrue (has states k)
    pub onto : (nodes : List ℕ) → length nodes ≡ n → Reads start size (traced ++ nodes) → (s : ℕ) × IsTrue (has states s) × Reads s place nodes
    pub back : (s : ℕ) → IsTrue (has states s) → (nodes : List ℕ) → Reads s place nodes → Reads start size (traced ++ nodes)

  -- Some nodes are traced, the first of the least list. The states are those of a layer in which the automaton can be behind them.
  pub record IsTracing (start : ℕ) (layers : List (List Pair)) (n : ℕ) (states traced : List ℕ) (place : ℕ) : Type 0 where
    pub some : (s : ℕ) × IsTrue (has states s)
    pub there : (s : ℕ) → IsTrue (has states s) → Among (layer_at layers n) s place
    pub closed : (s k : ℕ) → IsTrue (has states s) → Enters (at s) k → Among (layer_at layers n) k place → IsTrue (has states k)
    pub onto : (nodes : List ℕ) → length nodes ≡ n → Reads start size (traced ++ nodes) → (s : ℕ) × IsTrue (has states s) × Reads s place nodes
    pub back : (s : ℕ) → IsTrue (has states s) → (nodes : List ℕ) → Reads s place nodes → Reads start size (traced ++ nodes)
    pub count : length traced + n + 1 ≡ length layers
    pub least : (others : List ℕ) → Reads start size others → length others + 1 ≡ length layers → ((rest : List ℕ) × (others ≡ traced ++ rest)) ⊎ IsLess traced others

  abbrev pub Candidate : List Pair → List ℕ → ℕ → ℕ → Type 0
  Candidate layer states place c = IsCandidateBy at size label_at edge (Among layer) states place c

  abbrev pub Marked : List BitSet → List ℕ → ℕ → ℕ → Type 0
  Marked rows states place c = IsCandidateBy at size label_at edge (IsMarked rows) states place c

  module _ (start d : ℕ) (layers : List (List Pair)) (rows0 : List BitSet) (is : IsLayeredBy at size label_at edge v layers rows0) (last : d + 1 ≡ length layers)
      (first : Among (layer_at layers d) start size) where
    shortest : (nodes : List ℕ) → Reads start size nodes → d ≤ length nodes
    shortest nodes w = no_fewer at size label_at edge v layers rows0 is d start size nodes (omega (arith, last)) first w

    abbrev Back : List ℕ → ℕ → ℕ → Type 0
    Back traced s c = (nodes : List ℕ) → Reads s c nodes → Reads start size (traced ++ nodes)

    -- a pair behind what was traced stands in no layer before the one that is due
    in_layer : (traced : List ℕ) (n s c : ℕ) → length traced + n + 1 ≡ length layers → Back traced s c → (i : ℕ) → i ≤ n → Among (layer_at layers i) s c → Among (layer_at layers n) s c
    in_layer traced n s c count back i h a =
        let w = is.sound i s c (omega (arith, h, count)) a in
        let len = w.1 in
        let short = shortest (traced ++ w.0) (back w.0 w.2) in
        let sum = length-append traced w.0 in
        let same : i ≡ n = omega (arith, h, len, short, sum, count, last) in
        subst (λ j. Among (layer_at layers j) s c) same a

    read_there : (traced : List ℕ) (n s c : ℕ) → length traced + n + 1 ≡ length layers → Back traced s c → (nodes : List ℕ) → Reads s c nodes → length nodes ≡ n → Among (layer_at layers n) s c
    read_there traced n s c count back nodes w len =
        let f = listed at size label_at edge v layers rows0 is s c nodes w (omega (arith, len, count)) in
        let b = f.1 in
        in_layer traced n s c count back f.0 (omega (arith, b, len)) f.2

    -- of all states behind what was traced those are kept that are marked at the place
    tracing_by : (traced : List ℕ) (n place : ℕ) (full states : List ℕ) (rows : List BitSet) → length traced + n + 1 ≡ length layers → AreBehind start traced n place full
        → AreBelow (n + 1) layers rows → ((s : ℕ) → IsTrue (has states s) ↔ (IsTrue (has full s) × IsMarked rows s place))
        → ((s : ℕ) × IsTrue (has full s) × Among (layer_at layers n) s place)
        → ((others : List ℕ) → Reads start size others → length others + 1 ≡ length layers → ((rest : List ℕ) × (others ≡ traced ++ rest)) ⊎ IsLess traced others)
        → IsTracing start layers n states traced place
    tracing_by traced n place full states rows count b below kept some least = record {
      some = (some.0, (kept some.0).1 (some.1, below.marks n some.0 place (omega arith) some.2));
      there = λ s h.
          let k = (kept s).0 h in
          let m = below.marked s place k.1 in
          let within = m.1 in
          in_layer traced n s place count (b.back s k.0) m.0 (omega (arith, within)) m.2;
      closed = λ s k h e a. (kept k).1 (b.closed s k ((kept s).0 h).0 e, below.marks n k place (omega arith) a);
      onto = λ nodes len w.
          let f = b.onto nodes len w in
          (f.0, (kept f.0).1 (f.1, below.marks n f.0 place (omega arith) (read_there traced n f.0 place count (b.back f.0 f.1) nodes f.2 len)), f.2);
      back = λ s h. b.back s ((kept s).0 h).0;
      count = count;
      least = least;
    }

    pub tracing_begins : (full states : List ℕ) (rows : List BitSet) → AreClosed at (λ s. s ≡ start) full → AreBelow (d + 1) layers rows
        → ((s : ℕ) → IsTrue (has states s) ↔ (IsTrue (has full s) × IsMarked rows s size)) → IsTracing start layers d states [] size
    tracing_begins full states rows a below kept =
        let behind : AreBehind start [] d size full = record {
          closed = a.closed;
          onto = λ nodes len w. (start, a.first start refl, w);
          back = λ s h nodes w. let f = a.source s h in subst (λ x. Reads x size nodes) f.1 (forked_way at size label_at edge v f.0 s size nodes f.2 w);
        } in
        tracing_by [] d size full states rows (omega (arith, last)) behind below kept (start, a.first start refl, first) (λ others w h. inl (others, refl))

    module _ (n place : ℕ) (states traced : List ℕ) (t : IsTracing start layers (n + 1) states traced place) where
      -- one node on
      step_on : (s c : ℕ) (ms : List ℕ) → Reads s c ms → c ≡ place → IsTrue (has states s) → length ms ≡ n + 1 → (x : ℕ) (nodes : List ℕ) → ms ≡ x ∷ nodes
          → (k : ℕ) × IsTrue (leads size label_at edge c x) × Behind at label_at states x k × Reads k x nodes
      step_on s c ms (done s1 e) same h len x nodes is_more = absurd (cc)
      step_on s c ms (enter s1 k c1 ms1 e w) same h len x nodes is_more =
          let on : Back traced k place = λ more r. t.back s1 h more (enter s1 k place more e r) in
          let there = read_there traced (n + 1) k place t.count on ms1 (subst (λ y. Reads k y ms1) same w) len in
          step_on k c1 ms1 w same (t.closed s1 k h e there) len x nodes is_more
      step_on s c ms (take s1 k c1 y ms1 l r w) same h len x nodes is_more =
          let head : y ≡ x = cc in
          let tail : ms1 ≡ nodes = cc in (
            k,
            subst (λ z. IsTrue (leads size label_at edge c1 z)) head l,
            (s1, h, subst (λ z. Takes label_at (at s1) z k) head r),
            subst (λ ns. Reads k x ns) tail (subst (λ z. Reads k z ms1) head w),
          )

      behind_back : (x k : ℕ) → IsTrue (leads size label_at edge place x) → Behind at label_at states x k → Back (traced ++ x ∷ []) k x
      behind_back x k led b nodes w = subst (λ y. Reads start size y) (one_further traced x nodes) (t.back b.0 b.1 (x ∷ nodes) (take b.0 k place x nodes led b.2 w))

      counted : (x : ℕ) → length (traced ++ x ∷ []) + n + 1 ≡ length layers
      counted x =
          let sum = length_push traced x in
          let count = t.count in
          omega (arith, sum, count)

      -- some node comes next
      pub candidate_there : (c : ℕ) × Candidate (layer_at layers n) states place c
      candidate_there = by w.0 w.2 w.1
        where
          w : (nodes : List ℕ) × (length nodes ≡ n + 1) × Reads t.some.0 place nodes
          w = let count = t.count in is.sound (n + 1) t.some.0 place (omega (arith, count)) (t.there t.some.0 t.some.1)

          by : (nodes : List ℕ) → Reads t.some.0 place nodes → length nodes ≡ n + 1 → (c : ℕ) × Candidate (layer_at layers n) states place c
          by [] w h = absurd (omega (arith, h))
          by (x ∷ nodes) w h =
              let k = step_on t.some.0 place (x ∷ nodes) w refl t.some.1 h x nodes refl in
              (x, (k.1, (k.0, k.2, read_there (traced ++ x ∷ []) n k.0 x (counted x) (behind_back x k.0 k.1 k.2) nodes k.3 (omega (arith, h)))))

      -- marks say which nodes may come next
      pub to_marked : (rows : List BitSet) → AreBelow (n + 1) layers rows → (c : ℕ) → Candidate (layer_at layers n) states place c → Marked rows states place c
      to_marked rows below c h = (h.0, (h.1.0, h.1.1, below.marks n h.1.0 c (omega arith) h.1.2))

      pub from_marked : (rows : List BitSet) → AreBelow (n + 1) layers rows → (c : ℕ) → Marked rows states place c → Candidate (layer_at layers n) states place c
      from_marked rows below c h =
          let m = below.marked h.1.0 c h.1.2 in
          let within = m.1 in
          (h.0, (h.1.0, h.1.1, in_layer (traced ++ c ∷ []) n h.1.0 c (counted c) (behind_back c h.1.0 h.0 h.1.1) m.0 (omega (arith, within)) m.2))

      module _ (full states2 : List ℕ) (c l : ℕ) (rows : List BitSet) (below : AreBelow (n + 1) layers rows) (candidate : Candidate (layer_at layers n) states place c)
          (least_is : (x : ℕ) → Candidate (layer_at layers n) states place x → c ≤ x) (label : label_at c ≡ Some l) (a : AreClosed at (Behind at (λ m. Some l) states 0) full)
          (kept : (s : ℕ) → IsTrue (has states2 s) ↔ (IsTrue (has full s) × IsMarked rows s c)) where
        behind : AreBehind start (traced ++ c ∷ []) n c full
        behind = record {
          closed = a.closed;
          onto = λ nodes len w.
              let f = t.onto (c ∷ nodes) (omega (arith, len)) (subst (λ y. Reads start size y) (sym (one_further traced c nodes)) w) in
              let k = step_on f.0 place (c ∷ nodes) f.2 refl f.1 (omega (arith, len)) c nodes refl in
              (k.0, a.first k.0 (k.2.0, k.2.1, takes_as label_at (at k.2.0) l c k.0 label k.2.2), k.3);
          back = λ s h nodes w.
              let f = a.source s h in
              behind_back c f.0 candidate.0 (f.1.0, f.1.1, takes_by label_at (at f.1.0) l c f.0 label f.1.2) nodes (forked_way at size label_at edge v f.0 s c nodes f.2 w);
        }

        least_by : (others rest : List ℕ) → Reads start size others → length others + 1 ≡ length layers → others ≡ traced ++ rest
            → ((more : List ℕ) × (others ≡ (traced ++ c ∷ []) ++ more)) ⊎ IsLess (traced ++ c ∷ []) others
        least_by others [] w h e =
            let count = t.count in
            let len = ap length e in
            let sum = length-append traced [] in
            absurd (omega (arith, h, count, len, sum))
        least_by others (x ∷ rest) w h e =
            let count = t.count in
            let len = ap length e in
            let sum = length-append traced (x ∷ rest) in
            let left : length (x ∷ rest) ≡ n + 1 = omega (arith, h, count, len, sum) in
            let k = t.onto (x ∷ rest) left (subst (λ y. Reads start size y) e w) in
            let m = step_on k.0 place (x ∷ rest) k.2 refl k.1 left x rest refl in
            let le = least_is x (m.1, (m.0, m.2, read_there (traced ++ x ∷ []) n m.0 x (counted x) (behind_back x m.0 m.1 m.2) rest m.3 (omega (arith, left)))) in
            elim (cases_eq c x) [
              | inl same ↦ inl (rest, e ∙ ap (λ y. traced ++ y ∷ rest) (sym same) ∙ one_further traced c rest)
              | inr other ↦ inr (subst (λ y. IsLess (traced ++ c ∷ []) y) (sym e) (less_there traced c x rest (omega (arith, le, other))))
            ]

        pub tracing_next : IsTracing start layers n states2 (traced ++ c ∷ []) c
        tracing_next =
            tracing_by (traced ++ c ∷ []) n c full states2 rows (counted c) behind below kept
            (candidate.1.0, a.first candidate.1.0 (candidate.1.1.0, candidate.1.1.1, takes_as label_at (at candidate.1.1.0) l c candidate.1.0 label candidate.1.1.2), candidate.1.2)
            (λ others w h. elim (t.least others w h) [ inl r ↦ least_by others r.0 w h r.1 | inr less ↦ inr (less_more traced others (c ∷ []) less) ])

    pub tracing_ends : (states traced : List ℕ) (place : ℕ) → IsTracing start layers 0 states traced place → IsLeastWayBy at size label_at edge v start traced
    tracing_ends states traced place t =
        let s = t.some in
        let count = t.count in
        let w = is.sound 0 s.0 place (omega (arith, count)) (t.there s.0 s.1) in
        let none = nothing_left w.0 w.1 in
        record {
          way = subst (λ x. Reads start size x) (append-nil traced) (t.back s.0 s.1 [] (subst (λ x. Reads s.0 place x) none w.2));
          least = λ others r.
              let short = shortest others r in
              elim (cases_eq (length others) (length traced)) [
                | inl same ↦
                    (elim (t.least others r (omega (arith, same, count))) [
                      | inl e ↦
                          let len = ap length e.1 in
                          let sum = length-append traced e.0 in
                          let rest = nothing_left e.0 (omega (arith, same, len, sum)) in
                          inl (e.1 ∙ ap (λ x. traced ++ x) rest ∙ append-nil traced)
                      | inr less ↦ inr (inr (sym same, less))
                    ])
                | inr other ↦ inr (inl (omega (arith, short, count, last, other)))
              ];
        }
