-- How layers are made, one behind the other.
use Rattle.std.proofs.Common.{◌≡◌, ℕ, zero, suc, pred, ◌+◌, ◌<◌, ◌≤◌, ◌⊎◌, inl, inr, Bool, List, [], ◌∷◌, ◌++◌, length, refl, sym, ◌∙◌, subst, arith, Option, Some, IsTrue}
use Rattle.std.specs.Prelude.{IsSome}
use Rattle.std.proofs.lemmas.Bool.{cases_eq, cases_lt}
use Rattle.std.proofs.lemmas.List.{length_push}
use Rattle.px_base.specs.BitSets.{BitSet}
use Rattle.path_automaton.specs.declared.state.State.{State}
use Rattle.path_automaton.specs.declared.state.State.TheVariants.{End}
use Rattle.path_automaton.specs.ProductSteps.{leads}
use Rattle.path_automaton.specs.NewMarks.{Enters, IsPlace}
use Rattle.walk_spec.specs.Ways.{Takes, Way, done, enter, take}
use Rattle.state_sets.specs.StateSets.{ForkedTo, here, onward}
use Rattle.walk_proof.specs.declared.marks.Pair.{Pair}
use Rattle.walk_proof.specs.Marking.{IsMarked, Among, Notes}
use Rattle.walk_proof.proofs.MarkLaws.{among_front}
use Rattle.walk_proof.specs.Layering.{layer_at, IntoBy, ForkedInto, IsLayeredBy, IsFirst}

layer_old : (layers : List (List Pair)) (new : List Pair) (i : ℕ) → i < length layers → layer_at (layers ++ new ∷ []) i ≡ layer_at layers i
layer_old [] new i h = absurd (omega arith)
layer_old (l ∷ ls) new zero h = refl
layer_old (l ∷ ls) new (suc i) h = layer_old ls new i (omega arith)

layer_new : (layers : List (List Pair)) (new : List Pair) → layer_at (layers ++ new ∷ []) (length layers) ≡ new
layer_new [] new = refl
layer_new (l ∷ ls) new = layer_new ls new

module _ (at : ℕ → Option State) (size : ℕ) (label_at : ℕ → Option ℕ) (edge : ℕ → ℕ → Bool) (v : ℕ) where
  pub forked_way : (s k c : ℕ) (nodes : List ℕ) → ForkedTo at s k → Way at size label_at edge v k c nodes → Way at size label_at edge v s c nodes
  forked_way s k c nodes here w = w
  forked_way s k c nodes (onward r k1 f e) w = forked_way s r c nodes f (enter r k1 c nodes e w)

  -- what is said of a layer by itself, beside the layers before it
  pub record IsLayer (P : ℕ → ℕ → Type 0) (rows rows2 : List BitSet) (new : List Pair) : Type 0 where
    pub grows : (s c : ℕ) → IsMarked rows s c → IsMarked rows2 s c
    pub fresh : (s c : ℕ) → IsMarked rows2 s c → IsMarked rows s c ⊎ Among new s c
    pub unmarked : (s c : ℕ) → Among new s c → IsMarked rows s c → ⊥
    pub marks : (s c : ℕ) → Among new s c → IsMarked rows2 s c
    pub source : (s c : ℕ) → Among new s c → (k : ℕ) × P k c × ForkedTo at s k
    pub first : (s c : ℕ) → P s c → IsMarked rows2 s c
    pub forks : (k s c : ℕ) → Among new k c → Enters (at s) k → IsMarked rows2 s c

  -- a layer is found, and what leads into it by no label is put behind it
  pub is_layer : (P : ℕ → ℕ → Type 0) (rows rows1 rows2 : List BitSet) (found new : List Pair) → Notes P rows rows1 [] found → ((s c : ℕ) → P s c → IsMarked rows1 s c)
      → Notes (ForkedInto at found) rows1 rows2 found new → ((k s c : ℕ) → Among new k c → Enters (at s) k → IsMarked rows2 s c) → IsLayer P rows rows2 new
  is_layer P rows rows1 rows2 found new a onto b closed = record {
    grows = λ s c h. b.grows s c (a.grows s c h);
    fresh = λ s c h. elim (b.fresh s c h) [
      | inl mid ↦ elim (a.fresh s c mid) [ inl old ↦ inl old | inr l ↦ inr (among_front found new b.front s c l) ]
      | inr l ↦ inr l
    ];
    unmarked = λ s c h old. elim (b.source s c h) [
      | inl l ↦ elim (a.source s c l) [ inl none ↦ absurd none | inr p ↦ p.1 old ]
      | inr p ↦ p.1 (a.grows s c old)
    ];
    marks = λ s c h. elim (b.source s c h) [
      | inl l ↦ elim (a.source s c l) [ inl none ↦ absurd none | inr p ↦ b.grows s c p.2 ]
      | inr p ↦ p.2
    ];
    source = λ s c h. elim (b.source s c h) [
      | inl l ↦ elim (a.source s c l) [ inl none ↦ absurd none | inr p ↦ (s, p.0, here) ]
      | inr p ↦ elim (a.source p.0.0 c p.0.1) [ inl none ↦ absurd none | inr q ↦ (p.0.0, q.0, p.0.2) ]
    ];
    first = λ s c h. b.grows s c (onto s c h);
    forks = closed;
  }

  -- the first layer
  module _ (rows rows2 : List BitSet) (new : List Pair) (none : (s c : ℕ) → IsMarked rows s c → ⊥)
      (l : IsLayer (λ s c. (at s ≡ Some End) × (c ≡ v)) rows rows2 new) (node : IsPlace size label_at v)
      (there : (s k : ℕ) → ForkedTo at s k → IsSome (at k) → IsSome (at s)) (some : (s : ℕ) → at s ≡ Some End → IsSome (at s)) where
    only : (i : ℕ) → i < 1 → i ≡ 0
    only i h = omega arith

    to_new : (i s c : ℕ) → i < 1 → Among (layer_at (new ∷ []) i) s c → Among new s c
    to_new i s c h a = subst (λ j. Among (layer_at (new ∷ []) j) s c) (only i h) a

    found : (s c : ℕ) → IsMarked rows2 s c → Among new s c
    found s c h = elim (l.fresh s c h) [ inl old ↦ absurd (none s c old) | inr a ↦ a ]

    pub layered_first : IsLayeredBy at size label_at edge v (new ∷ []) rows2
    layered_first = record {
      some = omega arith;
      marked = λ s c h. (0, omega arith, found s c h);
      marks = λ i s c b a. l.marks s c (to_new i s c b a);
      once = λ i j s c b d a e. omega (arith, b, d);
      sound = λ i s c b a.
          let f = l.source s c (to_new i s c b a) in
          ([], sym (only i b), forked_way s f.0 c [] f.2 (subst (λ x. Way at size label_at edge v f.0 x []) (sym f.1.1) (done f.0 f.1.0)));
      place = λ i s c b a.
          let f = l.source s c (to_new i s c b a) in
          (there s f.0 f.2 (some f.0 f.1.0), subst (IsPlace size label_at) (sym f.1.1) node);
      ends = λ s e. found s v (l.first s v (e, refl));
      forks = λ i k s c b a e. (0, omega arith, found s c (l.forks k s c (to_new i k c b a) e));
      reads = λ i k s c x b a t e. absurd (omega (arith, b));
    }

  -- one more layer
  module _ (layers : List (List Pair)) (n : ℕ) (rows rows2 : List BitSet) (new : List Pair) (was : IsLayeredBy at size label_at edge v layers rows) (last : n + 1 ≡ length layers)
      (l : IsLayer (IntoBy at size label_at edge (layer_at layers n)) rows rows2 new) (nodes_led : (c x : ℕ) → IsTrue (leads size label_at edge c x) → IsPlace size label_at c)
      (there : (s k : ℕ) → ForkedTo at s k → IsSome (at k) → IsSome (at s)) (some : (s k x : ℕ) → Takes label_at (at s) x k → IsSome (at s)) where
    abbrev more : List (List Pair)
    more = layers ++ new ∷ []

    long : length more ≡ length layers + 1
    long = length_push layers new

    abbrev Cases : ℕ → ℕ → ℕ → Type 0
    Cases i s c = ((i < length layers) × Among (layer_at layers i) s c) ⊎ ((i ≡ length layers) × Among new s c)

    by_cases : (i s c : ℕ) → i < length more → Among (layer_at more i) s c → Cases i s c
    by_cases i s c b a = elim (cases_lt i (length layers)) [
      | inl old ↦ inl (old, subst (λ x. Among x s c) (layer_old layers new i old) a)
      | inr past ↦
          let len = long in
          let same : i ≡ length layers = omega (arith, past, b, len) in
          inr (same, subst (λ x. Among x s c) (layer_new layers new) (subst (λ j. Among (layer_at more j) s c) same a))
    ]

    on_old : (i s c : ℕ) → i < length layers → Among (layer_at layers i) s c → Among (layer_at more i) s c
    on_old i s c b a = subst (λ x. Among x s c) (sym (layer_old layers new i b)) a

    on_new : (s c : ℕ) → Among new s c → Among (layer_at more (length layers)) s c
    on_new s c a = subst (λ x. Among x s c) (sym (layer_new layers new)) a

    found_more : (s c : ℕ) → IsMarked rows2 s c → (i : ℕ) × (i < length more) × Among (layer_at more i) s c
    found_more s c h = let len = long in elim (l.fresh s c h) [
      | inl old ↦ (let m = was.marked s c old in let b = m.1 in (m.0, omega (arith, b, len), on_old m.0 s c m.1 m.2))
      | inr a ↦ (length layers, omega (arith, len), on_new s c a)
    ]

    bounded : (s c : ℕ) → IsMarked rows2 s c → (j : ℕ) × (j ≤ length layers) × Among (layer_at more j) s c
    bounded s c h = let f = found_more s c h in let len = long in let b = f.1 in (f.0, omega (arith, len, b), f.2)

    marks_both : (i s c : ℕ) → Cases i s c → IsMarked rows2 s c
    marks_both i s c (inl old) = l.grows s c (was.marks i s c old.0 old.1)
    marks_both i s c (inr a) = l.marks s c a.1

    once_both : (i j s c : ℕ) → Cases i s c → Cases j s c → i ≡ j
    once_both i j s c (inl a) (inl b) = was.once i j s c a.0 b.0 a.1 b.1
    once_both i j s c (inl a) (inr b) = absurd (l.unmarked s c b.1 (was.marks i s c a.0 a.1))
    once_both i j s c (inr a) (inl b) = absurd (l.unmarked s c a.1 (was.marks j s c b.0 b.1))
    once_both i j s c (inr a) (inr b) = a.0 ∙ sym b.0

    sound_both : (i s c : ℕ) → Cases i s c → (nodes : List ℕ) × (length nodes ≡ i) × Way at size label_at edge v s c nodes
    sound_both i s c (inl a) = was.sound i s c a.0 a.1
    sound_both i s c (inr a) =
        let f = l.source s c a.1 in
        let p = f.1 in
        let w = was.sound n p.0 p.1 (omega (arith, last)) p.2 in
        let len = w.1 in
        let same = a.0 in
        (p.1 ∷ w.0, omega (arith, len, last, same), forked_way s f.0 c (p.1 ∷ w.0) f.2 (take f.0 p.0 c p.1 w.0 p.4 p.3 w.2))

    place_both : (i s c : ℕ) → Cases i s c → IsSome (at s) × IsPlace size label_at c
    place_both i s c (inl a) = was.place i s c a.0 a.1
    place_both i s c (inr a) =
        let f = l.source s c a.1 in
        let p = f.1 in
        (there s f.0 f.2 (some f.0 p.0 p.1 p.3), nodes_led c p.1 p.4)

    forks_both : (i k s c : ℕ) → Cases i k c → Enters (at s) k → (j : ℕ) × (j ≤ i) × Among (layer_at more j) s c
    forks_both i k s c (inl a) e =
        let f = was.forks i k s c a.0 a.1 e in
        let b = f.1 in
        let d = a.0 in
        (f.0, f.1, on_old f.0 s c (omega (arith, b, d)) f.2)
    forks_both i k s c (inr a) e =
        let f = bounded s c (l.forks k s c a.1 e) in
        let b = f.1 in
        let same = a.0 in
        (f.0, omega (arith, b, same), f.2)

    reads_both : (i k s c x : ℕ) → i + 1 < length more → Cases i k x → Takes label_at (at s) x k → IsTrue (leads size label_at edge c x) → (j : ℕ) × (j ≤ i + 1) × Among (layer_at more j) s c
    reads_both i k s c x b (inr a) t e = let len = long in let same = a.0 in absurd (omega (arith, b, len, same))
    reads_both i k s c x b (inl a) t e = elim (cases_lt (i + 1) (length layers)) [
      | inl old ↦
          let f = was.reads i k s c x old a.1 t e in
          let d = f.1 in
          (f.0, f.1, on_old f.0 s c (omega (arith, d, old)) f.2)
      | inr past ↦
          let d = a.0 in
          let same : i ≡ n = omega (arith, past, d, last) in
          let f = bounded s c (l.first s c (k, x, subst (λ j. Among (layer_at layers j) k x) same a.1, t, e)) in
          let h = f.1 in
          (f.0, omega (arith, h, past), f.2)
    ]

    pub layered_next : IsLayeredBy at size label_at edge v more rows2
    layered_next =
        let len = long in
        record {
          some = omega (arith, len);
          marked = found_more;
          marks = λ i s c b a. marks_both i s c (by_cases i s c b a);
          once = λ i j s c b d a e. once_both i j s c (by_cases i s c b a) (by_cases j s c d e);
          sound = λ i s c b a. sound_both i s c (by_cases i s c b a);
          place = λ i s c b a. place_both i s c (by_cases i s c b a);
          ends = λ s e. on_old 0 s v was.some (was.ends s e);
          forks = λ i k s c b a e. forks_both i k s c (by_cases i k c b a) e;
          reads = λ i k s c x b a t e. reads_both i k s c x b (by_cases i k x (omega (arith, b)) a) t e;
        }

  module _ (layers : List (List Pair)) (rows : List BitSet) (is : IsLayeredBy at size label_at edge v layers rows) where
    -- where fewer labels are read than there are layers, the pair is listed, in no later layer
    pub listed : (s c : ℕ) (nodes : List ℕ) → Way at size label_at edge v s c nodes → length nodes < length layers → (i : ℕ) × (i ≤ length nodes) × Among (layer_at layers i) s c
    listed s c nodes (done s1 e) b = (0, omega arith, is.ends s1 e)
    listed s c nodes (enter s1 k c1 nodes1 e w) b =
        let f = listed k c1 nodes1 w b in
        let h = f.1 in
        let g = is.forks f.0 k s1 c1 (omega (arith, h, b)) f.2 e in
        let d = g.1 in
        (g.0, omega (arith, d, h), g.2)
    listed s c nodes (take s1 k c1 x nodes1 l t w) b =
        let f = listed k x nodes1 w (omega (arith, b)) in
        let h = f.1 in
        let g = is.reads f.0 k s1 c1 x (omega (arith, h, b)) f.2 t l in
        let d = g.1 in
        (g.0, omega (arith, d, h), g.2)

    -- where the last layer is empty, each pair from which the end is reached is listed
    pub all_listed : (n : ℕ) → n + 1 ≡ length layers → ((s c : ℕ) → Among (layer_at layers n) s c → ⊥) → (s c : ℕ) (nodes : List ℕ) → Way at size label_at edge v s c nodes
        → (i : ℕ) × (i < length layers) × Among (layer_at layers i) s c
    all_listed n last empty s c nodes (done s1 e) = (0, is.some, is.ends s1 e)
    all_listed n last empty s c nodes (enter s1 k c1 nodes1 e w) =
        let f = all_listed n last empty k c1 nodes1 w in
        let h = f.1 in
        let g = is.forks f.0 k s1 c1 f.1 f.2 e in
        let d = g.1 in
        (g.0, omega (arith, d, h), g.2)
    all_listed n last empty s c nodes (take s1 k c1 x nodes1 l t w) =
        let f = all_listed n last empty k x nodes1 w in
        let h = f.1 in
        let below : f.0 + 1 < length layers = elim (cases_eq f.0 n) [
          | inl same ↦ absurd (empty k x (subst (λ i. Among (layer_at layers i) k x) same f.2))
          | inr other ↦ omega (arith, h, last, other)
        ] in
        let g = is.reads f.0 k s1 c1 x below f.2 t l in
        let d = g.1 in
        (g.0, omega (arith, d, below), g.2)

    -- from a pair of a layer no fewer labels are read
    pub no_fewer : (i s c : ℕ) (nodes : List ℕ) → i < length layers → Among (layer_at layers i) s c → Way at size label_at edge v s c nodes → i ≤ length nodes
    no_fewer i s c nodes b a w = elim (cases_lt (length nodes) (length layers)) [
      | inl within ↦
          let f = listed s c nodes w within in
          let h = f.1 in
          let same = is.once i f.0 s c b (omega (arith, h, within)) a f.2 in
          omega (arith, h, same)
      | inr past ↦ omega (arith, past, b)
    ]

-- the pair wasn't marked before the last layer was put behind the others
pub first_next : (at : ℕ → Option State) (size : ℕ) (label_at : ℕ → Option ℕ) (edge : ℕ → ℕ → Bool) (v : ℕ) (layers : List (List Pair)) (new : List Pair) (rows : List BitSet) (s c : ℕ)
    → IsLayeredBy at size label_at edge v layers rows → (IsMarked rows s c → ⊥) → IsFirst (layers ++ new ∷ []) s c
first_next at size label_at edge v layers new rows s c is unmarked i b a =
    let len = length_push layers new in
    let within : i < length layers = omega (arith, b, len) in
    unmarked (is.marks i s c within (subst (λ x. Among x s c) (layer_old layers new i within) a))

-- so it stands in the last one
pub in_last : (at : ℕ → Option State) (size : ℕ) (label_at : ℕ → Option ℕ) (edge : ℕ → ℕ → Bool) (v : ℕ) (layers : List (List Pair)) (rows : List BitSet) (s c : ℕ)
    → IsLayeredBy at size label_at edge v layers rows → IsFirst layers s c → IsMarked rows s c → (d : ℕ) → d + 1 ≡ length layers → Among (layer_at layers d) s c
in_last at size label_at edge v layers rows s c is first m d last =
    let f = is.marked s c m in
    let b = f.1 in
    elim (cases_eq f.0 d) [
      | inl same ↦ subst (λ i. Among (layer_at layers i) s c) same f.2
      | inr other ↦ absurd (first f.0 (omega (arith, b, last, other)) f.2)
    ]

-- if it isn't marked when the layers end, nothing is read from it
pub none_read : (at : ℕ → Option State) (size : ℕ) (label_at : ℕ → Option ℕ) (edge : ℕ → ℕ → Bool) (v : ℕ) (layers : List (List Pair)) (rows : List BitSet)
    → IsLayeredBy at size label_at edge v layers rows → (s c : ℕ) → (IsMarked rows s c → ⊥)
    → IsMarked rows s c ⊎ ((k x n : ℕ) → n + 1 ≡ length layers → Among (layer_at layers n) k x → ⊥) → (nodes : List ℕ) → Way at size label_at edge v s c nodes → ⊥
none_read at size label_at edge v layers rows is s c unmarked (inl m) nodes w = unmarked m
none_read at size label_at edge v layers rows is s c unmarked (inr empty) nodes w =
    let f = all_listed at size label_at edge v layers rows is d last (λ k x a. empty k x d last a) s c nodes w in
    unmarked (is.marks f.0 s c f.1 f.2)
  where
    d : ℕ
    d = pred (length layers)

    last : d + 1 ≡ length layers
    last = by (length layers) is.some
      where
        by : (n : ℕ) → 0 < n → pred n + 1 ≡ n
        by zero h = absurd (omega (arith, h))
        by (suc n) h = omega arith
