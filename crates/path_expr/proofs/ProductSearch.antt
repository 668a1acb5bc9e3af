-- The search of the product of an automaton and a graph.
use Rattle.std.proofs.Common.{◌≡◌, ℕ, zero, suc, ◌<◌, inl, inr, List, [], ◌∷◌, length, refl, sym, ap, ◌∙◌, subst, arith, Option, Some, None, get_or, true, false, Bool, cond, nat_eq, true≢false, IsTrue}
use Rattle.std.specs.Prelude.{slice_get, option_and_then, is_some, IsSome, bytes_eq}
use Rattle.std.specs.List.{AllByRecursion, IsDistinct}
use Rattle.std.proofs.lemmas.Bool.{ne_eqb, eq-eqb}
use Rattle.std.proofs.lemmas.Option.{slice_get-get_or}
use Rattle.graph_spec.specs.Shapes.{Shape, shape_by}
use Rattle.graph_spec.specs.Walks.{Leads}
use Rattle.path_automaton.specs.declared.state.State.{State}
use Rattle.path_automaton.specs.declared.state.State.TheVariants.{End, Stuck, Any, Label, Fork}
use Rattle.path_spec.specs.Trees.{Expr}
use Rattle.path_spec.specs.Matches.{Word}
use Rattle.path_expr.specs.ExprAutomata.{Run, Known, Stands}
use Rattle.graph_spec.specs.Members.{has}
use Rattle.path_spec.specs.PathAnswers.{IsAnswer, AreAnswers}
use Rattle.path_automaton.specs.ProductSteps.{Succeeds, leads, Reached, begin, onward, AreEnds}
use Rattle.path_expr.proofs.AutomatonWords.{reads_by, read_by, read_matches, matches_read}
use Rattle.path_expr.proofs.LabelNumbers.{number_one}

pub some_is : (o : Option ℕ) → IsSome o → (l : ℕ) × (o ≡ Some l)
some_is None h = absurd (true≢false (sym h))
some_is (Some l) h = (l, refl)

-- What is known of a graph and of its labels.
pub record IsTabled (texts : List (List ℕ)) (size : ℕ) (label_at : ℕ → Option ℕ) (edge : ℕ → ℕ → Bool) : Type 0 where
  pub distinct : IsDistinct bytes_eq texts
  pub labelled : (n l : ℕ) → label_at n ≡ Some l → l < length texts
  pub below : (n : ℕ) → IsSome (label_at n) → n < size
  pub ends : (u v : ℕ) → IsTrue (edge u v) → IsSome (label_at u) × IsSome (label_at v)

module _ (texts : List (List ℕ)) (at : ℕ → Option State) (size : ℕ) (label_at : ℕ → Option ℕ) (edge : ℕ → ℕ → Bool) where
  abbrev pub text_at : ℕ → Option (List ℕ)
  text_at c = option_and_then (λ l. slice_get texts l) (label_at c)

  -- from the place v on a walk goes on with this word, and ends in z
  abbrev pub Follows : ℕ → Word → ℕ → Type 0
  Follows v [] z = v ≡ z
  Follows v (t ∷ ts) z = (c : ℕ) × IsTrue (leads size label_at edge v c) × (text_at c ≡ Some t) × Follows c ts z

  -- a state at a place is of use: whatever is read from there on ends where `Goal` holds
  abbrev pub IsSound : (ℕ → Type 0) → ℕ → ℕ → Type 0
  IsSound Goal s v = (n : ℕ) (w : Word) (z : ℕ) → Run texts at n s w → Follows v w z → Goal z

  module _ (tabled : IsTabled texts size label_at edge) where
    -- where one is led to is a node
    led : (v c : ℕ) → IsTrue (leads size label_at edge v c) → IsSome (label_at c)
    led v c h = elim (nat_eq v size) as (λ b. cond b (is_some (label_at c)) (edge v c) ≡ true → IsSome (label_at c)) [
      | true ↦ λ e. e
      | false ↦ λ e. (tabled.ends v c e).1
    ] h

    -- the label of a node
    text_of : (c l : ℕ) → label_at c ≡ Some l → slice_get texts l ≡ Some (get_or texts l [])
    text_of c l h = slice_get-get_or texts l [] (tabled.labelled c l h)

    text_is : (c l : ℕ) (t : List ℕ) → label_at c ≡ Some l → slice_get texts l ≡ Some t → text_at c ≡ Some t
    text_is c l t h e = ap (λ o. option_and_then (λ l. slice_get texts l) o) h ∙ e

    number_at : (c : ℕ) (t : List ℕ) → text_at c ≡ Some t → (l : ℕ) × (label_at c ≡ Some l) × (slice_get texts l ≡ Some t)
    number_at c t h = by (label_at c) refl
      where
        by : (o : Option ℕ) → label_at c ≡ o → (l : ℕ) × (label_at c ≡ Some l) × (slice_get texts l ≡ Some t)
        by None e = let k : ◌≡◌ {A = Option (List ℕ)} None (Some t) = sym (ap (λ o. option_and_then (λ l. slice_get texts l) o) e) ∙ h in cc
        by (Some l) e = (l, e, sym (ap (λ o. option_and_then (λ l. slice_get texts l) o) e) ∙ h)

    sound_by : (Goal : ℕ → Type 0) (s v s2 v2 : ℕ) → IsSound Goal s v → (o : Option State) → at s ≡ o → Succeeds size label_at edge o v s2 v2 → IsSound Goal s2 v2
    sound_by Goal s v s2 v2 h None e k n w z run follows = absurd k
    sound_by Goal s v s2 v2 h (Some End) e k n w z run follows = absurd k
    sound_by Goal s v s2 v2 h (Some Stuck) e k n w z run follows = absurd k
    sound_by Goal s v s2 v2 h (Some (Any next)) e (same, edge) n w z run follows =
        let l = some_is (label_at v2) (led v v2 edge) in
        let t : List ℕ = get_or texts l.0 [] in
        h (suc n) (t ∷ w) z
        (reads_by texts at s (Some (Any next)) n (t ∷ w) e (t, w, refl, subst (λ r. Run texts at n r w) same run))
        (v2, edge, text_is v2 l.0 t l.1 (text_of v2 l.0 l.1), follows)
    sound_by Goal s v s2 v2 h (Some (Label l next)) e (same, edge, is) n w z run follows =
        let t : List ℕ = get_or texts l [] in
        let text : slice_get texts l ≡ Some t = text_of v2 l is in
        h (suc n) (t ∷ w) z
        (reads_by texts at s (Some (Label l next)) n (t ∷ w) e (t, w, refl, text, subst (λ r. Run texts at n r w) same run))
        (v2, edge, text_is v2 l t is text, follows)
    sound_by Goal s v s2 v2 h (Some (Fork a b)) e (inl same, here) n w z run follows =
        h (suc n) w z (reads_by texts at s (Some (Fork a b)) n w e (inl (subst (λ r. Run texts at n r w) same run))) (subst (λ x. Follows x w z) here follows)
    sound_by Goal s v s2 v2 h (Some (Fork a b)) e (inr same, here) n w z run follows =
        h (suc n) w z (reads_by texts at s (Some (Fork a b)) n w e (inr (subst (λ r. Run texts at n r w) same run))) (subst (λ x. Follows x w z) here follows)

    -- what succeeds is of use too
    pub sound_next : (Goal : ℕ → Type 0) (s v s2 v2 : ℕ) → IsSound Goal s v → Succeeds size label_at edge (at s) v s2 v2 → IsSound Goal s2 v2
    sound_next Goal s v s2 v2 h k = sound_by Goal s v s2 v2 h (at s) refl k

    -- at the end of a word one stands where it ends
    pub sound_end : (Goal : ℕ → Type 0) (s v : ℕ) → IsSound Goal s v → at s ≡ Some End → Goal v
    sound_end Goal s v h e = h 1 [] v (reads_by texts at s (Some End) 0 [] e refl) refl

    -- What is marked has all that succeeds it, and where a word ends one is found.
    pub record IsClosed (Marked : ℕ → ℕ → Type 0) (Found : ℕ → Type 0) : Type 0 where
      pub onto : (s v s2 v2 : ℕ) → Marked s v → Succeeds size label_at edge (at s) v s2 v2 → Marked s2 v2
      pub ends : (s v : ℕ) → Marked s v → at s ≡ Some End → v < size → Found v

    module _ (Marked : ℕ → ℕ → Type 0) (Found : ℕ → Type 0) (closed : IsClosed Marked Found) where
      reached_by : (n s : ℕ) (w : Word) (v z : ℕ) → ((s : ℕ) (w : Word) (v : ℕ) → Run texts at n s w → Follows v w z → Marked s v → Found z)
          → Run texts at (suc n) s w → Follows v w z → Marked s v → z < size → (o : Option State) → at s ≡ o → Found z
      reached_by n s w v z again run follows m below None e = absurd (read_by texts at s None n w e run)
      reached_by n s w v z again run follows m below (Some End) e =
          let nothing : w ≡ [] = read_by texts at s (Some End) n w e run in
          let here : v ≡ z = subst (λ x. Follows v x z) nothing follows in
          subst Found here (closed.ends s v m e (subst (λ x. x < size) (sym here) below))
      reached_by n s w v z again run follows m below (Some Stuck) e = absurd (read_by texts at s (Some Stuck) n w e run)
      reached_by n s w v z again run follows m below (Some (Any next)) e =
          let h = read_by texts at s (Some (Any next)) n w e run in
          let f = subst (λ x. Follows v x z) h.2 follows in
          again next h.1 f.0 h.3 f.3 (closed.onto s v next f.0 m (subst (λ x. Succeeds size label_at edge x v next f.0) (sym e) (refl, f.1)))
      reached_by n s w v z again run follows m below (Some (Label l next)) e =
          let h = read_by texts at s (Some (Label l next)) n w e run in
          let f = subst (λ x. Follows v x z) h.2 follows in
          let a = number_at f.0 h.0 f.2 in
          let same : a.0 ≡ l = number_one h.0 texts a.0 l tabled.distinct a.2 h.3 in
          again next h.1 f.0 h.4 f.3 (closed.onto s v next f.0 m (subst (λ x. Succeeds size label_at edge x v next f.0) (sym e) (refl, f.1, a.1 ∙ ap Some same)))
      reached_by n s w v z again run follows m below (Some (Fork a b)) e = elim (read_by texts at s (Some (Fork a b)) n w e run) [
        | inl r ↦ again a w v r follows (closed.onto s v a v m (subst (λ x. Succeeds size label_at edge x v a v) (sym e) (inl refl, refl)))
        | inr r ↦ again b w v r follows (closed.onto s v b v m (subst (λ x. Succeeds size label_at edge x v b v) (sym e) (inr refl, refl)))
      ]

      reached : (n : ℕ) (s : ℕ) (w : Word) (v z : ℕ) → Run texts at n s w → Follows v w z → Marked s v → z < size → Found z
      reached zero s w v z run follows m below = absurd run
      reached (suc n) s w v z run follows m below = reached_by n s w v z (λ s2 w2 v2 r f k. reached n s2 w2 v2 z r f k below) run follows m below (at s) refl

    abbrev shape : Shape
    shape = shape_by texts size label_at edge

    -- inside the graph one is led along the edges
    inside : (v c : ℕ) → v < size → leads size label_at edge v c ≡ edge v c
    inside v c h = ap (λ b. cond b (is_some (label_at c)) (edge v c)) (ne_eqb v size (λ e. absurd (omega arith)))

    text_below : (c : ℕ) (t : List ℕ) → text_at c ≡ Some t → c < size
    text_below c t h = let a = number_at c t h in tabled.below c (ap is_some a.1)

    first_text : (ts : Word) (d z : ℕ) (r : List ℕ) → Leads shape d (r ∷ ts) z → text_at d ≡ Some r
    first_text [] d z r f = f.0
    first_text (q ∷ ts) d z r f = f.0

    walk_of : (ts : Word) (c z : ℕ) (t : List ℕ) → text_at c ≡ Some t → Follows c ts z → Leads shape c (t ∷ ts) z
    walk_of [] c z t lab f = (lab, f)
    walk_of (r ∷ ts) c z t lab (d, e, labd, f) =
        (lab, d, sym (inside c d (text_below c t lab)) ∙ e, walk_of ts d z r labd f)

    follow_of : (ts : Word) (c z : ℕ) (t : List ℕ) → Leads shape c (t ∷ ts) z → Follows c ts z
    follow_of [] c z t (lab, f) = f
    follow_of (r ∷ ts) c z t (lab, d, e, f) = (d, inside c d (text_below c t lab) ∙ e, first_text ts d z r f, follow_of ts d z r f)

    walk_known : (ts : Word) (c z : ℕ) → Leads shape c ts z → AllByRecursion (Known texts) ts
    walk_known [] c z f = absurd f
    walk_known (t ∷ []) c z f = let a = number_at c t f.0 in ((a.0, a.2), tt)
    walk_known (t ∷ r ∷ ts) c z f = let a = number_at c t f.0 in ((a.0, a.2), walk_known (r ∷ ts) f.1 z f.3)

    walk_begins : (ts : Word) (u z : ℕ) → Leads shape u ts z → Follows size ts z
    walk_begins [] u z f = absurd f
    walk_begins (t ∷ ts) u z f =
        let lab = first_text ts u z t f in
        let a = number_at u t lab in
        let node : IsTrue (is_some (label_at u)) = ap is_some a.1 in
        (u, ap (λ b. cond b (is_some (label_at u)) (edge size u)) (eq-eqb size size refl) ∙ node, lab, follow_of ts u z t f)

    walk_ends : (ts : Word) (u z : ℕ) → Leads shape u ts z → z < size
    walk_ends [] u z f = absurd f
    walk_ends (t ∷ []) u z f = subst (λ x. x < size) f.1 (text_below u t f.0)
    walk_ends (t ∷ r ∷ ts) u z f = walk_ends (r ∷ ts) f.1 z f.3

    module _ (e : Expr) (low start : ℕ) (stands : Stands texts at e low start 0) (end : at 0 ≡ Some End) where
      -- the first state is of use in front of all nodes
      pub sound_start : IsSound (λ z. z < size → IsAnswer shape e z) start size
      sound_start n [] z run follows below = absurd (omega (arith, follows))
      sound_start n (t ∷ ts) z run (c, led, lab, f) below =
          (t ∷ ts, read_matches texts at e low start stands end n (t ∷ ts) run, c, walk_of ts c z t lab f)

      -- and all answers are found from there
      pub complete_start : (Marked : ℕ → ℕ → Type 0) (Found : ℕ → Type 0) → IsClosed Marked Found → Marked start size → (z : ℕ) → IsAnswer shape e z → Found z
      complete_start Marked Found closed m z (w, matches, u, walk) =
          let r = matches_read texts at e low start stands end w matches (walk_known w u z walk) in
          reached Marked Found closed r.0 start w size z r.1 (walk_begins w u z walk) m (walk_ends w u z walk)

      sound_reached : (First : ℕ → Type 0) → ((v : ℕ) → First v → v ≡ size) → (s v : ℕ) → Reached at size label_at edge First start s v → IsSound (λ z. z < size → IsAnswer shape e z) s v
      sound_reached First only s v (begin v0 f) = subst (λ x. IsSound (λ z. z < size → IsAnswer shape e z) start x) (sym (only v f)) sound_start
      sound_reached First only s v (onward s0 v0 s1 v1 r k) = sound_next (λ z. z < size → IsAnswer shape e z) s0 v0 s1 v1 (sound_reached First only s0 v0 r) k

      -- the nodes at which a word can end are the answers
      pub ends_answers : (First : ℕ → Type 0) → First size → ((v : ℕ) → First v → v ≡ size) → (nodes : List ℕ) → AreEnds at size label_at edge First start nodes → AreAnswers shape e nodes
      ends_answers First there only nodes k = record {
        rising = k.rising;
        sound = λ v h. let f = k.sound v h in sound_end (λ z. z < size → IsAnswer shape e z) f.0 v (sound_reached First only f.0 v f.3) f.1 f.2;
        complete = λ v a.
            complete_start (λ s x. Reached at size label_at edge First start s x) (λ x. IsTrue (has nodes x))
            (record { onto = λ s x s2 x2 m t. onward s x s2 x2 m t; ends = λ s x m e below. k.complete s x e below m })
            (begin size there) v a;
      }
