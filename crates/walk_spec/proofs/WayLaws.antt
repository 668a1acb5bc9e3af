-- The automaton of an expression reads, from the place before all nodes on, just the walks whose words match.
use Rattle.std.proofs.Common.{◌≡◌, ℕ, zero, suc, ◌<◌, ◌⊎◌, inl, inr, List, [], ◌∷◌, map, length, refl, sym, ap, ◌∙◌, subst, arith, Option, Some, None, get_or, true, false, Bool, cond, nat_eq, true≢false, IsTrue}
use Rattle.std.specs.Prelude.{slice_get, option_and_then, is_some, IsSome, bytes_eq}
use Rattle.std.specs.List.{AllByRecursion}
use Rattle.std.proofs.lemmas.Bool.{ne_eqb, eq-eqb}
use Rattle.std.proofs.lemmas.Option.{slice_get-get_or}
use Rattle.graph_spec.specs.Shapes.{Shape, shape_by}
use Rattle.path_automaton.specs.declared.state.State.{State}
use Rattle.path_automaton.specs.declared.state.State.TheVariants.{End, Stuck, Any, Label, Fork}
use Rattle.path_automaton.specs.ProductSteps.{leads}
use Rattle.path_automaton.specs.NewMarks.{Enters}
use Rattle.path_spec.specs.Trees.{Expr}
use Rattle.path_spec.specs.Matches.{Word, Matches}
use Rattle.path_expr.specs.ExprAutomata.{ReadsFrom, Run, Known, Stands}
use Rattle.path_expr.proofs.AutomatonWords.{reads_by, read_by, read_matches, matches_read}
use Rattle.path_expr.proofs.LabelNumbers.{number_one}
use Rattle.path_expr.proofs.ProductSearch.{IsTabled, some_is}
use Rattle.walk_spec.specs.LeastWalks.{AreLinked, EndIn, Shows}
use Rattle.walk_spec.specs.Ways.{Takes, Way, done, enter, take}

module _ (texts : List (List ℕ)) (at : ℕ → Option State) (size : ℕ) (label_at : ℕ → Option ℕ) (edge : ℕ → ℕ → Bool) (v : ℕ) where
  abbrev text_at : ℕ → Option (List ℕ)
  text_at c = option_and_then (λ l. slice_get texts l) (label_at c)

  -- the nodes come next to one another from the place on, and have these labels; the last is v
  abbrev Goes : ℕ → List ℕ → Word → Type 0
  Goes c [] [] = c ≡ v
  Goes c [] (t ∷ w) = ⊥
  Goes c (x ∷ nodes) [] = ⊥
  Goes c (x ∷ nodes) (t ∷ w) = IsTrue (leads size label_at edge c x) × (text_at x ≡ Some t) × Goes x nodes w

  -- the nodes have a word that is read from the state on
  record Reads (s c : ℕ) (nodes : List ℕ) : Type 0 where
    steps : ℕ
    word : Word
    run : Run texts at steps s word
    goes : Goes c nodes word

  module _ (tabled : IsTabled texts size label_at edge) where
    led : (c x : ℕ) → IsTrue (leads size label_at edge c x) → IsSome (label_at x)
    led c x h = elim (nat_eq c size) as (λ b. cond b (is_some (label_at x)) (edge c x) ≡ true → IsSome (label_at x)) [
      | true ↦ λ e. e
      | false ↦ λ e. (tabled.ends c x e).1
    ] h

    text_is : (c l : ℕ) (t : List ℕ) → label_at c ≡ Some l → slice_get texts l ≡ Some t → text_at c ≡ Some t
    text_is c l t h e = ap (λ o. option_and_then (λ l. slice_get texts l) o) h ∙ e

    number_at : (c : ℕ) (t : List ℕ) → text_at c ≡ Some t → (l : ℕ) × (label_at c ≡ Some l) × (slice_get texts l ≡ Some t)
    number_at c t h = by (label_at c) refl
      where
        by : (o : Option ℕ) → label_at c ≡ o → (l : ℕ) × (label_at c ≡ Some l) × (slice_get texts l ≡ Some t)
        by None e = let k : ◌≡◌ {A = Option (List ℕ)} None (Some t) = sym (ap (λ o. option_and_then (λ l. slice_get texts l) o) e) ∙ h in cc
        by (Some l) e = (l, e, sym (ap (λ o. option_and_then (λ l. slice_get texts l) o) e) ∙ h)

    -- inside the graph one is led along the edges
    inside : (c x : ℕ) → c < size → leads size label_at edge c x ≡ edge c x
    inside c x h = ap (λ b. cond b (is_some (label_at x)) (edge c x)) (ne_eqb c size (λ e. absurd (omega arith)))

    first : (x : ℕ) → leads size label_at edge size x ≡ is_some (label_at x)
    first x = ap (λ b. cond b (is_some (label_at x)) (edge size x)) (eq-eqb size size refl)

    text_below : (c : ℕ) (t : List ℕ) → text_at c ≡ Some t → c < size
    text_below c t h = let a = number_at c t h in tabled.below c (ap is_some a.1)

    enter_reads : (o : Option State) (n k : ℕ) (w : Word) → Enters o k → Run texts at n k w → ReadsFrom texts o (λ r u. Run texts at n r u) w
    enter_reads None n k w h r = absurd h
    enter_reads (Some End) n k w h r = absurd h
    enter_reads (Some Stuck) n k w h r = absurd h
    enter_reads (Some (Any next)) n k w h r = absurd h
    enter_reads (Some (Label l next)) n k w h r = absurd h
    enter_reads (Some (Fork a b)) n k w (inl h) r = inl (subst (λ x. Run texts at n x w) h r)
    enter_reads (Some (Fork a b)) n k w (inr h) r = inr (subst (λ x. Run texts at n x w) h r)

    take_reads : (o : Option State) (n k x l : ℕ) (t : List ℕ) (w : Word) → Takes label_at o x k → label_at x ≡ Some l → slice_get texts l ≡ Some t → Run texts at n k w
        → ReadsFrom texts o (λ r u. Run texts at n r u) (t ∷ w)
    take_reads None n k x l t w h is text r = absurd h
    take_reads (Some End) n k x l t w h is text r = absurd h
    take_reads (Some Stuck) n k x l t w h is text r = absurd h
    take_reads (Some (Any next)) n k x l t w h is text r = (t, w, refl, subst (λ y. Run texts at n y w) h r)
    take_reads (Some (Label m next)) n k x l t w h is text r =
        let same : m ≡ l = cc in
        (t, w, refl, ap (slice_get texts) same ∙ text, subst (λ y. Run texts at n y w) h.0 r)
    take_reads (Some (Fork a b)) n k x l t w h is text r = absurd h

    way_reads : (s c : ℕ) (nodes : List ℕ) → Way at size label_at edge v s c nodes → Reads s c nodes
    way_reads s c nodes (done s1 e) = record { steps = 1; word = []; run = reads_by texts at s1 (Some End) 0 [] e refl; goes = refl }
    way_reads s c nodes (enter s1 k c1 nodes1 h r) =
        let q = way_reads k c1 nodes1 r in
        record {
          steps = suc q.steps;
          word = q.word;
          run = reads_by texts at s1 (at s1) q.steps q.word refl (enter_reads (at s1) q.steps k q.word h q.run);
          goes = q.goes;
        }
    way_reads s c nodes (take s1 k c1 x nodes1 l h r) =
        let q = way_reads k x nodes1 r in
        let a = some_is (label_at x) (led c1 x l) in
        let t : List ℕ = get_or texts a.0 [] in
        let text : slice_get texts a.0 ≡ Some t = slice_get-get_or texts a.0 [] (tabled.labelled x a.0 a.1) in
        record {
          steps = suc q.steps;
          word = t ∷ q.word;
          run = reads_by texts at s1 (at s1) q.steps (t ∷ q.word) refl (take_reads (at s1) q.steps k x a.0 t q.word h a.1 text q.run);
          goes = (l, text_is x a.0 t a.1 text, q.goes);
        }

    nothing_read : (s c : ℕ) (nodes : List ℕ) → at s ≡ Some End → Goes c nodes [] → Way at size label_at edge v s c nodes
    nothing_read s c [] e h = subst (λ x. Way at size label_at edge v s x []) (sym h) (done s e)
    nothing_read s c (x ∷ nodes) e h = absurd h

    way_by : (n s c : ℕ) (w : Word) (nodes : List ℕ) → ((s c : ℕ) (w : Word) (nodes : List ℕ) → Run texts at n s w → Goes c nodes w → Way at size label_at edge v s c nodes)
        → Run texts at (suc n) s w → Goes c nodes w → (o : Option State) → at s ≡ o → Way at size label_at edge v s c nodes
    way_by n s c w nodes again run goes None e = absurd (read_by texts at s None n w e run)
    way_by n s c w nodes again run goes (Some End) e = nothing_read s c nodes e (subst (λ x. Goes c nodes x) (read_by texts at s (Some End) n w e run) goes)
    way_by n s c w nodes again run goes (Some Stuck) e = absurd (read_by texts at s (Some Stuck) n w e run)
    way_by n s c w nodes again run goes (Some (Any next)) e =
        let h = read_by texts at s (Some (Any next)) n w e run in
        one nodes h.0 h.1 (subst (λ x. Goes c nodes x) h.2 goes) h.3
      where
        one : (nodes : List ℕ) (t : List ℕ) (rest : Word) → Goes c nodes (t ∷ rest) → Run texts at n next rest → Way at size label_at edge v s c nodes
        one [] t rest g r = absurd g
        one (x ∷ nodes) t rest g r = take s next c x nodes g.0 (subst (λ o. Takes label_at o x next) (sym e) refl) (again next x rest nodes r g.2)
    way_by n s c w nodes again run goes (Some (Label l next)) e =
        let h = read_by texts at s (Some (Label l next)) n w e run in
        one nodes h.0 h.1 (subst (λ x. Goes c nodes x) h.2 goes) h.3 h.4
      where
        one : (nodes : List ℕ) (t : List ℕ) (rest : Word) → Goes c nodes (t ∷ rest) → slice_get texts l ≡ Some t → Run texts at n next rest → Way at size label_at edge v s c nodes
        one [] t rest g text r = absurd g
        one (x ∷ nodes) t rest g text r =
            let a = number_at x t g.1 in
            let same : a.0 ≡ l = number_one t texts a.0 l tabled.distinct a.2 text in
            take s next c x nodes g.0 (subst (λ o. Takes label_at o x next) (sym e) (refl, a.1 ∙ ap Some same)) (again next x rest nodes r g.2)
    way_by n s c w nodes again run goes (Some (Fork a b)) e = elim (read_by texts at s (Some (Fork a b)) n w e run) [
      | inl r ↦ enter s a c nodes (subst (λ o. Enters o a) (sym e) (inl refl)) (again a c w nodes r goes)
      | inr r ↦ enter s b c nodes (subst (λ o. Enters o b) (sym e) (inr refl)) (again b c w nodes r goes)
    ]

    reads_way : (n s c : ℕ) (w : Word) (nodes : List ℕ) → Run texts at n s w → Goes c nodes w → Way at size label_at edge v s c nodes
    reads_way zero s c w nodes run goes = absurd run
    reads_way (suc n) s c w nodes run goes = way_by n s c w nodes (λ s2 c2 w2 nodes2 r g. reads_way n s2 c2 w2 nodes2 r g) run goes (at s) refl

    abbrev shape : Shape
    shape = shape_by texts size label_at edge

    -- from a node on
    goes_by : (nodes : List ℕ) (w : Word) (p : ℕ) → p < size → map shape.label nodes ≡ map Some w → AreLinked shape (p ∷ nodes) → EndIn (p ∷ nodes) v → Goes p nodes w
    goes_by [] [] p b h l e = e
    goes_by [] (t ∷ w) p b h l e = absurd (cc)
    goes_by (x ∷ nodes) [] p b h l e = absurd (cc)
    goes_by (x ∷ nodes) (t ∷ w) p b h l e =
        let k : text_at x ≡ Some t = cc in
        let m : map shape.label nodes ≡ map Some w = cc in
        (inside p x b ∙ l.0, k, goes_by nodes w x (text_below x t k) m l.1 e)

    -- from the place before all nodes on
    goes_first : (nodes : List ℕ) (w : Word) → map shape.label nodes ≡ map Some w → AreLinked shape nodes → EndIn nodes v → Goes size nodes w
    goes_first [] w h l e = absurd e
    goes_first (x ∷ nodes) [] h l e = absurd (cc)
    goes_first (x ∷ nodes) (t ∷ w) h l e =
        let k : text_at x ≡ Some t = cc in
        let m : map shape.label nodes ≡ map Some w = cc in
        let a = number_at x t k in
        (first x ∙ ap is_some a.1, k, goes_by nodes w x (text_below x t k) m l e)

    goes_labels : (c : ℕ) (nodes : List ℕ) (w : Word) → Goes c nodes w → map shape.label nodes ≡ map Some w
    goes_labels c [] [] h = refl
    goes_labels c [] (t ∷ w) h = absurd h
    goes_labels c (x ∷ nodes) [] h = absurd h
    goes_labels c (x ∷ nodes) (t ∷ w) h = let k = goes_labels x nodes w h.2 in λ i. (h.1 i) ∷ (k i)

    goes_linked : (nodes : List ℕ) (w : Word) (p : ℕ) → p < size → Goes p nodes w → AreLinked shape (p ∷ nodes) × EndIn (p ∷ nodes) v
    goes_linked [] [] p b h = (tt, h)
    goes_linked [] (t ∷ w) p b h = absurd h
    goes_linked (x ∷ nodes) [] p b h = absurd h
    goes_linked (x ∷ nodes) (t ∷ w) p b h =
        let k = goes_linked nodes w x (text_below x t h.1) h.2 in
        ((sym (inside p x b) ∙ h.0, k.0), k.1)

    goes_known : (c : ℕ) (nodes : List ℕ) (w : Word) → Goes c nodes w → AllByRecursion (Known texts) w
    goes_known c [] [] h = tt
    goes_known c [] (t ∷ w) h = absurd h
    goes_known c (x ∷ nodes) [] h = absurd h
    goes_known c (x ∷ nodes) (t ∷ w) h = let a = number_at x t h.1 in ((a.0, a.2), goes_known x nodes w h.2)

    module _ (e : Expr) (low start : ℕ) (stands : Stands texts at e low start 0) (end : at 0 ≡ Some End) where
      pub shows_way : (nodes : List ℕ) → Shows shape e v nodes → Way at size label_at edge v start size nodes
      shows_way nodes h =
          let goes = goes_first nodes h.word h.labels h.linked h.end in
          let r = matches_read texts at e low start stands end h.word h.matches (goes_known size nodes h.word goes) in
          reads_way r.0 start size h.word nodes r.1 goes

      shows_by : (nodes : List ℕ) (w : Word) → v < size → Goes size nodes w → Matches e w → Shows shape e v nodes
      shows_by [] [] b h m = absurd (omega (arith, h, b))
      shows_by [] (t ∷ w) b h m = absurd h
      shows_by (x ∷ nodes) [] b h m = absurd h
      shows_by (x ∷ nodes) (t ∷ w) b h m =
          let k = goes_linked nodes w x (text_below x t h.1) h.2 in
          record { word = t ∷ w; labels = goes_labels size (x ∷ nodes) (t ∷ w) h; linked = k.0; end = k.1; matches = m }

      pub way_shows : (nodes : List ℕ) → v < size → Way at size label_at edge v start size nodes → Shows shape e v nodes
      way_shows nodes b h =
          let r = way_reads start size nodes h in
          shows_by nodes r.word b r.goes (read_matches texts at e low start stands end r.steps r.word r.run)
