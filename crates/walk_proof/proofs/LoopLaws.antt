-- One step of each loop that marks.
use Rattle.std.proofs.Common.{◌≡◌, ℕ, ◌+◌, ◌<◌, ◌≤◌, inl, inr, Bool, List, [], ◌∷◌, ◌++◌, length, take, get_or, sym, ap, ◌∙◌, subst, arith, Option, Some, None, IsTrue}
use Rattle.graph_spec.specs.Members.{has}
use Rattle.px_base.specs.BitSets.{BitSet}
use Rattle.path_automaton.specs.declared.state.State.{State}
use Rattle.path_automaton.specs.declared.state.State.TheVariants.{End, Stuck, Any, Label, Fork}
use Rattle.path_automaton.specs.ProductSteps.{leads}
use Rattle.path_automaton.specs.NewMarks.{Enters}
use Rattle.walk_spec.specs.Ways.{Takes}
use Rattle.state_sets.specs.StateSets.{ForkedTo, here, onward}
use Rattle.state_sets.proofs.Lists.{take_cases, has_at}
use Rattle.walk_proof.specs.declared.marks.Pair.{Pair}
use Rattle.walk_proof.specs.Marking.{IsMarked, Among, Notes}
use Rattle.walk_proof.specs.Sources.{Leads, AreSources}
use Rattle.walk_proof.specs.Layering.{IntoBy, ForkedInto, ReadsOneBy, ReadsFromBy, EntersOne, EntersFrom}
use Rattle.walk_proof.proofs.MarkLaws.{notes_as, notes_then}
use Rattle.walk_proof.proofs.PairLists.{no_pair, among_at, among_take_cases, take_front, get_prefix}

pub enters_leads : (o : Option State) (k : ℕ) → Enters o k → Leads o k
enters_leads None k h = h
enters_leads (Some End) k h = h
enters_leads (Some Stuck) k h = h
enters_leads (Some (Any next)) k h = absurd h
enters_leads (Some (Label l next)) k h = absurd h
enters_leads (Some (Fork a b)) k h = h

pub takes_leads : (label_at : ℕ → Option ℕ) (o : Option State) (c k : ℕ) → Takes label_at o c k → Leads o k
takes_leads label_at None c k h = h
takes_leads label_at (Some End) c k h = h
takes_leads label_at (Some Stuck) c k h = h
takes_leads label_at (Some (Any next)) c k h = h
takes_leads label_at (Some (Label l next)) c k h = h.0
takes_leads label_at (Some (Fork a b)) c k h = absurd h

module _ (at : ℕ → Option State) where
  pub forked_front : (s r k : ℕ) → Enters (at s) r → ForkedTo at r k → ForkedTo at s k
  forked_front s r k e here = onward s r here e
  forked_front s r k e (onward x k1 f d) = onward x k1 (forked_front s r x e f) d

  -- one more state that may enter the pair's
  pub close_source_next : (sources : List ℕ) (k x i : ℕ) (rows rows2 rows3 : List BitSet) (l l2 l3 : List Pair) → i < length sources → Notes (EntersFrom at sources k x) rows rows2 l l2
      → Notes (EntersOne at (get_or sources i 0) k x) rows2 rows3 l2 l3 → Notes (EntersFrom at sources k x) rows rows3 l l3
  close_source_next sources k x i rows rows2 rows3 l l2 l3 within a b =
      notes_then (EntersFrom at sources k x) rows rows2 rows3 l l2 l3 a
      (notes_as (EntersOne at (get_or sources i 0) k x) (EntersFrom at sources k x) rows2 rows3 l2 l3
      (λ s c h. (subst (λ y. IsTrue (has sources y)) (sym h.0) (has_at sources i within), h.1, h.2)) b)

  pub close_source_marked : (sources : List ℕ) (k x i : ℕ) (rows2 rows3 : List BitSet) (l2 l3 : List Pair) → i < length sources
      → ((s : ℕ) → IsTrue (has (take i sources) s) → Enters (at s) k → IsMarked rows2 s x) → Notes (EntersOne at (get_or sources i 0) k x) rows2 rows3 l2 l3
      → (Enters (at (get_or sources i 0)) k → IsMarked rows3 (get_or sources i 0) x) → (s : ℕ) → IsTrue (has (take (i + 1) sources) s) → Enters (at s) k → IsMarked rows3 s x
  close_source_marked sources k x i rows2 rows3 l2 l3 within old b new s h e = elim (take_cases sources i within s h) [
    | inl before ↦ b.grows s x (old s before e)
    | inr same ↦ subst (λ y. IsMarked rows3 y x) (sym same) (new (subst (λ y. Enters (at y) k) same e))
  ]

  -- one more pair whose forks are looked at
  module _ (sources : List (List ℕ)) (are : AreSources at sources) (before layer layer2 : List Pair) (rows0 rows rows2 : List BitSet) (i : ℕ) (p : Pair) (own : List ℕ)
      (within : i < length layer) (is : p ≡ get_or layer i no_pair) (own_is : own ≡ get_or sources p.state [])
      (a : Notes (ForkedInto at before) rows0 rows before layer) (b : Notes (EntersFrom at own p.state p.place) rows rows2 layer layer2) where
    to_before : (s c : ℕ) → EntersFrom at own p.state p.place s c → ForkedInto at before s c
    to_before s c h =
        let there = among_at layer i p within is in
        subst (λ x. ForkedInto at before s x) (sym h.2)
        (elim (a.source p.state p.place there) [
          | inl old ↦ (p.state, old, onward s p.state here h.1)
          | inr new ↦ (new.0.0, new.0.1, forked_front s p.state new.0.0 h.1 new.0.2)
        ])

    pub close_next : Notes (ForkedInto at before) rows0 rows2 before layer2
    close_next = notes_then (ForkedInto at before) rows0 rows rows2 before layer layer2 a (notes_as (EntersFrom at own p.state p.place) (ForkedInto at before) rows rows2 layer layer2 to_before b)

    pub close_closed : ((k s c : ℕ) → Among (take i layer) k c → Enters (at s) k → IsMarked rows s c) → ((s : ℕ) → IsTrue (has own s) → Enters (at s) p.state → IsMarked rows2 s p.place)
        → (k s c : ℕ) → Among (take (i + 1) layer2) k c → Enters (at s) k → IsMarked rows2 s c
    close_closed old new k s c h e =
        let still : p ≡ get_or layer2 i no_pair = subst (λ x. p ≡ get_or x i no_pair) (sym b.front.1) (get_prefix layer b.front.0 i p within is) in
        let len = longer in
        elim (among_take_cases layer2 i p (omega (arith, within, len)) still k c h) [
          | inl first ↦ b.grows s c (old k s c (subst (λ x. Among x k c) (ap (take i) b.front.1 ∙ take_front layer b.front.0 i (omega (arith, within))) first) e)
          | inr last ↦
              let e2 = subst (λ y. Enters (at s) y) last.0 e in
              subst (λ y. IsMarked rows2 s y) (sym last.1) (new s (subst (λ x. IsTrue (has x s)) (sym own_is) (are.from s p.state (enters_leads (at s) p.state e2))) e2)
        ]
      where
        longer : length layer ≤ length layer2
        longer = subst (λ x. length layer ≤ length x) (sym b.front.1) (len_more layer b.front.0)
          where
            len_more : (xs ys : List Pair) → length xs ≤ length (xs ++ ys)
            len_more [] ys = omega arith
            len_more (x ∷ xs) ys = let r = len_more xs ys in omega (arith, r)

  module _ (size : ℕ) (label_at : ℕ → Option ℕ) (edge : ℕ → ℕ → Bool) where
    pub read_source_next : (sources : List ℕ) (k x i : ℕ) (rows rows2 rows3 : List BitSet) (l l2 l3 : List Pair) → i < length sources
        → Notes (ReadsFromBy at size label_at edge sources k x) rows rows2 l l2 → Notes (ReadsOneBy at size label_at edge (get_or sources i 0) k x) rows2 rows3 l2 l3
        → Notes (ReadsFromBy at size label_at edge sources k x) rows rows3 l l3
    read_source_next sources k x i rows rows2 rows3 l l2 l3 within a b =
        notes_then (ReadsFromBy at size label_at edge sources k x) rows rows2 rows3 l l2 l3 a
        (notes_as (ReadsOneBy at size label_at edge (get_or sources i 0) k x) (ReadsFromBy at size label_at edge sources k x) rows2 rows3 l2 l3
        (λ s c h. (subst (λ y. IsTrue (has sources y)) (sym h.0) (has_at sources i within), h.1, h.2)) b)

    pub read_source_marked : (sources : List ℕ) (k x i : ℕ) (rows2 rows3 : List BitSet) (l2 l3 : List Pair) → i < length sources
        → ((s c : ℕ) → ReadsFromBy at size label_at edge (take i sources) k x s c → IsMarked rows2 s c) → Notes (ReadsOneBy at size label_at edge (get_or sources i 0) k x) rows2 rows3 l2 l3
        → ((s c : ℕ) → ReadsOneBy at size label_at edge (get_or sources i 0) k x s c → IsMarked rows3 s c) → (s c : ℕ) → ReadsFromBy at size label_at edge (take (i + 1) sources) k x s c → IsMarked rows3 s c
    read_source_marked sources k x i rows2 rows3 l2 l3 within old b new s c h = elim (take_cases sources i within s h.0) [
      | inl before ↦ b.grows s c (old s c (before, h.1, h.2))
      | inr same ↦ new s c (same, h.1, h.2)
    ]

    module _ (sources : List (List ℕ)) (are : AreSources at sources) (last : List Pair) (i : ℕ) (p : Pair) (own : List ℕ) (rows rows2 rows3 : List BitSet) (l l2 l3 : List Pair)
        (within : i < length last) (is : p ≡ get_or last i no_pair) (own_is : own ≡ get_or sources p.state [])
        (b : Notes (ReadsFromBy at size label_at edge own p.state p.place) rows2 rows3 l2 l3) where
      pub spread_next : Notes (IntoBy at size label_at edge last) rows rows2 l l2 → Notes (IntoBy at size label_at edge last) rows rows3 l l3
      spread_next a =
          notes_then (IntoBy at size label_at edge last) rows rows2 rows3 l l2 l3 a
          (notes_as (ReadsFromBy at size label_at edge own p.state p.place) (IntoBy at size label_at edge last) rows2 rows3 l2 l3
          (λ s c h. (p.state, p.place, among_at last i p within is, h.1, h.2)) b)

      pub spread_marked : ((s c : ℕ) → IntoBy at size label_at edge (take i last) s c → IsMarked rows2 s c) → ((s c : ℕ) → ReadsFromBy at size label_at edge own p.state p.place s c → IsMarked rows3 s c)
          → (s c : ℕ) → IntoBy at size label_at edge (take (i + 1) last) s c → IsMarked rows3 s c
      spread_marked old new s c h = elim (among_take_cases last i p within is h.0 h.1 h.2) [
        | inl first ↦ b.grows s c (old s c (h.0, h.1, first, h.3, h.4))
        | inr e ↦
            let t = subst (λ y. Takes label_at (at s) y p.state) e.1 (subst (λ y. Takes label_at (at s) h.1 y) e.0 h.3) in
            new s c (subst (λ x. IsTrue (has x s)) (sym own_is) (are.from s p.state (takes_leads label_at (at s) p.place p.state t)), t, subst (λ y. IsTrue (leads size label_at edge c y)) e.1 h.4)
      ]
