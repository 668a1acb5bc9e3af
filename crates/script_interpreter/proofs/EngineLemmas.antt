-- What the calls of an engine make of the state of a run.
use Rattle.std.proofs.Common.{◌≡◌, ℕ, suc, Bool, true, false, List, [], ◌∷◌, length, Option, None, Some, refl, sym, ap, ◌∙◌, subst, arith, cond, true≢false, Ok}
use Rattle.std.specs.Prelude.{⊤, not, ◌||◌, All, option_and_then, if◌then◌else◌}
use Rattle.std.specs.List.{filter}
use Rattle.graph_spec.specs.Graphs.{Graph}
use Rattle.graph_spec.specs.declared.limits.Limits.{Limits}
use Rattle.change_spec.specs.Steps.{Step, apply_step, apply_all, apply, made, after, is_new}
use Rattle.change_spec.specs.NextOne.{OneStep}
use Rattle.change_spec.proofs.StepGraphs.{stepped, first_made}
use Rattle.change_spec.proofs.Accepted.{accepted_all}
use Rattle.graph_spec.specs.Shapes.{shape_of}
use Rattle.bisim_spec.specs.declared.kind.Kind.{Kind}
use Rattle.bisim_spec.specs.declared.kind.Kind.TheVariants as kind
use Rattle.bisim_spec.specs.Bisimilarity.{Bisim}
use Rattle.bisim_spec.specs.Partitions.{Agrees}
use Rattle.bisim_spec.specs.IndexGraphs.{View}
use Rattle.bisim_spec.specs.Fits.{view_at}
use Rattle.index_api.specs.Meanings.{Meaning, IsBuilt, BeginsFull, IsViewStep, blocks_in}
use Rattle.index_api.specs.IndexKinds.{is_kind, has_kind, kinds_of, index_of}
use Rattle.pathindex_core.specs.Engines.{Opened, EngineSeen, EachBecomes, IsKeptFor, graph_in, level_in}
use Rattle.pathindex_core.specs.Updates.{IsMoved, IsUpdated}
use Rattle.index_saving.proofs.KeptOne.{found_all, some_found, is_one, one_in, HasOne, has_one}
use Rattle.triple_names.specs.Names.{Names}
use Rattle.script_interpreter.specs.States.{BeginsRun, forgotten, left_out}
use Rattle.script_interpreter.specs.Runs.{IsChanged}
use Rattle.script_interpreter.specs.EngineStates.{state_in}

-- R holds between the indexes of two lists, one by one
abbrev Pairwise : (R : Meaning → Meaning → Type 0) → List Meaning → List Meaning → Type 0
Pairwise R [] [] = ⊤
Pairwise R [] (b ∷ bs) = ⊥
Pairwise R (a ∷ xs) [] = ⊥
Pairwise R (a ∷ xs) (b ∷ bs) = R a b × Pairwise R xs bs

pairwise : (R : Meaning → Meaning → Type 0) (olds news : List Meaning) → EachBecomes R olds news → Pairwise R olds news
pairwise R [] [] h = tt
pairwise R [] (b ∷ bs) h = let e = h.length_kept in absurd (omega (arith, e))
pairwise R (a ∷ xs) [] h = let e = h.length_kept in absurd (omega (arith, e))
pairwise R (a ∷ xs) (b ∷ bs) h = (
  h.each 0 a (omega arith),
  pairwise R xs bs (record { length_kept = (let e = h.length_kept in omega (arith, e)); each = λ i d l. h.each (suc i) d (omega (arith, l)) }),
)

-- of two indexes that are found, or of none, R holds
pub data BothMeanings (R : Meaning → Meaning → Type 0) : Option Meaning → Option Meaning → Type 0 where
  neither : BothMeanings R None None
  both : (a b : Meaning) → R a b → BothMeanings R (Some a) (Some b)

-- what is found of one kind before and after
found : (R : Meaning → Meaning → Type 0) (k : Kind) → ((a b : Meaning) → R a b → b.kind ≡ a.kind) → (olds news : List Meaning) → Pairwise R olds news → BothMeanings R (index_of olds k) (index_of news k)
found R k same [] [] h = neither
found R k same [] (b ∷ bs) h = absurd h
found R k same (a ∷ xs) [] h = absurd h
found R k same (a ∷ xs) (b ∷ bs) h =
    elim (is_kind k a.kind) as (λ t. is_kind k b.kind ≡ t → BothMeanings R (cond t (Some a) (index_of xs k)) (cond (is_kind k b.kind) (Some b) (index_of bs k))) [
      | true ↦ λ e. subst (λ t. BothMeanings R (Some a) (cond t (Some b) (index_of bs k))) (sym e) (both a b h.0)
      | false ↦ λ e. subst (λ t. BothMeanings R (index_of xs k) (cond t (Some b) (index_of bs k))) (sym e) (found R k same xs bs h.1)
    ] (ap (is_kind k) (same a b h.0))

none_found : (k : Kind) (boxes : List Meaning) → has_kind (kinds_of boxes) k ≡ false → index_of boxes k ≡ None
none_found k [] h = refl
none_found k (a ∷ xs) h =
    elim (is_kind k a.kind) as (λ t. (t || has_kind (kinds_of xs) k) ≡ false → cond t (Some a) (index_of xs k) ≡ None) [
      | true ↦ λ e. absurd (true≢false e)
      | false ↦ λ e. none_found k xs e
    ] h

-- the state in which a run begins, once the engine is open
pub first_state : (n : Names) (g : Graph) (o : Opened) (olds news : List Meaning) → o.graph ≡ g → EachBecomes (λ a b. IsBuilt a b g o.k) olds news
    → kinds_of news ≡ kinds_of olds → All (IsKeptFor o) news → BeginsRun g n (kinds_of olds) o.k (state_in (record { boxes = news; opened = Some o }) n)
first_state n g o olds news same built kinds all = record {
  graph = same;
  names = λ p. refl;
  kinds = kinds;
  level = refl;
  one = λ h. whole (has_one o news all h) (found (λ a b. IsBuilt a b g o.k) kind.One (λ a b r. r.kind) olds news (pairwise _ olds news built));
  none = λ h. ap (λ x. blocks_in (option_and_then (λ b. view_at b.views 0) x)) (none_found kind.One news h);
}
  where
    begins : (k : Kind) (x : Option View) (v : View) → k ≡ kind.One → x ≡ Some v → BeginsFull k g x → Agrees (shape_of g) v.block_of (Bisim (shape_of g))
    begins k x v e f w = subst (λ y. BeginsFull kind.One g y) f (subst (λ z. BeginsFull z g x) e w)

    by_found : (one : HasOne o.graph news) (x y : Option Meaning) → BothMeanings (λ a b. IsBuilt a b g o.k) x y → y ≡ Some one.index → Agrees (shape_of g) one.view.block_of (Bisim (shape_of g))
    by_found one None None neither e = absurd (cc)
    by_found one None (Some b) f e = elim f [ ]
    by_found one (Some a) None f e = elim f [ ]
    by_found one (Some a) (Some b) (both _ _ r) e =
        let same : b ≡ one.index = cc in
        begins a.kind (view_at b.views 0) one.view (sym r.kind ∙ ap (λ m. m.kind) same ∙ one.of_kind) (ap (λ m. view_at m.views 0) same ∙ one.view_is) r.full

    whole : (one : HasOne o.graph news) → BothMeanings (λ a b. IsBuilt a b g o.k) (index_of olds kind.One) (index_of news kind.One) → Agrees (shape_of g) (one_in news) (Bisim (shape_of g))
    whole one f = subst (λ p. Agrees (shape_of g) p (Bisim (shape_of g))) (sym one.blocks) (by_found one _ _ f one.index_is)

weaker : (R Q : Meaning → Meaning → Type 0) → ((a b : Meaning) → R a b → Q a b) → (olds news : List Meaning) → Pairwise R olds news → Pairwise Q olds news
weaker R Q f [] [] h = tt
weaker R Q f [] (b ∷ bs) h = absurd h
weaker R Q f (a ∷ xs) [] h = absurd h
weaker R Q f (a ∷ xs) (b ∷ bs) h = (f a b h.0, weaker R Q f xs bs h.1)

-- the blocks of an index that is found, or of none
abbrev blocks_found : Option Meaning → List (Option ℕ)
blocks_found x = blocks_in (option_and_then (λ m. view_at m.views 0) x)

-- the 1-index that is found moved by one step
step_found : (c : List Step) (g : Graph) (x y : Option Meaning) (m : Meaning) → BothMeanings (λ a b. IsMoved a b c g) x y → x ≡ Some m → m.kind ≡ kind.One
    → OneStep g (blocks_found x) c (after c g) (blocks_found y)
step_found c g None None m neither e k = absurd (cc)
step_found c g None (Some b) m f e k = elim f [ ]
step_found c g (Some a) None m f e k = elim f [ ]
step_found c g (Some a) (Some b) m (both _ _ r) e k =
    let same : a ≡ m = cc in
    subst (λ z. IsViewStep z g (view_at a.views 0) c (view_at b.views 0)) (ap (λ n. n.kind) same ∙ k) r.next.step

-- so did the one that is kept
one_step : (c : List Step) (g : Graph) (olds news : List Meaning) → EachBecomes (IsUpdated c g) olds news → is_new c g ≡ true → has_kind (kinds_of olds) kind.One ≡ true
    → OneStep g (one_in olds) c (after c g) (one_in news)
one_step c g olds news updated s h =
    let m = some_found kind.One olds h in
    let of_kind = found_all (λ x. ⊤) kind.One olds (λ i d w. tt) m.0 m.1 in
    let moved = weaker (IsUpdated c g) (λ a b. IsMoved a b c g) (λ a b u. u.moved s) olds news (pairwise _ olds news updated) in
    step_found c g (index_of olds kind.One) (index_of news kind.One) m.0 (found (λ a b. IsMoved a b c g) kind.One (λ a b r. r.kind) olds news moved) m.1 (is_one m.0.kind of_kind.1)

-- steps that are accepted leave the graph that they make
all_after : (c : List Step) (g h : Graph) (limits : Limits) → apply_all c g limits ≡ Ok h → h ≡ after c g
all_after [] g h limits e = cc
all_after (x ∷ xs) g h limits e =
    let first = first_made (apply_step x g limits) (λ k. apply_all xs k limits) h e in
    all_after xs (made x g) h limits (subst (λ k. apply_all xs k limits ≡ Ok h) (stepped x g first.0 limits first.1) first.2)

pub accepted_after : (c : List Step) (g h : Graph) (limits : Limits) → apply c g limits ≡ Ok h → h ≡ after c g
accepted_after c g h limits e = all_after c g h limits (accepted_all c g h limits e).1

-- what an accepted change makes of the state
pub changed_state : (n : Names) (c : List Step) (o p : Opened) (h : Graph) (olds news : List Meaning) → apply c o.graph o.limits ≡ Ok h → p ≡ record o { graph = h }
    → EachBecomes (IsUpdated c o.graph) olds news → (is_new c o.graph ≡ false → state_in (record { boxes = news; opened = Some p }) n ≡ state_in (record { boxes = olds; opened = Some o }) n)
    → kinds_of news ≡ kinds_of olds → IsChanged (state_in (record { boxes = olds; opened = Some o }) n) c h (state_in (record { boxes = news; opened = Some p }) n)
changed_state n c o p h olds news outcome is updated still kinds = record {
  graph = ap (λ x. x.graph) is;
  names = refl;
  kinds = kinds;
  level = ap (λ x. x.k) is;
  same = still;
  step = λ s e. subst (λ x. OneStep o.graph (one_in olds) c x (one_in news)) (sym (accepted_after c o.graph h o.limits outcome)) (one_step c o.graph olds news updated s e);
  none = λ e.
      let empty : (boxes : List Meaning) → has_kind (kinds_of boxes) kind.One ≡ false → one_in boxes ≡ [] =
      λ boxes f. ap (λ x. blocks_in (option_and_then (λ b. view_at b.views 0) x)) (none_found kind.One boxes f) in
      empty news (ap (λ ks. has_kind ks kind.One) kinds ∙ e) ∙ sym (empty olds e);
}

kinds_without : (k : Kind) (boxes : List Meaning) → kinds_of (filter (λ m. not (is_kind k m.kind)) boxes) ≡ filter (λ other. not (is_kind k other)) (kinds_of boxes)
kinds_without k [] = refl
kinds_without k (m ∷ ms) =
    elim (is_kind k m.kind) as (λ t. kinds_of (cond (not t) (m ∷ filter (λ x. not (is_kind k x.kind)) ms) (filter (λ x. not (is_kind k x.kind)) ms)) ≡ cond (not t) (m.kind ∷ filter (λ other. not (is_kind k other)) (kinds_of ms)) (filter (λ other. not (is_kind k other)) (kinds_of ms))) [
      | true ↦ kinds_without k ms
      | false ↦ ap (λ ks. m.kind ∷ ks) (kinds_without k ms)
    ]

-- the boxes without those of a kind, if it is left out
pub left_out_kinds : (b : Bool) (k : Kind) (olds news : List Meaning) → b ≡ true → news ≡ filter (λ m. not (is_kind k m.kind)) olds → kinds_of news ≡ left_out b k (kinds_of olds)
left_out_kinds false k olds news e f = absurd (true≢false (sym e))
left_out_kinds true k olds news e f = ap kinds_of f ∙ kinds_without k olds

found_without : (k : Kind) (boxes : List Meaning) → index_of (filter (λ m. not (is_kind k m.kind)) boxes) kind.One ≡ (if is_kind k kind.One then None else index_of boxes kind.One)
found_without k [] = none_left (is_kind k kind.One)
  where
    nothing : Option Meaning
    nothing = None

    none_left : (t : Bool) → nothing ≡ (if t then nothing else nothing)
    none_left true = refl
    none_left false = refl
found_without k (m ∷ ms) = by (found_without k ms) (is_kind k m.kind) (is_kind kind.One m.kind) refl refl
  where
    by : index_of (filter (λ x. not (is_kind k x.kind)) ms) kind.One ≡ (if is_kind k kind.One then None else index_of ms kind.One) → (t u : Bool) → is_kind k m.kind ≡ t → is_kind kind.One m.kind ≡ u
        → index_of (cond (not t) (m ∷ filter (λ x. not (is_kind k x.kind)) ms) (filter (λ x. not (is_kind k x.kind)) ms)) kind.One ≡ (if is_kind k kind.One then None else cond u (Some m) (index_of ms kind.One))
    by rest true true e f = (let z : is_kind k kind.One ≡ true = ap (is_kind k) (sym (is_one m.kind f)) ∙ e in
        rest ∙ ap (λ b. if b then None else index_of ms kind.One) z ∙ ap (λ b. if b then None else Some m) (sym z))
    by rest true false e f = rest
    by rest false true e f = (let z : is_kind k kind.One ≡ false = ap (is_kind k) (sym (is_one m.kind f)) ∙ e in
        ap (λ b. cond b (Some m) (index_of (filter (λ x. not (is_kind k x.kind)) ms) kind.One)) f ∙ ap (λ b. if b then None else Some m) (sym z))
    by rest false false e f = ap (λ b. cond b (Some m) (index_of (filter (λ x. not (is_kind k x.kind)) ms) kind.One)) f ∙ rest

-- the state without an index of that kind
pub forgotten_state : (n : Names) (k : Kind) (e f : EngineSeen) → f.opened ≡ e.opened → f.boxes ≡ filter (λ m. not (is_kind k m.kind)) e.boxes → state_in f n ≡ forgotten k (state_in e n)
forgotten_state n k e f opened boxes i = record {
  graph = graph_in (opened i);
  kept = record {
    kinds = (ap kinds_of boxes ∙ kinds_without k e.boxes) i;
    k = level_in (opened i);
    one = (ap one_in boxes ∙ ap (λ x. blocks_in (option_and_then (λ b. view_at b.views 0) x)) (found_without k e.boxes) ∙ split (is_kind k kind.One)) i;
  };
  names = n;
}
  where
    split : (t : Bool) → blocks_in (option_and_then (λ b. view_at b.views 0) (if t then None else index_of e.boxes kind.One)) ≡ (if t then [] else one_in e.boxes)
    split true = refl
    split false = refl
