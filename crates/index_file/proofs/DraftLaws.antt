-- What the steps of a draft make of a line.
use Rattle.std.proofs.Common.{◌≡◌, ◌≢◌, ℕ, suc, ◌+◌, ◌-◌, ◌<◌, ◌≤◌, List, [], ◌∷◌, ◌++◌, length, Option, Some, None, IsFalse, Bool, true, false, true≢false, ◌&&◌, refl, sym, ◌∙◌, ap, subst, arith, inl, inr, length-append}
use Rattle.std.specs.Prelude.{codes, nat_lt, nat_le, nat_eq, ◌==◌, slice_get, slice_index_or, option_and_then, if◌then◌else◌}
use Rattle.std.proofs.lemmas.Bool.{cases_Bool, and_parts, leb-false, le-leb, lt-leb, lt-ltb, le-ltb, ne_eqb}
use Rattle.graph_spec.specs.declared.limits.Limits.{Limits}
use Rattle.path_query.specs.Labels.{SpellsLabel}
use Rattle.index_api.specs.declared.kinds.Via.{Via}
use Rattle.index_api.specs.declared.kinds.Via.TheVariants.{Data, A, One, Fb, B}
use Rattle.index_file.specs.declared.due.Due.{Due}
use Rattle.index_file.specs.declared.due.Due.TheVariants.{Title, Allocated, Nodes, EdgesLeft, Ranks}
use Rattle.index_file.specs.FoundNumbers.{saturated, IsFound, AreFound}
use Rattle.index_file.specs.NamedIndexes.{IsNamed, IsTooHigh}
use Rattle.index_file.specs.SavedFiles.{seen_of}
use Rattle.index_file.specs.Statements.{allocated, live, gone, edges, edge, views, view, rank, HasPrefix, AreNumbers, IsNumber, NamesIndex}
use Rattle.index_file.specs.Readings.{Reading, RankedView, last_of, is_live_in, live_in, is_behind, follows, last_via, with_rank, can_take_edge, can_take_view, take_allocated, take_edge, take_view}
use Rattle.index_file.specs.ReadLabels.{IsOneTooMany, is_too_many}
use Rattle.index_file.specs.ReadEdges.{AreReadEdges}
use Rattle.index_file.specs.ReadViews.{last_ranks, HaveRanks, most_views}
use Rattle.index_file.specs.Drafts.{IsDraft, FitDue, nodes_left, ranks_left, edges_left}
use Rattle.index_file.specs.Reads.{IsTaken, ExceedsAt, IsWrong}
use Rattle.index_file.proofs.DecimalLaws.{past, number_same, number_above}
use Rattle.index_file.proofs.WordLaws.{behind_one}
use Rattle.index_file.proofs.ReadNodeLaws.{live_below, not_live, live_few}
use Rattle.index_file.proofs.ReadEdgeLaws.{edge_pushed, node_pushed}
use Rattle.index_file.proofs.ReadViewLaws.{rank_saturated, rank_longer, last_begun}
use Rattle.index_file.proofs.ReadRankLaws.{ranks_begun, rank_came, rank_keeps, last_begins, most_rises}
use Rattle.index_file.proofs.StepLaws.{taken_at, over_at, wrong_given, wrong_node, wrong_edge, wrong_view, wrong_rank}

pub last_read : {X : Type 0} (xs : List X) → slice_get xs (length xs - 1) ≡ last_of xs
last_read [] = refl
last_read (x ∷ []) = refl
last_read (x ∷ y ∷ ys) =
    let e : length (x ∷ y ∷ ys) - 1 ≡ suc (length (y ∷ ys) - 1) = omega arith in
    ap (slice_get (x ∷ y ∷ ys)) e ∙ last_read (y ∷ ys)

-- the line of the numbers that were allocated
module _ (limits : Limits) (line : List ℕ) (old : Reading) (due : old.due ≡ Allocated) (p : ℕ × ℕ)
    (f : AreFound (λ n k. HasPrefix (codes "given ") line (λ rest. AreNumbers (codes " k ") rest n k)) p) where
  pub given_taken : (new : Reading) → p.0 ≤ limits.nodes → p.0 ≤ 4294967295 → p.1 ≤ 8 → new ≡ record old { due = Nodes p.0; k = p.1 } → IsTaken limits line old new
  given_taken new within few low e =
      let n : f.first ≡ p.0 = number_same p.0 f.first f.are.0 (omega (arith, few)) in
      let k : f.second ≡ p.1 = number_same p.1 f.second f.are.1 (omega (arith, low)) in
      taken_at limits line old new Allocated (allocated f.first f.second) due f.hold
      (ap (nat_lt limits.nodes) n ∙ le-ltb limits.nodes p.0 within)
      (ap (λ m. take_allocated m f.second old) n ∙ ap (λ m. take_allocated p.0 m old) k ∙ ap (λ b. if b then Some (record old { due = Nodes p.0; k = p.1 }) else None) (le-leb p.1 8 low) ∙ ap Some (sym e))

  pub given_over : limits.nodes < p.0 → ExceedsAt limits line old
  given_over many = over_at limits line old Allocated (allocated f.first f.second) due f.hold (lt-ltb limits.nodes f.first (number_above p.0 f.first limits.nodes f.are.0 many))

  pub given_wrong : p.0 ≤ limits.nodes → p.0 < 1000000000000000000 → 8 < p.1 → IsWrong limits line old
  given_wrong within few high = wrong_given limits line old due (λ n k h. at n k (f.only n k h))
    where
      at : (n k : ℕ) → (n ≡ f.first) × (k ≡ f.second) → IsFalse (nat_lt limits.nodes n) × (take_allocated n k old ≡ None)
      at n k (first, second) =
          let same : n ≡ p.0 = first ∙ number_same p.0 f.first f.are.0 few in
          let above : 8 < k = (let a = number_above p.1 f.second 8 f.are.1 high in omega (arith, a, second)) in
          (ap (nat_lt limits.nodes) same ∙ le-ltb limits.nodes p.0 within, ap (λ b. if b then Some (record old { due = Nodes n; k = k }) else None) (lt-leb k 8 above))

-- the line of the number of edges
module _ (limits : Limits) (line : List ℕ) (old : Reading) (due : old.due ≡ Nodes 0) (count : ℕ)
    (f : IsFound (λ m. HasPrefix (codes "edges ") line (λ digits. IsNumber digits m)) count) where
  pub edge_count_taken : (new : Reading) → count ≤ limits.edges → count ≤ 4294967295 → new ≡ record old { due = EdgesLeft count } → IsTaken limits line old new
  edge_count_taken new within few e =
      let n : f.number ≡ count = number_same count f.number f.is (omega (arith, few)) in
      taken_at limits line old new (Nodes 0) (edges f.number) due f.holds
      (ap (nat_lt limits.edges) n ∙ le-ltb limits.edges count within)
      (ap (λ m. Some (record old { due = EdgesLeft m })) n ∙ ap Some (sym e))

  pub edge_count_over : limits.edges < count → ExceedsAt limits line old
  edge_count_over many = over_at limits line old (Nodes 0) (edges f.number) due f.holds (lt-ltb limits.edges f.number (number_above count f.number limits.edges f.is many))

-- the line of the number of views
pub view_count_taken : (limits : Limits) (line : List ℕ) (old new : Reading) (count : ℕ) → old.due ≡ EdgesLeft 0
    → IsFound (λ m. HasPrefix (codes "views ") line (λ digits. IsNumber digits m)) count → new ≡ record old { due = Ranks 0 count } → IsTaken limits line old new
view_count_taken limits line old new count due f e =
    taken_at limits line old new (EdgesLeft 0) (views f.number) due f.holds refl (ap (λ m. Some (record old { due = Ranks 0 m })) (sym f.is) ∙ ap Some (sym e))

-- the line of a label
pub live_taken : (limits : Limits) (word : List ℕ) (old new : Reading) (left : ℕ) (t : List ℕ) → old.due ≡ Nodes (suc left) → SpellsLabel word t
    → is_too_many limits.labels (seen_of old.allocated) t ≡ false → new ≡ record old { due = Nodes left; allocated = old.allocated ++ Some t ∷ [] }
    → IsTaken limits (codes "live " ++ word) old new
live_taken limits word old new left t due spells within e =
    taken_at limits (codes "live " ++ word) old new (Nodes (suc left)) (live t) due (word, refl, spells) within (ap Some (sym e))

pub live_over : (limits : Limits) (word : List ℕ) (old : Reading) (left : ℕ) → old.due ≡ Nodes (suc left)
    → IsOneTooMany word limits.labels (seen_of old.allocated) → ExceedsAt limits (codes "live " ++ word) old
live_over limits word old left due o = over_at limits (codes "live " ++ word) old (Nodes (suc left)) (live o.label) due (word, refl, o.spelled) o.over

pub live_wrong : (limits : Limits) (word : List ℕ) (old : Reading) (left : ℕ) → old.due ≡ Nodes (suc left)
    → ((t : List ℕ) → SpellsLabel word t → ⊥) → IsWrong limits (codes "live " ++ word) old
live_wrong limits word old left due none = wrong_node limits (codes "live " ++ word) old left due by first
  where
    by : (t : List ℕ) → HasPrefix (codes "live ") (codes "live " ++ word) (λ w. SpellsLabel w t) → ⊥
    by t (rest, e, s) = none t (subst (λ w. SpellsLabel w t) (behind_one (codes "live ") rest word (sym e)) s)

    -- the first letter (108) is another
    first : codes "live " ++ word ≢ codes "gone"
    first e = true≢false (ap (λ text. slice_index_or text 0 0 == 108) e)

-- a line that isn't that of a label
pub gone_taken : (limits : Limits) (line : List ℕ) (old new : Reading) (left : ℕ) → old.due ≡ Nodes (suc left) → line ≡ codes "gone"
    → new ≡ record old { due = Nodes left; allocated = old.allocated ++ None ∷ [] } → IsTaken limits line old new
gone_taken limits line old new left due says e = taken_at limits line old new (Nodes (suc left)) gone due says refl (ap Some (sym e))

pub gone_wrong : (limits : Limits) (line : List ℕ) (old : Reading) (left : ℕ) → old.due ≡ Nodes (suc left) → ((word : List ℕ) → line ≢ codes "live " ++ word)
    → line ≢ codes "gone" → IsWrong limits line old
gone_wrong limits line old left due dead bad = wrong_node limits line old left due by bad
  where
    by : (t : List ℕ) → HasPrefix (codes "live ") line (λ w. SpellsLabel w t) → ⊥
    by t (word, e, s) = dead word e

-- whether an edge may come next can be told by its numbers as they are read
both_off : (x y : Bool) → (x && (false && y)) ≡ false
both_off true y = refl
both_off false y = refl

-- the edge as it is told by its parts
pub edge_told : (r : Reading) (pairs : List (ℕ × ℕ)) (u v from onto : ℕ) (b : Bool) → pairs ≡ r.pairs → u ≡ from → v ≡ onto → is_live_in r.allocated from ≡ true
    → is_live_in r.allocated onto ≡ true → b ≡ is_behind (last_of pairs) u v → b ≡ can_take_edge r from onto
edge_told r pairs u v from onto b p e f first second told =
    told ∙ ap (λ ps. is_behind (last_of ps) u v) p ∙ ap (λ n. is_behind (last_of r.pairs) n v) e ∙ ap (is_behind (last_of r.pairs) from) f
    ∙ sym (ap (λ l. l && (is_live_in r.allocated onto && is_behind (last_of r.pairs) from onto)) first ∙ ap (λ l. l && is_behind (last_of r.pairs) from onto) second)

pub no_start : (r : Reading) (from onto : ℕ) → is_live_in r.allocated from ≡ false → can_take_edge r from onto ≡ false
no_start r from onto off = ap (λ l. l && (is_live_in r.allocated onto && is_behind (last_of r.pairs) from onto)) off

pub no_end : (r : Reading) (from onto : ℕ) → is_live_in r.allocated onto ≡ false → can_take_edge r from onto ≡ false
no_end r from onto off =
    ap (λ l. is_live_in r.allocated from && (l && is_behind (last_of r.pairs) from onto)) off ∙ both_off (is_live_in r.allocated from) (is_behind (last_of r.pairs) from onto)

module _ (r : Reading) (few : length r.allocated ≤ 4294967295) where
  far : (n : ℕ) → 1000000000000000000 ≤ n → is_live_in r.allocated n ≡ false
  far n h = not_live r.allocated n (omega (arith, few, h))

  from_far : (a b : ℕ) → 1000000000000000000 ≤ a → can_take_edge r a b ≡ false
  from_far a b h = no_start r a b (far a h)

  onto_far : (a b : ℕ) → 1000000000000000000 ≤ b → can_take_edge r a b ≡ false
  onto_far a b h = no_end r a b (far b h)

  onto_read : (a v b : ℕ) → b ≡ saturated v → can_take_edge r a b ≡ can_take_edge r a v
  onto_read a v b e = elim (cases_Bool (nat_le v 1000000000000000000)) [
    | inl on ↦ ap (can_take_edge r a) (let z : saturated v ≡ v = (rw on refl) in e ∙ z)
    | inr off ↦
        (let above = leb-false v 1000000000000000000 off in
        let full = past v above in
        onto_far a b (omega (arith, e, full)) ∙ sym (onto_far a v (omega (arith, above))))
  ]

  from_read : (u v a : ℕ) → a ≡ saturated u → can_take_edge r a v ≡ can_take_edge r u v
  from_read u v a e = elim (cases_Bool (nat_le u 1000000000000000000)) [
    | inl on ↦ ap (λ n. can_take_edge r n v) (let z : saturated u ≡ u = (rw on refl) in e ∙ z)
    | inr off ↦
        (let above = leb-false u 1000000000000000000 off in
        let full = past u above in
        from_far a v (omega (arith, e, full)) ∙ sym (from_far u v (omega (arith, above))))
  ]

  pub edge_read : (u v a b : ℕ) → a ≡ saturated u → b ≡ saturated v → can_take_edge r a b ≡ can_take_edge r u v
  edge_read u v a b e f = onto_read a v b f ∙ from_read u v a e

-- the line of an edge
module _ (limits : Limits) (line : List ℕ) (old : Reading) (left : ℕ) (due : old.due ≡ EdgesLeft (suc left)) (few : length old.allocated ≤ 4294967295) (p : ℕ × ℕ)
    (f : AreFound (AreNumbers (codes " ") line) p) where
  same : can_take_edge old p.0 p.1 ≡ can_take_edge old f.first f.second
  same = edge_read old few f.first f.second p.0 p.1 f.are.0 f.are.1

  pub edge_taken : (new : Reading) → can_take_edge old p.0 p.1 ≡ true → new ≡ record old { due = EdgesLeft left; pairs = old.pairs ++ (p.0, p.1) ∷ [] } → IsTaken limits line old new
  edge_taken new on e =
      let ends = and_parts (is_live_in old.allocated p.0) (is_live_in old.allocated p.1 && is_behind (last_of old.pairs) p.0 p.1) on in
      let onto = and_parts (is_live_in old.allocated p.1) (is_behind (last_of old.pairs) p.0 p.1) ends.1 in
      let a = live_below old.allocated p.0 ends.0 in
      let b = live_below old.allocated p.1 onto.0 in
      let u : f.first ≡ p.0 = number_same p.0 f.first f.are.0 (omega (arith, a, few)) in
      let v : f.second ≡ p.1 = number_same p.1 f.second f.are.1 (omega (arith, b, few)) in
      taken_at limits line old new (EdgesLeft (suc left)) (edge f.first f.second) due f.hold refl
      (ap (λ n. take_edge left n f.second old) u ∙ ap (λ n. take_edge left p.0 n old) v ∙ ap (λ b. if b then Some (record old { due = EdgesLeft left; pairs = old.pairs ++ (p.0, p.1) ∷ [] }) else None) on ∙ ap Some (sym e))

  pub edge_wrong : can_take_edge old p.0 p.1 ≡ false → IsWrong limits line old
  edge_wrong off = wrong_edge limits line old left due (λ u v h. at u v (f.only u v h))
    where
      at : (u v : ℕ) → (u ≡ f.first) × (v ≡ f.second) → take_edge left u v old ≡ None
      at u v (first, second) =
          let none : can_take_edge old u v ≡ false = ap (λ n. can_take_edge old n v) first ∙ ap (can_take_edge old f.first) second ∙ sym same ∙ off in
          ap (λ b. if b then Some (record old { due = EdgesLeft left; pairs = old.pairs ++ (u, v) ∷ [] }) else None) none

-- the line of a view
high_apart : (k level : ℕ) → k ≤ 8 → 8 < level → nat_le level k ≡ false
high_apart k level low high = lt-leb level k (omega (arith, low, high))

and_off : (x : Bool) → (x && false) ≡ false
and_off true = refl
and_off false = refl

pub too_high : (k : ℕ) (last : Option Via) (via : Via) → k ≤ 8 → IsTooHigh via → follows k last via ≡ false
too_high k last Data low h = absurd h
too_high k None (A level) low h = ne_eqb level 0 (λ e. omega (arith, e, h))
too_high k (Some Data) (A level) low h = refl
too_high k (Some (A below)) (A level) low h = ap (λ b. nat_eq level (below + 1) && b) (high_apart k level low h) ∙ and_off (nat_eq level (below + 1))
too_high k (Some One) (A level) low h = refl
too_high k (Some Fb) (A level) low h = refl
too_high k (Some (B below)) (A level) low h = refl
too_high k last One low h = absurd h
too_high k last Fb low h = absurd h
too_high k None (B level) low h = ne_eqb level 0 (λ e. omega (arith, e, h))
too_high k (Some Data) (B level) low h = refl
too_high k (Some (A below)) (B level) low h = ap (λ b. nat_eq below k && b) (ne_eqb level 0 (λ e. omega (arith, e, h))) ∙ and_off (nat_eq below k)
too_high k (Some One) (B level) low h = ne_eqb level 0 (λ e. omega (arith, e, h))
too_high k (Some Fb) (B level) low h = ne_eqb level 0 (λ e. omega (arith, e, h))
too_high k (Some (B below)) (B level) low h = ap (λ b. nat_eq level (below + 1) && b) (high_apart k level low h) ∙ and_off (nat_eq level (below + 1))

not_taken : (r : Reading) (count : ℕ) (via : Via) → can_take_view r count via ≡ false → take_view count via r ≡ None
not_taken r count via off =
    ap (λ b. if b then Some (record r { due = Ranks (live_in r.allocated) count; views = r.views ++ record { via = via; ranks = [] } ∷ [] }) else None) off

module _ (limits : Limits) (line : List ℕ) (old : Reading) (count : ℕ) (due : old.due ≡ Ranks 0 count) where
  pub view_taken : (new : Reading) (via : Via) → IsNamed (λ v. HasPrefix (codes "view ") line (λ word. NamesIndex word v)) via → can_take_view old count via ≡ true
      → new ≡ record old { due = Ranks (live_in old.allocated) count; views = old.views ++ record { via = via; ranks = [] } ∷ [] } → IsTaken limits line old new
  view_taken new via f on e =
      taken_at limits line old new (Ranks 0 count) (view via) due f.holds refl
      (ap (λ b. if b then Some (record old { due = Ranks (live_in old.allocated) count; views = old.views ++ record { via = via; ranks = [] } ∷ [] }) else None) on
      ∙ ap Some (sym e))

  pub view_refused : (via : Via) → IsNamed (λ v. HasPrefix (codes "view ") line (λ word. NamesIndex word v)) via → can_take_view old count via ≡ false → IsWrong limits line old
  view_refused via f off = wrong_view limits line old count due (λ v h. not_taken old count v (ap (can_take_view old count) (f.only v h) ∙ off))

  pub view_wrong : old.k ≤ 8 → ((via : Via) → HasPrefix (codes "view ") line (λ word. NamesIndex word via) → IsTooHigh via) → IsWrong limits line old
  view_wrong low none =
      wrong_view limits line old count due (λ v h. not_taken old count v
      (ap (λ b. nat_lt (length old.views) count && b) (too_high old.k (last_via old.views) v low (none v h)) ∙ and_off (nat_lt (length old.views) count)))

-- the line of a rank
module _ (limits : Limits) (line : List ℕ) (old : Reading) (left count : ℕ) (due : old.due ≡ Ranks (suc left) count) (few : length (last_ranks old.views) ≤ 4294967295) (r : ℕ)
    (f : IsFound (IsNumber line) r) where
  read_rank : with_rank old.views r ≡ with_rank old.views f.number
  read_rank = rank_saturated old.views r f.number few f.is

  pub rank_taken_at : (new : Reading) (vs : List RankedView) → with_rank old.views r ≡ Some vs → new ≡ record old { due = Ranks left count; views = vs } → IsTaken limits line old new
  rank_taken_at new vs h e =
      taken_at limits line old new (Ranks (suc left) count) (rank f.number) due f.holds refl
      (ap (option_and_then (λ ws. Some (record old { due = Ranks left count; views = ws }))) (sym read_rank ∙ h) ∙ ap Some (sym e))

  pub rank_wrong : with_rank old.views r ≡ None → IsWrong limits line old
  rank_wrong none = wrong_rank limits line old left count due (λ x h.
      ap (option_and_then (λ ws. Some (record old { due = Ranks left count; views = ws }))) (ap (with_rank old.views) (f.only x h) ∙ sym read_rank ∙ none))

-- a draft stays one
module _ (old : Reading) (d : IsDraft old) where
  nodes_few : length old.allocated + nodes_left old.due ≤ 4294967295
  nodes_few = d.few_nodes

  ranks_few : length (last_ranks old.views) + ranks_left old.due ≤ 4294967295
  ranks_few = d.few_ranks

  edges_few : length old.pairs + edges_left old.due ≤ 4294967295
  edges_few = d.few_edges

  nodes_stay : length old.allocated + 0 ≤ 4294967295
  nodes_stay = omega (arith, nodes_few)

  ranks_stay : length (last_ranks old.views) + 0 ≤ 4294967295
  ranks_stay = omega (arith, ranks_few)

  edges_stay : length old.pairs + 0 ≤ 4294967295
  edges_stay = omega (arith, edges_few)

  views_at : (due : Due) → old.due ≡ due → FitDue due (live_in old.allocated) old.views
  views_at due e = subst (λ x. FitDue x (live_in old.allocated) old.views) e d.views

  pub draft_title : old.due ≡ Title → IsDraft (record old { due = Allocated })
  draft_title due =
      let nodes : nodes_left old.due ≡ 4294967295 = ap nodes_left due in
      let edges : edges_left old.due ≡ 4294967295 = ap edges_left due in
      record {
        level = d.level;
        few_nodes = omega (arith, nodes_few, nodes);
        few_ranks = ranks_stay;
        few_edges = omega (arith, edges_few, edges);
        few_views = d.few_views;
        edges = d.edges;
        views = views_at Title due;
      }

  pub draft_given : (n k : ℕ) → old.due ≡ Allocated → n ≤ 4294967295 → k ≤ 8 → IsDraft (record old { due = Nodes n; k = k })
  draft_given n k due few low =
      let nodes : nodes_left old.due ≡ 4294967295 = ap nodes_left due in
      let edges : edges_left old.due ≡ 4294967295 = ap edges_left due in
      record {
        level = low;
        few_nodes = omega (arith, nodes_few, nodes, few);
        few_ranks = ranks_stay;
        few_edges = omega (arith, edges_few, edges);
        few_views = d.few_views;
        edges = d.edges;
        views = views_at Allocated due;
      }

  pub draft_node : (left : ℕ) (nodes : List (Option (List ℕ))) (o : Option (List ℕ)) → old.due ≡ Nodes (suc left) → nodes ≡ old.allocated ++ o ∷ []
      → IsDraft (record old { due = Nodes left; allocated = nodes })
  draft_node left nodes o due e =
      let before : nodes_left old.due ≡ suc left = ap nodes_left due in
      let more = ap length e in
      let one = length-append old.allocated (o ∷ []) in
      let edges : edges_left old.due ≡ 4294967295 = ap edges_left due in
      record {
        level = d.level;
        few_nodes = omega (arith, nodes_few, before, more, one);
        few_ranks = ranks_stay;
        few_edges = omega (arith, edges_few, edges);
        few_views = d.few_views;
        edges = node_pushed old.allocated nodes o old.pairs d.edges e;
        views = views_at (Nodes (suc left)) due;
      }

  pub draft_edge_count : (m : ℕ) → old.due ≡ Nodes 0 → m ≤ 4294967295 → IsDraft (record old { due = EdgesLeft m })
  draft_edge_count m due few =
      let edges : edges_left old.due ≡ 4294967295 = ap edges_left due in
      record {
        level = d.level;
        few_nodes = nodes_stay;
        few_ranks = ranks_stay;
        few_edges = omega (arith, edges_few, edges, few);
        few_views = d.few_views;
        edges = d.edges;
        views = views_at (Nodes 0) due;
      }

  pub draft_edge : (left u v : ℕ) (pairs : List (ℕ × ℕ)) → old.due ≡ EdgesLeft (suc left) → can_take_edge old u v ≡ true → pairs ≡ old.pairs ++ (u, v) ∷ []
      → IsDraft (record old { due = EdgesLeft left; pairs = pairs })
  draft_edge left u v pairs due can e =
      let before : edges_left old.due ≡ suc left = ap edges_left due in
      let more = ap length e in
      let one = length-append old.pairs ((u, v) ∷ []) in
      record {
        level = d.level;
        few_nodes = nodes_stay;
        few_ranks = ranks_stay;
        few_edges = omega (arith, edges_few, before, more, one);
        few_views = d.few_views;
        edges = subst (AreReadEdges old.allocated) (sym e) (edge_pushed old u v d.edges can);
        views = views_at (EdgesLeft (suc left)) due;
      }

  pub draft_views : (n : ℕ) → old.due ≡ EdgesLeft 0 → IsDraft (record old { due = Ranks 0 n })
  draft_views n due = record {
    level = d.level;
    few_nodes = nodes_stay;
    few_ranks = ranks_stay;
    few_edges = edges_stay;
    few_views = d.few_views;
    edges = d.edges;
    views = subst (λ vs. HaveRanks (live_in old.allocated) vs 0) (sym (views_at (EdgesLeft 0) due)) tt;
  }

  pub draft_view : (count n : ℕ) (via : Via) (vs : List RankedView) → old.due ≡ Ranks 0 n → can_take_view old n via ≡ true → count ≡ live_in old.allocated
      → vs ≡ old.views ++ record { via = via; ranks = [] } ∷ [] → IsDraft (record old { due = Ranks count n; views = vs })
  draft_view count n via vs due can l e =
      let none : length (last_ranks vs) ≡ 0 = ap (λ ws. length (last_ranks ws)) e ∙ ap length (last_begun old.views (record { via = via; ranks = [] })) in
      let few = live_few old.allocated in
      let more : length vs ≡ length old.views + 1 = ap length e ∙ length-append old.views (record { via = via; ranks = [] } ∷ []) in
      let was = d.few_views in
      let most = most_rises old.k (last_via old.views) via d.level (and_parts (nat_lt (length old.views) n) (follows old.k (last_via old.views) via) can).1 in
      let last : most_views (last_via vs) ≡ most_views (Some via) = ap most_views (ap last_via e ∙ last_begins old.views (record { via = via; ranks = [] })) in
      record {
        level = d.level;
        few_nodes = nodes_stay;
        few_ranks = omega (arith, nodes_stay, none, few, l);
        few_edges = edges_stay;
        few_views = omega (arith, more, was, most, last);
        edges = d.edges;
        views = subst (λ m. HaveRanks (live_in old.allocated) vs m) (sym l)
            (subst (λ ws. HaveRanks (live_in old.allocated) ws (live_in old.allocated)) (sym e) (ranks_begun (live_in old.allocated) old.views via (views_at (Ranks 0 n) due)));
      }

  pub draft_rank : (left n r : ℕ) (vs : List RankedView) → old.due ≡ Ranks (suc left) n → with_rank old.views r ≡ Some vs → IsDraft (record old { due = Ranks left n; views = vs })
  draft_rank left n r vs due e =
      let before : ranks_left old.due ≡ suc left = ap ranks_left due in
      let more = rank_longer old.views r vs e in
      let same = rank_keeps old.views r vs e in
      let count = same.count in
      let last = ap most_views same.last in
      let was = d.few_views in
      record {
        level = d.level;
        few_nodes = nodes_stay;
        few_ranks = omega (arith, ranks_few, before, more);
        few_edges = edges_stay;
        few_views = omega (arith, count, last, was);
        edges = d.edges;
        views = rank_came (live_in old.allocated) left r old.views vs (views_at (Ranks (suc left) n) due) e;
      }

  pub same_nodes : (nodes : List (Option (List ℕ))) → nodes ≡ old.allocated → IsDraft (record old { allocated = nodes })
  same_nodes nodes e = subst (λ xs. IsDraft (record old { allocated = xs })) (sym e) d

  pub same_pairs : (pairs : List (ℕ × ℕ)) → pairs ≡ old.pairs → IsDraft (record old { pairs = pairs })
  same_pairs pairs e = subst (λ xs. IsDraft (record old { pairs = xs })) (sym e) d

  pub same_views : (vs : List RankedView) → vs ≡ old.views → IsDraft (record old { views = vs })
  same_views vs e = subst (λ xs. IsDraft (record old { views = xs })) (sym e) d

pub few_last : (d r : Reading) → d ≡ r → IsDraft d → length (last_ranks r.views) ≤ 4294967295
few_last d r e i = (let ranks = i.few_ranks in let same = ap (λ (x : Reading). length (last_ranks x.views)) e in omega (arith, ranks, same))

pub few_live : (d r : Reading) → d ≡ r → IsDraft d → length r.allocated ≤ 4294967295
few_live d r e i = (let nodes = i.few_nodes in let same = ap (λ (x : Reading). length x.allocated) e in omega (arith, nodes, same))
