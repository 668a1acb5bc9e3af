-- The levels that are built.
use Rattle.std.proofs.Common.{◌≡◌, ℕ, suc, ◌+◌, ◌<◌, ◌≤◌, List, [], ◌∷◌, ◌++◌, length, Option, Some, is_some, slice_get, refl, sym, ◌∙◌, ap, subst, inl, inr, Bool, arith}
use Rattle.std.proofs.lemmas.Bool.{cases_lt}
use Rattle.std.proofs.lemmas.List.{get_or_push, get_or_append_left, length-append}
use Rattle.graph_spec.specs.Graphs.{Graph, IsGraph}
use Rattle.graph_spec.specs.Shapes.{Shape, shape_of}
use Rattle.label_graph.specs.GraphViews.{label_number}
use Rattle.bisim_spec.specs.Bisimilarity.{SameLabel}
use Rattle.graph_spec.specs.Members.{at}
use Rattle.bisim_spec.specs.Partitions.{Agrees}
use Rattle.bisim_spec.specs.IndexGraphs.{ViewFits}
use Rattle.bisim_spec.specs.NodeKeys.{IsKey}
use Rattle.bisim_levels.specs.Numbering.{AreNumbered, AreNumberedBy}
use Rattle.bisim_levels.specs.NeighbourSides.{no_neighbours}
use Rattle.bisim_spec.specs.declared.sides.Sides.{Sides}
use Rattle.bisim_spec.specs.SidedLevels.{AtLevel}
use Rattle.bisim_levels.specs.SidedKeys.{IsAround, IsKeyBy, IsSidedKey}
use Rattle.bisim_spec.proofs.LevelSides.{lowest_level}
use Rattle.quotient.specs.Quotients.{view_of}
use Rattle.keyed_quotient.specs.KeyedQuotients.{KeyedQuotient, no_level, key_at, AreKeyed}
use Rattle.ak_family.specs.Families.{level_at, blocks_at, AreLabelKeys, AreNeighbourKeys, HaveSupportedKeys, IsKeyedFamily}
use Rattle.ak_family.proofs.KeySupports.{supported_keys, labels_alone}
use Rattle.quotient_draft.proofs.Gone.{member_there}
use Rattle.block_partition.specs.FilledTables.{SameBlocks}
use Rattle.block_partition.proofs.Filled.{agrees_moved}
use Rattle.ak_family.specs.BlockLabels.{BlocksHaveListedLabels}

-- level i is the last one, and has the blocks of the list
pub record IsBuilt (sides : Sides) (g : Graph) (i : ℕ) (levels : List KeyedQuotient) (block : List (Option ℕ)) (labels : List ℕ) : Type 0 where
  pub count : length levels ≡ i + 1
  pub fits : (j : ℕ) → j ≤ i → ViewFits g (view_of (level_at levels j).quotient)
  pub agrees : (j : ℕ) → j ≤ i → Agrees (shape_of g) (blocks_at levels j) (AtLevel sides (shape_of g) j)
  pub label_keys : AreLabelKeys g levels
  pub neighbour_keys : (j : ℕ) → j < i → AreNeighbourKeys sides g levels j
  pub top : SameBlocks (blocks_at levels i) block
  pub labelled : BlocksHaveListedLabels g block labels
  pub keyed : (j : ℕ) → j ≤ i → AreKeyed (level_at levels j).quotient.blocks.labels (key_at (level_at levels j).keys)
  pub lowest : (n b : ℕ) → at (blocks_at levels 0) n ≡ Some b → at (level_at levels 0).quotient.blocks.labels b ≡ label_number g n

key_moved : (own own2 : ℕ → Option ℕ) (base base2 : List (Option ℕ)) (neighbour_of : ℕ → ℕ → Bool) (n : ℕ) (key : List ℕ) → ((m : ℕ) → own2 m ≡ own m) → SameBlocks base2 base
    → IsKey own base neighbour_of n key → IsKey own2 base2 neighbour_of n key
key_moved own own2 base base2 neighbour_of n key owns bases k = record {
  number = k.number;
  around = k.around;
  is = k.is;
  own_is = owns n ∙ k.own_is;
  rising = k.rising;
  each = λ b h. let p = k.each b h in (p.0, p.1, bases p.0 ∙ p.2);
  every = λ p b h e. k.every p b h (sym (bases p) ∙ e);
}

pub numbered_moved : (own own2 : ℕ → Option ℕ) (base base2 : List (Option ℕ)) (neighbour_of : ℕ → ℕ → Bool) (next next2 : List (Option ℕ)) (key key2 : ℕ → Option (List ℕ))
    → ((m : ℕ) → own2 m ≡ own m) → SameBlocks base2 base → SameBlocks next2 next → ((b : ℕ) → key2 b ≡ key b) → AreNumbered own base neighbour_of next key → AreNumbered own2 base2 neighbour_of next2 key2
numbered_moved own own2 base base2 neighbour_of next next2 key key2 owns bases nexts keys w = record {
  none = λ n e. nexts n ∙ w.none n (sym (owns n) ∙ e);
  some = λ n b e. let f = w.some n b (sym (owns n) ∙ e) in (f.0, f.1, nexts n ∙ f.2, keys f.0 ∙ f.3, key_moved own own2 base base2 neighbour_of n f.1 owns bases f.4);
  inhabited = λ k h. let m = w.inhabited k (sym (ap is_some (keys k)) ∙ h) in (m.0, nexts m.0 ∙ m.1);
}

-- the same with what lies around nodes
key_moved_by : (sides : Sides) (s : Shape) (base base2 : List (Option ℕ)) (n : ℕ) (key : List ℕ) → SameBlocks base2 base → IsKeyBy (at base) (IsAround sides s base) n key
    → IsKeyBy (at base2) (IsAround sides s base2) n key
key_moved_by sides s base base2 n key bases k = record {
  number = k.number;
  around = k.around;
  is = k.is;
  own_is = bases n ∙ k.own_is;
  rising = k.rising;
  each = λ c h. (let q = k.each c h in record { side = q.side; counted = q.counted; node = q.node; is_beside = q.is_beside; block = q.block; has_block = bases q.node ∙ q.has_block; is = q.is });
  every = λ c q. k.every c (record { side = q.side; counted = q.counted; node = q.node; is_beside = q.is_beside; block = q.block; has_block = sym (bases q.node) ∙ q.has_block; is = q.is });
}

numbered_moved_by : (sides : Sides) (s : Shape) (base base2 next next2 : List (Option ℕ)) (key key2 : ℕ → Option (List ℕ)) → SameBlocks base2 base → SameBlocks next2 next
    → ((b : ℕ) → key2 b ≡ key b) → AreNumberedBy (at base) (IsSidedKey sides s base) next key → AreNumberedBy (at base2) (IsSidedKey sides s base2) next2 key2
numbered_moved_by sides s base base2 next next2 key key2 bases nexts keys w = record {
  none = λ n e. nexts n ∙ w.none n (sym (bases n) ∙ e);
  some = λ n b e. let f = w.some n b (sym (bases n) ∙ e) in (f.0, f.1, nexts n ∙ f.2, keys f.0 ∙ f.3, key_moved_by sides s base base2 n f.1 bases f.4);
  inhabited = λ k h. let m = w.inhabited k (sym (ap is_some (keys k)) ∙ h) in (m.0, nexts m.0 ∙ m.1);
}

pub built_lowest : (sides : Sides) (g : Graph) (level : KeyedQuotient) (block : List (Option ℕ)) (labels : List ℕ) (keys : List (List ℕ)) (levels : List KeyedQuotient)
    → Agrees (shape_of g) block (SameLabel (shape_of g)) → BlocksHaveListedLabels g block labels → AreNumbered (label_number g) [] no_neighbours block (slice_get keys)
    → SameBlocks level.quotient.blocks.block_of block → ViewFits g (view_of level.quotient) → ((b : ℕ) → key_at level.keys b ≡ slice_get keys b)
    → ((n b : ℕ) → at level.quotient.blocks.block_of n ≡ Some b → at level.quotient.blocks.labels b ≡ label_number g n) → AreKeyed level.quotient.blocks.labels (key_at level.keys)
    → levels ≡ level ∷ [] → IsBuilt sides g 0 levels block labels
built_lowest sides g level block labels keys levels a is w same fits keys_same has_labels alike one =
    let first : (j : ℕ) → j ≤ 0 → j ≡ 0 = λ j h. omega (arith, h) in
    let here : (j : ℕ) → j ≤ 0 → level_at levels j ≡ level = λ j h. ap (level_at levels) (first j h) ∙ ap (λ ls. level_at ls 0) one in
    let keyed : AreNumbered (label_number g) [] no_neighbours level.quotient.blocks.block_of (key_at level.keys) =
    numbered_moved (label_number g) (label_number g) [] [] no_neighbours block level.quotient.blocks.block_of (slice_get keys) (key_at level.keys) (λ m. refl) (λ m. refl) same
    keys_same w in
    record {
      count = ap length one;
      fits = λ j h. subst (λ (l : KeyedQuotient). ViewFits g (view_of l.quotient)) (sym (here j h)) fits;
      agrees = λ j h.
          subst (λ (l : KeyedQuotient). Agrees (shape_of g) l.quotient.blocks.block_of (AtLevel sides (shape_of g) j)) (sym (here j h))
          (subst (λ n. Agrees (shape_of g) level.quotient.blocks.block_of (AtLevel sides (shape_of g) n)) (sym (first j h)) (lowest_level sides (shape_of g) level.quotient.blocks.block_of (agrees_moved (shape_of g) level.quotient.blocks.block_of block (SameLabel (shape_of g)) same a)));
      label_keys = subst (λ (l : KeyedQuotient). AreNumbered (label_number g) [] no_neighbours l.quotient.blocks.block_of (key_at l.keys)) (sym (here 0 (omega arith))) keyed;
      neighbour_keys = λ j h. absurd (omega (arith, h));
      top = subst (λ (l : KeyedQuotient). SameBlocks l.quotient.blocks.block_of block) (sym (here 0 (omega arith))) same;
      labelled = is;
      keyed = λ j h. subst (λ (l : KeyedQuotient). AreKeyed l.quotient.blocks.labels (key_at l.keys)) (sym (here j h)) alike;
      lowest = subst (λ (l : KeyedQuotient). (n b : ℕ) → at l.quotient.blocks.block_of n ≡ Some b → at l.quotient.blocks.labels b ≡ label_number g n) (sym (here 0 (omega arith))) has_labels;
    }

-- the last level is one of bisimilarity
pub built_top : (sides : Sides) (g : Graph) (i : ℕ) (levels : List KeyedQuotient) (block : List (Option ℕ)) (labels : List ℕ) → IsBuilt sides g i levels block labels
    → Agrees (shape_of g) block (AtLevel sides (shape_of g) i)
built_top sides g i levels block labels w = agrees_moved (shape_of g) block (blocks_at levels i) (AtLevel sides (shape_of g) i) (λ n. sym (w.top n)) (w.agrees i (omega arith))

pub built_above : (sides : Sides) (g : Graph) (i : ℕ) (levels more : List KeyedQuotient) (level : KeyedQuotient) (block next : List (Option ℕ)) (labels found : List ℕ) (keys : List (List ℕ))
    → IsBuilt sides g i levels block labels
    → ((j : ℕ) → Agrees (shape_of g) block (AtLevel sides (shape_of g) j) → Agrees (shape_of g) next (AtLevel sides (shape_of g) (suc j)))
    → BlocksHaveListedLabels g next found → AreNumberedBy (at block) (IsSidedKey sides (shape_of g) block) next (slice_get keys)
    → SameBlocks level.quotient.blocks.block_of next → ViewFits g (view_of level.quotient) → ((b : ℕ) → key_at level.keys b ≡ slice_get keys b)
    → AreKeyed level.quotient.blocks.labels (key_at level.keys) → more ≡ levels ++ level ∷ [] → IsBuilt sides g (i + 1) more next found
built_above sides g i levels more level block next labels found keys w up is numbered same fits keys_same alike added =
    let s = shape_of g in
    let count = w.count in
    let below : (j : ℕ) → j ≤ i → level_at more j ≡ level_at levels j =
    λ j h. ap (λ ls. level_at ls j) added ∙ get_or_append_left levels (level ∷ []) no_level j (omega (arith, h, count)) in
    let last : (j : ℕ) → j ≡ i + 1 → level_at more j ≡ level =
    λ j h. ap (λ ls. level_at ls j) added ∙ get_or_push levels level no_level j (omega (arith, h, count)) in
    let a_top : Agrees s next (AtLevel sides s (suc i)) = up i (built_top sides g i levels block labels w) in
    let a_next : Agrees s level.quotient.blocks.block_of (AtLevel sides s (suc i)) = agrees_moved s level.quotient.blocks.block_of next (AtLevel sides s (suc i)) same a_top in
    let keyed : AreNumberedBy (at (blocks_at levels i)) (IsSidedKey sides s (blocks_at levels i)) level.quotient.blocks.block_of (key_at level.keys) =
    numbered_moved_by sides s block (blocks_at levels i) next level.quotient.blocks.block_of (slice_get keys) (key_at level.keys) w.top same keys_same numbered in
    record {
      count = ap length added ∙ length-append levels (level ∷ []) ∙ ap (λ n. n + 1) count;
      fits = λ j h. elim (cases_lt i j) [
        | inl past ↦ subst (λ (l : KeyedQuotient). ViewFits g (view_of l.quotient)) (sym (last j (omega (arith, h, past)))) fits
        | inr before ↦ subst (λ (l : KeyedQuotient). ViewFits g (view_of l.quotient)) (sym (below j before)) (w.fits j before)
      ];
      agrees = λ j h. elim (cases_lt i j) [
        | inl past ↦
            (let here : suc i ≡ j = omega (arith, h, past) in
            subst (λ (l : KeyedQuotient). Agrees s l.quotient.blocks.block_of (AtLevel sides s j)) (sym (last j (omega (arith, h, past))))
            (subst (λ n. Agrees s level.quotient.blocks.block_of (AtLevel sides s n)) here a_next))
        | inr before ↦ subst (λ (l : KeyedQuotient). Agrees s l.quotient.blocks.block_of (AtLevel sides s j)) (sym (below j before)) (w.agrees j before)
      ];
      label_keys =
          subst (λ (l : KeyedQuotient). AreNumbered (label_number g) [] no_neighbours l.quotient.blocks.block_of (key_at l.keys)) (sym (below 0 (omega arith))) w.label_keys;
      neighbour_keys = λ j h. elim (cases_lt j i) [
        | inl before ↦
            subst (λ (l : KeyedQuotient). AreNumberedBy (at l.quotient.blocks.block_of) (IsSidedKey sides s l.quotient.blocks.block_of) (blocks_at more (j + 1)) (key_at (level_at more (j + 1)).keys))
            (sym (below j (omega (arith, before))))
            (subst (λ (l : KeyedQuotient). AreNumberedBy (at (blocks_at levels j)) (IsSidedKey sides s (blocks_at levels j)) l.quotient.blocks.block_of (key_at l.keys))
            (sym (below (j + 1) (omega (arith, before)))) (w.neighbour_keys j before))
        | inr past ↦
            (let here : i ≡ j = omega (arith, h, past) in
            subst (λ (l : KeyedQuotient). AreNumberedBy (at l.quotient.blocks.block_of) (IsSidedKey sides s l.quotient.blocks.block_of) (blocks_at more (j + 1)) (key_at (level_at more (j + 1)).keys))
            (sym (below j (omega (arith, past, h))))
            (subst (λ (l : KeyedQuotient). AreNumberedBy (at (blocks_at levels j)) (IsSidedKey sides s (blocks_at levels j)) l.quotient.blocks.block_of (key_at l.keys))
            (sym (last (j + 1) (omega (arith, here))))
            (subst (λ n. AreNumberedBy (at (blocks_at levels n)) (IsSidedKey sides s (blocks_at levels n)) level.quotient.blocks.block_of (key_at level.keys)) here keyed)))
      ];
      top = subst (λ (l : KeyedQuotient). SameBlocks l.quotient.blocks.block_of next) (sym (last (i + 1) refl)) same;
      labelled = is;
      keyed = λ j h. elim (cases_lt i j) [
        | inl past ↦ subst (λ (l : KeyedQuotient). AreKeyed l.quotient.blocks.labels (key_at l.keys)) (sym (last j (omega (arith, h, past)))) alike
        | inr before ↦ subst (λ (l : KeyedQuotient). AreKeyed l.quotient.blocks.labels (key_at l.keys)) (sym (below j before)) (w.keyed j before)
      ];
      lowest = subst (λ (l : KeyedQuotient). (n b : ℕ) → at l.quotient.blocks.block_of n ≡ Some b → at l.quotient.blocks.labels b ≡ label_number g n) (sym (below 0 (omega arith))) w.lowest;
    }

-- the levels are a family
pub built_family : (sides : Sides) (g : Graph) (i : ℕ) (levels : List KeyedQuotient) (block : List (Option ℕ)) (labels : List ℕ) → IsBuilt sides g i levels block labels → IsKeyedFamily levels
built_family sides g i levels block labels w =
    let count = w.count in
    let within : (j : ℕ) → j < length levels → j ≤ i = λ j h. omega (arith, h, count) in
    record {
      keyed = λ j h. w.keyed j (within j h);
      inhabited = λ j h b live. (let n = (w.fits j (within j h)).inhabited b live in member_there (blocks_at levels j) b n.0 n.1);
      lowest = record {
        is = λ b l e.
            let n = (w.fits 0 (omega arith)).inhabited b (ap is_some e) in
            labels_alone g (blocks_at levels 0) (key_at (level_at levels 0).keys) w.label_keys n.0 b l n.1 (sym (w.lowest n.0 b n.1) ∙ e);
      };
    }

-- and their keys are as the supports say
pub built_supported : (sides : Sides) (g : Graph) → IsGraph g → (i : ℕ) (levels : List KeyedQuotient) (block : List (Option ℕ)) (labels : List ℕ) → IsBuilt sides g i levels block labels
    → HaveSupportedKeys sides levels
built_supported sides g graph i levels block labels w =
    let count = w.count in
    record {
      above = λ j h.
          supported_keys sides g graph (blocks_at levels j) (blocks_at levels (j + 1)) (w.agrees j (omega (arith, h, count))).partition (key_at (level_at levels (j + 1)).keys)
          (level_at levels (j + 1)).quotient.supports (w.neighbour_keys j (omega (arith, h, count))) (w.fits (j + 1) (omega (arith, h, count))).supports;
    }
